-- Links, and what has come of a plan at a moment.
use Rattle.std.specs.Prelude.{◌≡◌, ℕ, ◌-◌, ◌<◌, ◌≤◌, Bool, ◌&&◌, ◌||◌, nat_lt}
use Rattle.std.specs.Prelude.{List, [], ◌++◌, map}
use Rattle.std.specs.Prelude.{length, Option, None, is_some, is_none}
use Rattle.hum_stage.specs.declared.faults.End.{End}
use Rattle.hum_turns.specs.Flow.{Flow}
use Rattle.hum_turns.specs.Plan.{Plan, last}

-- What has come of a stage, over the link that it gives to: how many bytes it has read, the
-- records taken from the link, those that wait on it, the end that the stage has set, and the end
-- that the link's reader has heard.
pub record Link (R : Type 0) : Type 0 where
  pub read : ℕ
  pub taken : List R
  pub waiting : List R
  pub mark : Option End
  pub heard : Option End

-- all records that the stage has given
abbrev pub given : {R : Type 0} → Link R → List R
given l = l.taken ++ l.waiting

-- how many records are on the link: those given less those taken
abbrev pub linked : {R : Type 0} → Link R → ℕ
linked l = length (given l) - length l.taken

-- what the reader of the link has had
abbrev pub view : {R : Type 0} → Link R → Flow R
view l = record { items = l.taken; end = l.heard }

-- room for a record more
abbrev pub has_room : {R : Type 0} → ℕ → Link R → Bool
has_room size l = nat_lt (length l.waiting) size

-- a record to be taken, or a mark that wasn't heard
abbrev pub has_some : {R : Type 0} → Link R → Bool
has_some l = is_none l.heard && (nat_lt 0 (length l.waiting) || is_some l.mark)

-- A moment of a run: the link of each stage.
abbrev pub Moment : Type 0 → Type 0
Moment R = ℕ → Link R

abbrev pub fresh : {R : Type 0} → Link R
fresh = record { read = 0; taken = []; waiting = []; mark = None; heard = None }

-- Nothing has moved yet.
abbrev pub IsOpening : {R : Type 0} → Moment R → Type 0
IsOpening m = (k : ℕ) → m k ≡ fresh

abbrev pub Same : {R : Type 0} → Moment R → Moment R → Type 0
Same old new = (k : ℕ) → new k ≡ old k

-- what stage k has had of its sources
abbrev pub inputs : {R : Type 0} → Plan R → Moment R → ℕ → List (Flow R)
inputs plan m k = map (λ s. view (m s)) (plan.stage k).sources

-- all that stage k can give so far
abbrev pub settled : {R : Type 0} → Plan R → Moment R → ℕ → List R
settled plan m k = (plan.stage k).output (m k).read (inputs plan m k)

-- The run is over once the sink has heard the end of the last stage.
abbrev pub is_over : {R : Type 0} → Plan R → Moment R → Bool
is_over plan m = is_some (m (last plan)).heard

-- The other plan has the same stages as far as bytes were read, so it is the same plan over inputs
-- that may go on in another way.
pub record Agrees {R : Type 0} (plan other : Plan R) (m : Moment R) : Type 0 where
  pub count : other.count ≡ plan.count
  pub sources : (k : ℕ) → k < plan.count → (other.stage k).sources ≡ (plan.stage k).sources
  pub read : (k : ℕ) → k < plan.count → (m k).read ≤ (other.stage k).bytes
  pub output : (k : ℕ) (a : List (Flow R)) → k < plan.count
      → (other.stage k).output (m k).read a ≡ (plan.stage k).output (m k).read a
  pub wants : (k : ℕ) (a : List (Flow R)) → k < plan.count
      → (other.stage k).wants (m k).read a ≡ (plan.stage k).wants (m k).read a
  pub own : (k : ℕ) (a : List (Flow R)) → k < plan.count
      → (other.stage k).own (m k).read a ≡ (plan.stage k).own (m k).read a
