-- What assemble gives and wants, whatever was put into its sources.
use Rattle.std.proofs.lemmas.Bool.Decides.{nat_tests}
use Rattle.std.proofs.Common.{◌≡◌, ◌∙◌, refl, ap, ℕ, zero, suc, ◌+◌, ◌≤◌, List, [], ◌∷◌, ◌++◌, length, map}
use Rattle.std.proofs.Common.{arith, Option, Some, None, append_assoc, append-nil, true}
use Rattle.std.specs.Prelude.{is_none}
use Rattle.std.specs.List.{AllByRecursion, position_from}
use Rattle.hum_score.specs.Row.{Row}
use Rattle.hum_stage.specs.declared.faults.End.{End}
use Rattle.hum_assemble.specs.declared.places.Next as next
use Rattle.hum_assemble.specs.declared.places.Next.TheVariants.{Gives}
use Rattle.hum_assemble.specs.Change.{Input, Change, More, Ends, had, had_at, IsOpenInput}
use Rattle.hum_assemble.specs.Round.{any_due}
use Rattle.hum_assemble.specs.Merge.{Merge, ahead, given_on}
use Rattle.hum_assemble.specs.Meaning.{gives, goes_on, total, opening, output, rest, ends, wanted}
use Rattle.hum_assemble.proofs.Steps.{Going, Resting, doing, on_going, on_resting, all_ended, gives_going}
use Rattle.hum_assemble.proofs.Steps.{gives_resting}
use Rattle.hum_assemble.proofs.Reaching.{output_grows}
use Rattle.hum_assemble.proofs.Standings.{OpenIn, open_in, begun_ends, leftmost, waits_at, waiting_open}
use Rattle.hum_assemble.proofs.Calls.{has_room}
use Rattle.hum_turns.specs.Flow.{Begins}
use Rattle.hum_turns.proofs.Fronts.{begins_refl, begins_trans}
use Rattle.hum_nodes.specs.Merging.{wanted_of}

-- No more is given than a score may have.
few_gives : (most n : ℕ) (m : Merge)
    → ((m : Merge) (p : _) → ahead m ≡ Gives p → m.given + 1 ≤ most)
    → m.given ≤ most → m.given + length (gives n m) ≤ most
few_gives most zero m room h = omega arith
few_gives most (suc n) m room h = elim (doing m) [
  | Going p e ↦ rw (gives_going n m p e) (omega (arith, few_gives most n (given_on p m) room (room m p e)))
  | Resting e ↦ rw (gives_resting (suc n) m e) (omega arith)
]

pub few_given : (xs : List Input) → length (output xs) ≤ 4294967295
few_given xs =
    omega (
      arith,
      few_gives 4294967295 (total (opening xs).sources) (opening xs)
          (λ m p e. omega (arith, has_room m.sources m.given p e)) (omega arith),
    )

-- What is wanted hasn't ended, and where nothing is wanted all have.
ends_on : (n : ℕ) (m : Merge)
    → map (λ s. s.ended) (goes_on n m).sources ≡ map (λ s. s.ended) m.sources
ends_on zero m = refl
ends_on (suc n) m = elim (doing m) [
  | Going p e ↦ rw (on_going n m p e)
      (ends_on n (given_on p m) ∙ all_ended true (any_due m.sources) p m.sources)
  | Resting e ↦ ap (λ (s : Merge). map (λ s. s.ended) s.sources) (on_resting (suc n) m e)
]

rest_ends : (xs : List Input) → map (λ s. s.ended) (rest (opening xs)).sources ≡ ends xs
rest_ends xs = ends_on (total (opening xs).sources) (opening xs) ∙ begun_ends xs

wanted_in : (xs : List Input) (a : next.Next) → ahead (rest (opening xs)) ≡ a → (j : ℕ)
    → wanted a (ends xs) ≡ Some j → OpenIn j (ends xs)
wanted_in = grind (arith, nat_tests, open_in, waiting_open, waits_at, rest_ends, leftmost)

pub wanted_open : (xs : List Input) (j : ℕ) → wanted_of xs ≡ Some j → OpenIn j (ends xs)
wanted_open xs j h = wanted_in xs (ahead (rest (opening xs))) refl j h

-- every input has ended
abbrev pub HaveEnded : List Input → Type 0
HaveEnded = AllByRecursion (λ x. (e : End) × (x.ended ≡ Some e))

none_first : (i : ℕ) (x : Input) (xs : List Input) (o : Option End) → x.ended ≡ o
    → position_from is_none i (o ∷ ends xs) ≡ None
    → ((e : End) × (x.ended ≡ Some e)) × (position_from is_none (i + 1) (ends xs) ≡ None)
none_first = grind (arith, nat_tests)

none_open : (i : ℕ) (xs : List Input) → position_from is_none i (ends xs) ≡ None → HaveEnded xs
none_open i [] h = tt
none_open i (x ∷ xs) h =
    let k = none_first i x xs x.ended refl h in (k.0, none_open (i + 1) xs k.1)

none_wanted : (xs : List Input) (a : next.Next) → wanted a (ends xs) ≡ None → HaveEnded xs
none_wanted xs a h = grind (arith, none_open 0 xs, h)

pub unwanted_ended : (xs : List Input) → wanted_of xs ≡ None → HaveEnded xs
unwanted_ended xs h = none_wanted xs (ahead (rest (opening xs))) h

-- What is given stays, whichever sources go on.

open_there : (front tail : List Input) (x : Input) → x.ended ≡ None
    → IsOpenInput (length front) (front ++ x ∷ tail)
open_there [] tail x h = h
open_there (y ∷ front) tail x h = open_there front tail x h

had_there : (front tail : List Input) (x : Input) (change : Change)
    → had_at (length front) change (front ++ x ∷ tail) ≡ front ++ had change x ∷ tail
had_there [] tail x change = refl
had_there (y ∷ front) tail x change = ap (λ xs. y ∷ xs) (had_there front tail x change)

one_more : (front tail : List Input) (x : Input) (change : Change) → x.ended ≡ None
    → Begins (output (front ++ x ∷ tail)) (output (front ++ had change x ∷ tail))
one_more front tail x change h =
    rw (had_there front tail x change) at
    (output_grows (length front) change (front ++ x ∷ tail) (open_there front tail x h))

abbrev going : List Row → Input
going rows = record { put = rows; ended = None }

more_put : (front tail : List Input) (put rows : List Row)
    → Begins (output (front ++ going put ∷ tail)) (output (front ++ going (put ++ rows) ∷ tail))
more_put front tail put [] = rw append-nil (begins_refl _)
more_put front tail put (row ∷ rows) =
    begins_trans (output (front ++ going put ∷ tail))
    (output (front ++ going (put ++ row ∷ []) ∷ tail)) _
    (one_more front tail (going put) (More row) refl)
    (rw (append_assoc put (row ∷ []) rows) at (more_put front tail (put ++ row ∷ []) rows))

-- One source goes on by these records, and perhaps ends.
pub source_on : (front tail : List Input) (put rows : List Row) (o : Option End)
    → Begins (output (front ++ going put ∷ tail))
    (output (front ++ (record { put = put ++ rows; ended = o }) ∷ tail))
source_on front tail put rows None = more_put front tail put rows
source_on front tail put rows (Some e) =
    begins_trans (output (front ++ going put ∷ tail))
    (output (front ++ going (put ++ rows) ∷ tail)) _
    (more_put front tail put rows)
    (one_more front tail (going (put ++ rows)) (Ends e) refl)
