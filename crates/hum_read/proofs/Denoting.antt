-- From record to record of the score that bytes denote.
use Rattle.std.proofs.lemmas.Grind.{common_steps}
use Rattle.std.proofs.lemmas.Bool.Decides.{nat_tests}
use Rattle.std.proofs.Common.{◌≡◌, ℕ, suc, ◌+◌, ◌-◌, ◌<◌, ◌≤◌}
use Rattle.std.proofs.Common.{List, [], ◌∷◌, ◌++◌, length, take, Option, None, Some, Result, Ok, Err}
use Rattle.std.proofs.Common.{refl, ap, sym, ◌∙◌, arith, append_assoc, append-nil, length-append}
use Rattle.hum_text.specs.declared.TextFault.{TextFault}
use Rattle.hum_text.specs.Text.{lines, fault_of}
use Rattle.hum_text.specs.Reading.{Reader, Holds}
use Rattle.hum_text.proofs.ReadingLemmas.{given-front}
use Rattle.hum_text.proofs.FrontLemmas.{given-before}
use Rattle.hum_score.specs.declared.records.RecordFault.{RecordFault}
use Rattle.hum_score.specs.Row.{Row}
use Rattle.hum_score.specs.Spelling.{reading}
use Rattle.hum_score.specs.declared.spines.PathFault.{PathFault}
use Rattle.hum_score.specs.Spines.{Path, Unopened, after}
use Rattle.hum_score.specs.Rules.{fault_of as path_fault_of}
use Rattle.hum_stage.specs.declared.faults.Rule.{Rule}
use Rattle.hum_stage.specs.declared.faults.Rule.TheVariants as rule
use Rattle.hum_stage.specs.declared.faults.End.{End}
use Rattle.hum_score.specs.InOrder.{through, Follow, IsScore}
use Rattle.hum_stage.proofs.Scores.{through-append}
use Rattle.hum_read.specs.Denoted.{read_after, on_spines, unless, onward, denoted, up_to, standard}
use Rattle.hum_read.specs.Denoted.{score_of, end_at, broken_at, ending, text_rule}
use Rattle.hum_read.specs.Reading.{Scores, HasRead, AreRead, ahead, Denotes}

-- one line more is read as a record
pub read-more : (given : List (List ℕ)) (rows : List Row) (line : List ℕ) (row : Row) → AreRead given rows
    → read_after (through Unopened rows) line ≡ Ok row → AreRead (given ++ line ∷ []) (rows ++ row ∷ [])
read-more = grind (arith, nat_tests, through-append, length-append, append_assoc)

-- the lines up to the broken one, from those that were given on
front-lines : (given more : List (List ℕ)) (broken : Option (ℕ × TextFault))
    → ((n : ℕ) (f : TextFault) → broken ≡ Some (n, f) → length given < n)
    → (rest : List (List ℕ)) × (up_to broken (given ++ more) ≡ given ++ rest)
front-lines given more None before = (more, refl)
front-lines given more (Some (n, f)) before =
    (take (n - 1 - length given) more, long given (n - 1) (let k = before n f refl in omega (arith, k)))
  where
    long : (given : List (List ℕ)) (n : ℕ) → length given ≤ n
        → take n (given ++ more) ≡ given ++ take (n - length given) more
    long (g ∷ given) (suc n) h = grind (arith, nat_tests, long given n (omega arith))
    long given n h = grind (arith, nat_tests)

-- what the lines that are read leave of the score
after-lines : (given : List (List ℕ)) (rows : List Row) (all : List ℕ) (more : List (List ℕ)) → AreRead given rows
    → up_to (fault_of standard all) (lines all) ≡ given ++ more
    → score_of all ≡ ahead rows (denoted (through Unopened rows) (length rows) more (fault_of standard all))
after-lines = grind (arith, nat_tests)

-- The records that were given are a prefix of those that the bytes denote.
pub given-rows : {R : Type 0} (v : Scores R) (all : List ℕ) (rows : List Row) (rest : List ℕ)
    → HasRead v all rows rest
    → (more : List (List ℕ))
    × (score_of all ≡ ahead rows (denoted (through Unopened rows) (length rows) more (fault_of standard all)))
given-rows v all rows rest h =
    let broken = fault_of standard all in
    let front = given-front v.lines all h.given rest h.holds in
    let sound = front-lines h.given front.0 broken
    (λ n f is. given-before v.lines all h.given rest n f h.holds (rw h.limits is)) in
    (sound.0, after-lines h.given rows all sound.0 h.read (ap (up_to broken) front.1 ∙ sound.1))

-- The next line is refused.
pub refused-next : {R : Type 0} (v : Reader R) (all : List ℕ) (given : List (List ℕ)) (line : List ℕ)
    (rows : List Row) (rest : List ℕ) (rule : Option Rule)
    → v.limits ≡ standard → AreRead given rows → Holds v all (given ++ line ∷ []) rest
    → read_after (through Unopened rows) line ≡ Err rule
    → score_of all ≡ ahead rows (broken_at (length rows + 1) rule)
refused-next v all given line rows rest rule limits are holds is =
    let broken = fault_of standard all in
    let front = given-front v all (given ++ line ∷ []) rest holds in
    let sound = front-lines (given ++ line ∷ []) front.0 broken
    (λ n f at. given-before v all (given ++ line ∷ []) rest n f holds (rw limits at)) in
    after-lines given rows all (line ∷ sound.0) are
    (ap (up_to broken) front.1 ∙ sound.1 ∙ append_assoc given (line ∷ []) sound.0)
    ∙ rw is refl

exact : (given more : List (List ℕ)) → take (length given) (given ++ more) ≡ given ++ []
exact = grind (arith, common_steps)

-- no line more is read: what stands at the end
no-more : (given : List (List ℕ)) (rows : List Row) (all : List ℕ) (broken : Option (ℕ × TextFault))
    → AreRead given rows → fault_of standard all ≡ broken → up_to broken (lines all) ≡ given ++ []
    → score_of all ≡ ahead rows (ending (through Unopened rows) (length rows) broken)
no-more = grind (arith, nat_tests)

-- The text is broken in the next line.
pub broken-next : {R : Type 0} (v : Reader R) (all : List ℕ) (given : List (List ℕ)) (rows : List Row) (rest : List ℕ)
    (f : TextFault) → AreRead given rows → length given ≡ length rows → Holds v all given rest
    → fault_of standard all ≡ Some (length rows + 1, f)
    → score_of all ≡ ahead rows (broken_at (length rows + 1) (text_rule f))
broken-next v all given rows rest f are size holds is =
    let front = given-front v all given rest holds in
    let less : length rows + 1 - 1 ≡ length given = omega (arith, size) in
    no-more given rows all (Some (length rows + 1, f)) are is
    (ap (λ (n : ℕ). take n (lines all)) less ∙ ap (take (length given)) front.1 ∙ exact given front.0)

-- All lines were given.
pub ended-next : (all : List ℕ) (given : List (List ℕ)) (rows : List Row) → AreRead given rows
    → lines all ≡ given → fault_of standard all ≡ None
    → score_of all ≡ ahead rows (ending (through Unopened rows) (length rows) None)
ended-next all given rows are whole is = no-more given rows all None are is (whole ∙ sym (append-nil given))

-- where a rule is broken in a line, nothing more is denoted
pub denotes-broken : (stage : ℕ) (all : List ℕ) (rows : List Row) (line : ℕ) (rule : Rule) (end : End)
    → score_of all ≡ ahead rows (broken_at line (Some rule)) → end ≡ end_at stage (Some (line, rule))
    → Denotes stage all rows end
denotes-broken = grind (arith, common_steps)

-- where no line is left, all is denoted
pub denotes-ending : (stage : ℕ) (all : List ℕ) (rows : List Row) → IsScore rows
    → score_of all ≡ ahead rows (ending (through Unopened rows) (length rows) None)
    → Denotes stage all rows (end_at stage (ending (through Unopened rows) (length rows) None).fault)
denotes-ending = grind (arith, common_steps)

-- a record that is read breaks no rule of the spines
sound-read : (path : Path) (read : Result Row RecordFault) (row : Row) → on_spines path read ≡ Ok row
    → path_fault_of path row ≡ None
sound-read path (Ok row') row h = by_fault (path_fault_of path row') refl h
  where
    by_fault : (f : Option PathFault) → path_fault_of path row' ≡ f → unless row' f ≡ Ok row
        → path_fault_of path row ≡ None
    by_fault = grind (arith, nat_tests)
sound-read path (Err f) row h = cc

-- what lines denote follows on the spines
denoted-follow : (path : Path) (n : ℕ) (ls : List (List ℕ)) (broken : Option (ℕ × TextFault))
    → Follow path (denoted path n ls broken).rows
denoted-follow path n (line ∷ ls) broken =
    by_reading (read_after path line) refl (λ row. denoted-follow (after path row) (n + 1) ls broken)
  where
    by_reading : (r : Result Row (Option Rule)) → read_after path line ≡ r
        → ((row : Row) → Follow (after path row) (denoted (after path row) (n + 1) ls broken).rows)
        → Follow path (onward (n + 1) r (λ row. denoted (after path row) (n + 1) ls broken)).rows
    by_reading (Ok row) is rest = (sound-read path (reading line) row is, rest row)
    by_reading (Err rule) is rest = tt
denoted-follow path n ls broken = grind (arith, nat_tests)

-- The records that bytes denote are a score.
pub score-of : (all : List ℕ) → IsScore (score_of all).rows
score-of all = denoted-follow Unopened 0 (up_to (fault_of standard all) (lines all)) (fault_of standard all)

-- The records that were given are a prefix of those that the bytes denote.
pub front-rows : {R : Type 0} (v : Scores R) (all : List ℕ) (rows : List Row) (rest : List ℕ)
    → HasRead v all rows rest → (more : List Row) × ((score_of all).rows ≡ rows ++ more)
front-rows v all rows rest h = grind (arith, nat_tests, given-rows v all rows rest h)
