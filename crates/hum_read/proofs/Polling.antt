-- What the parts of a poll give.
use Rattle.std.proofs.lemmas.Grind.{common_steps}
use Rattle.std.proofs.lemmas.Bool.Decides.{nat_tests}
use Rattle.std.proofs.Common.{◌≡◌, ℕ, ◌+◌, ◌<◌, ◌≤◌, List, [], ◌∷◌, ◌++◌, length}
use Rattle.std.proofs.Common.{Option, None, Some, Result, Ok, Err, inl, inr, ◌⊎◌}
use Rattle.std.proofs.Common.{ap, sym, ◌∙◌, subst, arith, length-append}
use Rattle.hum_text.specs.declared.TextFault.{TextFault}
use Rattle.hum_text.specs.declared.TextFault.TheVariants as text
use Rattle.hum_text.specs.Text.{lines, fault_of, IsOfText}
use Rattle.hum_text.specs.Reading.{Reader, Holds}
use Rattle.hum_score.specs.declared.records.RecordFault.{RecordFault}
use Rattle.hum_score.specs.declared.records.RecordFault.TheVariants as of_record
use Rattle.hum_score.specs.Row.{Row}
use Rattle.hum_score.specs.Spelling.{reading, Fails}
use Rattle.hum_score.specs.declared.spines.PathFault.{PathFault}
use Rattle.hum_score.specs.declared.spines.PathFault.TheVariants as of_path
use Rattle.hum_score.specs.Spines.{Path, Unopened, after}
use Rattle.hum_score.specs.Rules.{Refuses, fault_of as path_fault_of}
use Rattle.hum_stage.specs.declared.faults.Rule.{Rule}
use Rattle.hum_stage.specs.declared.faults.Rule.TheVariants as rule
use Rattle.hum_stage.specs.declared.faults.End.{End}
use Rattle.hum_score.specs.InOrder.{through}
use Rattle.hum_stage.proofs.Scores.{through-append, Follow-append}
use Rattle.hum_read.specs.declared.ReadError.{ReadError}
use Rattle.hum_read.specs.Reading.{Polled}
use Rattle.hum_read.specs.Denoted.{read_after, on_spines, unless, standard, score_of, end_at, broken_at, ending}
use Rattle.hum_read.specs.Denoted.{text_rule, record_rule, path_rule}
use Rattle.hum_read.specs.Reading.{Scores, HasRead, ahead, Denotes, Gives, answer_of}
use Rattle.hum_read.specs.Steps.{HasLine, refusal, end_of, stop_by}
use Rattle.hum_read.proofs.Denoting.{read-more, refused-next, broken-next, ended-next, denotes-broken, denotes-ending}

-- The line that was just given is refused by this rule, or memory ran out.
gives-refused : {R : Type 0} (v : Scores R) (all : List ℕ) (rows : List Row) (rest : List ℕ)
    (rule : Option Rule) (result : Result Polled ReadError) (After : List Row → Type 0)
    → result ≡ answer_of (refusal v.stage v.lines.given rule) → HasLine v all rows rest
    → read_after (through Unopened rows) v.lines.line ≡ Err rule → Gives v.stage all rows result After
gives-refused v all rows rest None result After told h is = grind (arith, nat_tests)
gives-refused v all rows rest (Some rule) result After told h is =
    let G : Result Polled ReadError → Type 0 = λ r. Gives v.stage all rows r After in
    let count : v.lines.given ≡ length rows + 1 = grind (arith, nat_tests, length-append) in
    let score = refused-next v.lines all h.given v.lines.line rows rest (Some rule) h.limits h.read h.holds is in
    let denotes : Denotes v.stage all rows (end_at v.stage (Some (v.lines.given, rule))) =
    denotes-broken v.stage all rows (length rows + 1) rule _ score
    (ap (λ (n : ℕ). end_at v.stage (Some (n, rule))) count) in
    subst G (sym told) denotes

-- a text that was refused breaks that rule, unless memory ran out
parse-refused : (fault : RecordFault) (read : Result Row RecordFault) → Fails fault read
    → (record_rule fault ≡ None) ⊎ (read ≡ Err fault)
parse-refused = grind (arith, nat_tests)

-- a record that was refused breaks that rule of the spines, unless memory ran out
step-refused : (fault : PathFault) (broken : Option PathFault) → Refuses fault broken
    → (path_rule fault ≡ None) ⊎ (broken ≡ Some fault)
step-refused = grind (arith, nat_tests)

-- memory ran out
gives-memory : (stage given : ℕ) (all : List ℕ) (rows : List Row) (rule : Option Rule)
    (result : Result Polled ReadError) (After : List Row → Type 0)
    → result ≡ answer_of (refusal stage given rule) → rule ≡ None → Gives stage all rows result After
gives-memory = grind (arith, nat_tests)

-- The text of the line is refused.
pub text-refused : {R : Type 0} (v : Scores R) (fault : RecordFault)
    (result : Result Polled ReadError) (all : List ℕ) (rows : List Row) (rest : List ℕ) (After : List Row → Type 0)
    → Fails fault (reading v.lines.line) → result ≡ answer_of (refusal v.stage v.lines.given (record_rule fault))
    → HasLine v all rows rest → Gives v.stage all rows result After
text-refused v fault result all rows rest After fails told h =
    elim (parse-refused fault (reading v.lines.line) fails) as (λ _. Gives v.stage all rows result After) [
      | inl memory ↦ gives-memory v.stage v.lines.given all rows (record_rule fault) result After told memory
      | inr is ↦ gives-refused v all rows rest (record_rule fault) result After told h
          (ap (on_spines (through Unopened rows)) is)
    ]

-- The record of the line breaks a rule of the spines.
pub record-refused : {R : Type 0} (v : Scores R) (row : Row) (fault : PathFault)
    (result : Result Polled ReadError) (all : List ℕ) (rows : List Row) (rest : List ℕ) (After : List Row → Type 0)
    → reading v.lines.line ≡ Ok row → Refuses fault (path_fault_of v.spines.path row)
    → result ≡ answer_of (refusal v.stage v.lines.given (path_rule fault))
    → HasLine v all rows rest → Gives v.stage all rows result After
record-refused v row fault result all rows rest After read refuses told h =
    elim (step-refused fault (path_fault_of v.spines.path row) refuses) as (λ _. Gives v.stage all rows result After) [
      | inl memory ↦ gives-memory v.stage v.lines.given all rows (path_rule fault) result After told memory
      | inr is ↦ gives-refused v all rows rest (path_rule fault) result After told h
          (ap (on_spines (through Unopened rows)) read
          ∙ ap (unless row) (ap (λ (p : Path). path_fault_of p row) (sym h.path) ∙ is))
    ]

-- The record of the line is given.
pub record-given : {R : Type 0} (v w : Scores R) (row : Row) (all : List ℕ) (rows : List Row)
    (rest : List ℕ) → reading v.lines.line ≡ Ok row → path_fault_of v.spines.path row ≡ None → w.lines ≡ v.lines
    → w.spines.path ≡ after v.spines.path row → v.lines.given ≤ 4294967295 → HasLine v all rows rest
    → HasRead w all (rows ++ row ∷ []) rest × (length rows < 4294967295)
record-given v w row all rows rest read sound lines path few h =
    let here : path_fault_of (through Unopened rows) row ≡ None =
    ap (λ (p : Path). path_fault_of p row) (sym h.path) ∙ sound in
    let reads : read_after (through Unopened rows) v.lines.line ≡ Ok row =
    ap (on_spines (through Unopened rows)) read ∙ ap (unless row) here in
    let size = length-append h.given (v.lines.line ∷ []) in
    let more = length-append rows (row ∷ []) in
    let number = h.holds.stands.number in
    let many = h.as_many in
    let H : Reader _ → Type 0 = λ r. Holds r all (h.given ++ v.lines.line ∷ []) rest in (
      record {
        limits = ap (λ r. r.limits) lines ∙ h.limits;
        given = h.given ++ v.lines.line ∷ [];
        holds = subst H (sym lines) h.holds;
        read = read-more h.given rows v.lines.line row h.read reads;
        score = Follow-append Unopened rows (row ∷ []) h.score (here, tt);
        path = path ∙ ap (λ (p : Path). after p row) h.path ∙ sym (through-append Unopened rows (row ∷ []));
        as_many = omega (arith, size, more, many);
      },
      omega (arith, size, number, many, few),
    )

-- the text is broken in the next line, or nothing more can be read
text-broken : (stage : ℕ) (f : TextFault) (result : Result Polled ReadError) (given : ℕ) (all : List ℕ)
    (rows : List Row) (After : List Row → Type 0)
    → result ≡ answer_of (stop_by stage given f) → given ≡ length rows
    → (IsOfText f → score_of all ≡ ahead rows (broken_at (length rows + 1) (text_rule f)))
    → Gives stage all rows result After
text-broken = grind (arith, common_steps)

-- what the lines have given, as what the reader of scores has
pub has-line : {R : Type 0} (v w : Scores R) (all : List ℕ) (rows : List Row) (read rest : List ℕ)
    → (h : HasRead v all rows read) → w.lines.limits ≡ v.lines.limits → w.spines.path ≡ v.spines.path
    → Holds w.lines all (h.given ++ w.lines.line ∷ []) rest → HasLine w all rows rest
has-line = grind (arith, nat_tests)

-- No line is left.
pub text-ended : {R : Type 0} (v w : Scores R) (all : List ℕ) (rows : List Row) (read rest : List ℕ)
    → (h : HasRead v all rows read) → w.spines.path ≡ v.spines.path → Holds w.lines all h.given rest
    → lines all ≡ h.given → fault_of v.lines.limits all ≡ None → Denotes w.stage all rows (end_of w)
text-ended v w all rows read rest h path holds whole sound =
    let number = holds.stands.number in
    let many = h.as_many in
    let count : w.lines.given ≡ length rows = omega (arith, number, many) in
    let end : Path → ℕ → End = λ path n. end_at w.stage (ending path n None).fault in
    let same : end (through Unopened rows) (length rows) ≡ end_of w =
    sym (ap (λ (p : Path). end p w.lines.given) (path ∙ h.path) ∙ ap (end (through Unopened rows)) count) in
    subst (Denotes w.stage all rows) same
    (denotes-ending w.stage all rows h.score (ended-next all h.given rows h.read whole (rw h.limits at sound)))

-- The first fault of the text is in the next line.
pub text-stopped : {R : Type 0} (v : Scores R) (all : List ℕ) (rows : List Row) (read : List ℕ) (f : TextFault)
    (result : Result Polled ReadError) (given : ℕ) (After : List Row → Type 0)
    → (h : HasRead v all rows read) → given ≡ v.lines.given → result ≡ answer_of (stop_by v.stage given f)
    → (IsOfText f → fault_of v.lines.limits all ≡ Some (length h.given + 1, f))
    → Gives v.stage all rows result After
text-stopped v all rows read f result given After h count told is =
    let number = h.holds.stands.number in
    let many = h.as_many in
    text-broken v.stage f result given all rows After told (omega (arith, count, number, many)) (λ of_text.
    let here : fault_of standard all ≡ Some (length rows + 1, f) = rw (h.limits, many) at (is of_text) in
    broken-next v.lines all h.given rows read f h.read many h.holds here)
