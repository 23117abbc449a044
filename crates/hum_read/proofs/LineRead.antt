-- What is said of a line that was read.
use Rattle.std.proofs.lemmas.Bool.Decides.{nat_tests}
use Rattle.std.proofs.Common.{arith}
use Rattle.std.proofs.Common.{◌≡◌, ◌≢◌, ℕ, ◌≤◌, List, Option, None, Some, Result, Ok, Err, refl, ap, sym, ◌∙◌, subst}
use Rattle.hum_score.specs.declared.records.RecordFault.{RecordFault}
use Rattle.hum_score.specs.Row.{Row}
use Rattle.hum_score.specs.Spelling.{reading, Fails}
use Rattle.hum_score.specs.declared.spines.PathFault.{PathFault}
use Rattle.hum_path.specs.Tracked.{Tracked}
use Rattle.hum_score.specs.Spines.{after}
use Rattle.hum_score.specs.Rules.{Refuses, fault_of as path_fault_of}
use Rattle.hum_stage.specs.declared.faults.Rule.{Rule}
use Rattle.hum_read.specs.declared.ReadError.{ReadError}
use Rattle.hum_read.specs.declared.ReadError.TheVariants as error
use Rattle.hum_read.specs.Denoted.{record_rule, path_rule}
use Rattle.hum_read.specs.Reading.{Scores, Polled, Gave, ReadOn, Gives, stop_of, answer_of}
use Rattle.hum_read.specs.Steps.{HasLine, ReadsLine, refusal, given_by}
use Rattle.hum_read.proofs.Polling.{text-refused, record-refused, record-given}
use Rattle.hum_read.proofs.Nexting.{stop-answer, no-more}

-- its clauses, in their order
abbrev pub LineReads : {R : Type 0} → Scores R → Result Polled ReadError → Scores R → Type 0
LineReads old result new = record {
  gives : ReadsLine old result new;
  lines : new.lines ≡ old.lines;
  stage : new.stage ≡ old.stage;
  stops : new.stopped ≡ stop_of result;
  told : result ≢ Ok ReadOn;
  not_read : result ≢ Err error.Read;
}

-- a refusal is no failed read
refusal-sound : (stage line : ℕ) (rule : Option Rule) → answer_of (refusal stage line rule) ≢ Err error.Read
refusal-sound = grind (arith, nat_tests)

module _ {R : Type 0} (v w : Scores R) (spines : Tracked) where
  -- the line is refused
  refused-reads : (rule known : Option Rule) → known ≡ rule
      → w ≡ record v { spines = spines; stopped = Some (refusal v.stage v.lines.given known) }
      → ((all : List ℕ) (rows : List Row) (rest : List ℕ) (After : List Row → Type 0) → HasLine v all rows rest
      → Gives v.stage all rows (answer_of (refusal v.stage v.lines.given rule)) After)
      → LineReads v (given_by None w.stopped) w
  refused-reads rule known same state gives =
      let W : Option Rule → Scores R =
      λ o. record v { spines = spines; stopped = Some (refusal v.stage v.lines.given o) } in
      let At : Scores R → Type 0 = λ u. LineReads v (given_by None u.stopped) u in
      let why = refusal v.stage v.lines.given rule in
      subst At (sym (state ∙ ap W same)) (record {
        gives = λ all rows rest h. gives all rows rest _ h;
        lines = refl;
        stage = refl;
        stops = stop-answer why;
        told = no-more why;
        not_read = refusal-sound v.stage v.lines.given rule;
      })

  -- its text is refused
  pub text-reads : (fault : RecordFault) (known : Option Rule) → Fails fault (reading v.lines.line) → known ≡ record_rule fault
      → w ≡ record v { spines = spines; stopped = Some (refusal v.stage v.lines.given known) }
      → LineReads v (given_by None w.stopped) w
  text-reads fault known fails same state =
      refused-reads (record_rule fault) known same state (λ all rows rest After h.
      text-refused v fault (answer_of (refusal v.stage v.lines.given (record_rule fault))) all rows rest After fails refl h)

  -- its record breaks a rule of the spines
  pub record-reads : (row : Row) (fault : PathFault) (known : Option Rule) → reading v.lines.line ≡ Ok row
      → Refuses fault (path_fault_of v.spines.path row) → known ≡ path_rule fault
      → w ≡ record v { spines = spines; stopped = Some (refusal v.stage v.lines.given known) }
      → LineReads v (given_by None w.stopped) w
  record-reads row fault known read refuses same state =
      refused-reads (path_rule fault) known same state (λ all rows rest After h.
      record-refused v row fault (answer_of (refusal v.stage v.lines.given (path_rule fault))) all rows rest After read refuses refl h)

-- Its record is given.
pub given-reads : {R : Type 0} (v : Scores R) (spines : Tracked) (row : Row) → v.stopped ≡ None → reading v.lines.line ≡ Ok row
    → path_fault_of v.spines.path row ≡ None → spines.path ≡ after v.spines.path row → v.lines.given ≤ 4294967295
    → LineReads v (Ok (Gave row)) (record v { spines = spines })
given-reads v spines row going read sound path few = record {
  gives = λ all rows rest h. record-given v (record v { spines = spines }) row all rows rest read sound refl path few h;
  lines = refl;
  stage = refl;
  stops = going;
  told = λ is. cc;
  not_read = λ is. cc;
}
