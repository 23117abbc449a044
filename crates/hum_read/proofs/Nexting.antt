-- What each way through `next` says.
use Rattle.std.proofs.lemmas.Grind.{common_steps}
use Rattle.std.proofs.lemmas.Bool.Decides.{nat_tests}
use Rattle.std.proofs.Common.{◌≡◌, ◌≢◌, ℕ, ◌≤◌, Bool, true, false, ◌⊎◌, inr, List, [], length}
use Rattle.std.proofs.Common.{refl, ap, sym, ◌∙◌, subst, arith, Option, None, Some, Result, Ok, Err}
use Rattle.std.specs.Prelude.{IfOk, IfErr, OnOk, IfSome}
use Rattle.std.specs.Option.{is_some}
use Rattle.std.specs.Io.KnownBytes.{Consumes, IsAtEnd}
use Rattle.hum_text.specs.declared.TextFault.{TextFault}
use Rattle.hum_text.specs.declared.TextFault.TheVariants as text
use Rattle.hum_text.specs.declared.calls.TheConstants.{LARGEST_READ}
use Rattle.hum_text.specs.declared.reader.Step.{Step}
use Rattle.hum_text.specs.declared.reader.Step.TheVariants.{Line, More, End}
use Rattle.hum_text.specs.Reading.{Reader, IsUnread, IsFed, IsOver, NeedsRead, ReadsOnce, Nears, Fails, KeepsLimits, left_to_do, bytes_read}
use Rattle.hum_text.specs.Reading.{GivesNext as LinesGiveNext}
use Rattle.hum_text.specs.Reading.{GivesLine}
use Rattle.hum_text.proofs.PollLemmas.{line-polls}
use Rattle.hum_score.specs.Row.{Row}
use Rattle.hum_stage.specs.declared.faults.End.{End as EndOf}
use Rattle.hum_read.specs.declared.ReadError.{ReadError}
use Rattle.hum_read.specs.declared.ReadError.TheVariants as error
use Rattle.hum_score.specs.Spelling.{has_byte}
use Rattle.hum_read.specs.Steps.{IsTidy, Nexts, ReadsLine, given_by, end_of, stop_by}
use Rattle.hum_read.proofs.Polling.{has-line, text-ended, text-stopped}
use Rattle.hum_read.specs.Reading.{HasRead, Scores, Polled, Gave, ReadOn, Ended, Gives, GivesNext, stop_of, answer_of, IsCalledAtMostOnce}
use Rattle.hum_read.specs.Reading.{ReadsOnce as ReadsOnceDue, Nears as NearsBy}

-- how an answer comes of what the lines gave
abbrev Meets : Result Step TextFault → Result Polled ReadError → Type 0
Meets (Ok Line) r = (r ≢ Ok ReadOn) × (r ≢ Err error.Read)
Meets (Ok More) r = r ≡ Ok ReadOn
Meets (Ok End) r = (end : EndOf) × (r ≡ Ok (Ended end))
Meets (Err text.Read) r = r ≡ Err error.Read
Meets (Err text.Memory) r = r ≡ Err error.Memory
Meets (Err text.S1) r = (end : EndOf) × (r ≡ Ok (Ended end))
Meets (Err text.S2) r = (end : EndOf) × (r ≡ Ok (Ended end))
Meets (Err text.S3) r = (end : EndOf) × (r ≡ Ok (Ended end))
Meets (Err text.S7) r = (end : EndOf) × (r ≡ Ok (Ended end))

-- an answer is that nothing is there yet where the lines say so
more-of : (s : Result Step TextFault) (r : Result Polled ReadError) → Meets s r → r ≡ Ok ReadOn → s ≡ Ok More
more-of = grind (arith, nat_tests)

more-then : (s : Result Step TextFault) (r : Result Polled ReadError) → Meets s r → s ≡ Ok More → r ≡ Ok ReadOn
more-then s r meets is = let At : Result Step TextFault → Type 0 = λ t. Meets t r in subst At is meets

-- an answer is that the read failed where the lines say so
read-of : (s : Result Step TextFault) (r : Result Polled ReadError) → Meets s r → r ≡ Err error.Read → s ≡ Err text.Read
read-of = grind (arith, nat_tests)

-- a property of an answer that is a known one
at : (Q : Result Polled ReadError → Type 0) (q r : Result Polled ReadError) → r ≡ q → Q q → Q r
at Q q r is h = subst Q (sym is) h

-- each answer brings it nearer to the end, as a poll of the lines does
nears-by : (s : Result Step TextFault) (r : Result Polled ReadError) (m n : ℕ) → Meets s r → IfOk s (λ step. Nears step m n)
    → IfOk r (λ step. NearsBy step m n)
nears-by = grind (arith, nat_tests)

some-none : (s : Result EndOf ReadError) → Some s ≡ None → ⊥
some-none s is = cc

-- what one answers that has stopped is how it has stopped
pub stop-answer : (s : Result EndOf ReadError) → Some s ≡ stop_of (answer_of s)
stop-answer = grind (arith, nat_tests)

pub no-more : (s : Result EndOf ReadError) → answer_of s ≡ Ok ReadOn → ⊥
no-more = grind (arith, nat_tests)

-- a fault is told as what it is
meets-stop : (stage given : ℕ) (f : TextFault) → Meets (Err f) (answer_of (stop_by stage given f))
meets-stop = grind (arith, nat_tests)

pub tidy-taken : {R : Type 0} (old new : Reader R) (stopped : Option (Result EndOf ReadError)) → IsTidy old stopped → GivesLine old new → IsTidy new stopped
tidy-taken old new stopped tidy line = record { limits = line.limits ∙ tidy.limits; going = λ _. line.no_fault }

pub few-taken : {R : Type 0} (old new : Reader R) (stopped : Option (Result EndOf ReadError)) → IsTidy old stopped → GivesLine old new → new.given ≤ 4294967295
few-taken old new stopped tidy line = subst (λ l. new.given ≤ l.records) tidy.limits line.within.2

module _ {R : Type 0} (remaining : R → Option (List ℕ)) (calls : R → ℕ) (has_failed : R → Bool) where
  -- the clauses of a poll of the lines, in their order
  abbrev pub Polls : Reader R → Result Step TextFault → Reader R → Type 0
  Polls old result new = record {
    gives : old.fault ≡ None → LinesGiveNext old result new;
    reads_not : ¬ NeedsRead old → IsUnread old new;
    reads_once : NeedsRead old → ReadsOnce calls has_failed old result new;
    more : result ≡ Ok More → IsFed old new;
    unfed : result ≢ Ok More → bytes_read old new ≡ [];
    asked : length (bytes_read old new) ≤ LARGEST_READ;
    consumes : Consumes (remaining old.source) (remaining new.source) (bytes_read old new);
    at_end : new.ended ≡ true → (old.ended ≡ true) ⊎ IsAtEnd (remaining new.source);
    failed : result ≡ Err text.Read → (old.fault ≡ Some text.Read) ⊎ (has_failed new.source ≡ true);
    memory : result ≡ Err text.Memory → (old.fault ≡ Some text.Memory) ⊎ NeedsRead old;
    within : IfOk result (λ step. KeepsLimits old.limits step new.line new.given);
    end : result ≡ Ok End → IsOver new;
    over : IsOver old → (result ≡ Ok End) × (new ≡ old);
    no_fault : OnOk result (new.fault ≡ None);
    err : IfErr result (Fails old new);
    again : IfSome old.fault (λ f. (result ≡ Err f) × (new ≡ old));
    nears : IfOk result (λ step. Nears step (left_to_do old) (left_to_do new));
    limits : new.limits ≡ old.limits;
    taken : new.taken ≤ new.limits.bytes;
  }

  -- a poll makes at most one call
  once-of : (v w : Reader R) (s : Result Step TextFault) → ReadsOnce calls has_failed v s w
      → IsCalledAtMostOnce calls has_failed v.source w.source
  once-of = grind (arith, nat_tests)

  -- what it made of the read that was due
  due-of : (v w : Scores R) (s : Result Step TextFault) (r : Result Polled ReadError) → Meets s r
      → ReadsOnce calls has_failed v.lines s w.lines → ReadsOnceDue calls has_failed v r w
  due-of = grind (arith, nat_tests)

  -- a mark that is new was set by a read that has_failed
  marked-of : (v w : Reader R) (s : Result Step TextFault) (r : Result Polled ReadError) → Meets s r
      → (¬ NeedsRead v → IsUnread v w) → (NeedsRead v → ReadsOnce calls has_failed v s w)
      → has_failed w.source ≡ true → (has_failed v.source ≡ true) ⊎ (r ≡ Err error.Read)
  marked-of = grind (arith, nat_tests)

  failed-new : (v w : Reader R) → v.fault ≡ None → (v.fault ≡ Some text.Read) ⊎ (has_failed w.source ≡ true) → has_failed w.source ≡ true
  failed-new = grind (arith, nat_tests)

  -- A poll of the lines was made, and this comes of it.
  polled-nexts : (v w : Scores R) (s : Result Step TextFault) (r : Result Polled ReadError) → v.stopped ≡ None
      → v.lines.fault ≡ None → Polls v.lines s w.lines → Meets s r → w.stage ≡ v.stage → w.stopped ≡ stop_of r
      → GivesNext v r w → Nexts remaining calls has_failed v r w
  polled-nexts v w s r going sound says meets stage stops gives = record {
    gives = λ _. gives;
    stops = stops;
    again = subst (λ o. IfSome o (λ q. (r ≡ answer_of q) × (w ≡ v))) (sym going) tt;
    stage = stage;
    unread = says.reads_not;
    once = λ needs. once-of v.lines w.lines s (says.reads_once needs);
    due = λ is. due-of v w s r meets (says.reads_once is.needs);
    more = λ is. says.more (more-of s r meets is);
    unfed = λ not. says.unfed (λ is. not (more-then s r meets is));
    asked = says.asked;
    consumes = says.consumes;
    at_end = says.at_end;
    failed = λ is. inr (failed-new v.lines w.lines sound (says.failed (read-of s r meets is)));
    marked = marked-of v.lines w.lines s r meets says.reads_not says.reads_once;
    taken = λ _. says.taken;
    nears = nears-by s r _ _ meets says.nears;
  }

  -- a reader of scores stays tidy where its lines met no fault
  pub tidy-on : (old new : Reader R) (stopped : Option (Result EndOf ReadError)) (step : Step) → IsTidy old stopped
      → Polls old (Ok step) new → IsTidy new stopped
  tidy-on old new stopped step tidy polls = record { limits = polls.limits ∙ tidy.limits; going = λ _. polls.no_fault }

  -- one that has stopped by a fault is tidy too
  pub tidy-stopped : (old new : Reader R) (before stopped : Option (Result EndOf ReadError)) (f : TextFault)
      (why : Result EndOf ReadError) → IsTidy old before → Polls old (Err f) new → stopped ≡ Some why → IsTidy new stopped
  tidy-stopped old new before stopped f why tidy polls is = record {
    limits = polls.limits ∙ tidy.limits;
    going = λ none. absurd (some-none why (sym is ∙ none));
  }

  -- what is asked where a line is read: it was given, within the limits
  abbrev pub AsksLine : Option (Result EndOf ReadError) → Reader R → Type 0
  AsksLine stopped lines = record {
    going : stopped ≡ None;
    short : length lines.line ≤ 1048576;
    one_line : has_byte 10 lines.line ≡ false;
    few : lines.given ≤ 4294967295;
  }

  pub asks-line : (old new : Reader R) (stopped : Option (Result EndOf ReadError)) (step : Step) → IsTidy old stopped
      → stopped ≡ None → step ≡ Line → Polls old (Ok step) new → AsksLine stopped new
  asks-line = grind (arith, nat_tests)

  -- so many lines as the limits allow
  pub few-given : (old new : Reader R) (stopped : Option (Result EndOf ReadError)) (f : TextFault) (given : ℕ)
      → IsTidy old stopped → Polls old (Err f) new → given ≤ new.limits.records → given ≤ 4294967295
  few-given old new stopped f given tidy polls = subst (λ l. given ≤ l.records) (polls.limits ∙ tidy.limits)

  -- A line was given, and it was read.
  pub line-nexts : (v w : Scores R) (lines : Reader R) (step : Step) (r : Result Polled ReadError) → IsTidy v.lines v.stopped
      → v.stopped ≡ None → step ≡ Line → Polls v.lines (Ok step) lines → w.lines ≡ lines → w.stage ≡ v.stage
      → w.stopped ≡ stop_of r → r ≢ Ok ReadOn → r ≢ Err error.Read → ReadsLine (record v { lines = lines }) r w → Nexts remaining calls has_failed v r w
  line-nexts v w lines step r tidy going is polls same stage stops told sound reads =
      let fine = tidy.going going in
      let P : Reader R → Type 0 = λ l. Polls v.lines (Ok step) l in
      let Q : Step → Type 0 = λ t. Polls v.lines (Ok t) w.lines in
      let L : Reader R → Type 0 = λ l. ReadsLine (record v { lines = l }) r w in
      let polled : Polls v.lines (Ok Line) w.lines = subst Q is (subst P (sym same) polls) in
      let read = subst L (sym same) reads in
      polled-nexts v w (Ok Line) r going fine polled (told, sound) stage stops
      (λ all rows rest h end. read all rows rest
      (has-line v (record v { lines = w.lines }) all rows _ rest h polled.limits refl (polled.gives fine all h.given rest h.holds end)))

  -- A line was taken, and its record is given.
  pub taken-nexts : (v : Scores R) (lines : Reader R) (row : Row) → IsTidy v.lines v.stopped → v.stopped ≡ None → GivesLine v.lines lines
      → ReadsLine (record v { lines = lines }) (Ok (Gave row)) (record v { lines = lines })
      → Nexts remaining calls has_failed v (Ok (Gave row)) (record v { lines = lines })
  taken-nexts v lines row tidy going line reads =
      line-nexts v (record v { lines = lines }) lines Line (Ok (Gave row)) tidy going refl
      (line-polls remaining calls has_failed v.lines lines (tidy.going going) line) refl refl going (λ is. cc) (λ is. cc) reads

  -- Nothing is there yet.
  pub more-nexts : (v : Scores R) (lines : Reader R) (step : Step) → IsTidy v.lines v.stopped
      → v.stopped ≡ None → step ≡ More → Polls v.lines (Ok step) lines
      → Nexts remaining calls has_failed v (given_by None v.stopped) (record v { lines = lines })
  more-nexts v lines step tidy going is polls =
      let fine = tidy.going going in
      let Q : Step → Type 0 = λ t. Polls v.lines (Ok t) lines in
      let polled : Polls v.lines (Ok More) lines = subst Q is polls in
      let w : Scores R = record v { lines = lines } in
      let told : given_by None v.stopped ≡ Ok ReadOn = ap (λ o. given_by None o) going in
      polled-nexts v w (Ok More) (given_by None v.stopped) going fine polled told refl (going ∙ sym (ap stop_of told))
      (λ all rows rest h end.
      at (λ q. Gives v.stage all rows q (λ after. HasRead w all after rest)) _ _ told (record {
        limits = polled.limits ∙ h.limits;
        given = h.given;
        holds = polled.gives fine all h.given rest h.holds end;
        read = h.read;
        score = h.score;
        path = h.path;
        as_many = h.as_many;
      }))

  -- No line is left.
  pub end-nexts : (v w : Scores R) (lines : Reader R) (step : Step) → IsTidy v.lines v.stopped
      → v.stopped ≡ None → step ≡ End → Polls v.lines (Ok step) lines
      → w ≡ record v { lines = lines; stopped = Some (Ok (end_of (record v { lines = lines }))) }
      → Nexts remaining calls has_failed v (given_by None w.stopped) w
  end-nexts v w lines step tidy going is polls state =
      let fine = tidy.going going in
      let Q : Step → Type 0 = λ t. Polls v.lines (Ok t) lines in
      let polled : Polls v.lines (Ok End) lines = subst Q is polls in
      let W : Scores R → Type 0 = λ u. Nexts remaining calls has_failed v (given_by None u.stopped) u in
      subst W (sym state)
      (polled-nexts v (record v { lines = lines; stopped = Some (Ok (end_of (record v { lines = lines }))) }) (Ok End) _ going fine polled
      (end_of (record v { lines = lines }), refl) refl refl (λ all rows rest h end.
      let next = polled.gives fine all h.given rest h.holds end in
      text-ended v (record v { lines = lines }) all rows _ rest h refl next.2 next.0 next.1))

  -- The lines have a fault.
  pub fault-nexts : (v : Scores R) (lines : Reader R) (f : TextFault) (given : ℕ) (stopped : Option (Result EndOf ReadError))
      → IsTidy v.lines v.stopped → v.stopped ≡ None → Polls v.lines (Err f) lines → given ≡ lines.given
      → stopped ≡ Some (stop_by v.stage given f)
      → Nexts remaining calls has_failed v (given_by None stopped) (record v { lines = lines; stopped = stopped })
  fault-nexts v lines f given stopped tidy going polls count told =
      let fine = tidy.going going in
      let W : Option (Result EndOf ReadError) → Type 0 = λ o. Nexts remaining calls has_failed v (given_by None o) (record v { lines = lines; stopped = o }) in
      subst W (sym told)
      (polled-nexts v (record v { lines = lines; stopped = Some (stop_by v.stage given f) }) (Err f) (answer_of (stop_by v.stage given f))
      going fine polls (meets-stop v.stage given f) refl (stop-answer (stop_by v.stage given f)) (λ all rows rest h end.
      text-stopped v all rows _ f (answer_of (stop_by v.stage given f)) given _ h (count ∙ ap (λ l. l.given) polls.err) refl
      (polls.gives fine all h.given rest h.holds end)))

  -- It has stopped before.
  pub stopped-nexts : (v : Scores R) → true ≡ is_some v.stopped → Nexts remaining calls has_failed v (given_by None v.stopped) v
  stopped-nexts = grind (arith, common_steps)
