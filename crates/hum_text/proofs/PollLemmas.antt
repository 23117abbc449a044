-- What a poll says of each way through it.
use Rattle.std.proofs.lemmas.Grind.{common_steps}
use Rattle.std.proofs.lemmas.Bool.Decides.{nat_tests}
use Rattle.std.proofs.Common.{◌≡◌, ◌≢◌, ℕ, ◌≤◌, Bool, true, false, ◌⊎◌, inr, List, [], length}
use Rattle.std.proofs.Common.{sym, ◌∙◌, subst, arith, Option, None, Some, Result, Ok, Err}
use Rattle.std.proofs.lemmas.Bool.{eqb-true}
use Rattle.std.specs.Prelude.{IfOk, IfErr, OnOk, IfSome}
use Rattle.std.specs.Io.KnownBytes.{Consumes, IsAtEnd}
use Rattle.memchr.specs.Find.{IsFirstByte, is_byte}
use Rattle.hum_text.specs.declared.TextFault.{TextFault}
use Rattle.hum_text.specs.declared.TextFault.TheVariants.{Read, Memory}
use Rattle.hum_text.specs.declared.calls.TheConstants.{LARGEST_READ}
use Rattle.hum_text.specs.declared.reader.Step.{Step}
use Rattle.hum_text.specs.declared.reader.Step.TheVariants.{Line, More, End}
use Rattle.hum_text.specs.Reading.{Reader, GivesNext, GivesLine, IsUnread, IsFed, IsOver, NeedsRead, ReadsOnce, KeepsLimits}
use Rattle.hum_text.specs.Reading.{Fails, Nears, left_to_do, GoesUnread, GoesReading, bytes_read}

-- a pending LF makes a read needless, and it is not the end
pub lf-needless : {R : Type 0} (v : Reader R) (k : ℕ) → IsFirstByte (is_byte 10) v.pending (Some k) → ¬ NeedsRead v
lf-needless v k first needs = needs.unended k first.0.high (eqb-true _ 10 first.1)

pub lf-going : {R : Type 0} (v : Reader R) (k : ℕ) → IsFirstByte (is_byte 10) v.pending (Some k) → IsOver v → ⊥
lf-going = grind (arith, nat_tests)

pub ended-needless : {R : Type 0} (v : Reader R) → v.ended ≡ true → ¬ NeedsRead v
ended-needless v ended needs = let both : true ≡ false = sym ended ∙ needs.going in cc

module _ {R : Type 0} (remaining : R → Option (List ℕ)) (calls : R → ℕ) (failed : R → Bool) where
  -- the clauses of a poll, in their order
  abbrev pub Polls : Reader R → Result Step TextFault → Reader R → Type 0
  Polls old result new = record {
    gives : old.fault ≡ None → GivesNext old result new;
    reads_not : ¬ NeedsRead old → IsUnread old new;
    reads_once : NeedsRead old → ReadsOnce calls failed old result new;
    more : result ≡ Ok More → IsFed old new;
    unfed : result ≢ Ok More → bytes_read old new ≡ [];
    asked : length (bytes_read old new) ≤ LARGEST_READ;
    consumes : Consumes (remaining old.source) (remaining new.source) (bytes_read old new);
    at_end : new.ended ≡ true → (old.ended ≡ true) ⊎ IsAtEnd (remaining new.source);
    failed : result ≡ Err Read → (old.fault ≡ Some Read) ⊎ (failed new.source ≡ true);
    memory : result ≡ Err Memory → (old.fault ≡ Some Memory) ⊎ NeedsRead old;
    within : IfOk result (λ step. KeepsLimits old.limits step new.line new.given);
    end : result ≡ Ok End → IsOver new;
    over : IsOver old → (result ≡ Ok End) × (new ≡ old);
    no_fault : OnOk result (new.fault ≡ None);
    err : IfErr result (Fails old new);
    again : IfSome old.fault (λ f. (result ≡ Err f) × (new ≡ old));
    nears : IfOk result (λ step. Nears step (left_to_do old) (left_to_do new));
    limits : new.limits ≡ old.limits;
    taken : new.taken ≤ new.limits.bytes;
  }

  -- without a fault nothing is said of one that is given again
  no-fault-again : (v w : Reader R) (r : Result Step TextFault) → v.fault ≡ None → IfSome v.fault (λ f. (r ≡ Err f) × (w ≡ v))
  no-fault-again v w r no_fault = subst (λ o. IfSome o (λ f. (r ≡ Err f) × (w ≡ v))) (sym no_fault) tt

  -- it was made of what was pending
  pub unread-polls : (v w : Reader R) (r : Result Step TextFault) → v.fault ≡ None → ¬ NeedsRead v
      → (IsOver v → (r ≡ Ok End) × (w ≡ v)) → GoesUnread v r w → Polls v r w
  unread-polls = grind (arith, nat_tests)

  -- the next line was handed out
  pub line-polls : (v w : Reader R) → v.fault ≡ None → GivesLine v w → Polls v (Ok Line) w
  line-polls = grind (arith, nat_tests)

  -- it was made where no LF was pending
  pub reading-polls : (v w : Reader R) (r : Result Step TextFault) → v.fault ≡ None → v.ended ≡ false
      → GoesReading remaining calls failed v r w → Polls v r w
  reading-polls v w r no_fault going reading =
      let goes = reading.goes in
      record {
        gives = λ _. goes.gives;
        reads_not = reading.reads_not;
        reads_once = reading.reads_once;
        more = reading.more;
        unfed = reading.unfed;
        asked = reading.asked;
        consumes = reading.consumes;
        at_end = λ is. inr (reading.at_end is);
        failed = λ same. inr (reading.failed_read same);
        memory = λ same. inr (reading.memory same);
        within = goes.within;
        end = goes.end;
        over = λ is. let both : true ≡ false = sym is.ended ∙ going in absurd cc;
        no_fault = goes.no_fault;
        err = goes.err;
        again = no-fault-again v w r no_fault;
        nears = goes.nears;
        limits = goes.limits;
        taken = goes.taken;
      }

  -- a fault is given again
  pub fault-polls : (v : Reader R) (f : TextFault) → v.fault ≡ Some f → v.taken ≤ v.limits.bytes → Polls v (Err f) v
  fault-polls = grind (arith, common_steps)
