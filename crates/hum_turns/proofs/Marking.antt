-- A source's turn gives a record, sets the end, or reads on.
use Rattle.std.proofs.lemmas.Grind.{common_steps}
use Rattle.std.proofs.lemmas.Bool.Decides.{nat_tests}
use Rattle.std.proofs.Common.{◌≡◌, ℕ, ◌+◌, ◌<◌, inl, inr, true, length}
use Rattle.std.proofs.Common.{refl, ap, ⊎_elim, arith}
use Rattle.std.specs.Prelude.{is_some}
use Rattle.hum_turns.specs.Plan.{Plan, IsPlan}
use Rattle.hum_turns.specs.Links.{Link, Moment, given}
use Rattle.hum_turns.specs.Turns.{State, Gives, Reads, Takes, Ends, state, is_source, pushed, HasRead, Does}
use Rattle.hum_turns.specs.Turns.{Turns}
use Rattle.hum_turns.specs.Marking.{HasReadOn, GivesOrMarks, EverySourceMarks}
use Rattle.hum_turns.proofs.States.{source_takes}

-- a record more
pushed_more : {R : Type 0} (l : Link R) (x : R) → length (given (pushed l x)) ≡ length (given l) + 1
pushed_more = grind (arith, common_steps)

module _ {R : Type 0} (plan : Plan R) (ok : IsPlan plan) (k : ℕ) (src : is_source plan k ≡ true) where
  -- what is done where it doesn't read
  does_mark : (s : State) (old new : Moment R) → state plan old k ≡ s → (s ≡ Reads → ⊥)
      → Does plan k s old new → GivesOrMarks plan k old new
  does_mark = grind (arith, nat_tests, pushed_more, source_takes)

  -- bytes are read, and what follows is left to the next turn
  read_on : (old between new : Moment R) → state plan old k ≡ Reads
      → (r : HasRead plan k old between) → r.upto < (plan.stage k).bytes → new k ≡ between k
      → HasReadOn plan k old new
  read_on = grind (arith, nat_tests)

  -- the end of the bytes is read, and something is done
  read_mark : (old between new : Moment R) → state plan old k ≡ Reads
      → (r : HasRead plan k old between) → (old k).read + 1 ≡ (plan.stage k).bytes
      → (s : State) → state plan between k ≡ s
      → Does plan k s between new → GivesOrMarks plan k old new
  read_mark old between new e r last Gives is d = grind (arith, common_steps)
  read_mark old between new e r last Reads is d = grind (arith, nat_tests)
  read_mark old between new e r last (Takes s) is d = absurd (source_takes plan ok between k s src is)
  read_mark old between new e r last Ends is d = inl (inr (ap (λ (l : Link R). is_some l.mark) d.here), inr last)

  turns_mark : (s : State) (old new : Moment R) → state plan old k ≡ s → Turns plan k s old new
      → GivesOrMarks plan k old new
  turns_mark Gives old new e t = does_mark Gives old new e (λ r. cc) t
  turns_mark (Takes s) old new e t = absurd (source_takes plan ok old k s src e)
  turns_mark Ends old new e t = does_mark Ends old new e (λ r. cc) t
  turns_mark Reads old new e t =
      ⊎_elim
      (λ stays. inr (read_on old t.between new e t.reads stays.0 (stays.1 k)))
      (λ does. read_mark old t.between new e t.reads does.0 (state plan t.between k) refl does.1)
      t.does

pub every_source_marks : {R : Type 0} → EverySourceMarks R
every_source_marks = grind (arith, nat_tests, turns_mark)
