-- Runs of a bundle that is read and of a plan that is read from a file: what they write, and how they end.
use Rattle.std.specs.Prelude.{◌≡◌, ℕ, ◌+◌, ◌≤◌, Bool, true, ◌||◌, List, length, nat_lt, Option, false}
use Rattle.hum_text.specs.declared.calls.Sink.{Ghosts as Sink}
use Rattle.hum_words.specs.Bundle.{largest, plan_of, score_of}
use Rattle.hum_words.specs.declared.text.TheConstants.{LONGEST_PLAN}
use Rattle.hum_turns.specs.Orders.{Order}
use Rattle.hum_net.specs.declared.outcome.Outcome.{Outcome}
use Rattle.hum_net.specs.Bundles.{Comes, ComesOfBundle, Picks, Ends, MayCome, Drives}
use Rattle.hum_net.specs.Bundles.{is_refused, is_failed_write, is_read_by}
use Rattle.hum_program.specs.Reads.{AreRead, AreReadOf}
use Rattle.hum_program.specs.declared.ending.Ending.{Ending}
use Rattle.hum_program.specs.declared.ending.Ending.TheVariants as ending

-- A failed write or flush is told exactly where one set the writer's mark; it is flushed once at most; and where
-- nothing was run it is as it was.
pub record HasServed {W : Type 0} (sink : Sink W) (old new : W) (is : Outcome) : Type 0 where
  pub marked : sink.failed new ≡ (sink.failed old || is_failed_write is)
  pub flushes : sink.flushes new ≤ sink.flushes old + 1
  pub refused : is_refused is ≡ true → new ≡ old

module _ {O W : Type 0} (order : Order O) (link : ℕ) (sink : Sink W) (before after : O) (old new : W) where
  -- What was read of the input was run as a bundle, in the turns that the order picked, over links of this size.
  pub record RanBundle (input : Option (List ℕ)) (is : Outcome) : Type 0 where
    pub bundle : List ℕ
    pub read : AreRead largest input bundle
    pub comes : ComesOfBundle (nat_lt largest (length bundle)) (plan_of bundle) (λ name. score_of name bundle)
        (sink.contents old) (sink.contents new) (sink.flushed new) is
    pub picked : Picks order (plan_of bundle) (λ name. score_of name bundle) link before after is
    pub ended : Ends order (plan_of bundle) (λ name. score_of name bundle) link before after
        (sink.contents old) (sink.contents new) is
    pub unread : (k : ℕ) → is_read_by k is ≡ false
    pub served : HasServed sink old new is

  -- Where it is known which files there are, what was read of the one of this name was run as a plan over them.
  pub record RanPlan (known : Bool) (file : List ℕ → Option (List ℕ)) (name : List ℕ) (is : Outcome) : Type 0 where
    pub plan : List ℕ
    pub read : known ≡ true → AreReadOf LONGEST_PLAN (file name) plan
    pub comes : known ≡ true → Comes plan file (sink.contents old) (sink.contents new) (sink.flushed new) is
    pub picked : known ≡ true → Picks order plan file link before after is
    pub ended : known ≡ true → Ends order plan file link before after (sink.contents old) (sink.contents new) is
    -- and elsewhere some plan over what its readers gave
    pub may : MayCome plan is
    pub drives : Drives order plan link before after (sink.contents old) (sink.contents new) is
    pub served : HasServed sink old new is

  -- Something was run, or nothing: it couldn't be read, or memory ran out before it was.
  abbrev pub RanOr : (Outcome → Type 0) → Ending → Type 0
  RanOr Ran (ending.Outcome is) = Ran is
  RanOr Ran ending.Usage = ⊥
  RanOr Ran ending.CannotRead = (new ≡ old) × (after ≡ before)
  RanOr Ran ending.Memory = (new ≡ old) × (after ≡ before)
