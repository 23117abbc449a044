-- Cases that were read and answered, one after another.
use Rattle.std.specs.Prelude.{◌≡◌, ◌⊎◌, ℕ, false, true, List, [], Result, Ok, Err}
use Rattle.std.specs.List.{concat}
use Rattle.std.specs.Io.KnownBytes.{Appends}
use Rattle.hum_text.specs.declared.calls.Source.{Ghosts as Source}
use Rattle.hum_text.specs.declared.calls.Sink.{Ghosts as Sink}
use Rattle.hum_packets.specs.declared.stop.Stop.{Stop}
use Rattle.hum_packets.specs.declared.stop.Stop.TheVariants as stop
use Rattle.hum_packets.specs.Lists.{Chain}
use Rattle.hum_packets.specs.Streams.{Reading, Writing, Took, Serves, HasFailed, coming, going}
use Rattle.hum_many.specs.Cases.{Named, IsCase, EndsHere, LostCase}
use Rattle.hum_many.specs.Answers.{AnswerEach}
use Rattle.hum_many.specs.Ends.{end_of, is_write_end}
use Rattle.hum_many.specs.Many.{ManyCome}
use Rattle.hum_many.specs.declared.end.ManyEnd.{ManyEnd}
use Rattle.hum_many.specs.declared.end.ManyEnd.TheVariants.{Write}

module _ {R W : Type 0} (source : Source R) (sink : Sink W) where
  -- Cases were read, and each was answered.
  pub record Talked (plan : List ℕ) (old new : Reading R) (before after : Writing W) : Type 0 where
    pub cases : List (List Named)
    pub took : Took source (Chain IsCase cases) old new
    pub answers : List (List ℕ)
    pub each : AnswerEach plan cases answers
    pub wrote : Appends (going sink before) (going sink after) (concat answers)

  -- So it was to the end of the input, or up to a case that can't be read or answered.
  pub record TalkedToEnd (plan : List ℕ) (old : Reading R) (before after : Writing W) : Type 0 where
    pub last : Reading R
    pub talked : Talked plan old last before after
    pub ends : EndsHere source last

  pub record TalkedTo (plan : List ℕ) (old : Reading R) (before after : Writing W) (stop : Stop) : Type 0 where
    pub last : Reading R
    pub talked : Talked plan old last before after
    pub lost : LostCase source last stop

  -- what comes of all that is still to be read, whether it ends or stops
  abbrev pub AllCome : Reading R → Writing W → Writing W → Result ManyEnd Stop → Type 0
  AllCome old before after (Ok is) = ManyCome (coming source old) (going sink before) (going sink after) is
  AllCome old before after (Err stop) = ManyCome (coming source old) (going sink before) (going sink after) (end_of stop)

-- A stop for a failed read has one.
abbrev pub ReadFails : {R : Type 0} → Source R → Stop → Type 0
ReadFails source (stop.Broken at) = Unit {0}
ReadFails source stop.Read = HasFailed source
ReadFails source stop.Write = Unit {0}
ReadFails source stop.Memory = Unit {0}

module _ {W : Type 0} (sink : Sink W) where
  -- What waited was written, where no write failed before; a write may have failed now.
  pub record HasSent (old new : Writing W) : Type 0 where
    pub serves : Serves sink old new false
    pub sent : new.waiting ≡ []

  abbrev pub HasClosed : Writing W → Writing W → ManyEnd → ManyEnd → Type 0
  HasClosed old new end is =
      (HasSent old new × (is ≡ end) × (is_write_end end ≡ false))
      ⊎ ((is ≡ Write) × Serves sink old new true × (is_write_end end ≡ false))
      ⊎ ((is ≡ Write) × (end ≡ Write) × (new ≡ old))
