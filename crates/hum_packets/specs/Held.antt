-- What is read ahead, and what is handed out of it.
use Rattle.std.specs.Prelude.{◌≡◌, ℕ, ◌<◌, ◌≤◌, Bool, true, false, List, [], ◌++◌, length, Some, Result, Ok, Err}
use Rattle.std.specs.Io.KnownBytes.{Keeps}
use Rattle.hum_text.specs.declared.calls.Source.{Ghosts as Source}
use Rattle.hum_packets.specs.declared.stop.Stop.{Stop}
use Rattle.hum_packets.specs.declared.stop.Stop.TheVariants.{Broken, Read, Write, Memory}
use Rattle.hum_packets.specs.Packets.{size_at}
use Rattle.hum_packets.specs.Lists.{IsPacket, IsEnd, Stops}
use Rattle.hum_packets.specs.Streams.{Reading, HasFailed, Ceases, coming, Is, Took}

-- A packet of this size is pending, or the end of a list.
pub record HoldsPacket (pending : List ℕ) (size : ℕ) : Type 0 where
  pub digits : 4 ≤ length pending
  pub says : size_at pending ≡ Some size
  pub whole : size ≤ length pending

module _ {R : Type 0} (source : Source R) where
  -- Bytes were read behind those that were pending, if any, and none was handed out.
  pub record IsFed (old new : Reading R) : Type 0 where
    pub more : List ℕ
    pub behind : new.pending ≡ old.pending ++ more
    pub kept : Keeps (coming source old) (coming source new)
    pub passed : new.passed ≡ old.passed

  -- So many are pending, or there are no more.
  abbrev pub Fed : ℕ → Reading R → Result Bool Stop → Type 0
  Fed len new (Ok true) = len ≤ length new.pending
  Fed len new (Ok false) = (length new.pending < len) × Is (coming source new) new.pending
  Fed len new (Err (Broken at)) = ⊥
  Fed len new (Err Read) = (length new.pending < len) × HasFailed source
  Fed len new (Err Write) = Unit {0}
  Fed len new (Err Memory) = ⊥

  -- The input ends here, or bytes are pending.
  abbrev pub Begins : Bool → Reading R → Type 0
  Begins true new = Is (coming source new) []
  Begins false new = 0 < length new.pending

  -- A read has failed before it was known whether the input ends here, or a write.
  abbrev pub LostAhead : Reading R → Stop → Type 0
  LostAhead old (Broken at) = ⊥
  LostAhead old Read = Ceases source Stops old
  LostAhead old Write = Unit {0}
  LostAhead old Memory = ⊥

  -- A packet was handed out, or the end of a list.
  abbrev pub TookOne : Bool → Reading R → Reading R → Type 0
  TookOne true old new = Took source (IsPacket new.last) old new
  TookOne false old new = Took source IsEnd old new
