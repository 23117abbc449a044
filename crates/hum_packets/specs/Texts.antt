-- Texts that were read and held.
use Rattle.std.specs.Prelude.{ℕ, Bool, List}
use Rattle.hum_text.specs.declared.calls.Source.{Ghosts as Source}
use Rattle.hum_packets.specs.Lists.{IsText}
use Rattle.hum_packets.specs.Streams.{Reading, Took, Holds}

module _ {R : Type 0} (source : Source R) where
  -- A text was read, and its first bytes are held.
  pub record IsHeld (most : ℕ) (old new : Reading R) (held : List ℕ) (is_whole : Bool) : Type 0 where
    pub all : List ℕ
    pub took : Took source (IsText all) old new
    pub holds : Holds most all held is_whole
