-- What reading and writing do to a source and to a sink.
use Rattle.std.specs.Prelude.{◌≡◌, ℕ, ◌+◌, ◌-◌, ◌^◌, ◌<◌, min, max, Bool, true, false, ◌||◌, nat_le}
use Rattle.std.specs.Prelude.{List, ◌++◌, length, take, Option, None, Some, Result, Ok, Err}
use Rattle.std.specs.Io.KnownBytes.{Consumes, Appends, Keeps, prepend_known, append_known}
use Rattle.hum_text.specs.declared.calls.Source.{Ghosts as Source}
use Rattle.hum_text.specs.declared.calls.Sink.{Ghosts as Sink}
use Rattle.hum_packets.specs.declared.stop.Stop.{Stop}
use Rattle.hum_packets.specs.declared.stop.Stop.TheVariants.{Broken, Read, Write, Memory}
use Rattle.hum_packets.specs.Packets.{list_of}
use Rattle.hum_packets.specs.Lists.{IsCut}

-- Packets, as contracts see them: where they are read from, the data of the last, what was read and not handed out,
-- and how many bytes were handed out.
pub record Reading (R : Type 0) : Type 0 where
  pub source : R
  pub last : List ℕ
  pub pending : List ℕ
  pub passed : ℕ

-- Answers: where they are written to, and those that wait.
pub record Writing (W : Type 0) : Type 0 where
  pub sink : W
  pub waiting : List ℕ

-- a number that grows up to the greatest u64
abbrev pub further : ℕ → ℕ → ℕ
further n more = max n (min (n + more) (2 ^ 64 - 1))

-- the bytes, where they are known
abbrev pub Is : Option (List ℕ) → List ℕ → Type 0
Is None bytes = Unit {0}
Is (Some all) bytes = all ≡ bytes

-- bytes in front of them
abbrev pub IsFront : Option (List ℕ) → List ℕ → Type 0
IsFront None part = Unit {0}
IsFront (Some all) part = (rest : List ℕ) × (all ≡ part ++ rest)

-- more bytes stand behind them
abbrev pub Grows : Option (List ℕ) → Option (List ℕ) → Type 0
Grows old new = (part : List ℕ) × Appends old new part

-- whether it was a write that failed
abbrev pub is_write : {A : Type 0} → Result A Stop → Bool
is_write (Ok x) = false
is_write (Err (Broken at)) = false
is_write (Err Read) = false
is_write (Err Write) = true
is_write (Err Memory) = false

module _ {R : Type 0} (source : Source R) where
  -- what is still to be handed out
  abbrev pub coming : Reading R → Option (List ℕ)
  coming r = prepend_known r.pending (source.remaining r.source)

  -- Some bytes were handed out, of which this holds, whatever stands behind them.
  pub record Took (Step : List ℕ → List ℕ → Type 0) (old new : Reading R) : Type 0 where
    pub piece : List ℕ
    pub steps : (rest : List ℕ) → Step (piece ++ rest) rest
    pub consumes : Consumes (coming old) (coming new) piece
    pub counts : new.passed ≡ further old.passed (length piece)
    pub ahead : 0 < length old.pending → 0 < length piece + length new.pending

  -- Reading has stopped at a byte that is no packet's.
  pub record Breaks (Step : List ℕ → List ℕ → Type 0) (old : Reading R) (at : ℕ) : Type 0 where
    pub before : List ℕ
    pub behind : List ℕ
    pub is : Is (coming old) (before ++ behind)
    pub steps : Step (before ++ behind) behind
    pub counts : at ≡ further old.passed (length before)
    pub ahead : 0 < length old.pending → 0 < length (before ++ behind)

  -- A read of the source has failed.
  abbrev pub HasFailed : Type 0
  HasFailed = (reader : R) × (source.failed reader ≡ true)

  -- So it has: of what was read no more is a packet.
  pub record Ceases (Step : List ℕ → List ℕ → Type 0) (old : Reading R) : Type 0 where
    pub part : List ℕ
    pub behind : List ℕ
    pub is : IsFront (coming old) part
    pub steps : Step part behind
    pub failed : HasFailed

  -- what an error says of the bytes
  abbrev pub Lost : (List ℕ → List ℕ → Type 0) → Reading R → Stop → Type 0
  Lost Step old (Broken at) = Breaks Step old at
  Lost Step old Read = Ceases Step old
  Lost Step old Write = Unit {0}
  Lost Step old Memory = Unit {0}

-- A text and what is told of it were answered: two lists.
pub record IsAnswer (text told answer : List ℕ) : Type 0 where
  pub texts : List (List ℕ)
  pub ends : List (List ℕ)
  pub cut : IsCut text texts
  pub ended : IsCut told ends
  pub is : answer ≡ list_of texts ++ list_of ends

module _ {W : Type 0} (sink : Sink W) where
  -- what is written, and then those that wait
  abbrev pub going : Writing W → Option (List ℕ)
  going w = append_known (sink.contents w.sink) w.waiting

  -- The sink has what it had, and maybe more; a write has failed or not.
  pub record Hands (old new : Writing W) (failure : Bool) : Type 0 where
    pub grown : Grows (sink.contents old.sink) (sink.contents new.sink)
    pub marked : sink.failed new.sink ≡ (sink.failed old.sink || failure)

  -- Nothing was answered.
  pub record Serves (old new : Writing W) (failure : Bool) : Type 0 where
    pub kept : Keeps (going old) (going new)
    pub hands : Hands old new failure

  pub record Answers (text told : List ℕ) (old new : Writing W) : Type 0 where
    pub answer : List ℕ
    pub is : IsAnswer text told answer
    pub wrote : Appends (going old) (going new) answer

  -- ... unless memory has run out
  abbrev pub HasAnswered : List ℕ → List ℕ → Writing W → Writing W → Result (Unit {0}) Stop → Type 0
  HasAnswered text told old new (Ok x) = Answers text told old new
  HasAnswered text told old new (Err (Broken at)) = ⊥
  HasAnswered text told old new (Err Read) = ⊥
  HasAnswered text told old new (Err Write) = Answers text told old new
  HasAnswered text told old new (Err Memory) = Keeps (going old) (going new)

-- The first so many bytes are held, and it is known whether that is all.
pub record Holds (most : ℕ) (all held : List ℕ) (is_whole : Bool) : Type 0 where
  pub is : held ≡ take most all
  pub whole : is_whole ≡ nat_le (length all) most
