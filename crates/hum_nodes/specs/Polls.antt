-- What one poll of a source does.
use Rattle.std.specs.Prelude.{◌≡◌, ℕ, ◌+◌, ◌<◌, ◌≤◌, ◌⊎◌, Bool, true, false, ◌||◌, List, [], ◌++◌}
use Rattle.std.specs.Prelude.{Option, Some, slice_get, Result, Ok, Err}
use Rattle.hum_read.specs.declared.ReadError.{ReadError}
use Rattle.hum_read.specs.declared.ReadError.TheVariants as error
use Rattle.std.specs.Io.KnownBytes.{Consumes, IsAtEnd}
use Rattle.hum_text.specs.Calls.{counted}
use Rattle.hum_nodes.specs.Doing.{Doing}
use Rattle.hum_nodes.specs.Doing as does
use Rattle.hum_read.specs.Reading.{Polled, Gave, ReadOn, Ended}
use Rattle.hum_nodes.specs.At.{At, bytes_of, doing_of, output_of, after_take, read_to}

-- Without a read it gives the next record that is settled, or tells its end.
abbrev pub GoesOn : At → Polled → (At → Type 0) → Type 0
GoesOn t (Gave row) after =
    (slice_get (output_of t) t.given ≡ Some row) × after (after_take t)
GoesOn t ReadOn after = ⊥
GoesOn t (Ended end) after = (doing_of t ≡ does.Done end) × after t

-- It reads one byte or more, and leaves what these bring to the next poll. Or it has read all and reads their
-- end: then it goes on by what has settled.
pub record Reads (t : At) (polled : Polled) (after : At → Type 0) : Type 0 where
  pub upto : ℕ
  pub more : t.read < upto
  pub within : upto ≤ bytes_of t
  pub goes : ((t.read + 1 ≡ bytes_of t) × GoesOn (read_to upto t) polled after)
      ⊎ ((polled ≡ ReadOn) × (upto < bytes_of t) × after (read_to upto t))

abbrev pub PollsBy : Doing → At → Polled → (At → Type 0) → Type 0
PollsBy does.Reads t polled after = Reads t polled after
PollsBy does.Gives t polled after = GoesOn t polled after
PollsBy (does.Wants place) t polled after = GoesOn t polled after
PollsBy (does.Done end) t polled after = GoesOn t polled after

-- It reads where it is about to read, and else does what it is about to do.
abbrev pub Polls : At → Polled → (At → Type 0) → Type 0
Polls t polled after = PollsBy (doing_of t) t polled after

-- The bytes that a poll has read, and what it does however they go on.
pub record HasPolled (before after : List ℕ → At → Type 0) (was is : Bool)
    (old new : Option (List ℕ)) (polled : Polled) : Type 0 where
  pub read : List ℕ
  pub consumes : Consumes old new read
  pub at_end : is ≡ true → (was ≡ true) ⊎ IsAtEnd new
  pub still : was ≡ true → (read ≡ []) × (is ≡ true)
  pub polls : (rest : List ℕ) (t : At) → (is ≡ true → rest ≡ []) → before (read ++ rest) t
      → Polls t polled (after rest)

-- A poll that failed has read no byte.
pub record HasStayed (was is : Bool) (old new : Option (List ℕ)) : Type 0 where
  pub consumes : Consumes old new []
  pub at_end : is ≡ true → (was ≡ true) ⊎ IsAtEnd new
  pub still : was ≡ true → is ≡ true

-- Where a source tells its bytes, these were read of them, and the rest is left; nothing where their
-- end was read.
pub record IsFront (was is : Bool) (new : Option (List ℕ)) (read all : List ℕ) : Type 0 where
  pub rest : List ℕ
  pub tells : new ≡ Some rest
  pub split : all ≡ read ++ rest
  pub over : is ≡ true → (was ≡ true) ⊎ (rest ≡ [])

-- A source has read these bytes, once or more often; none behind their end.
pub record HasRead (was is : Bool) (old new : Option (List ℕ)) (read : List ℕ) : Type 0 where
  pub front : (all : List ℕ) → old ≡ Some all → IsFront was is new read all
  pub still : was ≡ true → (read ≡ []) × (is ≡ true)

-- How many bytes a source reads at most, their end counted as one: the limit of a text is 2^40 bytes,
-- as many may be handed out and pending, and a read asks for 65,536 at most.
abbrev pub most_bytes : ℕ
most_bytes = 2199023321089

-- No call was made, or one that failed or didn't.
abbrev pub AsksAtMostOnce : ℕ → Bool → ℕ → Bool → Type 0
AsksAtMostOnce calls failed calls_after failed_after =
    ((calls_after ≡ calls) × (failed_after ≡ failed))
    ⊎ ((failure : Bool) × (calls_after ≡ counted calls) × (failed_after ≡ (failed || failure)))

-- whether a read was told to have failed
abbrev pub is_failed_read : {S : Type 0} → Result S ReadError → Bool
is_failed_read (Ok x) = false
is_failed_read (Err error.Read) = true
is_failed_read (Err error.Memory) = false
