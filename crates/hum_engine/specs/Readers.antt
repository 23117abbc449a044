-- What the sources of a net show, each by its number.
use Rattle.std.specs.Prelude.{◌≡◌, ℕ, ◌+◌, Bool, true, false, nat_eq, List, Option, None, Some, slice_get}
use Rattle.hum_turns.specs.declared.result.RunResult.{RunResult}
use Rattle.hum_turns.specs.declared.result.RunResult.TheVariants as ends
use Rattle.hum_text.specs.declared.calls.Source.{Ghosts as Source}
use Rattle.hum_nodes.specs.declared.node.Node.{Node}
use Rattle.hum_nodes.specs.Nodes.{remaining_of, ended_of, calls_of, failed_of}
use Rattle.hum_nodes.specs.Polls.{HasRead, HasStayed, AsksAtMostOnce}

abbrev pub or_none : {A B : Type 0} → B → (A → B) → Option A → B
or_none none f None = none
or_none none f (Some x) = f x

-- the bytes that it still has, where they are known
abbrev pub remaining_at : {S R : Type 0} → Source R → ℕ → List (Node S R) → Option (List ℕ)
remaining_at reader k nodes = or_none None (remaining_of reader.remaining) (slice_get nodes k)

-- whether it has read the end of its bytes
abbrev pub ended_at : {S R : Type 0} → ℕ → List (Node S R) → Bool
ended_at k nodes = or_none false ended_of (slice_get nodes k)

-- how many calls were made on its reader
abbrev pub calls_at : {S R : Type 0} → Source R → ℕ → List (Node S R) → ℕ
calls_at reader k nodes = or_none 0 (calls_of reader.calls) (slice_get nodes k)

-- whether a call on its reader failed
abbrev pub failed_at : {S R : Type 0} → Source R → ℕ → List (Node S R) → Bool
failed_at reader k nodes = or_none false (failed_of reader.failed) (slice_get nodes k)

-- Each source has read these bytes.
abbrev pub HaveRead : {S R : Type 0} → Source R → List (Node S R) → List (Node S R) → (ℕ → List ℕ) → Type 0
HaveRead reader old new reads =
    (i : ℕ)
    → HasRead (ended_at i old) (ended_at i new) (remaining_at reader i old) (remaining_at reader i new) (reads i)

-- This one has read no byte.
abbrev pub HasReadNone : {S R : Type 0} → Source R → ℕ → List (Node S R) → List (Node S R) → Type 0
HasReadNone reader k old new =
    HasStayed (ended_at k old) (ended_at k new) (remaining_at reader k old) (remaining_at reader k new)

-- Its reader was called once at most.
abbrev pub AsksOnce : {S R : Type 0} → Source R → ℕ → List (Node S R) → List (Node S R) → Type 0
AsksOnce reader k old new =
    AsksAtMostOnce (calls_at reader k old) (failed_at reader k old) (calls_at reader k new) (failed_at reader k new)

-- A source shows what it showed.
pub record ShowsSame {S R : Type 0} (reader : Source R) (old new : List (Node S R)) (k : ℕ) : Type 0 where
  pub remains : remaining_at reader k new ≡ remaining_at reader k old
  pub ends : ended_at k new ≡ ended_at k old
  pub calls_made : calls_at reader k new ≡ calls_at reader k old
  pub mark : failed_at reader k new ≡ failed_at reader k old

-- a failed read of this source has ended the run
abbrev pub is_read_of : ℕ → Option RunResult → Bool
is_read_of k (Some (ends.Read n)) = nat_eq n (k + 1)
is_read_of k (Some ends.Finished) = false
is_read_of k (Some (ends.Fault f)) = false
is_read_of k (Some ends.Write) = false
is_read_of k (Some ends.Memory) = false
is_read_of k None = false

-- a failed write or flush has ended it
abbrev pub is_write : Option RunResult → Bool
is_write (Some ends.Write) = true
is_write (Some (ends.Read n)) = false
is_write (Some ends.Finished) = false
is_write (Some (ends.Fault f)) = false
is_write (Some ends.Memory) = false
is_write None = false
