-- A score that is read as a stage of a plan.
use Rattle.std.specs.Prelude.{◌≡◌, ℕ, ◌+◌, ◌≤◌, Bool, true, ◌||◌, nat_lt, if◌then◌else◌, List, [], ◌++◌, length, take}
use Rattle.std.specs.Prelude.{Option, None, Some, is_some, Result, Ok, Err}
use Rattle.std.proofs.Common.{sym, subst, arith, ◌<◌}
use Rattle.hum_score.specs.Row.{Row}
use Rattle.hum_stage.specs.declared.faults.End.{End}
use Rattle.hum_read.specs.declared.ReadError.{ReadError}
use Rattle.hum_read.specs.Denoted.{Score, score_of, end_at}
use Rattle.hum_read.specs.Reading.{Scores, HasRead}
use Rattle.hum_turns.specs.Plan.{Bytes, Nothing}
use Rattle.hum_nodes.specs.Doing.{Done}
use Rattle.hum_nodes.specs.Settled.{score_so_far}
use Rattle.hum_nodes.specs.At.{Kind, At, doing_of}
use Rattle.hum_nodes.specs.Polls.{most_bytes}

-- whether the end of the bytes was read too, which counts as one more
abbrev pub is_ended : List ℕ → ℕ → Bool
is_ended all read = nat_lt (length all) read

-- What has settled once so many bytes were read: with their end, all that they denote.
abbrev pub settled_at : List ℕ → ℕ → Score
settled_at all read =
    if is_ended all read then score_of all else score_so_far (take read all)

-- It reads until the end or a fault.
abbrev pub is_done : List ℕ → ℕ → Bool
is_done all read = is_ended all read || is_some (settled_at all read).fault

-- The stage of this number, which reads these bytes.
abbrev pub reading : ℕ → List ℕ → Kind
reading number all = record {
  stage = record {
    sources = [];
    bytes = length all + 1;
    output = λ read inputs. (settled_at all read).rows;
    wants = λ read inputs. if is_done all read then Nothing else Bytes;
    own = λ read inputs. end_at number (settled_at all read).fault;
  };
  holds = λ inputs given. 0;
  waits = λ inputs given. [];
  one_each = true;
}

-- as many bytes as a reader can have seen
abbrev pub most_seen : ℕ
most_seen = 2199023321088

-- What a reader has read and given: of the bytes so far it has given these records, however they go
-- on; the end of the bytes counts as one more.
pub record HasGiven {R : Type 0} (v : Scores R) (all rest : List ℕ) (t : At) : Type 0 where
  pub rows : List Row
  pub seen : List ℕ
  pub whole : all ≡ seen ++ rest
  pub few : length seen ≤ most_seen
  pub has : (more : List ℕ) → (v.lines.ended ≡ true → more ≡ [])
      → HasRead v (seen ++ more) rows more
  pub over : v.lines.ended ≡ true → rest ≡ []
  pub read : t.read ≡ (if v.lines.ended then length seen + 1 else length seen)
  pub given : t.given ≡ length rows

-- A reader that has told its end tells it again; one that has failed stands for nothing.
abbrev pub StandsBy : Option (Result End ReadError) → Type 0 → At → Type 0
StandsBy None Going t = Going
StandsBy (Some (Ok end)) Going t = doing_of t ≡ Done end
StandsBy (Some (Err error)) Going t = ⊥

-- Where `rest` is still to come, the node stands for what was read and given of all bytes.
pub record IsReading {R : Type 0} (v : Scores R) (rest : List ℕ) (t : At) : Type 0 where
  pub all : List ℕ
  pub kind : t.kind ≡ reading v.stage all
  pub inputs : t.inputs ≡ []
  pub few : t.read ≤ most_bytes
  pub stands : StandsBy v.stopped (HasGiven v all rest t) t

above : (n : ℕ) → 0 < n + 1
above n = omega arith

-- It reads the end of the bytes at least.
pub some_read : {R : Type 0} (v : Scores R) (rest : List ℕ) (t : At) → IsReading v rest t
    → 0 < t.kind.stage.bytes
some_read v rest t h = subst (λ (k : Kind). 0 < k.stage.bytes) (sym h.kind) (above (length h.all))
