-- What a turn makes of a stage, whichever it is.
use Rattle.std.proofs.lemmas.Bool.Decides.{nat_tests}
use Rattle.std.proofs.Common.{◌≡◌, ℕ, ◌+◌, ◌<◌, ◌≤◌, ◌⊎◌, List, Some, slice_get, arith}
use Rattle.std.proofs.Common.{lt-ltb}
use Rattle.std.proofs.lemmas.Bool.{cases_lt, cond-true}
use Rattle.std.proofs.lemmas.Option.{slice_get_within}
use Rattle.hum_score.specs.Row.{Row}
use Rattle.hum_read.specs.Reading.{Polled}
use Rattle.hum_turns.specs.Flow.{Flow}
use Rattle.hum_nodes.specs.Doing.{Doing, Gives, Reads}
use Rattle.hum_nodes.specs.At.{Kind, At, bytes_of, doing_of, output_of, read_to}
use Rattle.hum_nodes.specs.Polls.{GoesOn, PollsBy, Polls}

-- What it stands for, by its parts.
pub at_is : (t : At) {kind : Kind} {inputs : List (Flow Row)} {given : ℕ} → t.kind ≡ kind → t.inputs ≡ inputs
    → t.given ≡ given → t ≡ record { kind = kind; inputs = inputs; read = t.read; given = given }
at_is = grind (arith, nat_tests)

-- It gives where a record follows those given.
pub gives_if : (t : At) (row : Row) → Some row ≡ slice_get (output_of t) t.given → doing_of t ≡ Gives
gives_if = grind (arith, nat_tests, cond-true, lt-ltb, slice_get_within)

reads_or : (d : Doing) → (d ≡ Reads) ⊎ (d ≡ Reads → ⊥)
reads_or d = grind arith

-- What goes on without a read isn't about to read,
not_reads : (t : At) (p : Polled) (after : At → Type 0) → GoesOn t p after → doing_of t ≡ Reads → ⊥
not_reads t p after goes is = grind (arith, gives_if t, goes, is)

by_doing : (d : Doing) (t : At) (p : Polled) (after : At → Type 0) → (d ≡ Reads → ⊥) → GoesOn t p after
    → PollsBy d t p after
by_doing d t p after other goes = grind (arith, other, goes)

-- so a poll that goes on with so many bytes has read their end where they are more than before.
pub polls_goes : (t : At) (r : ℕ) (p : Polled) (after : At → Type 0) → t.read ≤ r → r ≤ bytes_of t
    → ((doing_of t ≡ Reads → ⊥) → t.read ≡ r) → (t.read < r → t.read + 1 ≡ bytes_of t)
    → GoesOn (read_to r t) p after → Polls t p after
polls_goes = grind (arith, nat_tests, reads_or, cases_lt, not_reads, by_doing)

-- What holds of a stage after a poll may be anything that follows from it.

pub polls_as : (t : At) (p : Polled) (after later : At → Type 0) → ((u : At) → after u → later u)
    → Polls t p after → Polls t p later
polls_as = grind (arith, nat_tests)
