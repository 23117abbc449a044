-- What each way does of the function that reads where no LF is pending.
use Rattle.std.proofs.lemmas.Grind.{common_steps}
use Rattle.std.proofs.lemmas.Bool.Decides.{nat_tests}
use Rattle.std.proofs.Common.{◌≡◌, ◌≢◌, ℕ, ◌+◌, ◌<◌, ◌≤◌, Bool, true, false, ◌⊎◌, List, [], ◌++◌, length}
use Rattle.std.proofs.Common.{drop, append-nil}
use Rattle.std.proofs.Common.{subst, arith, Option, Some, Result, Ok, Err, append_assoc, length-append}
use Rattle.std.specs.Io.KnownBytes.{Consumes, IsAtEnd, Keeps}
use Rattle.hum_text.specs.declared.TextFault.{TextFault}
use Rattle.hum_text.specs.declared.TextFault.TheVariants.{Read, Memory}
use Rattle.hum_text.specs.declared.calls.TheConstants.{LARGEST_READ}
use Rattle.hum_text.specs.declared.reader.Step.{Step}
use Rattle.hum_text.specs.declared.reader.Step.TheVariants.{More}
use Rattle.hum_text.specs.Calls.{IsCalled}
use Rattle.hum_text.specs.Reading.{Reader, NeedsRead, GoesUnread, GoesReading}
use Rattle.hum_text.proofs.ReadingLemmas.{nil-of}

in-limit : (n t b : ℕ) → (0 < n → t + n ≤ b) → n ≤ b
in-limit = grind (arith, nat_tests)

read-behind : (xs bs : List ℕ) → drop (length xs) (xs ++ bs) ≡ bs
read-behind = grind (arith, common_steps)

module _ {R : Type 0} (remaining : R → Option (List ℕ)) (calls : R → ℕ) (failed : R → Bool) where
  -- the same of a reader that is given as another one
  pub same-reading : (u v w : Reader R) (r : Result Step TextFault) → u ≡ v → GoesReading remaining calls failed u r w
      → GoesReading remaining calls failed v r w
  same-reading u v w r same = subst (λ x. GoesReading remaining calls failed x r w) same

  -- no read was needed, and none was made
  pub unread-reading : (v w : Reader R) (r : Result Step TextFault) → v.ended ≡ false → ¬ NeedsRead v → GoesUnread v r w
      → GoesReading remaining calls failed v r w
  unread-reading = grind (arith, nat_tests)

  more : (u : Reader R) (source : R) (line bs : List ℕ) (n : ℕ) → NeedsRead u
      → (0 < length u.pending → u.taken + length u.pending ≤ u.limits.bytes) → u.taken ≤ u.limits.bytes
      → line ≡ [] → length bs ≡ n → n ≢ 0 → n ≤ LARGEST_READ
      → Consumes (remaining u.source) (remaining source) bs → IsCalled calls failed u.source source false
      → GoesReading remaining calls failed u (Ok More) (record u { source = source; line = line; pending = u.pending ++ bs })
  more = grind (arith, nat_tests, read-behind, in-limit, append_assoc, length-append)

  -- bytes were read
  pub more-reading : (u : Reader R) (source : R) (line pending bs : List ℕ) (n : ℕ) → pending ≡ u.pending ++ bs → NeedsRead u
      → (0 < length u.pending → u.taken + length u.pending ≤ u.limits.bytes) → u.taken ≤ u.limits.bytes
      → line ≡ [] → length bs ≡ n → n ≢ 0 → n ≤ LARGEST_READ
      → Consumes (remaining u.source) (remaining source) bs → IsCalled calls failed u.source source false
      → GoesReading remaining calls failed u (Ok More) (record u { source = source; line = line; pending = pending })
  more-reading u source line pending bs n behind needs room bytes bare size some most given called =
      grind (arith, nat_tests, more u source line bs n needs room bytes bare size some most given called)

  ended : (u w : Reader R) (r : Result Step TextFault) (source : R) (line : List ℕ) → NeedsRead u
      → Consumes (remaining u.source) (remaining source) [] → IsAtEnd (remaining source) → IsCalled calls failed u.source source false
      → GoesUnread (record u { source = source; line = line; ended = true }) r w
      → GoesReading remaining calls failed u r w
  ended = grind (arith, nat_tests)

  -- a read gave no byte, and what is left was looked at
  pub end-reading : (u w : Reader R) (r : Result Step TextFault) (source : R) (line pending bs : List ℕ) (n : ℕ)
      → pending ≡ u.pending ++ bs → length bs ≡ n → n ≡ 0 → NeedsRead u
      → Consumes (remaining u.source) (remaining source) bs → IsAtEnd (remaining source) → IsCalled calls failed u.source source false
      → GoesUnread (record u { source = source; line = line; pending = pending; ended = true }) r w
      → GoesReading remaining calls failed u r w
  end-reading = grind (arith, nat_tests, nil-of, append-nil, ended)

  -- a read failed, or there was no memory for it
  pub fault-reading : (u w : Reader R) (r : Result Step TextFault) (f : TextFault) (source : R) (line pending : List ℕ) → pending ≡ u.pending → NeedsRead u
      → u.taken ≤ u.limits.bytes → Keeps (remaining u.source) (remaining source)
      → ((f ≡ Memory) × (source ≡ u.source)) ⊎ ((f ≡ Read) × IsCalled calls failed u.source source true)
      → r ≡ Err f → w ≡ record u { source = source; line = line; pending = pending; fault = Some f }
      → GoesReading remaining calls failed u r w
  fault-reading = grind (arith, common_steps)
