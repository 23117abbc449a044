-- A token of one letter, so many times.
use Rattle.std.proofs.lemmas.Bool.Decides.{nat_tests}
use Rattle.std.proofs.Common.{◌≡◌, ℕ, zero, suc, ◌<◌, false, replicate, refl, arith}
use Rattle.std.specs.Prelude.{◌==◌}
use Rattle.std.proofs.lemmas.Bool.{or_from}
use Rattle.hum_score.specs.declared.records.SpinedKind.TheVariants.{Values}
use Rattle.hum_score.specs.Spelling.{IsToken, has_byte}

no_other : (b n : ℕ) → (97 == b) ≡ false → has_byte b (replicate n 97) ≡ false
no_other b zero e = refl
no_other b (suc n) e = or_from _ _ e (no_other b n e)

pub repeated_token : (n : ℕ) → 0 < n → IsToken Values (replicate n 97)
repeated_token = grind (arith, nat_tests, no_other)
