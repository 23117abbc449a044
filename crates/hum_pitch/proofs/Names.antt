-- The bytes of an interval's name before its size.
use Rattle.std.proofs.lemmas.Grind.{common_steps}
use Rattle.std.proofs.lemmas.Bool.Decides.{nat_tests}
use Rattle.std.proofs.Common.{◌≡◌, ℕ, zero, suc, ℤ, ◌<◌, Bool, List, [], ◌++◌, arith}
use Rattle.std.specs.Prelude.{replicate, cond, not}
use Rattle.std.specs.List.{AllByRecursion}
use Rattle.hum_pitch.specs.declared.intervals.Direction.{Direction}
use Rattle.hum_pitch.specs.declared.intervals.Quality.{Quality}
use Rattle.hum_pitch.specs.Intervals.{direction, sign, quality, quality_letters}

abbrev pub AreOver : ℕ → List ℕ → Type 0
AreOver low = AllByRecursion (λ (b : ℕ). low < b)

repeat_over : (b n : ℕ) → 42 < b → AreOver 42 (replicate n b)
repeat_over b zero h = tt
repeat_over b (suc n) h = (h, repeat_over b n h)

sign_over : (d : Direction) → AreOver 42 (sign d)
sign_over = grind (arith, nat_tests)

quality_over : (q : Quality) → AreOver 42 (quality_letters q)
quality_over = grind (arith, nat_tests, repeat_over)

shown_over : (hidden : Bool) (xs : List ℕ) → AreOver 42 xs → AreOver 42 (cond hidden [] xs)
shown_over = grind (arith, nat_tests)

both_over : (xs ys : List ℕ) → AreOver 42 xs → AreOver 42 ys → AreOver 42 (xs ++ ys)
both_over = grind (arith, common_steps)

-- letters and signs are beyond those bytes that end tokens or begin comments and interpretations
pub name_over : (without_direction without_quality : Bool) (d s : ℤ) →
    AreOver 42 (cond without_direction [] (sign (direction d s)) ++ cond without_quality [] (quality_letters (quality d s)))
name_over = grind (arith, nat_tests, both_over, shown_over, sign_over, quality_over)

-- What is shown of a name, part by part, behind a text.
pub named_behind : (u v : Bool) (text sign letters number : List ℕ)
    → ((text ++ cond (not u) sign []) ++ cond (not v) letters []) ++ number ≡ text ++ ((cond u [] sign ++ cond v [] letters) ++ number)
named_behind = grind (arith, common_steps)
