-- What stands before a byte and from it on.
use Rattle.std.proofs.lemmas.Grind.{common_steps}
use Rattle.std.proofs.lemmas.Bool.Decides.{nat_tests}
use Rattle.std.proofs.Common.{◌≡◌, ◌≤◌, ◌<◌, ◌+◌, ◌-◌, ◌==◌, refl, ℕ, get_or, true, false}
use Rattle.std.proofs.Common.{List, [], ◌∷◌, ◌++◌, length, take, drop, arith}
use Rattle.std.specs.List.{AllByRecursion}
use Rattle.std.proofs.lemmas.Bool.{eq-eqb}
use Rattle.hum_score.specs.Spelling.{has_byte}
use Rattle.hum_options.specs.Cutting.{front, remainder, parts}

-- a text is cut behind its front
pub cut_there : (byte : ℕ) (text : List ℕ) → (take (length (front byte text)) text ≡ front byte text)
    × (drop (length (front byte text)) text ≡ remainder byte text) × (length (front byte text) ≤ length text)
cut_there byte [] = (refl, refl, omega arith)
cut_there byte (b ∷ bytes) = grind (arith, nat_tests, cut_there byte bytes)

-- a text is its two parts
pub whole : (byte : ℕ) (text : List ℕ) → front byte text ++ remainder byte text ≡ text
whole byte [] = refl
whole byte (b ∷ bytes) = grind (arith, nat_tests, whole byte bytes)

-- what is left begins with the byte
pub rest_begins : (byte : ℕ) (text : List ℕ) (b : ℕ) (bytes : List ℕ) → remainder byte text ≡ b ∷ bytes
    → b ≡ byte
rest_begins byte [] b bytes e = cc
rest_begins byte (x ∷ xs) b bytes e = grind (arith, nat_tests, rest_begins byte xs b bytes)

pub parts_lack : (byte : ℕ) (text : List ℕ) → AllByRecursion (λ part. has_byte byte part ≡ false) (parts byte text)
parts_lack byte [] = (refl, tt)
parts_lack byte (b ∷ bytes) = grind (arith, nat_tests, parts_lack byte bytes)

-- where the byte isn't in a text, that is its own first part
pub cut_alone : (byte : ℕ) (text : List ℕ) → has_byte byte text ≡ false
    → (front byte text ≡ text) × (remainder byte text ≡ []) × (parts byte text ≡ text ∷ [])
cut_alone byte [] lacks = (refl, refl, refl)
cut_alone byte (b ∷ bytes) lacks = grind (arith, nat_tests, cut_alone byte bytes)

-- where it isn't in what stands before it, that is the first part
pub cut_before : (byte : ℕ) (text more : List ℕ) → has_byte byte text ≡ false → (byte == byte) ≡ true
    → (front byte (text ++ byte ∷ more) ≡ text) × (remainder byte (text ++ byte ∷ more) ≡ byte ∷ more)
    × (parts byte (text ++ byte ∷ more) ≡ text ∷ parts byte more)
cut_before byte [] more lacks same = rw same (refl, refl, refl)
cut_before byte (b ∷ bytes) more lacks same = grind (arith, nat_tests, cut_before byte bytes more)

-- what stands behind the first byte
abbrev pub behind_first : List ℕ → List ℕ
behind_first text = take (length text - 1) (drop 1 text)

pub filled : (text : List ℕ) → 1 ≤ length text → text ≡ get_or text 0 0 ∷ behind_first text
filled = grind (arith, common_steps)

pub emptied : (text : List ℕ) → length text < 1 → text ≡ []
emptied = grind (arith, common_steps)

-- how long the front is, by the first byte
pub front_hit : (byte b : ℕ) (bytes : List ℕ) → b ≡ byte → length (front byte (b ∷ bytes)) ≡ 0
front_hit byte b bytes is = let test : (b == byte) ≡ true = eq-eqb b byte is in rw test refl

pub front_miss : (byte b : ℕ) (bytes : List ℕ) → (b ≡ byte → ⊥)
    → length (front byte (b ∷ bytes)) ≡ length (front byte bytes) + 1
front_miss = grind (arith, nat_tests)
