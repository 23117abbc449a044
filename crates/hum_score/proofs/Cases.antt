-- A proof by a test.
use Rattle.std.proofs.Common.{◌≡◌, refl, Bool, true, false}

pub by_bool : {P : Type 0} (b : Bool) → (b ≡ true → P) → (b ≡ false → P) → P
by_bool true on off = on refl
by_bool false on off = off refl
