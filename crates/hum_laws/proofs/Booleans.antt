-- Tests that are put together.
use Rattle.std.proofs.lemmas.Bool.Decides.{nat_tests}
use Rattle.std.proofs.Common.{◌≡◌, Bool, ◌&&◌, ◌||◌, arith}

pub shuffle : (i j p q u v : Bool) → (i || j) || ((p || q) || (u || v)) ≡ (i || (p || u)) || (j || (q || v))
shuffle = grind (arith, nat_tests)

pub spread : (a b c : Bool) → (a || b) && c ≡ (a && c) || (b && c)
spread = grind (arith, nat_tests)

pub pair : (i j p q : Bool) → (i || j) || (p || q) ≡ (i || p) || (j || q)
pair = grind (arith, nat_tests)

pub or-self : (b : Bool) → b || b ≡ b
or-self = grind (arith, nat_tests)
