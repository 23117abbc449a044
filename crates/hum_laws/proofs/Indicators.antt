-- The tokens that join and exchange spines.
use Rattle.std.proofs.lemmas.Bool.Decides.{nat_tests}
use Rattle.std.proofs.Common.{◌≡◌, ℕ, Bool, true, List, cond, arith}
use Rattle.std.proofs.lemmas.Slice.Eq.{bytes_eq-Decides}
use lib.Chars.{codes}
use Rattle.hum_score.specs.declared.spines.Sign.TheVariants.{Split, Join, Exchange, Add, End, Exclusive, Plain}
use Rattle.hum_score.specs.Sign.{sign_of, is_join, is_exchange}

third : (a b c d e f : Bool)
    → is_join (cond a Exclusive (cond b Split (cond c Join (cond d Exchange (cond e Add (cond f End Plain)))))) ≡ true → c ≡ true
third = grind (arith, nat_tests)

fourth : (a b c d e f : Bool)
    → is_exchange (cond a Exclusive (cond b Split (cond c Join (cond d Exchange (cond e Add (cond f End Plain)))))) ≡ true → d ≡ true
fourth = grind (arith, nat_tests)

pub join_is : (t : List ℕ) → is_join (sign_of t) ≡ true → t ≡ codes "*v"
join_is = grind (arith, nat_tests, bytes_eq-Decides, third)

pub exchange_is : (t : List ℕ) → is_exchange (sign_of t) ≡ true → t ≡ codes "*x"
exchange_is = grind (arith, nat_tests, bytes_eq-Decides, fourth)
