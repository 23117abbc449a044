-- What an answer tells of the choices behind it.
use Rattle.std.proofs.lemmas.Grind.{common_steps}
use Rattle.std.proofs.lemmas.Bool.Decides.{nat_tests}
use Rattle.std.proofs.Common.{◌≡◌, Bool, true, None, Some, Option, Result, List}
use Rattle.std.proofs.Common.{map, arith}
use Rattle.std.specs.Prelude.{if◌then◌else◌, IfSome, IfOk}
use Rattle.std.specs.Option.{option_map}
use Rattle.hum_options.specs.Read.{IsReadAs}

-- some answer of a choice against none is that of its first branch
pub chosen : {A : Type 0} (b : Bool) (o : Option A) (y : A) → (if b then o else None) ≡ Some y
    → (b ≡ true) × (o ≡ Some y)
chosen = grind (arith, nat_tests)

pub mapped : {A B : Type 0} (f : A → B) (o : Option A) (y : B) → option_map f o ≡ Some y
    → (x : A) × (o ≡ Some x) × (f x ≡ y)
mapped = grind (arith, nat_tests)

-- what holds of each value that there is
pub IfSome_from : {A : Type 0} {P : A → Type 0} (o : Option A) → ((x : A) → o ≡ Some x → P x) → IfSome o P
IfSome_from = grind (arith, nat_tests)

-- what is read, where each reading is such a value, and each such value is read
pub read_as : {A : Type 0} {Is : A → Type 0} {reading found : Option A} → found ≡ reading
    → ((x : A) → reading ≡ Some x → Is x) → ((x : A) → Is x → reading ≡ Some x) → IsReadAs Is reading found
read_as = grind (arith, nat_tests)

-- the same, where contracts see the values as they are
pub IfOk_as_is : {A B E : Type 0} (f : A → List B) (r : Result (Option A) E) (read : Option (List B))
    → IfOk r (λ o. option_map (λ x. map (λ y. y) (f x)) o ≡ read) → IfOk r (λ o. option_map f o ≡ read)
IfOk_as_is = grind (arith, common_steps)
