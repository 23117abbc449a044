-- What a call that may refuse tells, passed on.
use Rattle.std.proofs.lemmas.Bool.Decides.{nat_tests}
use Rattle.std.proofs.Common.{◌≡◌, Option, Some, arith}
use Rattle.std.specs.Prelude.{Result, Err, IsErrAnd, IsSomeAnd}
use Rattle.hum_stage.specs.declared.faults.Rule.{Rule}
use Rattle.hum_stage.specs.declared.faults.Refusal.{Refusal}
use Rattle.hum_stage.specs.declared.faults.Refusal.TheVariants.{Rule as Broken, Memory}
use Rattle.hum_stage.specs.Refusals.{rule_in, IfRule, IfTold, IfAnswered}

-- from what holds of what is told to what it means
pub told_to : {A : Type 0} (r : Result A Refusal) (P R : Option Rule → Type 0)
    → ((o : Option Rule) → P o → R o) → IfTold r P → IfTold r R
told_to = grind (arith, nat_tests)

pub both_told : {A : Type 0} (r : Result A Refusal) (P Q R : Option Rule → Type 0)
    → ((o : Option Rule) → P o → Q o → R o) → IfTold r P → IfTold r Q → IfTold r R
both_told = grind (arith, nat_tests)

-- A refusal that a call hands on is told in the same way,
pub told_on : {A : Type 0} (r : Result A Refusal) (e : Refusal) (P : Rule → Type 0) (R : Option Rule → Type 0)
    → IsErrAnd r (λ y. y ≡ e) → IfRule e P → ((rule : Rule) → P rule → R (Some rule)) → IfTold r R
told_on = grind (arith, nat_tests)

-- a rule that is told
pub told_as : {A : Type 0} (r : Result A Refusal) (e : Refusal) (rule : Rule) (R : Option Rule → Type 0)
    → IsErrAnd r (λ y. y ≡ e) → e ≡ Broken rule → R (Some rule) → IfTold r R
told_as = grind (arith, nat_tests)

pub answered_as : {A : Type 0} (r : Result A Refusal) (e : Refusal) (rule : Rule) (R : Result A Rule → Type 0)
    → IsErrAnd r (λ y. y ≡ e) → e ≡ Broken rule → R (Err rule) → IfAnswered r R
answered_as = grind (arith, nat_tests)

pub answered_on : {A : Type 0} (r : Result A Refusal) (e : Refusal) (P : Rule → Type 0)
    (R : Result A Rule → Type 0) → IsErrAnd r (λ y. y ≡ e) → IfRule e P
    → ((rule : Rule) → P rule → R (Err rule)) → IfAnswered r R
answered_on = grind (arith, nat_tests)

-- and where memory ran out nothing is.
pub told_none : {A : Type 0} (r : Result A Refusal) (R : Option Rule → Type 0)
    → IsErrAnd r (λ y. y ≡ Memory) → IfTold r R
told_none = grind (arith, nat_tests)

pub answered_none : {A : Type 0} (r : Result A Refusal) (R : Result A Rule → Type 0)
    → IsErrAnd r (λ y. y ≡ Memory) → IfAnswered r R
answered_none = grind (arith, nat_tests)

-- two facts of a rule, as one
pub both_ruled : (e : Refusal) (P Q : Rule → Type 0) → IfRule e P → IfRule e Q → IfRule e (λ rule. P rule × Q rule)
both_ruled = grind (arith, nat_tests)

-- the rule that was told, with what both say of it
pub rule_known : (e : Refusal) (P Q : Rule → Type 0) → IfRule e P → IsSomeAnd (rule_in e) Q
    → (rule : Rule) × (P rule × Q rule)
rule_known = grind (arith, nat_tests)
