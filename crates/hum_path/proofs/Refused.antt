-- The first rule that a step breaks, from those that it was tested for.
use Rattle.std.proofs.Common.{◌≡◌, ◌≢◌, ◌∙◌, refl, ℕ, Bool, List, [], ◌∷◌}
use Rattle.std.proofs.Common.{◌++◌, length, Option, Some, None, Result, cond, arith}
use Rattle.std.specs.List.{find}
use Rattle.std.proofs.lemmas.Bool.Decides.{nat_tests}
use Rattle.hum_score.specs.declared.spines.PathFault.{PathFault}
use Rattle.hum_score.specs.declared.spines.PathFault.TheVariants.{P9}
use Rattle.hum_path.specs.declared.steering.NextSpines.{NextSpines}
use Rattle.hum_score.specs.Spines.{Path, Spines}
use Rattle.hum_score.specs.Rules.{breaks, in_order, Refuses}
use Rattle.hum_path.specs.Step.{IsStep}
use Rattle.hum_path.specs.Asked.{on_signs, IsStepBy}

one_more : {X : Type 0} (b : Bool) (y x : X) (before after : Option X) → (before ≡ Some x → after ≡ Some x)
    → cond b (Some y) before ≡ Some x → cond b (Some y) after ≡ Some x
one_more = grind (arith, nat_tests)

-- where the first is found among some, it is the first of these and any others behind them
found_first : {X : Type 0} (p : X → Bool) (xs ys : List X) (x : X) → find p xs ≡ Some x → find p (xs ++ ys) ≡ Some x
found_first p [] ys x h = cc
found_first p (y ∷ xs) ys x h = one_more (p y) y x (find p xs) (find p (xs ++ ys)) (found_first p xs ys x) h

one_less : {X : Type 0} (b : Bool) (y : X) (before after behind : Option X) → (before ≡ None → after ≡ behind)
    → cond b (Some y) before ≡ None → cond b (Some y) after ≡ behind
one_less = grind (arith, nat_tests)

-- where none is found among some, it is the first of those behind them
found_later : {X : Type 0} (p : X → Bool) (xs ys : List X) → find p xs ≡ None → find p (xs ++ ys) ≡ find p ys
found_later p [] ys h = refl
found_later p (y ∷ xs) ys h = one_less (p y) y (find p xs) (find p (xs ++ ys)) (find p ys) (found_later p xs ys) h

-- what is told of a record is the first rule that it breaks
told : (fault : PathFault) (broken : Option PathFault) → broken ≡ Some fault → Refuses fault broken
told = grind (arith, nat_tests)

-- a record that is as wide as the spines breaks first a rule on its signs, or makes too many spines
wide_first : (names tokens : List (List ℕ)) → length names ≢ 0 → length tokens ≡ length names
    → find (breaks (Spines names) tokens) in_order ≡ find (breaks (Spines names) tokens) (on_signs ++ P9 ∷ [])
wide_first = grind (arith, nat_tests)

pub refused : (names tokens : List (List ℕ)) (fault : PathFault) → length names ≢ 0 → length tokens ≡ length names
    → find (breaks (Spines names) tokens) on_signs ≡ Some fault → Refuses fault (find (breaks (Spines names) tokens) in_order)
refused names tokens fault some wide h =
    told fault _ (wide_first names tokens some wide ∙ found_first (breaks (Spines names) tokens) on_signs (P9 ∷ []) fault h)

step_by : (path : Path) (tokens : List (List ℕ)) (broken : Option PathFault) (result : Result NextSpines PathFault)
    → find (breaks path tokens) in_order ≡ broken → IsStepBy broken path tokens result → IsStep path tokens result
step_by = grind (arith, nat_tests)

-- where no rule on signs is broken, the step is that under the signs
pub stepped : (names tokens : List (List ℕ)) (result : Result NextSpines PathFault) → length names ≢ 0 → length tokens ≡ length names
    → find (breaks (Spines names) tokens) on_signs ≡ None
    → IsStepBy (find (breaks (Spines names) tokens) (P9 ∷ [])) (Spines names) tokens result
    → IsStep (Spines names) tokens result
stepped names tokens result some wide h step =
    step_by (Spines names) tokens _ result
    (wide_first names tokens some wide ∙ found_later (breaks (Spines names) tokens) on_signs (P9 ∷ []) h) step
