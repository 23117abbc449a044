-- A stage of one input is a lawful stage of a plan, and keeps what may lie on a link.
use Rattle.std.proofs.lemmas.Grind.{common_steps}
use Rattle.std.proofs.lemmas.Bool.Decides.{nat_tests}
use Rattle.std.proofs.Common.{◌≡◌, ◌∙◌, sym, ap, subst, ℕ, ◌≤◌, List, [], ◌∷◌, ◌++◌, length, Option, Some, None}
use Rattle.std.proofs.Common.{arith, unwrap_or, append_assoc, append-nil}
use Rattle.hum_score.specs.Row.{Row}
use Rattle.hum_score.specs.Spines.{Unopened}
use Rattle.hum_stage.specs.declared.faults.End.{End}
use Rattle.hum_stage.specs.declared.faults.End.TheVariants.{Closed}
use Rattle.hum_stage.specs.declared.faults.Fault.{Fault}
use Rattle.hum_score.specs.InOrder.{IsScore, IsClosed}
use Rattle.hum_stage.specs.Meaning.{Meaning, output, own_fault, KeepsScore, IsLawful as IsLawfulMeaning}
use Rattle.hum_stage.proofs.Growth.{settled-Goes, Follow-front}
use Rattle.hum_turns.specs.Flow.{Flow, Begins, AllLater, AllOver, AllFine, IsOver}
use Rattle.hum_turns.specs.Plan.{Source, Nothing, IsOpenAt, IsLawful, KeepsFine, lower, or_own, inputs_end}
use Rattle.hum_turns.proofs.Fronts.{begins_refl, begins_trans}
use Rattle.hum_nodes.specs.Fine.{fine}
use Rattle.hum_nodes.specs.Single.{items_of, want_of, own_end, single}
use Rattle.hum_nodes.proofs.Fining.{fine_is, keeps_by}

-- what is settled goes on with the list
grows_by : (m : Meaning) → IsLawfulMeaning m → (p rest : List Row) → IsScore (p ++ rest)
    → Begins (output m p) (output m (p ++ rest))
grows_by m law p [] h = rw append-nil (begins_refl (output m p))
grows_by m law p (x ∷ rest) h =
    let e : (p ++ x ∷ []) ++ rest ≡ p ++ x ∷ rest = append_assoc p (x ∷ []) rest in
    let h' : IsScore ((p ++ x ∷ []) ++ rest) = subst IsScore (sym e) h in
    let one = settled-Goes (m.outcomes p) (m.outcomes (p ++ x ∷ []))
    (law.grows p x (Follow-front Unopened (p ++ x ∷ []) rest h')) in
    begins_trans (output m p) (output m (p ++ x ∷ [])) (output m (p ++ x ∷ rest)) (one.0, sym one.1)
    (subst (λ l. Begins (output m (p ++ x ∷ [])) (output m l)) e (grows_by m law (p ++ x ∷ []) rest h'))

items_grow : (m : Meaning) → IsLawfulMeaning m → (a b : List (Flow Row)) → AllFine fine b
    → AllLater a b → Begins (output m (items_of a)) (output m (items_of b))
items_grow m law [] [] f h = begins_refl (output m [])
items_grow m law (x ∷ a) (y ∷ b) f h =
    let i = h.0.items in
    subst (λ l. Begins (output m x.items) (output m l)) i.1
    (grows_by m law x.items i.0 (subst IsScore (sym i.1) (fine_is 4294967295 y f.0).score))
items_grow m law [] (y ∷ b) f h = absurd h
items_grow m law (x ∷ a) [] f h = absurd h

-- No bytes are wanted; the first input is where it hasn't ended, and where it has, nothing is.

asks_first : (a : List (Flow Row)) (j : ℕ) → want_of a ≡ Source j → IsOpenAt a j
asks_first = grind (arith, nat_tests)

rests_over : (a : List (Flow Row)) → length a ≡ 1 → want_of a ≡ Nothing → AllOver a
rests_over = grind (arith, common_steps)

pub lawful : (from : ℕ) (m : Meaning) → IsLawfulMeaning m → IsLawful fine (single from m).stage
lawful = grind (arith, nat_tests, items_grow, asks_first, rests_over)

-- What ends closed.

pub or_closed : (a b : End) → or_own a b ≡ Closed → (a ≡ Closed) × (b ≡ Closed)
or_closed a b h = grind (arith, h)

pub lower_closed : (a b : End) → lower a b ≡ Closed → (a ≡ Closed) × (b ≡ Closed)
lower_closed a b h = grind (arith, h)

pub own_none : (o : Option Fault) → own_end o ≡ Closed → o ≡ None
own_none o h = grind (arith, h)

pub over_closed : (x : Flow Row) → IsOver x → unwrap_or x.end Closed ≡ Closed → x.end ≡ Some Closed
over_closed x over h = over.1 ∙ ap Some (sym (ap (λ o. unwrap_or o Closed) over.1) ∙ h)

-- Scores of scores.

items_score : (a : List (Flow Row)) → AllFine fine a → IsScore (items_of a) × (length (items_of a) ≤ 4294967295)
items_score = grind (arith, nat_tests, fine_is)

output_closed : (m : Meaning) → KeepsScore m.outcomes → (a : List (Flow Row)) → length a ≡ 1
    → AllFine fine a → AllOver a
    → or_own (inputs_end a) (own_end (own_fault m (items_of a))) ≡ Closed
    → IsClosed (output m (items_of a))
output_closed = grind (arith, nat_tests, or_closed, over_closed, lower_closed, unwrap_or, fine_is, own_none)

pub limited : (m : Meaning) → IsLawfulMeaning m → (a : List (Flow Row)) → AllFine fine a
    → length (output m (items_of a)) ≤ 4294967295
limited m law a each = law.limited (items_of a) (items_score a each).1

pub keeps_fine : (from : ℕ) (m : Meaning) → IsLawfulMeaning m → KeepsScore m.outcomes
    → KeepsFine fine (single from m).stage
keeps_fine = grind (arith, nat_tests, keeps_by, items_score, limited, output_closed)
