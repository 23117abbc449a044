-- Several scores side by side are a lawful stage of a plan, and keep what may lie on a link.
use Rattle.std.proofs.lemmas.Grind.{common_steps}
use Rattle.std.proofs.lemmas.Bool.Decides.{nat_tests}
use Rattle.std.proofs.Common.{◌≡◌, ◌∙◌, refl, ap, ℕ, suc, List, [], ◌∷◌, ◌++◌, Option, Some, None, arith}
use Rattle.std.proofs.Common.{append_assoc}
use Rattle.hum_score.specs.Row.{Row}
use Rattle.hum_stage.specs.declared.faults.End.{End}
use Rattle.hum_stage.specs.declared.faults.End.TheVariants.{Closed}
use Rattle.hum_score.specs.InOrder.{IsClosed}
use Rattle.hum_assemble.specs.Change.{Input}
use Rattle.hum_assemble.specs.Meaning as merge
use Rattle.hum_assemble.specs.Meaning.{output, own_fault, ends, AreScores}
use Rattle.hum_assemble.proofs.Standings.{OpenIn}
use Rattle.hum_assemble.proofs.Scores.{keeps_scores}
use Rattle.hum_turns.specs.Flow.{Flow, Begins, Later, AllLater, AllOver, AllFine}
use Rattle.hum_turns.specs.Plan.{IsOpenAt, IsLawful, KeepsFine, or_own, inputs_end}
use Rattle.hum_turns.proofs.Fronts.{begins_refl, begins_trans}
use Rattle.hum_nodes.specs.Fine.{fine}
use Rattle.hum_nodes.specs.Single.{own_end}
use Rattle.hum_nodes.specs.Merging.{input_of, inputs_of, merging}
use Rattle.hum_nodes.proofs.Fining.{fine_is, keeps_by}
use Rattle.hum_nodes.proofs.SingleLaws.{or_closed, own_none}
use Rattle.hum_nodes.proofs.Merges.{few_given, wanted_open, HaveEnded, unwanted_ended, source_on}

-- What is given stays.

one_later : (front tail : List Input) (a b : Flow Row) → Later a b → (o : Option End) → a.end ≡ o
    → Begins (output (front ++ input_of a ∷ tail)) (output (front ++ input_of b ∷ tail))
one_later front tail a b h (Some e) is = rw (h.over e is) (begins_refl _)
one_later front tail a b h None is = grind (arith, nat_tests, source_on front tail a.items h.items.0 b.end)

all_later : (front : List Input) (a b : List (Flow Row)) → AllLater a b
    → Begins (output (front ++ inputs_of a)) (output (front ++ inputs_of b))
all_later front (x ∷ a) (y ∷ b) h =
    let next = front ++ input_of y ∷ [] in
    begins_trans (output (front ++ input_of x ∷ inputs_of a))
    (output (front ++ input_of y ∷ inputs_of a)) (output (front ++ input_of y ∷ inputs_of b))
    (one_later front (inputs_of a) x y h.0 x.end refl)
    (rw (append_assoc front (input_of y ∷ []) (inputs_of a), append_assoc front (input_of y ∷ []) (inputs_of b))
    at (all_later next a b h.1))
all_later front a b h = grind (arith, common_steps)

-- What is wanted.

open_there : (a : List (Flow Row)) (j : ℕ) → OpenIn j (ends (inputs_of a)) → IsOpenAt a j
open_there (x ∷ a) (suc j) h = grind (arith, nat_tests, open_there a j h)
open_there a j h = grind (arith, nat_tests)

pub all_over : (a : List (Flow Row)) → HaveEnded (inputs_of a) → AllOver a
all_over [] h = tt
all_over (x ∷ a) h = (h.0, all_over a h.1)

pub lawful : (number : ℕ) (from : List ℕ) → IsLawful fine (merging number from).stage
lawful number from = record {
  apart = λ h. absurd (omega arith);
  grows = λ r s a b on. all_later [] a b on.inputs.later;
  reads = λ r a h. absurd (grind (arith, h));
  asks = grind (arith, nat_tests, open_there, wanted_open);
  rests = grind (arith, nat_tests, all_over, unwanted_ended);
}

-- Scores of scores.

are_scores : (a : List (Flow Row)) → AllFine fine a → AreScores (inputs_of a)
are_scores [] h = tt
are_scores (x ∷ a) h = grind (arith, nat_tests, are_scores a h.1, fine_is)

-- the end of the inputs, once all have ended
pub ends_are : (a : List (Flow Row)) → AllOver a
    → merge.inputs_end (ends (inputs_of a)) ≡ Some (inputs_end a)
ends_are [] h = refl
ends_are (x ∷ a) h = grind (arith, nat_tests, ends_are a h.1)

closed_output : (number : ℕ) (a : List (Flow Row)) → AllFine fine a → AllOver a
    → or_own (inputs_end a) (own_end (own_fault number (inputs_of a))) ≡ Closed
    → IsClosed (output (inputs_of a))
closed_output number a each over h =
    let c = or_closed (inputs_end a) (own_end (own_fault number (inputs_of a))) h in
    (keeps_scores number).closed (inputs_of a) (are_scores a each)
    (ends_are a over ∙ ap Some c.0) (own_none (own_fault number (inputs_of a)) c.1)

pub keeps_fine : (number : ℕ) (from : List ℕ) → KeepsFine fine (merging number from).stage
keeps_fine number from = keeps_by
    (λ r a within are. ((keeps_scores number).score (inputs_of a) (are_scores a are.each), few_given (inputs_of a)))
    (λ a are over e. closed_output number a are.each over e)
