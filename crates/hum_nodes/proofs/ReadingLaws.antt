-- A score that is read is a lawful stage of a plan, and may lie on a link.
use Rattle.std.proofs.lemmas.Grind.{common_steps}
use Rattle.std.proofs.Common.{◌≡◌, ◌∙◌, refl, sym, ap, subst, ℕ, ◌+◌, ◌<◌, ◌≤◌, Bool, true, false, ◌||◌, List}
use Rattle.std.proofs.Common.{◌++◌, length, take, drop, arith, Option, None, ltb-false, lt-ltb}
use Rattle.std.proofs.Common.{take-append-drop}
use Rattle.std.specs.Prelude.{is_some}
use Rattle.std.proofs.lemmas.Bool.{false≢true}
use Rattle.std.proofs.lemmas.Bool.Decides.{nat_tests}
use Rattle.std.proofs.lemmas.List.{length-take, take-append-le}
use Rattle.hum_score.specs.Spines.{Unopened}
use Rattle.hum_stage.specs.declared.faults.Rule.{Rule}
use Rattle.hum_stage.specs.declared.faults.End.TheVariants.{Closed}
use Rattle.hum_score.specs.InOrder.{IsScore}
use Rattle.hum_stage.proofs.Growth.{Follow-front}
use Rattle.hum_read.specs.Denoted.{score_of, end_at}
use Rattle.hum_read.proofs.Denoting.{score-of}
use Rattle.hum_score.specs.Row.{Row}
use Rattle.hum_turns.specs.Flow.{Flow, AllOver}
use Rattle.hum_turns.specs.Plan.{IsLawful, KeepsFine, inputs_end}
use Rattle.hum_turns.proofs.Fronts.{begins_shorter, is_set}
use Rattle.hum_nodes.specs.Fine.{fine}
use Rattle.hum_nodes.specs.Settled.{score_so_far}
use Rattle.hum_nodes.specs.Reading.{is_ended, settled_at, reading}
use Rattle.hum_nodes.proofs.Denotes.{closed_whole, few_rows}
use Rattle.hum_nodes.proofs.Fining.{keeps_by}
use Rattle.hum_nodes.proofs.Settling.{Settles, same_settles, settles_whole, settles_further}
use Rattle.hum_nodes.proofs.SingleLaws.{or_closed}

-- with the end of the bytes, all has settled
pub all_settled : (all : List ℕ) (r : ℕ) → length all < r → settled_at all r ≡ score_of all
all_settled all r h = rw (lt-ltb (length all) r h) refl

-- What has settled with fewer bytes settles in what has with more.
pub settles : (all : List ℕ) (r s : ℕ) → r ≤ s → Settles (settled_at all r) (settled_at all s)
settles all r s h = by (is_ended all r) (is_ended all s) refl refl
  where
    by : (a b : Bool) → is_ended all r ≡ a → is_ended all s ≡ b → Settles (settled_at all r) (settled_at all s)
    by true false e f = grind (arith, nat_tests)
    by true true e f = rw (e, f) (same_settles refl)
    by false true e f =
        grind (arith, nat_tests, take-append-drop r all, settles_whole (take r all) (drop r all))
    by false false e f =
        let later = drop r (take s all) in
        let some = ltb-false (length all) s f in
        let front : take r (take s all) ≡ take r all =
        sym (take-append-le r (take s all) (drop s all) (omega (arith, length-take s all)))
        ∙ ap (take r) (take-append-drop s all) in
        rw (e, f)
        (subst (λ z. Settles (score_so_far (take r all)) (score_so_far z))
        (ap (λ z. z ++ later) (sym front) ∙ take-append-drop r (take s all)) (settles_further (take r all) later))

-- Where nothing is wanted, all has settled.

at_rest : (all : List ℕ) (r : ℕ) (ended broken : Bool) → is_ended all r ≡ ended
    → is_some (settled_at all r).fault ≡ broken → (ended || broken) ≡ true
    → settled_at all r ≡ settled_at all (length all + 1)
at_rest all r true broken e f h = grind (arith, nat_tests)
at_rest all r false true e f h =
    let n = ltb-false (length all) r e in
    let x = is_set (settled_at all r).fault f in
    sym ((settles all r (length all + 1) (omega arith)).broken x.0 x.1)
at_rest all r false false e f h = absurd (false≢true h)

no_inputs : (a : List (Flow Row)) → length a ≡ 0 → AllOver a
no_inputs = grind (arith, common_steps)

pub lawful : (number : ℕ) (all : List ℕ) → IsLawful fine (reading number all).stage
lawful number all = record {
  apart = λ h. refl;
  grows = λ r s a b on. (settles all r s on.more).rows;
  reads = λ r a h. grind (arith, nat_tests, h);
  asks = λ r a j n h. absurd (grind (arith, h));
  rests = grind (arith, nat_tests, at_rest, no_inputs);
}

-- Scores.

not_broken : (number : ℕ) (o : Option (ℕ × Rule)) → end_at number o ≡ Closed → o ≡ None
not_broken number o h = grind (arith, h)

pub keeps_fine : (number : ℕ) (all : List ℕ) → KeepsFine fine (reading number all).stage
keeps_fine number all =
    let whole = all_settled all (length all + 1) (omega arith) in
    keeps_by
    (λ r a within are.
    let front = rw whole at (settles all r (length all + 1) within).rows in (
      Follow-front Unopened (settled_at all r).rows front.0 (subst IsScore (sym front.1) (score-of all)),
      omega (arith, begins_shorter (settled_at all r).rows (score_of all).rows front, few_rows all),
    ))
    (λ a are over e.
    rw whole
    (closed_whole all (not_broken number (score_of all).fault (or_closed (inputs_end a) _ (rw whole at e)).1)))
