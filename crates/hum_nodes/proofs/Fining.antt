-- What may lie on a link, in the words of scores and as a test.
use Rattle.std.proofs.lemmas.Bool.Decides.{nat_tests}
use Rattle.std.proofs.Common.{◌≡◌, refl, sym, subst, ℕ, ◌≤◌, true, List, [], ◌∷◌, length, arith, leb-true, le-leb}
use Rattle.std.proofs.lemmas.Bool.{and_parts, and_from}
use Rattle.std.proofs.lemmas.Option.{none-some, same_Some}
use Rattle.hum_score.specs.Row.{Row}
use Rattle.hum_score.specs.Spines.{Path, Unopened, after}
use Rattle.hum_stage.specs.declared.faults.End.TheVariants.{Closed}
use Rattle.hum_score.specs.InOrder.{Follow, IsScore, IsClosed}
use Rattle.hum_stage.proofs.Growth.{Follow-front}
use Rattle.hum_turns.specs.Flow.{Flow, so_far, AllOver}
use Rattle.hum_turns.specs.Plan.{Stage, AreInputs, KeepsFine, end_of, whole}
use Rattle.hum_turns.proofs.Fronts.{begins_shorter}
use Rattle.hum_nodes.specs.Fine.{follows, fine, is_fine, IsFine, AreFine}

follows_is : (path : Path) (rows : List Row) → follows path rows ≡ true → Follow path rows
follows_is path [] h = tt
follows_is path (row ∷ rows) h = grind (arith, follows_is (after path row) rows, h)

is_follows : (path : Path) (rows : List Row) → Follow path rows → follows path rows ≡ true
is_follows path [] h = refl
is_follows path (row ∷ rows) h = grind (arith, is_follows (after path row) rows, h)

pub fine_is : (most : ℕ) (f : Flow Row) → is_fine most f ≡ true → IsFine most f
fine_is = grind (arith, nat_tests, and_parts, follows_is, leb-true)

pub is_fine_by : (most : ℕ) (f : Flow Row) → IsFine most f → is_fine most f ≡ true
is_fine_by = grind (arith, nat_tests, and_from, le-leb, is_follows)

pub are_fine : AreFine
are_fine = grind (arith, nat_tests, fine_is, is_fine_by)

-- So a stage of scores keeps to that.
pub keeps_by : {stage : Stage Row}
    → ((r : ℕ) (a : List (Flow Row)) → r ≤ stage.bytes → AreInputs fine stage a
    → IsScore (stage.output r a) × (length (stage.output r a) ≤ 4294967295))
    → ((a : List (Flow Row)) → AreInputs fine stage a → AllOver a → end_of stage stage.bytes a ≡ Closed
    → IsClosed (stage.output stage.bytes a))
    → KeepsFine fine stage
keeps_by {stage} scores closed = record {
  front = λ r a xs within are h.
      let all = scores r a within are in
      let few = all.1 in
      is_fine_by 4294967295 (so_far xs) (record {
        score = Follow-front Unopened xs h.0 (subst IsScore (sym h.1) all.0);
        closed = λ e. absurd (none-some Closed e);
        few = omega (arith, begins_shorter xs (stage.output r a) h);
      });
  done = λ a are over.
      let all = scores stage.bytes a (omega arith) are in
      is_fine_by 4294967295 (whole stage a) (record {
        score = all.0;
        closed = λ e. closed a are over (same_Some _ Closed e);
        few = all.1;
      });
}
