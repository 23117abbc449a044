use Rattle.std.proofs.lemmas.Bool.Decides.{nat_tests}
use Rattle.std.proofs.Common.{◌≡◌, ◌∙◌, sym, ap, List, [], ◌∷◌, ◌++◌, ◌+◌, append_assoc, Some, arith}
use Rattle.std.specs.Prelude.{slice_get, drop, OnOk, Result}
use Rattle.std.specs.declared.alloc.AllocError.{AllocError}
use Rattle.hum_score.specs.Row.{Row}
use Rattle.hum_stage.specs.Meaning.{Moment, all_of, after_put, after_take, TookAll}
use Rattle.hum_stage.proofs.Growth.{drop-slice_get}
use Rattle.hum_stage.proofs.runs.put_and_drain.Goals as goal
use Rattle.hum_stage.proofs.runs.put_and_drain.Goals.{in-Some+in_ok-push, in_default}

-- The first was taken, and then all others.
first_and_others : (after : Moment → Type 0) (before now : List Row) (t : Moment) (row : Row)
    → Some row ≡ slice_get (all_of t) t.given → TookAll after (before ++ row ∷ []) now (after_take t)
    → TookAll after before now t
first_and_others after before now t row e h = record {
  stand = h.stand;
  list = h.list ∙ (append_assoc before (row ∷ []) (drop (t.given + 1) (all_of t))
      ∙ ap (λ (rows : List Row). before ++ rows) (sym (drop-slice_get (all_of t) t.given row e)));
}

on_ok : {A B : Type 0} (r : Result (Unit {0}) AllocError) → OnOk r A → (A → B) → OnOk r B
on_ok = grind (arith, nat_tests)

pub returns : goal.returns
returns g c = on_ok c.drain.result c.drain.ensures (λ took t h going score.
    let ok = c.in_ok-put_with.ensures.ok t h going score in
    elim c.match-first-2.branch [
      | in-Some+in_ok-push w ↦
          let first = rw w.in-Some.is at ok in
          first_and_others _ _ _ _ _ first.next
          (rw (w.out-is, w.in_ok-push.ensures.items) at (took (after_take (after_put t c.args.next)) first.stand))
      | in_default w ↦
          let none = rw w.in_default.is at ok in
          rw w.out-is at (took (after_put t c.args.next) none)
    ])
