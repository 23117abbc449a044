use Rattle.std.proofs.Common.{◌∙◌, ◌++◌, [], ◌∷◌, sym, ap, append-nil, append_assoc, arith}
use Rattle.std.proofs.lemmas.List.{at_drop_all}
use Rattle.hum_score.specs.Spines.{exchanges}
use Rattle.hum_path.proofs.ByPlace.{exchanges_at}
use Rattle.hum_path.proofs.steering.exchanges.Goals.{then-is_exchange+in_ok-push, else-is_exchange}
use Rattle.hum_path.proofs.steering.exchanges.Goals as goal

pub overflow_cast-j : goal.overflow_cast-j
overflow_cast-j c = omega (arith, c.requires, c.loop-j-test.true)

pub loop-j-preserved : goal.loop-j-preserved
loop-j-preserved c =
    let before = c.loop-j.places.items in
    elim c.if-is_exchange.branch [
      | then-is_exchange+in_ok-push w ↦
          let here = exchanges_at c.args.signs.now c.loop-j.j _ c.loop-j-test.true (sym w.if-is_exchange.ensures) in
          rw (w.places-is, w.in_ok-push.ensures.items)
          (append_assoc before (c.loop-j.j ∷ []) _ ∙ ap (λ places. before ++ places) (sym here) ∙ c.loop-j.invariant)
      | else-is_exchange w ↦
          let here = exchanges_at c.args.signs.now c.loop-j.j _ c.loop-j-test.true (sym w.if-is_exchange.ensures) in
          rw w.places-is (ap (λ places. before ++ places) (sym here) ∙ c.loop-j.invariant)
    ]

pub returns : goal.returns
returns c =
    sym (at_drop_all (λ signs. c.loop-j.places.items ++ exchanges c.loop-j.j signs) c.args.signs.now c.loop-j.j c.loop-j-test.false ∙ append-nil _)
    ∙ c.loop-j.invariant
