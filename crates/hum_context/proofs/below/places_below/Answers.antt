use Rattle.std.proofs.Common.{◌≡◌, ◌∙◌, ◌+◌, ◌-◌, ◌<◌, ℕ, arith, length, drop, get_or, cond, Option}
use Rattle.std.proofs.Common.{Some, ap, sym}
use Rattle.std.specs.List.{position_from}
use Rattle.hum_score.specs.declared.spines.Move.TheVariants.{Same}
use Rattle.hum_path.specs.Chains.{goes_on}
use Rattle.hum_context.proofs.Places.{position_step, position_all}
use Rattle.hum_context.proofs.below.places_below.Goals as goal

pub loop-n-preserved : goal.loop-n-preserved
loop-n-preserved c n =
    let moves = c.args.moves.now in
    let i = length moves - 1 - c.loop-n.n in
    let test = c.loop-n-test.true in
    let here : length moves - (c.loop-n.n + 1) ≡ i = omega arith in
    let next : i + 1 ≡ length moves - c.loop-n.n = omega (arith, test) in
    let below : i < length moves = omega (arith, test) in
    let goes = goes_on n (get_or moves i (Same 0)) in
    rw here (c.in_ok-mark_move.ensures n
    ∙ (ap (λ (x : Option ℕ). cond goes (Some i) x) (c.loop-n.invariant n
    ∙ ap (λ (k : ℕ). position_from (goes_on n) k (drop k moves)) (sym next))
    ∙ sym (position_step (goes_on n) moves i (Same 0) below)))

pub returns : goal.returns
returns c n =
    let over = c.loop-n-test.false in
    let none : length c.args.moves.now - c.loop-n.n ≡ 0 = omega (arith, over) in
    c.loop-n.invariant n
    ∙ (ap (λ (k : ℕ). position_from (goes_on n) k (drop k c.args.moves.now)) none
    ∙ position_all (goes_on n) c.args.moves.now)
