use Rattle.std.proofs.Common.{◌∙◌, ◌∷◌, ap, arith}
use Rattle.std.specs.List.{position}
use Rattle.hum_score.specs.Spines.{Path, after, width}
use Rattle.hum_path.specs.Chains.{goes_on}
use Rattle.hum_score.specs.Score.{passed}
use Rattle.hum_path.proofs.Obeyed.{narrow}
use Rattle.hum_context.specs.Options.{choice_of}
use Rattle.hum_context.proofs.Following.{follows_put, few_lines}
use Rattle.hum_context.proofs.memory.CollectingLooksAhead.put.Goals as goal

pub below_row-requires-clause-narrow : goal.below_row-requires-clause-narrow
below_row-requires-clause-narrow c =
    let m = c.requires in
    let few = narrow (c.args.next ∷ passed m.past m.rows) m.score in
    let wide = ap (λ (p : Path). width (after p c.args.next)) m.memory.spines in
    omega (arith, few, wide)

pub returns : goal.returns
returns c look past rows h sound =
    rw c.in_ok-queued.ensures.kept
    (follows_put (choice_of c.args.self.now.options) c.args.self.now.paths.path _
    c.args.self.now.gone c.args.self.now.walks.items c.args.held.now.items _ look past rows
    c.args.next c.in_ok-queued.queued h
    (few_lines _ _ _ _ _ _ _ _ _ _ _ c.requires.memory c.requires.few h)
    c.in_ok-below.ensures.after
    (λ q e. c.in_ok-queued.ensures.known q
    (λ kind n. c.in_ok-below.ensures.below kind n ∙ ap (position (goes_on n)) e))
    c.in_ok-queued.ensures.unlinked
    c.in_ok-push_back.ensures.items)
