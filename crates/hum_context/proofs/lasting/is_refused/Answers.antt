use Rattle.std.proofs.Common.{◌∙◌, sym, ap, subst, ◌∷◌, ◌+◌, cond}
use Rattle.hum_score.specs.Row.{Row, tokens_of}
use Rattle.hum_score.specs.Score.{path_after}
use Rattle.hum_stage.specs.Settles.{or_stop}
use Rattle.hum_context.specs.declared.becoming.Weight.{Weight}
use Rattle.hum_context.specs.Queue.{Knows}
use Rattle.std.proofs.Common.{drop}
use Rattle.hum_context.proofs.Weighing.{kept_at, quiet_stays}
use Rattle.hum_context.proofs.Following.{first_data, none_heard}
use Rattle.hum_context.proofs.Lasts.{stops_by, is_long}
use Rattle.hum_context.proofs.lasting.is_refused.Goals as goal

pub returns-then-is_quiet : goal.returns-then-is_quiet
returns-then-is_quiet c o past row rows want none knows n =
    let known = kept_at o (path_after past) c.args.held.now.items c.args.k row rows
    c.index.result.now knows c.requires.within c.index.ensures in
    ap (λ d. or_stop d n) (quiet_stays o past row rows c.index.result.now known
    (none_heard _ (sym c.is_quiet.ensures ∙ c.if-is_quiet.true)))

pub returns-in-Long : goal.returns-in-Long
returns-in-Long c o past row rows want none knows n =
    let known = kept_at o (path_after past) c.args.held.now.items c.args.k row rows
    c.index.result.now knows c.requires.within c.index.ensures in
    let is = first_data o (path_after past) row c.index.result.now known
    (sym c.is_quiet.ensures ∙ c.if-is_quiet.false) in
    stops_by o past row rows c.weigh.result n is
    (c.weigh.ensures o (path_after past) (tokens_of row) rows want none
    (subst (λ (r : Row). Knows o (path_after past) (drop c.args.k c.args.held.now.items) (r ∷ rows))
    is knows))
    ∙ ap (λ (w : Weight). cond (is_long w) 0 (n + 1)) c.in-Long.is

pub returns-in-Fits : goal.returns-in-Fits
returns-in-Fits c o past row rows want none knows n =
    let known = kept_at o (path_after past) c.args.held.now.items c.args.k row rows
    c.index.result.now knows c.requires.within c.index.ensures in
    let is = first_data o (path_after past) row c.index.result.now known
    (sym c.is_quiet.ensures ∙ c.if-is_quiet.false) in
    stops_by o past row rows c.weigh.result n is
    (c.weigh.ensures o (path_after past) (tokens_of row) rows want none
    (subst (λ (r : Row). Knows o (path_after past) (drop c.args.k c.args.held.now.items) (r ∷ rows))
    is knows))
    ∙ ap (λ (w : Weight). cond (is_long w) 0 (n + 1)) c.in-Fits.is
