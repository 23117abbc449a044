use Rattle.std.proofs.Common.{append-nil, subst, Some, ◌++◌, ◌≡◌, ◌∷◌, []}
use Rattle.hum_timebase.specs.Ends.{next_end}
use Rattle.hum_timebase.proofs.Lasts.{passed_more, all_passed, least_more}
use Rattle.hum_timebase.proofs.ends.least_end.Goals as goal

pub loop-left-init : goal.loop-left-init
loop-left-init c = ([], append-nil c.args.ends.now, λ behind known. known)

pub loop-left-preserved : goal.loop-left-preserved
loop-left-preserved c =
    let left = c.loop-left.left.now in
    let passed = c.loop-left.invariant.0 in (
      c.end-item.result ∷ passed,
      passed_more left passed c.args.ends.now c.end-item.result c.in-len1-up.len_at_least c.end-item.is c.loop-left.invariant.1,
      λ behind known. least_more c.args.time c.loop-left.least c.sooner_beyond-least.result c.end-item.result (passed ++ behind)
          (c.loop-left.invariant.2 behind known) c.sooner_beyond-least.ensures,
    )

pub returns : goal.returns
returns c behind known =
    let all = all_passed c.loop-left.left.now _ c.args.ends.now c.in_default.len_below c.loop-left.invariant.1 in
    subst (λ ends. next_end c.args.time (ends ++ behind) ≡ Some c.loop-left.least) all (c.loop-left.invariant.2 behind known)
