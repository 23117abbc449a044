use Rattle.std.proofs.Common.{append-nil, ◌∙◌, sym, ap, refl, ◌∷◌, []}
use Rattle.hum_timebase.specs.Ends.{next_end}
use Rattle.hum_timebase.proofs.Lasts.{passed_more, all_passed, none_beyond, one_beyond}
use Rattle.hum_timebase.proofs.ends.next_end.Goals as goal

pub loop-left-init : goal.loop-left-init
loop-left-init c = ([], append-nil c.args.ends.now, refl)

pub returns-in-Some : goal.returns-in-Some
returns-in-Some c =
    let left = c.loop-left.left.now in
    let passed = c.loop-left.invariant.0 in
    let one = one_beyond c.args.time c.in-Some.end c.end-item.result passed (sym c.beyond.ensures ∙ c.in-Some.is) c.loop-left.invariant.2 in
    sym (c.least_end.ensures (c.end-item.result ∷ passed) one)
    ∙ ap (next_end c.args.time)
    (passed_more left passed c.args.ends.now c.end-item.result c.in-len1-up.len_at_least c.end-item.is c.loop-left.invariant.1)

pub loop-left-preserved : goal.loop-left-preserved
loop-left-preserved c =
    let left = c.loop-left.left.now in
    let passed = c.loop-left.invariant.0 in (
      c.end-item.result ∷ passed,
      passed_more left passed c.args.ends.now c.end-item.result c.in-len1-up.len_at_least c.end-item.is c.loop-left.invariant.1,
      none_beyond c.args.time c.end-item.result passed (sym c.beyond.ensures ∙ c.in_default-beyond.is) c.loop-left.invariant.2,
    )

pub returns : goal.returns
returns c =
    sym c.loop-left.invariant.2
    ∙ ap (next_end c.args.time) (all_passed c.loop-left.left.now _ c.args.ends.now c.in_default.len_below c.loop-left.invariant.1)
