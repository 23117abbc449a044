use Rattle.std.proofs.Common.{refl}
use Rattle.hum_choices.specs.Options.{Yank}
use Rattle.hum_options.proofs.Lookups.{markers_kept, both_lack}
use Rattle.hum_options.proofs.options.yank.Goals as goal

pub returns-in_err-ranges : goal.returns-in_err-ranges
returns-in_err-ranges c = rw (c.from_residual.ensures, ← c.in_err-ranges.ensures.value) (both_lack Yank _)

pub returns-in_err-markers : goal.returns-in_err-markers
returns-in_err-markers c =
    let kept = markers_kept _ _ c.ranges-2.ensures.others in
    let none = c.in_err-markers.ensures in
    rw (c.from_residual-in_err-markers.ensures, ← kept, ← none) refl

pub returns : goal.returns
returns c =
    let kept = markers_kept _ _ c.ranges-2.ensures.others in
    let found = c.in_ok-markers.ensures in
    rw (← kept, ← found, ← c.in_ok-ranges.ensures.value) refl
