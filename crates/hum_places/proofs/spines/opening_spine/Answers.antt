use Rattle.std.proofs.Common.{◌<◌, arith}
use Rattle.hum_score.specs.Spines.{width}
use Rattle.hum_score.specs.Score.{path_after}
use Rattle.hum_places.proofs.Above.{origins_above}
use Rattle.hum_places.proofs.spines.opening_spine.Goals as goal

pub returns : goal.returns
returns c past sound each =
    let wide = each.width in
    let below : c.args.j < width (path_after past) = omega (arith, wide, c.requires) in
    (origins_above past sound c.args.j c.at.result below).1 (c.at.ensures.origin past each)
