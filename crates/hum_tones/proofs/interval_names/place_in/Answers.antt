use Rattle.std.proofs.Common.{arith}
use Rattle.std.proofs.lemmas.Int.{ints}
use Rattle.hum_tones.proofs.IntervalNames.{small_width}
use Rattle.hum_tones.proofs.interval_names.place_in.Goals as goal

pub returns-clause-exact : goal.returns-clause-exact
returns-clause-exact c =
    let small = small_width c.args.row c.requires.row in
    let width = c.from.ensures in
    let range = c.requires.semitones in
    let low = c.if-from-lt0.false in
    omega (arith, ints, small, width, range, low)
