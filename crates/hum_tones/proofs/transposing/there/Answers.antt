use Rattle.std.proofs.Common.{◌≡◌, arith, to_z, of_z, w32}
use Rattle.std.proofs.lemmas.Int.{ints}
use Rattle.hum_tones.proofs.transposing.there.Goals as goal

pub returns : goal.returns
returns c =
    let range = c.args.options.in_range in
    let steps : to_z w32 (of_z w32 c.args.options.steps) ≡ c.args.options.steps = omega (arith, ints) in
    let semitones : to_z w32 (of_z w32 c.args.options.semitones) ≡ c.args.options.semitones = omega (arith, ints) in
    rw (steps, semitones) at c.transpose.ensures.exact
