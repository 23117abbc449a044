use Rattle.std.proofs.Common.{◌≡◌, arith, to_z, of_z, w32}
use Rattle.std.proofs.lemmas.Int.{ints}
use Rattle.hum_laws.proofs.Leading.{leads}
use Rattle.hum_laws.proofs.pitches.interval_leads.Goals as goal

pub returns : goal.returns
returns c =
    let range = c.interval-way.result.in_range in
    let steps : to_z w32 (of_z w32 c.interval-way.result.d) ≡ c.interval-way.result.d = omega (arith, ints) in
    let semitones : to_z w32 (of_z w32 c.interval-way.result.s) ≡ c.interval-way.result.s = omega (arith, ints) in
    leads c.interval-way.result.d c.interval-way.result.s c.args.from c.args.to c.transpose.result c.interval-way.ensures.apart
    (rw (steps, semitones) at c.transpose.ensures.apart) (rw (steps, semitones) at c.transpose.ensures.none)
