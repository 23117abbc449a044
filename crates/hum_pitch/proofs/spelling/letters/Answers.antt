use Rattle.std.proofs.Common.{◌≡◌, ℕ, List, pos, ◌-ℤ◌, arith, ap, ◌∙◌, to_z, of_z, w8}
use Rattle.std.specs.Prelude.{replicate, slice_index, unsigned_abs}
use Rattle.std.proofs.lemmas.Int.{ints}
use Rattle.hum_pitch.specs.Spelling.{capitals}
use Rattle.hum_pitch.proofs.Reading.{capital_letters}
use Rattle.hum_pitch.proofs.spelling.letters.Goals as goal

pub returns-else-pitch-ge4-clause-exact : goal.returns-else-pitch-ge4-clause-exact
returns-else-pitch-ge4-clause-exact c =
    let count : ℕ = unsigned_abs (to_z w8 (of_z w8 (pos 4 -ℤ to_z w8 (of_z w8 c.args.pitch.octave)))) in
    let by_step : ℕ → List ℕ = λ k. replicate count (slice_index capitals k) in
    let counted : pos count ≡ pos 4 -ℤ c.args.pitch.octave = omega (arith, ints) in
    ap by_step c.from-step.ensures ∙ capital_letters c.args.pitch.step count c.args.pitch.octave (omega (arith, ints)) counted
