use Rattle.std.proofs.Common.{rules, FitsSigned, ◌∙◌, ◌≡◌, ap, ℤ, pos, ◌+ℤ◌, ◌-ℤ◌, ◌*ℤ◌, arith, to_z, of_z, w32}
use Rattle.std.proofs.lemmas.Int.{ints, to_z-of_z}
use Rattle.hum_pitch.specs.Pitch.{step_number}
use Rattle.hum_pitch.specs.Given.{spelled}
use Rattle.hum_pitch.proofs.Steps.{octave_of, step_of, altered, difference_fits, difference_is, same_note}
use Rattle.hum_pitch.proofs.pitch.Pitch.away.Goals as goal

pub overflow_sub-alteration : goal.overflow_sub-alteration
overflow_sub-alteration c =
    difference_fits c.semits.result c.args.semitones c.natural_semits.result
    (omega (arith, ints), omega (arith, ints)) (omega (arith, ints), omega (arith, ints)) c.natural_semits.ensures.bounded

pub returns-clause-exact : goal.returns-clause-exact
returns-clause-exact c =
    let at = c.natural_at-octave.result in
    let below = c.natural_at-octave.ensures.below in
    let e : (pos 7 *ℤ at.0) +ℤ pos at.1 ≡ step_number (spelled c.args.self) +ℤ c.args.steps = omega (arith, ints) in
    let fits : FitsSigned w32 at.0 = search rules in
    let same : to_z w32 (of_z w32 at.0) ≡ at.0 = to_z-of_z w32 at.0 fits in
    let number : ℤ → ℤ = λ o. (pos 7 *ℤ o) +ℤ pos at.1 in
    let difference = difference_is c.semits.result c.args.semitones c.natural_semits.result
    (omega (arith, ints), omega (arith, ints)) (omega (arith, ints), omega (arith, ints)) c.natural_semits.ensures.bounded in
    let wanting : ℤ → ℤ = λ s. (s +ℤ c.args.semitones) -ℤ c.natural_semits.result in
    same_note _ _
    (step_of at.1 at.0 _ below e)
    (same ∙ octave_of at.1 at.0 _ below e)
    (altered c.args.steps c.args.semitones _ c.natural_semits.result (spelled c.args.self) at.1 (to_z w32 (of_z w32 at.0))
    below (ap number same ∙ e) c.natural_semits.ensures.exact (difference ∙ ap wanting c.semits.ensures.exact))
