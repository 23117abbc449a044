-- What is answered of the note that is away.
use Rattle.std.proofs.lemmas.Bool.Decides.{nat_tests}
use Rattle.std.proofs.Common.{ℤ, pos, negsuc, Result, Ok, Err, subst, sym, arith}
use Rattle.std.specs.Prelude.{IfOk, IfErr}
use Rattle.hum_pitch.specs.Pitch.{Spelled, IsAway, IsWithin, IsOutside, away}
use Rattle.hum_pitch.specs.Given.{spelled, Answers}
use Rattle.hum_pitch.specs.declared.pitch.Pitch.{Pitch}
use Rattle.hum_pitch.specs.declared.pitch.PitchFault.{PitchFault}
use Rattle.hum_pitch.specs.declared.pitch.PitchFault.TheVariants.{TR1, TR2}
use Rattle.hum_pitch.proofs.Steps.{away_is, away_only}

pub apart : (n m : ℤ) (p : Spelled) (r : Result Pitch PitchFault) → Answers (away n m p) r
    → IfOk r (λ q. IsAway n m p (spelled q))
apart = grind (arith, nat_tests, away_is)

outside : (low z high : ℤ) → IsWithin low z high → IsOutside low z high → ⊥
outside = grind (arith, nat_tests)

-- What is refused has no spelling within the limits.
pub none : (n m : ℤ) (p : Spelled) (r : Result Pitch PitchFault) → Answers (away n m p) r
    → IfErr r (λ _. (q : Pitch) → IsAway n m p (spelled q) → ⊥)
none n m p (Ok q) e = tt
none n m p (Err TR1) e =
    λ q. λ h.
    let P : Spelled → Type 0 = λ s. IsOutside (negsuc 6) s.alteration (pos 7) in
    outside (negsuc 6) q.alteration (pos 7) q.in_range.2 (subst P (sym (away_only n m p (spelled q) h)) e)
none n m p (Err TR2) e =
    λ q. λ h.
    let P : Spelled → Type 0 = λ s. IsOutside (negsuc 3) s.octave (pos 11) in
    outside (negsuc 3) q.octave (pos 11) q.in_range.1 (subst P (sym (away_only n m p (spelled q) h)) e.1)
