-- The interval to a pitch leads there.
use Rattle.std.proofs.Common.{◌≡◌, ◌∙◌, sym, ℤ}
use Rattle.std.specs.Prelude.{Result, Ok, Err, MatchResult, IfOk, IfErr}
use Rattle.hum_pitch.specs.Pitch.{IsAway}
use Rattle.hum_pitch.specs.Given.{spelled}
use Rattle.hum_pitch.specs.declared.pitch.Pitch.{Pitch}
use Rattle.hum_pitch.specs.declared.pitch.PitchFault.{PitchFault}
use Rattle.hum_pitch.proofs.Steps.{away_only}

pub leads : (n m : ℤ) (from to : Pitch) (r : Result Pitch PitchFault) → IsAway n m (spelled from) (spelled to)
    → IfOk r (λ q. IsAway n m (spelled from) (spelled q)) → IfErr r (λ _. (q : Pitch) → ¬ IsAway n m (spelled from) (spelled q))
    → MatchResult r (λ there. spelled there ≡ spelled to) (λ _. ⊥)
leads n m from to (Ok q) h k l = away_only n m (spelled from) (spelled q) k ∙ sym (away_only n m (spelled from) (spelled to) h)
leads n m from to (Err fault) h k l = l to h
