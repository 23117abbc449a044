-- The token that tells a step.
use Rattle.std.specs.Prelude.{ℕ, ◌<◌, ◌≤◌, List, ◌++◌, length}
use lib.Chars.{codes}
use Rattle.hum_score.specs.declared.records.SpinedKind.TheVariants.{Interpretation}
use Rattle.hum_score.specs.Spelling.{IsToken}
use Rattle.hum_frac.specs.Ratio.{Ratio}

pub record IsPace (step : Ratio) (text : List ℕ) : Type 0 where
  pub positive : 0 < step.top
  pub lawful : IsToken Interpretation (codes "*tb" ++ text)
  pub short : length text ≤ 15
