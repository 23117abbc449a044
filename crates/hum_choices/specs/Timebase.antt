-- How far apart the records stand.
use Rattle.std.specs.Prelude.{ℕ, List}
use Rattle.hum_frac.specs.Ratio.{Ratio}
use Rattle.hum_choices.specs.declared.timebase.TimebaseOptions.{TimebaseOptions}

-- the duration from one record to the next, and how it is written
pub record Pace : Type 0 where
  pub step : Ratio
  pub text : List ℕ

-- what the options say
abbrev pub pace_of : TimebaseOptions → Pace
pace_of options = record { step = options.step; text = options.text.items }
