-- The step of a timebase, as a duration.
use Rattle.std.specs.Prelude.{◌≡◌, ℕ, List, Option, Ok}
use Rattle.std.specs.Result.{result_ok}
use Rattle.hum_frac.specs.Ratio.{Ratio}
use Rattle.hum_kern.specs.Duration.{recip}
use Rattle.hum_choices.specs.declared.timebase.TimebaseOptions.{TimebaseOptions}

-- the duration that a text is, if it is one
abbrev pub step_of : List ℕ → Option Ratio
step_of text = result_ok (recip text)

-- A step has its text, and that is a duration of its length.
pub record IsStep (text : List ℕ) (options : TimebaseOptions) : Type 0 where
  pub text_is : options.text.items ≡ text
  pub value : recip text ≡ Ok options.step
