-- Notes of tokens that lead.
use Rattle.std.proofs.Common.{ℕ, List, arith, true, Option}
use Rattle.std.specs.Prelude.{IfSome}
use Rattle.std.proofs.lemmas.Bool.Decides.{nat_tests}
use Rattle.hum_frac.specs.Ratio.{Ratio}
use Rattle.hum_kern.specs.Subtokens.{IsLed}
use Rattle.hum_timebase.specs.Reading.{IsNote}

pub notes : (token : List ℕ) (lasting : Option Ratio) → IfSome lasting (IsLed token) → IfSome lasting (IsNote true token)
notes = grind (arith, nat_tests)
