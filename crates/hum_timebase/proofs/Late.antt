-- No multiple of the step stands from a time to one that isn't after it.
use Rattle.std.proofs.lemmas.Bool.Decides.{nat_tests}
use Rattle.std.proofs.Common.{◌≡◌, ◌<◌, true, arith}
use Rattle.std.specs.Ordering.{is_ge}
use Rattle.hum_frac.specs.Ratio.{Ratio, compare}
use Rattle.hum_frac.proofs.Compared.{not_before}
use Rattle.hum_frac.proofs.Order.{none_between}
use Rattle.hum_timebase.specs.Timebase.{multiples_from}

pub none_from : (a b step : Ratio) → 0 < a.bottom → 0 < b.bottom → 0 < step.top → is_ge (compare a b) ≡ true → 0 ≡ multiples_from a b step
none_from = grind (arith, nat_tests, not_before, none_between)
