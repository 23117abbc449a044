use Rattle.std.proofs.lemmas.Bool.Decides.{nat_tests}
use Rattle.std.proofs.Common.{refl, arith}
use Rattle.hum_options.proofs.reading.next_option.Goals as goal

pub returns-in_err-option : goal.returns-in_err-option
returns-in_err-option = grind (arith, nat_tests)

pub returns-then-is_barred : goal.returns-then-is_barred
returns-then-is_barred g c =
    let found = rw c.as_bytes.ensures.value at c.in_ok-option.ensures in rw (← found, ← c.if-is_barred.ensures) refl

pub returns-else-is_barred : goal.returns-else-is_barred
returns-else-is_barred g c =
    let found = rw c.as_bytes.ensures.value at c.in_ok-option.ensures in rw (← found, ← c.if-is_barred.ensures) refl
