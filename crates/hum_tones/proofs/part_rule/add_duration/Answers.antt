use Rattle.std.proofs.Common.{◌∙◌}
use lib.Chars.{codes}
use Rattle.hum_tones.specs.Recip.{written, rest_sign}
use Rattle.hum_tones.proofs.Written.{adds_written, regrouped}
use Rattle.hum_tones.proofs.part_rule.add_duration.Goals as goal

pub returns-in_ok-extend_from_slice-in-Some-2 : goal.returns-in_ok-extend_from_slice-in-Some-2
returns-in_ok-extend_from_slice-in-Some-2 c =
    adds_written c.args.part.now c.in-Ok.found c.in-Some.field-0 c.args.text.now.items _ c.in-Ok.ensures.read c.in-Some.is
    (c.in_ok-extend_from_slice-in-Some-2.ensures.items
    ∙ rw (c.in_ok-extend_from_slice-in-Some.ensures.items, c.behind.ensures)
    (regrouped c.args.text.now.items (written c.in-Ok.found c.args.part.now) (rest_sign c.args.part.now) (codes " ")))
