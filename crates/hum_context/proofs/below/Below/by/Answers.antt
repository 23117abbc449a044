use Rattle.std.proofs.Common.{◌∙◌, ap, length, sym}
use Rattle.std.specs.List.{position}
use Rattle.hum_path.specs.Chains.{goes_on}
use Rattle.hum_context.proofs.Places.{same_place}
use Rattle.hum_context.proofs.below.Below.by.Goals as goal

pub returns-in-None : goal.returns-in-None
returns-in-None c n =
    rw c.len.ensures (same_place n (length c.args.found.now)
    ∙ ap (position (goes_on n)) (sym c.in-None.ensures.kept))
