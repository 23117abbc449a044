use Rattle.std.proofs.Common.{◌∙◌, sym}
use Rattle.hum_assemble.proofs.Bytes.{too_long}
use Rattle.hum_assemble.proofs.round.is_too_long.Goals as goal

pub returns-in-Some : goal.returns-in-Some
returns-in-Some c = too_long _ _ _ _ _ (sym c.in-Some.is ∙ c.kind.ensures) c.are_more_bytes.ensures
