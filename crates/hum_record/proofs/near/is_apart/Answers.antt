use Rattle.std.proofs.Common.{◌∙◌, sym}
use Rattle.std.proofs.lemmas.Bool.{eqb-true}
use Rattle.hum_record.proofs.Words.{cut_heads}
use Rattle.hum_record.proofs.near.is_apart.Goals as goal

pub returns : goal.returns
returns c is = sym (cut_heads c.args.head c.args.ends c.requires c.ranges.ends.fits) ∙ eqb-true _ 0 is
