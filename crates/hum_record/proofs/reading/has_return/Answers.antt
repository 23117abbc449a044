use Rattle.std.proofs.Common.{◌∙◌}
use Rattle.hum_record.proofs.Parts.{search_finds}
use Rattle.hum_record.proofs.reading.has_return.Goals as goal

pub returns : goal.returns
returns c = c.is_some.ensures ∙ search_finds 13 c.args.text.now c.memchr.result c.memchr.ensures
