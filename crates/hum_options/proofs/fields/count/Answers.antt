use Rattle.hum_options.proofs.Choices.{read_as}
use Rattle.hum_options.proofs.FieldItems.{count_is, count_alone}
use Rattle.hum_options.proofs.fields.count.Goals as goal

pub returns : goal.returns
returns c = read_as c.read_count.ensures (count_is c.args.text.now) (count_alone c.args.text.now)
