use Rattle.hum_choices.specs.declared.CommandOptions.TheVariants as told
use Rattle.hum_valid.proofs.Commands.{keeps, uncleaved}
use Rattle.hum_valid.proofs.records.commands_keep_records.Goals as goal

pub returns-in-Cleave : goal.returns-in-Cleave
returns-in-Cleave c = rw c.in-Cleave.is (keeps (told.Cleave c.in-Cleave.told) c.cleave_is_lawful.ensures)

pub returns-in_default : goal.returns-in_default
returns-in_default c = keeps c.args.options.now (uncleaved c.args.options.now c.in_default.not-Cleave)
