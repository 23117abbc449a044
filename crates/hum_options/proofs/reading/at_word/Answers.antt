use Rattle.hum_options.proofs.reading.at_word.Goals as goal

pub returns-in-Free : goal.returns-in-Free
returns-in-Free c = λ n words. rw c.in-Free.is (c.at_option.ensures n words)

pub returns-in-Awaits : goal.returns-in-Awaits
returns-in-Awaits c = λ n words. rw c.in-Awaits.is (c.at_value.ensures c.args.command c.in-Awaits.field-0 n words)
