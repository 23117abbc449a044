use Rattle.hum_stage.proofs.Telling.{told_on}
use Rattle.hum_tones.specs.Trans.{transposed_part}
use Rattle.hum_tones.proofs.Lone.{spaced, refused_on}
use Rattle.hum_tones.proofs.transposing.add_transposed.Goals as goal

pub returns-in_err-put_transposed : goal.returns-in_err-put_transposed
returns-in_err-put_transposed c =
    told_on c.from_residual.result c.in_err-put_transposed.field-0.0 _ _ c.from_residual.ensures.1 c.in_err-put_transposed.ensures
    (λ rule put. refused_on (transposed_part c.args.options.steps c.args.options.semitones c.args.part.now) _ _ _ rule put)

pub returns : goal.returns
returns c =
    spaced (transposed_part c.args.options.steps c.args.options.semitones c.args.part.now) c.args.text.now.items
    c.put_transposed.new.text.items c.push.new.self.items c.in_ok-put_transposed.ensures c.in_ok-push.ensures.items
