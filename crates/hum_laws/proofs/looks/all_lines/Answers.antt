use Rattle.std.proofs.Common.{refl}
use Rattle.std.proofs.lemmas.Result.{IfOk-weaker}
use Rattle.std.specs.Prelude.{[], ◌∷◌}
use Rattle.hum_words.specs.declared.commands.Command.TheVariants.{Yank}
use Rattle.hum_choices.specs.declared.yank.YankRange.TheVariants.{Onward}
use Rattle.hum_yank.specs.Passages.{Lines}
use Rattle.hum_yank.specs.Yank.{yank}
use Rattle.hum_laws.proofs.Ahead.{all_lines, stays_whole}
use Rattle.hum_laws.proofs.looks.all_lines.Goals as goal

pub returns-clause-yanked : goal.returns-clause-yanked
returns-clause-yanked c = rw (c.in_ok-push.ensures.items, c.new-ranges.ensures.items) at c.alone.ensures

pub returns-clause-same : goal.returns-clause-same
returns-clause-same c =
    IfOk-weaker c.alone.result _ _
    (λ given h. (stays_whole 65536 1 Yank (yank (record { form = Lines; ranges = Onward 1 ∷ [] })) c.args.score.records.now given (all_lines _ refl)
    (rw (c.in_ok-push.ensures.items, c.new-ranges.ensures.items) at h)).0)
    c.alone.ensures

pub returns-clause-end : goal.returns-clause-end
returns-clause-end c =
    IfOk-weaker c.alone.result _ _
    (λ given h. (stays_whole 65536 1 Yank (yank (record { form = Lines; ranges = Onward 1 ∷ [] })) c.args.score.records.now given (all_lines _ refl)
    (rw (c.in_ok-push.ensures.items, c.new-ranges.ensures.items) at h)).1)
    c.alone.ensures
