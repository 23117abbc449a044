use Rattle.std.proofs.Common.{◌∙◌, sym, ap}
use Rattle.hum_score.specs.Spines.{same_upto}
use Rattle.hum_ditto.proofs.Whole.{comes_same}
use Rattle.hum_ditto.proofs.Passing.{each_alone}
use Rattle.hum_ditto.proofs.memory.each_of.Goals as goal

pub follow-requires : goal.follow-requires
follow-requires c = comes_same c.args.next.now c.args.stays.now (c.requires.stays ∙ ap (same_upto 0) (sym c.requires.width))

pub follow-requires-2 : goal.follow-requires-2
follow-requires-2 c = comes_same c.args.row.now c.args.stays.now c.requires.stays

pub returns-clause-each : goal.returns-clause-each
returns-clause-each c =
    each_alone c.args.skip.now c.follow.new.rule c.args.row.now c.args.next.now c.args.stays.now c.new-each.result.each c.follow.new.self.each
    c.follow-2.new.self.each c.requires.skips_none c.follow.ensures.kept (ap (λ m. m.each) c.new-each.ensures) c.requires.kind c.requires.next
    c.requires.lawful c.requires.width c.requires.stays c.in_ok-follow.ensures.memories c.in_ok-follow-2.ensures.memories
