use Rattle.std.proofs.Common.{◌∙◌}
use Rattle.hum_record.proofs.Held.{front_behind}
use Rattle.hum_record.proofs.leaving.move_in_front.Goals as goal

pub returns-clause-text : goal.returns-clause-text
returns-clause-text c = front_behind _ c.move_to_front.new.text _ c.move_to_front.ensures.shorter ∙ c.move_to_front.ensures.text

pub returns-clause-ends : goal.returns-clause-ends
returns-clause-ends c = front_behind _ c.move_to_front.new.ends _ c.move_to_front.ensures.fewer ∙ c.move_to_front.ensures.ends
