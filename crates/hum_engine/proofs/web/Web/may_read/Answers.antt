use Rattle.hum_engine.proofs.Readying.{by_room, by_mark}
use Rattle.hum_engine.proofs.web.Web.may_read.Goals as goal

pub returns-then-is_unset : goal.returns-then-is_unset
returns-then-is_unset g c s h =
    by_room h c.requires.source c.index.ensures c.is_unset.ensures c.if-is_unset.true
    c.index-then-is_unset.ensures c.has_room.ensures.has_room

pub returns-else-is_unset : goal.returns-else-is_unset
returns-else-is_unset g c s h = by_mark h c.requires.source c.index.ensures c.is_unset.ensures c.if-is_unset.false
