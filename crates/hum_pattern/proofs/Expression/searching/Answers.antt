use Rattle.hum_pattern.proofs.Remembered.{found_none}
use Rattle.hum_pattern.proofs.Expression.searching.Goals as goal

pub invariant_of-result : goal.invariant_of-result
invariant_of-result c =
    rw (c.in_ok-new.ensures.ok, c.in_ok-matcher.ensures.pattern, c.new-2.ensures.items)
    (c.requires, found_none _, c.requires)
