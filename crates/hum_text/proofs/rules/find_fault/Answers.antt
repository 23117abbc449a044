use Rattle.std.proofs.Common.{◌≡◌, ◌+◌, ◌∙◌, sym, None}
use borrow.Author.Count.{below_more}
use Rattle.hum_text.specs.Text.{rule_of_line}
use Rattle.hum_text.proofs.rules.find_fault.Goals as goal

pub loop-k-preserved : goal.loop-k-preserved
loop-k-preserved c =
    below_more (λ j. rule_of_line c.args.limits.now (c.args.given + 1) c.args.taken c.args.held.now j ≡ None) c.loop-k.k
    c.loop-k.invariant (sym c.fault_at.ensures ∙ c.in_default.is)
