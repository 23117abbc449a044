use Rattle.std.proofs.lemmas.Bool.Decides.{nat_tests}
use Rattle.std.proofs.Common.{length, sym, arith}
use Rattle.std.proofs.Common.{false}
use Rattle.std.proofs.lemmas.List.Sums.{prefix_len_is}
use Rattle.hum_record.proofs.selection.count_in_front.Goals as goal

pub returns-then-not-mark : goal.returns-then-not-mark
returns-then-not-mark = grind (arith, nat_tests, prefix_len_is)

pub returns : goal.returns
returns c =
    sym (prefix_len_is (λ b. b) c.args.marks.now (length c.args.marks.now) false (omega arith)
    (λ k l. c.loop-front.invariant k (omega arith)) (λ l. absurd (omega arith)))
