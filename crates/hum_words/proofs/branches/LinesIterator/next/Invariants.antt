use Rattle.std.proofs.Common.{◌≡◌, length}
use Rattle.hum_words.specs.Branches.{lines_of, branches_from}
use Rattle.hum_words.proofs.branches.LinesIterator.next.Given as goal

abbrev pub invariant-loop-line : goal.invariant-loop-line
invariant-loop-line l =
    branches_from l.self.number (lines_of l.self.rest.now)
    ≡ branches_from l.fn.self.number (lines_of l.fn.self.rest.now)

abbrev pub decreases-loop-line : goal.decreases-loop-line
decreases-loop-line l = length l.self.rest.now
