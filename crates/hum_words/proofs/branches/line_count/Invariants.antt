use Rattle.std.proofs.Common.{◌≡◌, ◌+◌, ◌≤◌, length}
use denote.Text.{Utf8}
use denote.Shadow.{shadow}
use Rattle.hum_words.specs.Branches.{lines_of}
use Rattle.hum_words.proofs.branches.line_count.Given as goal

abbrev pub invariant-loop-rest : goal.invariant-loop-rest
invariant-loop-rest l = record {
  text : shadow (Utf8 l.rest);
  count : l.count + length (lines_of l.rest) ≡ length (lines_of l.plan);
  short : l.count + length l.rest ≤ length l.plan;
}

abbrev pub decreases-loop-rest : goal.decreases-loop-rest
decreases-loop-rest l = length l.rest
