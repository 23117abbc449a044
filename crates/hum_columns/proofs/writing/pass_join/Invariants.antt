use Rattle.std.proofs.Common.{◌≡◌, ◌+◌, length, drop}
use Rattle.hum_columns.specs.Writing.{draft, behind}
use Rattle.hum_columns.proofs.writing.pass_join.Given as goal

abbrev pub invariant-loop-i : goal.invariant-loop-i
invariant-loop-i l = record {
  made : l.last ≡ draft l.last.tokens;
  same : behind l.last.tokens (drop l.i l.pieces) ≡ behind l.fn.last.tokens l.pieces;
  count : length l.last.tokens ≡ length l.fn.last.tokens + l.i;
}
