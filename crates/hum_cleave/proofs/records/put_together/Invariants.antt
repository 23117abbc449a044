use Rattle.std.proofs.Common.{◌≡◌}
use Rattle.hum_score.specs.Row.{tokens_of}
use Rattle.hum_cleave.proofs.Placewise.{Put}
use Rattle.hum_cleave.proofs.records.put_together.Given as goal

abbrev pub invariant-loop-j : goal.invariant-loop-j
invariant-loop-j l = record {
  kind : l.making.builder.kind ≡ l.fn.kind;
  put : Put l.fn.kind l.one l.marks (tokens_of l.row) l.j l.is_done l.making.builder l.making.is_long;
}
