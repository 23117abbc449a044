use Rattle.std.proofs.Common.{◌≡◌, ◌≢◌, ◌≤◌, ◌++◌, ◌-◌, [], length, drop}
use Rattle.hum_score.specs.declared.records.SpinedKind.TheVariants.{Interpretation}
use Rattle.hum_columns.specs.Spread.{one_by_one, before_last, filled}
use Rattle.hum_columns.specs.Writing.{Fit, draft, behind}
use Rattle.hum_columns.proofs.writing.write_each.Given as goal

abbrev pub invariant-loop : goal.invariant-loop
invariant-loop l = record {
  made : l.last ≡ draft l.last.tokens;
  fit : Fit (behind l.last.tokens (drop l.start l.pieces));
  some : behind l.last.tokens (drop l.start l.pieces) ≢ [];
  before : l.before ≡ length l.last.tokens;
  less : l.before ≤ l.start;
  within : l.start ≤ length l.pieces;
  list : l.out.items ++ filled Interpretation (one_by_one (l.records - l.counter) (behind l.last.tokens (drop l.start l.pieces)))
      ≡ l.fn.out.items ++ filled Interpretation (one_by_one (before_last l.records) l.pieces);
}
