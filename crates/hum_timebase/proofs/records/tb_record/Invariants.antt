use Rattle.std.proofs.Common.{◌≡◌, ◌++◌, drop, map, false}
use Rattle.hum_score.specs.Row.{tokens_of}
use Rattle.hum_score.specs.declared.records.SpinedKind.TheVariants.{Interpretation}
use Rattle.hum_timebase.specs.Timebase.{tb_token}
use Rattle.hum_timebase.proofs.records.tb_record.Given as goal

abbrev pub invariant-loop-j : goal.invariant-loop-j
invariant-loop-j l = record {
  kind : l.builder.kind ≡ Interpretation;
  unspent : l.builder.spent ≡ false;
  made : l.builder.tokens ++ map (tb_token l.pace.text) (drop l.j (tokens_of l.row)) ≡ map (tb_token l.pace.text) (tokens_of l.row);
}
