use Rattle.std.proofs.Common.{◌≡◌, map, take}
use Rattle.hum_score.specs.declared.records.SpinedKind.TheVariants.{Interpretation}
use Rattle.hum_score.specs.Row.{tokens_of}
use Rattle.hum_cells.specs.Rewriting.{headed}
use Rattle.hum_cells.specs.Rewriter.{shown}
use Rattle.hum_record.specs.RecordDraft.{Holds}
use Rattle.hum_cells.proofs.heading.with_heading.Given as goal

abbrev pub invariant-loop-j : goal.invariant-loop-j
invariant-loop-j l = record {
  kind : l.making.builder.kind ≡ Interpretation;
  holds : Holds Interpretation l.making.builder l.making.is_long (map (headed (shown l.heading)) (take l.j (tokens_of l.row)));
}
