use Rattle.std.proofs.Common.{◌≡◌, take}
use Rattle.hum_score.specs.Row.{tokens_of}
use Rattle.hum_record.specs.RecordDraft.{Holds}
use Rattle.hum_score.specs.declared.records.SpinedKind.TheVariants.{Values}
use Rattle.hum_ditto.specs.Ditto.{all_filled}
use Rattle.hum_ditto.proofs.filling.rebuilt_by_tokens.Given as goal

abbrev pub invariant-loop-j : goal.invariant-loop-j
invariant-loop-j l = record {
  kind : l.making.builder.kind ≡ Values;
  made : Holds Values l.making.builder l.making.is_long
      (all_filled l.memory.options.parentheses (take l.j l.memory.each) (take l.j (tokens_of l.row)));
}
