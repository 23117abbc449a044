use Rattle.std.proofs.Common.{◌≡◌, ◌++◌, take, drop, true, false}
use Rattle.hum_assemble.specs.Head.{AllLawful}
use Rattle.hum_assemble.specs.Merge.{all_moved, tokens_given}
use Rattle.hum_assemble.proofs.round.give_side_by_side.Given as goal

abbrev pub invariant-loop-source : goal.invariant-loop-source
invariant-loop-source l = record {
  kind : l.builder.kind ≡ l.fn.kind;
  spent : l.builder.spent ≡ false;
  lawful : AllLawful (drop l.source-index l.sources);
  tokens : l.builder.tokens ++ tokens_given l.free l.going l.p (drop l.source-index l.sources)
      ≡ tokens_given true l.going l.p l.initial.sources;
  moved : take l.source-index l.sources ++ all_moved l.free l.going l.p (drop l.source-index l.sources)
      ≡ all_moved true l.going l.p l.initial.sources;
}
