use Rattle.std.proofs.Common.{◌≡◌, ◌++◌, take, drop, true}
use Rattle.std.specs.Prelude.{None}
use Rattle.hum_assemble.specs.Merge.{all_moved}
use Rattle.hum_assemble.specs.Taking.{row_taken}
use Rattle.hum_assemble.proofs.round.go_on.Given as goal

abbrev pub invariant-loop-source : goal.invariant-loop-source
invariant-loop-source l = record {
  moved : take l.source-index l.sources
      ++ all_moved l.free l.going l.p (drop l.source-index l.sources)
      ≡ all_moved true l.going l.p l.initial.sources;
  taken : row_taken l.given l.free l.going l.p (drop l.source-index l.sources)
      ≡ row_taken None true l.going l.p l.initial.sources;
}
