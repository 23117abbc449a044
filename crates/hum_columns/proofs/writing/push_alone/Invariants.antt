use Rattle.std.proofs.Common.{◌≡◌, ◌++◌, drop}
use Rattle.hum_columns.specs.Spread.{first_alone}
use Rattle.hum_columns.specs.Writing.{draft, alone_from}
use Rattle.hum_columns.proofs.OneByOne.{Lawful}
use Rattle.hum_columns.proofs.writing.push_alone.Given as goal

abbrev pub invariant-loop-piece : goal.invariant-loop-piece
invariant-loop-piece l = record {
  made : l.builder ≡ draft l.builder.tokens;
  lawful : Lawful (drop l.piece-index l.pieces);
  list : l.builder.tokens ++ alone_from l.phase (drop l.piece-index l.pieces) ≡ l.fn.builder.tokens ++ first_alone l.pieces;
}
