use Rattle.std.proofs.Common.{◌≡◌, ◌++◌, drop}
use Rattle.hum_columns.specs.Spread.{tokens_in}
use Rattle.hum_columns.specs.Writing.{draft}
use Rattle.hum_columns.proofs.OneByOne.{Lawful}
use Rattle.hum_columns.proofs.writing.push_all.Given as goal

abbrev pub invariant-loop-piece : goal.invariant-loop-piece
invariant-loop-piece l = record {
  made : l.builder ≡ draft l.builder.tokens;
  lawful : Lawful (drop l.piece-index l.pieces);
  list : l.builder.tokens ++ tokens_in (drop l.piece-index l.pieces) ≡ l.fn.builder.tokens ++ tokens_in l.pieces;
}
