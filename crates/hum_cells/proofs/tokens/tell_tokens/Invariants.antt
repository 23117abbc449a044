use Rattle.std.proofs.Common.{◌≡◌, List, ◌∷◌, take}
use Rattle.hum_score.specs.declared.records.SpinedKind.TheVariants.{Values}
use Rattle.hum_score.specs.Row.{Row, tokens_of}
use Rattle.hum_score.specs.Score.{IsOpen}
use Rattle.hum_path.specs.Chains.{columns, longer}
use Rattle.hum_cells.specs.Rewriting.{Rewriting, kern_columns}
use Rattle.hum_cells.proofs.Telling.{Done}
use Rattle.hum_cells.proofs.tokens.tell_tokens.Given as goal

abbrev pub invariant-loop-j : goal.invariant-loop-j
invariant-loop-j g l = record {
  kind : l.making.builder.kind ≡ Values;
  told : (rewriting : Rewriting) (past : List Row) → g.T.TokenRewriter.follows l.initial.teller rewriting (columns past)
      → l.kern ≡ kern_columns past → IsOpen (l.row ∷ past)
      → g.T.TokenRewriter.follows l.teller rewriting (longer (take l.j (tokens_of l.row)) (columns past))
      × Done rewriting.becomes l.kern (columns past) (tokens_of l.row) l.j l.making.builder l.making.is_long;
}
