-- What computes a pattern's searches, where its text and the tokens are written out.
use Rattle.std.specs.Prelude.{⊤}
use Rattle.regex.specs.Patterns.{find, holds, has_bytes_at}
use Rattle.regex.proofs.OnLiterals.{regex_on_literals}
use Rattle.regex_hir.specs.Find.{first_from}
use Rattle.regex_hir.specs.Re.{attempt, rounds}
use Rattle.regex_hir.specs.Looks.{holds_between}
use Rattle.regex_hir.specs.Text.{byte_before}
use Rattle.hum_pattern.specs.Meaning.{matched, first_end}

unfoldable pub patterns_on_literals : ⊤
unfolding regex_on_literals matched first_end find first_from attempt rounds holds holds_between has_bytes_at byte_before
patterns_on_literals = tt
