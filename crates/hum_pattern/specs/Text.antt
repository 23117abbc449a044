-- The text of a pattern.
use Rattle.std.specs.Prelude.{ℕ, List}
use lib.Chars.{codes}
use Rattle.hum_pattern.specs.declared.Search.{Search}
use Rattle.hum_pattern.specs.declared.Search.TheVariants.{Barlines, Expression}

-- that of barlines has one; another has that of its expression
abbrev pub text_of : Search → List ℕ
text_of Barlines = codes "^="
text_of (Expression text) = text
