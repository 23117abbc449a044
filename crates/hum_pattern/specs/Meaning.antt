-- What a pattern's text means, by the words of regex.
use Rattle.std.specs.Prelude.{◌≡◌, ◌⊎◌, ◌<◌, ◌≤◌, ℕ, Bool, false, List, [], Option, None, Some}
use Rattle.std.specs.Prelude.{IsSomeAnd, IfSome, chars, is_some, option_map}
use Rattle.regex.specs.Patterns.{Re, Config, byte_in, find, default_config}
use Rattle.regex_syntax.specs.Brackets.{Nested}
use Rattle.regex_syntax.specs.Grammar.{Names, read}

-- A pattern may match any bytes.
abbrev pub over_bytes : Config
over_bytes = record default_config { utf8 = false }

-- The grammar reads the text, and nothing in it is nested deeper than 250.
abbrev pub IsExpression : List ℕ → Type 0
IsExpression text = IsSomeAnd (read over_bytes (chars text)) (λ (found, _). found.depth ≤ 250)

-- The grammar doesn't read the text, or something in it is nested deeper.
abbrev pub IsNone : List ℕ → Type 0
IsNone text =
    (read over_bytes (chars text) ≡ None)
    ⊎ IfSome (read over_bytes (chars text)) (λ (found, _). 250 < found.depth)

abbrev pub expression_in : Option (Nested Re × Names) → Re
expression_in None = byte_in []
expression_in (Some (found, names)) = found.value

-- The expression that the grammar reads in a text; one that matches nothing where it reads none.
abbrev pub expression : List ℕ → Re
expression text = expression_in (read over_bytes (chars text))

-- Whether a text, as a pattern, has a match anywhere in a token.
unfoldable pub matched : List ℕ → List ℕ → Bool
matched text token = is_some (find (expression text) token 0)

-- the same where there may be no pattern
abbrev pub matched_by : Option (List ℕ) → List ℕ → Bool
matched_by None token = false
matched_by (Some text) token = matched text token

-- where its leftmost match ends
unfoldable pub first_end : List ℕ → List ℕ → Option ℕ
first_end text token = option_map (λ m. m.trace.end) (find (expression text) token 0)
