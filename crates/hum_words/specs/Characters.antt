-- The bytes that cut a line into words and bars.
use Rattle.std.specs.Prelude.{ℕ, Bool, true, false, not, ◌||◌, ◌==◌, if◌then◌else◌, List, [], ◌∷◌}

-- a space or a tab
abbrev pub is_blank : ℕ → Bool
is_blank b = b == 32 || b == 9

abbrev pub is_bar : ℕ → Bool
is_bar b = b == 124

abbrev pub is_quote : ℕ → Bool
is_quote b = b == 39

-- whether a word without quotes may have it
abbrev pub is_bare : ℕ → Bool
is_bare b = not (is_blank b || is_bar b || is_quote b)

-- whether a word between quotes may have it
abbrev pub is_quotable : ℕ → Bool
is_quotable b = not (is_quote b)

-- whether a word may end in front of this: at a blank, a bar or the end
abbrev pub begins_apart : List ℕ → Bool
begins_apart [] = true
begins_apart (b ∷ bs) = is_blank b || is_bar b

abbrev pub begins_blank : List ℕ → Bool
begins_blank [] = false
begins_blank (b ∷ bs) = is_blank b

-- what stands behind the blanks at the front
unfoldable pub trimmed : List ℕ → List ℕ
trimmed [] = []
trimmed (b ∷ bs) = if is_blank b then trimmed bs else b ∷ bs
