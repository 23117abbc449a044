-- What a token asks of the spines.
use Rattle.std.specs.Prelude.{ℕ, Bool, true, false, ◌||◌, not, nat_eq, List, map, if◌then◌else◌}
use Rattle.std.specs.List.{starts_with, list_any, list_all}
use Rattle.std.specs.Str.{bytes_eq}
use lib.Chars.{codes}
use Rattle.hum_score.specs.declared.records.SpinedKind.TheVariants.{Interpretation}
use Rattle.hum_score.specs.Row.{Row, Comment, Spined}
use Rattle.hum_score.specs.declared.spines.Sign.{Sign}
use Rattle.hum_score.specs.declared.spines.Sign.TheVariants.{Split, Join, Exchange, Add, End, Exclusive, Plain}

abbrev pub sign_of : List ℕ → Sign
sign_of token =
    if starts_with nat_eq token (codes "**") then Exclusive
    else if bytes_eq token (codes "*^") then Split
    else if bytes_eq token (codes "*v") then Join
    else if bytes_eq token (codes "*x") then Exchange
    else if bytes_eq token (codes "*+") then Add
    else if bytes_eq token (codes "*-") then End
    else Plain

abbrev pub is_join : Sign → Bool
is_join Join = true
is_join _ = false

abbrev pub is_exchange : Sign → Bool
is_exchange Exchange = true
is_exchange _ = false

abbrev pub is_exclusive : Sign → Bool
is_exclusive Exclusive = true
is_exclusive _ = false

abbrev pub is_plain : Sign → Bool
is_plain Plain = true
is_plain _ = false

abbrev pub is_path_indicator : Sign → Bool
is_path_indicator sign = not (is_exclusive sign || is_plain sign)

-- some token is an exclusive interpretation
abbrev pub has_exclusive : List (List ℕ) → Bool
has_exclusive = list_any (λ token. is_exclusive (sign_of token))

-- no token is a path indicator or an exclusive interpretation
abbrev pub all_plain : List (List ℕ) → Bool
all_plain tokens = list_all is_plain (map sign_of tokens)

-- Whether a record asks something of the spines: only an interpretation can.
abbrev pub steers : Row → Bool
steers (Comment text) = false
steers (Spined Interpretation tokens) = not (all_plain tokens)
steers (Spined kind tokens) = false
