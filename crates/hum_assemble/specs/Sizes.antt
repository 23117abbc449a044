-- How many spines come of those under some tokens, and how many bytes tokens have.
use Rattle.std.specs.Prelude.{ℕ, ◌+◌, Bool, true, false, List, [], ◌∷◌, length}
use Rattle.hum_score.specs.declared.spines.Sign.{Sign}
use Rattle.hum_score.specs.declared.spines.Sign.TheVariants.{Split, Join, Exchange, Add, End}
use Rattle.hum_score.specs.declared.spines.Sign.TheVariants.{Exclusive, Plain}
use Rattle.hum_score.specs.Sign.{is_join}

-- a join makes one spine, at its first token
abbrev pub heirs_count : Bool → Sign → ℕ
heirs_count after_join Split = 2
heirs_count after_join Add = 2
heirs_count true Join = 0
heirs_count false Join = 1
heirs_count after_join End = 0
heirs_count after_join Exchange = 1
heirs_count after_join Exclusive = 1
heirs_count after_join Plain = 1

abbrev pub width_under : Bool → List Sign → ℕ
width_under after_join [] = 0
width_under after_join (sign ∷ signs) =
    heirs_count after_join sign + width_under (is_join sign) signs

-- with a tab for each token
abbrev pub tokens_len : List (List ℕ) → ℕ
tokens_len [] = 0
tokens_len (token ∷ tokens) = length token + 1 + tokens_len tokens
