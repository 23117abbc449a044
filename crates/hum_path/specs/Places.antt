-- What the path rules ask of joins, exchanges and added spines, place by place.
use Rattle.std.specs.Prelude.{◌≡◌, ◌≢◌, ℕ, ◌+◌, ◌<◌, ◌⊎◌, ◌↔◌, true}
use Rattle.std.specs.Prelude.{List, [], length, slice_index_or}
use lib.Chars.{codes}
use Rattle.hum_score.specs.declared.spines.PathFault.TheVariants.{P3, P4, P5, P6}
use Rattle.hum_score.specs.Sign.{sign_of, is_exclusive}
use Rattle.hum_score.specs.Spines.{Spines}
use Rattle.hum_score.specs.Rules.{breaks}

-- the token of a record at place j, from 0
abbrev pub token_at : List (List ℕ) → ℕ → List ℕ
token_at tokens j = slice_index_or tokens j []

abbrev pub IsJoin : List (List ℕ) → ℕ → Type 0
IsJoin tokens j = token_at tokens j ≡ codes "*v"

abbrev pub IsExchange : List (List ℕ) → ℕ → Type 0
IsExchange tokens j = token_at tokens j ≡ codes "*x"

-- one place is directly to the right of the other
abbrev pub AreBeside : ℕ → ℕ → Type 0
AreBeside j k = (k ≡ j + 1) ⊎ (j ≡ k + 1)

-- a `*v` that has no `*v` beside it
pub record IsLone (tokens : List (List ℕ)) (j : ℕ) : Type 0 where
  pub join : IsJoin tokens j
  pub alone : (k : ℕ) → AreBeside j k → ¬ IsJoin tokens k

-- two `*v` beside each other, in spines under different exclusive interpretations
pub record AreMixed (names tokens : List (List ℕ)) (j k : ℕ) : Type 0 where
  pub beside : AreBeside j k
  pub spines : (j < length names) × (k < length names)
  pub joins : IsJoin tokens j × IsJoin tokens k
  pub differ : slice_index_or names j [] ≢ slice_index_or names k []

-- an added spine whose first token isn't its exclusive interpretation
pub record StaysUnnamed (names tokens : List (List ℕ)) (j : ℕ) : Type 0 where
  pub spine : j < length names
  pub token : j < length tokens
  pub added : slice_index_or names j [] ≡ []
  pub plain : ¬ (is_exclusive (sign_of (token_at tokens j)) ≡ true)

-- `*x` stands at these two places, and nowhere else
pub record AreExchanged (tokens : List (List ℕ)) (j k : ℕ) : Type 0 where
  pub apart : j ≢ k
  pub at : IsExchange tokens j × IsExchange tokens k
  pub alone : (i : ℕ) → IsExchange tokens i → (i ≡ j) ⊎ (i ≡ k)

-- each of these rules is broken exactly where such places are, or aren't
pub record AreRulesByPlace (names tokens : List (List ℕ)) : Type 0 where
  pub lone : (breaks (Spines names) tokens P3 ≡ true) ↔ ((j : ℕ) × IsLone tokens j)
  pub exchanged : (¬ (breaks (Spines names) tokens P4 ≡ true))
      ↔ (((j : ℕ) → ¬ IsExchange tokens j) ⊎ ((j : ℕ) × (k : ℕ) × AreExchanged tokens j k))
  pub mixed : (breaks (Spines names) tokens P5 ≡ true)
      ↔ ((j : ℕ) × (k : ℕ) × AreMixed names tokens j k)
  pub unnamed : (breaks (Spines names) tokens P6 ≡ true)
      ↔ ((j : ℕ) × StaysUnnamed names tokens j)
