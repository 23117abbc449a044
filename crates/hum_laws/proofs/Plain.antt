-- Commands that refuse no record, and make at most one of each.
use Rattle.std.proofs.Common.{◌≡◌, refl, ap, ℕ, ◌+◌, ◌-◌, ◌≤◌, true}
use Rattle.std.proofs.Common.{List, [], ◌∷◌, ◌++◌, length, arith}
use Rattle.std.specs.Prelude.{nat_le, None, Ok}
use Rattle.std.proofs.lemmas.Bool.Decides.{nat_tests}
use Rattle.hum_score.specs.Row.{Row}
use Rattle.hum_stage.specs.Outcome.{settled, refusal}
use Rattle.hum_stage.specs.Decided.{Decision, decisions, limit}

-- what comes of records, each by those before it
abbrev pub all_made : (List Row → Row → List Row) → List Row → List Row → List Row
all_made makes past [] = []
all_made makes past (row ∷ rows) = makes past row ++ all_made makes (row ∷ past) rows

-- records that each become at most one
pub record IsPlain (decide : Decision) (makes : List Row → Row → List Row) : Type 0 where
  pub is : (past : List Row) (row : Row) → decide past row ≡ Ok (makes past row)
  pub at_most : (past : List Row) (row : Row) → length (makes past row) ≤ 1

pub fits : (m n : ℕ) → m ≤ n → nat_le m n ≡ true
fits m n h = grind (arith, nat_tests)

-- nothing is refused for want of room
pub plain_limit : (decide : Decision) (makes : List Row → Row → List Row) → IsPlain decide makes
    → (n line : ℕ) (past rows : List Row) → length rows ≤ n
    → (settled (limit n (decisions decide past rows)) ≡ all_made makes past rows) × (refusal line (limit n (decisions decide past rows)) ≡ None)
plain_limit decide makes h n line past [] few = (refl, refl)
plain_limit decide makes h n line past (row ∷ rows) few =
    let made = makes past row in
    let one : length made ≤ 1 = h.at_most past row in
    let room : nat_le (length made) n ≡ true = fits (length made) n (omega (arith, one, few)) in
    let more = plain_limit decide makes h (n - length made) (line + 1) (row ∷ past) rows (omega (arith, one, few)) in
    rw (h.is past row) (rw room (ap (λ (x : List Row). made ++ x) more.0, more.1))
