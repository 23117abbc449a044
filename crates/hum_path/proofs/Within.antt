-- Each spine comes from a spine under a token.
use Rattle.std.proofs.Common.{◌≡◌, ℕ, zero, suc, ◌+◌, ◌<◌, ◌≤◌, Bool, true, List, [], ◌∷◌}
use Rattle.std.proofs.Common.{length, arith, refl, ap, None}
use Rattle.std.proofs.lemmas.Bool.Decides.{nat_tests}
use Rattle.std.proofs.lemmas.List.{length-map}
use Rattle.std.specs.List.{AllByRecursion, find}
use Rattle.hum_score.specs.declared.spines.Sign.{Sign}
use Rattle.hum_score.specs.declared.spines.Move.{Move}
use Rattle.hum_score.specs.declared.records.SpinedKind.TheVariants.{Interpretation}
use Rattle.hum_score.specs.Row.{Row, Spined, tokens_of}
use Rattle.hum_score.specs.Sign.{is_join, steers}
use Rattle.hum_path.specs.Step.{ComeFrom}
use Rattle.hum_score.specs.Spines.{Path, Spines, exchanges, heirs_from}
use Rattle.hum_score.specs.Spines.{same_upto, moves_at, moves, after, names_after, source}
use Rattle.hum_path.specs.Tracked.{Tracked}
use Rattle.hum_score.specs.Rules.{breaks, in_order, fault_of}

-- moves that come from places below n
abbrev pub From : ℕ → List Move → Type 0
From n = AllByRecursion (λ m. source m < n)

pub exchanged_below : (n j : ℕ) (signs : List Sign) → j + length signs ≤ n → AllByRecursion (λ p. p < n) (exchanges j signs)
exchanged_below n j [] h = tt
exchanged_below n j (sign ∷ signs) h = grind (arith, nat_tests, exchanged_below n (j + 1) signs (omega arith))

all_below : (n j : ℕ) (pair : List ℕ) (after_join : Bool) (signs : List Sign) → AllByRecursion (λ p. p < n) pair
    → j + length signs ≤ n → From n (heirs_from pair j after_join signs)
all_below n j pair after_join [] p h = tt
all_below n j pair after_join (sign ∷ signs) p h =
    grind (arith, nat_tests, all_below n (j + 1) pair (is_join sign) signs p (omega arith))

pub same_below : (n j m : ℕ) → j + m ≤ n → From n (same_upto j m)
same_below n j zero h = tt
same_below n j (suc m) h = (omega arith, same_below n (j + 1) m (omega arith))

-- under an interpretation
pub moves_below : (path : Path) (tokens : List (List ℕ)) → From (length tokens) (moves_at path tokens)
moves_below = grind (arith, nat_tests, same_below, length-map, all_below, exchanged_below)

-- what a record that asks something of the spines leaves, where it breaks no rule
pub steered : (path : Path) (names : List (List ℕ)) (moved : List Move) (row : Row) → steers row ≡ true
    → find (breaks path (tokens_of row)) in_order ≡ None → moved ≡ moves_at path (tokens_of row) → names ≡ names_after path (tokens_of row)
    → (fault_of path row ≡ None) × (moved ≡ moves path row) × (Spines names ≡ after path row) × ComeFrom row moved
steered path names moved (Spined Interpretation tokens) h none is named = (none, is, ap Spines named, rw is (moves_below path tokens))
steered path names moved row h k w e = grind (arith, nat_tests)

abbrev spines : Path → Bool → Tracked
spines path spent = record { path = path; spent = spent }

pub tracked : (p q : Path) (s t : Bool) → p ≡ q → s ≡ t → spines p s ≡ spines q t
tracked p q s t paths spents = rw (paths, spents) refl
