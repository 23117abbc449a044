-- What is cut from an interpretation is lawful, and no longer than it.
use Rattle.std.proofs.lemmas.Bool.Decides.{nat_tests}
use Rattle.std.proofs.Common.{◌≡◌, ℕ, ◌≤◌, Bool, true, false, cond, ◌&&◌}
use Rattle.std.proofs.Common.{List, ◌∷◌, length, map, arith}
use Rattle.std.specs.List.{AllByRecursion}
use lib.Chars.{codes}
use Rattle.hum_score.specs.declared.records.SpinedKind.TheVariants.{Interpretation}
use Rattle.hum_score.specs.Row.{Row, Spined, tokens_of, text_of, chosen}
use Rattle.hum_score.specs.Spelling.{IsToken, IsTextOf}
use Rattle.hum_record.specs.Building.{spelled}
use Rattle.hum_score.specs.Sign.{sign_of, is_join, is_exchange}
use Rattle.hum_columns.specs.Spread.{JoinedToken, tokens_in}
use Rattle.hum_columns.specs.Writing.{Fit}
use Rattle.hum_columns.proofs.Weights.{weight, no_longer}
use Rattle.hum_columns.proofs.OneByOne.{Lawful, null_lawful}
use Rattle.hum_columns.specs.Chosen.{each_piece}
use Rattle.hum_extract.specs.Extract.{softened, pieces}

softened_lawful : (lone : Bool) (t : List ℕ) → IsToken Interpretation t → IsToken Interpretation (softened lone t)
softened_lawful lone t h = either (lone && is_exchange (sign_of t))
  where
    either : (b : Bool) → IsToken Interpretation (cond b (codes "*") t)
    either = grind (arith, nat_tests, null_lawful)

softened_length : (lone : Bool) (t : List ℕ) → IsToken Interpretation t → length (softened lone t) ≤ length t
softened_length lone t h = either (lone && is_exchange (sign_of t))
  where
    either : (b : Bool) → length (cond b (codes "*") t) ≤ length t
    either = grind (arith, nat_tests)

abbrev left_of : Bool → Bool → List Bool → List (List ℕ) → List JoinedToken
left_of lone after fs ts = chosen fs (each_piece after (map (softened lone) ts))

pieces_lawful : (lone after : Bool) (fs : List Bool) (ts : List (List ℕ)) → AllByRecursion (IsToken Interpretation) ts → Lawful (left_of lone after fs ts)
pieces_lawful lone after (true ∷ fs) (t ∷ ts) h =
    (softened_lawful lone t h.0, pieces_lawful lone (is_join (sign_of (softened lone t))) fs ts h.1)
pieces_lawful lone after (false ∷ fs) (t ∷ ts) h = pieces_lawful lone (is_join (sign_of (softened lone t))) fs ts h.1
pieces_lawful lone after fs ts h = grind (arith, nat_tests)

pieces_weight : (lone after : Bool) (fs : List Bool) (ts : List (List ℕ)) → AllByRecursion (IsToken Interpretation) ts
    → weight (tokens_in (left_of lone after fs ts)) ≤ weight ts
pieces_weight lone after (true ∷ fs) (t ∷ ts) h =
    let ih = pieces_weight lone (is_join (sign_of (softened lone t))) fs ts h.1 in
    let one = softened_length lone t h.0 in
    omega (arith, ih, one)
pieces_weight lone after (false ∷ fs) (t ∷ ts) h =
    let ih = pieces_weight lone (is_join (sign_of (softened lone t))) fs ts h.1 in omega (arith, ih)
pieces_weight lone after fs ts h = grind (arith, nat_tests)

lawful_tokens : (row : Row) → row ≡ Spined Interpretation (tokens_of row) → IsTextOf row (text_of row)
    → AllByRecursion (IsToken Interpretation) (tokens_of row) × (length (spelled (tokens_of row)) ≤ 1048576)
lawful_tokens = grind (arith, nat_tests)

pub pieces_fit : (lone : Bool) (fs : List Bool) (row : Row) → row ≡ Spined Interpretation (tokens_of row)
    → IsTextOf row (text_of row) → Fit (pieces fs (map (softened lone) (tokens_of row)))
pieces_fit = grind (arith, nat_tests, lawful_tokens, no_longer, pieces_weight, pieces_lawful)
