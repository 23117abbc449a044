-- Columns that are chosen by the opening spines that they come from.
use Rattle.std.specs.Prelude.{◌≡◌, ◌<◌, ℕ, Bool, true, false, not, ◌&&◌, ◌||◌}
use Rattle.std.specs.Prelude.{List, [], ◌∷◌, map, slice_index_or}
use Rattle.hum_score.specs.Row.{Row, Comment, Spined, chosen}
use Rattle.hum_score.specs.declared.spines.Sign.{Sign}
use Rattle.hum_score.specs.Sign.{sign_of, is_join}
use Rattle.hum_score.specs.Spines.{Path, Unopened, Spines, width}
use Rattle.hum_score.specs.Score.{path_after}
use Rattle.hum_path.specs.Chains.{origins}
use Rattle.hum_path.specs.Origins.{origin}
use Rattle.hum_columns.specs.Spread.{JoinedToken, piece}

-- the tokens of the opening record, of records with the newest first
abbrev pub opening_if : Path → List (List ℕ) → List (List ℕ) → List (List ℕ)
opening_if Unopened tokens before = tokens
opening_if (Spines names) tokens before = before

abbrev pub opening_of : List Row → List (List ℕ)
opening_of [] = []
opening_of (Comment text ∷ past) = opening_of past
opening_of (Spined kind tokens ∷ past) = opening_if (path_after past) tokens (opening_of past)

-- For each column after records: it is chosen where the opening spine that it comes from is.
abbrev pub flags : (List (List ℕ) → List Bool) → List Row → List Bool
flags choose past =
    map (λ origin. slice_index_or (choose (opening_of past)) origin false) (origins past)

-- A column is chosen exactly where the opening spine is that one comes to by going up from it.
abbrev pub AreChosenByOrigin : (List (List ℕ) → List Bool) → List Row → Type 0
AreChosenByOrigin choose past =
    (j : ℕ) → j < width (path_after past)
    → slice_index_or (flags choose past) j false
    ≡ slice_index_or (choose (opening_of past)) (origin past j) false

-- what stands in the columns that aren't chosen
abbrev pub others : {X : Type 0} → List Bool → List X → List X
others flags xs = chosen (map not flags) xs

abbrev pub differ : Bool → Bool → Bool
differ true b = not b
differ false b = b

-- joins side by side, of which one is chosen and the other isn't
abbrev pub is_torn : List Bool → List Sign → Bool
is_torn (f ∷ g ∷ flags) (s ∷ t ∷ signs) =
    (is_join s && (is_join t && differ f g)) || is_torn (g ∷ flags) (t ∷ signs)
is_torn _ _ = false

-- each token of a record, with whether it begins a join there
abbrev pub each_piece : Bool → List (List ℕ) → List JoinedToken
each_piece after_join [] = []
each_piece after_join (token ∷ tokens) =
    piece (is_join (sign_of token) && not after_join) token
    ∷ each_piece (is_join (sign_of token)) tokens
