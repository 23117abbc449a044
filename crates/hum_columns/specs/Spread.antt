-- The spread rule: joins that come side by side are written one after another.
use Rattle.std.specs.Prelude.{ℕ, zero, suc, ◌+◌, Bool, false, not, ◌&&◌, ◌||◌}
use Rattle.std.specs.Prelude.{List, [], ◌∷◌, map, if◌then◌else◌}
use lib.Chars.{codes}
use Rattle.hum_score.specs.declared.records.SpinedKind.{SpinedKind}
use Rattle.hum_score.specs.Row.{Row, Spined}
use Rattle.hum_score.specs.Sign.{sign_of, is_join}

-- A token that an interpretation keeps, and whether it begins a join.
pub record JoinedToken : Type 0 where
  pub begins : Bool
  pub token : List ℕ

abbrev pub piece : Bool → List ℕ → JoinedToken
piece begins token = record { begins = begins; token = token }

abbrev pub joins : JoinedToken → Bool
joins piece = is_join (sign_of piece.token)

-- the tokens of a record that keeps these
abbrev pub tokens_in : List JoinedToken → List (List ℕ)
tokens_in = map (λ piece. piece.token)

-- whether a join begins directly after another one
abbrev pub touches : Bool → List JoinedToken → Bool
touches after_join [] = false
touches after_join (piece ∷ pieces) = (after_join && piece.begins) || touches (joins piece) pieces

-- how many joins there are
abbrev pub joins_in : List JoinedToken → ℕ
joins_in [] = 0
joins_in (piece ∷ pieces) = if piece.begins then joins_in pieces + 1 else joins_in pieces

-- whether a token belongs to the join that its left neighbour is of
abbrev pub goes_on : JoinedToken → Bool
goes_on piece = joins piece && not piece.begins

-- The first join's tokens, and null ones elsewhere: a record with that join alone.
abbrev pub join_alone : List JoinedToken → List (List ℕ)
join_alone [] = []
join_alone (piece ∷ pieces) =
    if goes_on piece then piece.token ∷ join_alone pieces
    else map (λ _. codes "*") (piece ∷ pieces)

abbrev pub first_alone : List JoinedToken → List (List ℕ)
first_alone [] = []
first_alone (piece ∷ pieces) =
    if piece.begins then piece.token ∷ join_alone pieces else codes "*" ∷ first_alone pieces

-- what is left when the first join is done: one null token in its place
abbrev pub join_done : List JoinedToken → List JoinedToken
join_done [] = []
join_done (piece ∷ pieces) = if goes_on piece then join_done pieces else piece ∷ pieces

abbrev pub first_done : List JoinedToken → List JoinedToken
first_done [] = []
first_done (next ∷ pieces) =
    if next.begins then piece false (codes "*") ∷ join_done pieces
    else next ∷ first_done pieces

-- So many records before the last, each with the first join that is left; all other tokens stand
-- in the last one.
abbrev pub one_by_one : ℕ → List JoinedToken → List (List (List ℕ))
one_by_one zero pieces = tokens_in pieces ∷ []
one_by_one (suc n) pieces = first_alone pieces ∷ one_by_one n (first_done pieces)

abbrev pub before_last : ℕ → ℕ
before_last zero = zero
before_last (suc n) = n

-- The records that these tokens are written in: one for each join where two joins have come side by
-- side, else one.
abbrev pub spread : List JoinedToken → List (List (List ℕ))
spread pieces =
    if touches false pieces then one_by_one (before_last (joins_in pieces)) pieces
    else tokens_in pieces ∷ []

-- a record without tokens isn't written
abbrev pub filled : SpinedKind → List (List (List ℕ)) → List Row
filled kind [] = []
filled kind ([] ∷ records) = filled kind records
filled kind ((token ∷ tokens) ∷ records) = Spined kind (token ∷ tokens) ∷ filled kind records
