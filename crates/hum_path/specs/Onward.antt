-- What spines have, carried on under signs.
use Rattle.std.specs.Prelude.{◌≡◌, ℕ, ◌+◌, Bool, not, ◌&&◌, if◌then◌else◌}
use Rattle.std.specs.Prelude.{List, [], ◌∷◌, ◌++◌, slice_index_or}
use Rattle.hum_score.specs.declared.spines.Sign.{Sign}
use Rattle.hum_score.specs.declared.spines.Sign.TheVariants.{Split, Join, Exchange, Add, End}
use Rattle.hum_score.specs.declared.spines.Sign.TheVariants.{Exclusive, Plain}
use Rattle.hum_score.specs.declared.spines.Move.{Move}
use Rattle.hum_score.specs.declared.spines.Move.TheVariants.{Same, Left, Right, Join as Joined, Added}
use Rattle.hum_score.specs.Sign.{sign_of, is_join, is_exchange, is_exclusive}
use Rattle.hum_score.specs.Spines.{partner}

-- for each sign, whether it begins a join
abbrev pub beginnings : Bool → List Sign → List Bool
beginnings after_join [] = []
beginnings after_join (sign ∷ signs) =
    (is_join sign && not after_join) ∷ beginnings (is_join sign) signs

-- what comes of one spine's x; an added spine gets another
abbrev pub onward_one : {X : Type 0} → (X → X) → Bool → Sign → X → List X
onward_one added begins Split x = x ∷ x ∷ []
onward_one added begins Join x = if begins then x ∷ [] else []
onward_one added begins Exchange x = x ∷ []
onward_one added begins Add x = x ∷ added x ∷ []
onward_one added begins End x = []
onward_one added begins Exclusive x = x ∷ []
onward_one added begins Plain x = x ∷ []

-- What comes of all spines' xs, where exchanged ones have changed places before.
abbrev pub onward : {X : Type 0} → (X → X) → List Bool → List Sign → List X → List X
onward added (b ∷ begins) (sign ∷ signs) (x ∷ xs) =
    onward_one added b sign x ++ onward added begins signs xs
onward added _ _ _ = []

-- the x under the next exchange, if there is one
abbrev pub at_next : {X : Type 0} → X → List Sign → List X → X
at_next other (sign ∷ signs) (x ∷ xs) = if is_exchange sign then x else at_next other signs xs
at_next other _ _ = other

-- another one in its place
abbrev pub put_next : {X : Type 0} → X → List Sign → List X → List X
put_next other [] xs = xs
put_next other (sign ∷ signs) [] = []
put_next other (sign ∷ signs) (x ∷ xs) =
    if is_exchange sign then other ∷ xs else x ∷ put_next other signs xs

-- The two exchanged ones have changed places.
abbrev pub swapped : {X : Type 0} → List Sign → List X → List X
swapped [] xs = xs
swapped (sign ∷ signs) [] = []
swapped (sign ∷ signs) (x ∷ xs) =
    if is_exchange sign then at_next x signs xs ∷ put_next x signs xs else x ∷ swapped signs xs

-- an exclusive interpretation's own token, else the name that was
abbrev pub renamed_each : List (List ℕ) → List (List ℕ) → List (List ℕ)
renamed_each (name ∷ names) (token ∷ tokens) =
    (if is_exclusive (sign_of token) then token else name) ∷ renamed_each names tokens
renamed_each _ _ = []

-- what a function makes of the moves from place j is x
abbrev pub AgreesAt : {X : Type 0} → (Move → X) → (X → X) → List ℕ → ℕ → Sign → X → Type 0
AgreesAt f added pair j Split x = (f (Left j) ≡ x) × (f (Right j) ≡ x)
AgreesAt f added pair j Join x = (last : ℕ) → f (Joined j last) ≡ x
AgreesAt f added pair j Exchange x = f (Same (partner pair j)) ≡ x
AgreesAt f added pair j Add x = (f (Same j) ≡ x) × (f (Added j) ≡ added x)
AgreesAt f added pair j End x = Unit {0}
AgreesAt f added pair j Exclusive x = f (Same j) ≡ x
AgreesAt f added pair j Plain x = f (Same j) ≡ x

abbrev pub Agrees :
    {X : Type 0} → (Move → X) → (X → X) → List ℕ → ℕ → List Sign → List X → Type 0
Agrees f added pair j (sign ∷ signs) (x ∷ xs) =
    AgreesAt f added pair j sign x × Agrees f added pair (j + 1) signs xs
Agrees f added pair j [] [] = Unit {0}
Agrees f added pair j _ _ = ⊥

-- what stood at the place that each spine's comes from
abbrev pub from_places : {X : Type 0} → X → List ℕ → List X → ℕ → List Sign → List X
from_places none pair xs j [] = []
from_places none pair xs j (sign ∷ signs) =
    slice_index_or xs (if is_exchange sign then partner pair j else j) none
    ∷ from_places none pair xs (j + 1) signs
