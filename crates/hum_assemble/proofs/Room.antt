-- Tokens at the front of some for which a record has room.
use Rattle.std.proofs.lemmas.Bool.Decides.{nat_tests}
use Rattle.std.proofs.Common.{◌≡◌, ◌∙◌, refl, sym, ap, ℕ, suc, ◌<◌, ◌≤◌, Bool, List, [], ◌∷◌, ◌++◌, length}
use Rattle.std.proofs.Common.{take, drop, get_or, append_assoc, arith}
use Rattle.std.proofs.lemmas.List.{drop_more}
use Rattle.hum_record.specs.Building.{spelled}
use Rattle.hum_record.proofs.Drafts.{spelled_front}
use Rattle.hum_assemble.specs.declared.places.Place.{Place}
use Rattle.hum_assemble.specs.Source.{Source}
use Rattle.hum_assemble.specs.Round.{takes}
use Rattle.hum_assemble.specs.Merge.{part_given, tokens_given}

pub front_fits : (front rest all : List (List ℕ)) → all ≡ front ++ rest → length (spelled all) ≤ 1048576
    → length (spelled front) ≤ 1048576
front_fits = grind (arith, nat_tests, spelled_front)

-- those so far, the next, and the rest
one_more : (tokens front : List (List ℕ)) (t : List ℕ) (rest : List (List ℕ))
    → tokens ++ (front ++ t ∷ rest) ≡ ((tokens ++ front) ++ t ∷ []) ++ rest
one_more tokens front t rest = rw (append_assoc (tokens ++ front) (t ∷ []) rest, append_assoc tokens front (t ∷ rest)) refl

-- the token at a place, between those before it and those behind
record Parted (all : List (List ℕ)) (j : ℕ) : Type 0 where
  rest : List (List ℕ)
  whole : all ≡ take j all ++ get_or all j [] ∷ rest

parted : (all : List (List ℕ)) (j : ℕ) → j < length all → Parted all j
parted (t ∷ ts) (suc j) h = grind (arith, nat_tests, parted ts j (omega (arith, h)))
parted all j h = grind (arith, nat_tests)

pub token_fits : (tokens all : List (List ℕ)) (j : ℕ) → j < length all → length (spelled (tokens ++ all)) ≤ 1048576
    → length (spelled ((tokens ++ take j all) ++ get_or all j [] ∷ [])) ≤ 1048576
token_fits tokens all j less h =
    let w = parted all j less in
    front_fits ((tokens ++ take j all) ++ get_or all j [] ∷ []) w.rest (tokens ++ all)
    (ap (λ (ts : List (List ℕ)). tokens ++ ts) w.whole ∙ one_more tokens (take j all) (get_or all j []) w.rest) h

pub part_fits : (tokens part rest : List (List ℕ)) → length (spelled (tokens ++ (part ++ rest))) ≤ 1048576
    → length (spelled (tokens ++ part)) ≤ 1048576
part_fits tokens part rest h = front_fits (tokens ++ part) rest (tokens ++ (part ++ rest)) (sym (append_assoc tokens part rest)) h

-- what a source has in the record that is given
pub source_fits : (tokens : List (List ℕ)) (free going taken : Bool) (p : Place) (ss : List Source) (i : ℕ) (d : Source)
    → i < length ss → taken ≡ takes free going p (get_or ss i d)
    → length (spelled (tokens ++ tokens_given free going p (drop i ss))) ≤ 1048576
    → length (spelled (tokens ++ part_given taken p (get_or ss i d))) ≤ 1048576
source_fits = grind (arith, nat_tests, drop_more, part_fits)
