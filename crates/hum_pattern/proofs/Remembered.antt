-- Tokens that are remembered.
use Rattle.std.proofs.Common.{◌≡◌, sym, ◌∙◌, ℕ, zero, suc, List, [], ◌∷◌, ◌++◌, set, None, Some, inl, inr, ◌⊎◌}
use Rattle.std.specs.Prelude.{slice_get}
use Rattle.hum_pattern.specs.declared.searched.Searched.{Searched}
use Rattle.hum_pattern.specs.Searching.{Finds, AllFound}

get_push : {X : Type 0} (xs : List X) (y : X) (i : ℕ) (x : X)
    → slice_get (xs ++ y ∷ []) i ≡ Some x → (slice_get xs i ≡ Some x) ⊎ (x ≡ y)
get_push [] y zero x h = inr (let e : y ≡ x = cc in sym e)
get_push [] y (suc i) x h = inl h
get_push (z ∷ zs) y zero x h = inl h
get_push (z ∷ zs) y (suc i) x h = get_push zs y i x h

get_set : {X : Type 0} (xs : List X) (j : ℕ) (y : X) (i : ℕ) (x : X)
    → slice_get (set xs j y) i ≡ Some x → (slice_get xs i ≡ Some x) ⊎ (x ≡ y)
get_set [] j y i x h = inl h
get_set (z ∷ zs) zero y zero x h = inr (let e : y ≡ x = cc in sym e)
get_set (z ∷ zs) zero y (suc i) x h = inl h
get_set (z ∷ zs) (suc j) y zero x h = inl h
get_set (z ∷ zs) (suc j) y (suc i) x h = get_set zs j y i x h

pub found_none : (text : List ℕ) → AllFound text []
found_none text = record { each = λ i searched at. cc }

pub none_finds : (text : List ℕ) (new : Searched) → new.found ≡ None → Finds text new
none_finds text new none = record { is = λ found e. let k = sym none ∙ e in cc }

pub found_push : (text : List ℕ) (all : List Searched) (new : Searched) → AllFound text all
    → Finds text new → AllFound text (all ++ new ∷ [])
found_push text all new h s = record { each = λ i searched at. by i searched (get_push all new i searched at) }
  where
    by : (i : ℕ) (searched : Searched) → (slice_get all i ≡ Some searched) ⊎ (searched ≡ new)
        → Finds text searched
    by i searched (inl w) = h.each i searched w
    by i searched (inr w) = rw w s

pub found_set : (text : List ℕ) (all : List Searched) (j : ℕ) (new : Searched) → AllFound text all
    → Finds text new → AllFound text (set all j new)
found_set text all j new h s = record { each = λ i searched at. by i searched (get_set all j new i searched at) }
  where
    by : (i : ℕ) (searched : Searched) → (slice_get all i ≡ Some searched) ⊎ (searched ≡ new)
        → Finds text searched
    by i searched (inl w) = h.each i searched w
    by i searched (inr w) = rw w s
