-- Walks from the first record that waits.
use Rattle.std.proofs.Common.{◌≡◌, refl, sym, ap, ℕ, zero, suc, ◌<◌, List, [], ◌∷◌, ◌++◌, length, set, get_or}
use Rattle.std.proofs.Common.{Some, arith, inl, inr, ◌⊎◌}
use Rattle.std.specs.Prelude.{slice_get}
use Rattle.hum_score.specs.Row.{Row}
use Rattle.hum_score.specs.Spines.{Path}
use Rattle.hum_context.specs.declared.walk.Walk.{Walk}
use Rattle.hum_context.specs.Context.{Choice}
use Rattle.hum_context.specs.Walking.{AllStand, Stands}

pub get_push : {X : Type 0} (xs : List X) (y : X) (i : ℕ) (x : X)
    → slice_get (xs ++ y ∷ []) i ≡ Some x → (slice_get xs i ≡ Some x) ⊎ (x ≡ y)
get_push [] y zero x h = inr (let e : y ≡ x = cc in sym e)
get_push [] y (suc i) x h = inl h
get_push (z ∷ zs) y zero x h = inl h
get_push (z ∷ zs) y (suc i) x h = get_push zs y i x h

pub get_set : {X : Type 0} (xs : List X) (j : ℕ) (y : X) (i : ℕ) (x : X)
    → slice_get (set xs j y) i ≡ Some x → (slice_get xs i ≡ Some x) ⊎ ((i ≡ j) × (x ≡ y))
get_set [] j y i x h = inl h
get_set (z ∷ zs) zero y zero x h = inr (refl, let e : y ≡ x = cc in sym e)
get_set (z ∷ zs) zero y (suc i) x h = inl h
get_set (z ∷ zs) (suc j) y zero x h = inl h
get_set (z ∷ zs) (suc j) y (suc i) x h = by (get_set zs j y i x h)
  where
    by : (slice_get zs i ≡ Some x) ⊎ ((i ≡ j) × (x ≡ y))
        → (slice_get zs i ≡ Some x) ⊎ ((suc i ≡ suc j) × (x ≡ y))
    by (inl e) = inl e
    by (inr e) = inr (ap suc e.0, e.1)

pub stand_push : (o : Choice) (path : Path) (first : ℕ) (rows : List Row) (walks walks' : List Walk)
    (new : Walk) → AllStand o path first rows walks → new.at ≡ first → walks' ≡ walks ++ new ∷ []
    → AllStand o path first rows walks'
stand_push o path first rows walks walks' new h e k j walk at beyond =
    by (get_push walks new j walk (rw k at at))
  where
    by : (slice_get walks j ≡ Some walk) ⊎ (walk ≡ new) → Stands o path first rows j walk
    by (inl w) = h j walk w beyond
    by (inr w) = absurd (let same = ap (λ (x : Walk). x.at) w in omega (arith, same, e, beyond))

pub stand_set : (o : Choice) (path : Path) (first : ℕ) (rows : List Row) (walks : List Walk)
    (j : ℕ) (new : Walk) → AllStand o path first rows walks → Stands o path first rows j new
    → AllStand o path first rows (set walks j new)
stand_set o path first rows walks j new h s i walk at beyond =
    by (get_set walks j new i walk at)
  where
    by : (slice_get walks i ≡ Some walk) ⊎ ((i ≡ j) × (walk ≡ new)) → Stands o path first rows i walk
    by (inl w) = h i walk w beyond
    by (inr w) = rw (w.0, w.1) s

-- a walk behind the others
pub stand_last : (o : Choice) (path : Path) (first : ℕ) (rows : List Row) (walks walks' : List Walk)
    (new : Walk) → AllStand o path first rows walks
    → (first < new.at → Stands o path first rows (length walks) new) → walks' ≡ walks ++ new ∷ []
    → AllStand o path first rows walks'
stand_last o path first rows walks walks' new h s k j walk at beyond =
    by (get_last walks new j walk (rw k at at))
  where
    get_last : {X : Type 0} (xs : List X) (y : X) (i : ℕ) (x : X)
        → slice_get (xs ++ y ∷ []) i ≡ Some x
        → (slice_get xs i ≡ Some x) ⊎ ((i ≡ length xs) × (x ≡ y))
    get_last [] y zero x h = inr (refl, let e : y ≡ x = cc in sym e)
    get_last [] y (suc i) x h = inl h
    get_last (z ∷ zs) y zero x h = inl h
    get_last (z ∷ zs) y (suc i) x h = on (get_last zs y i x h)
      where
        on : (slice_get zs i ≡ Some x) ⊎ ((i ≡ length zs) × (x ≡ y))
            → (slice_get zs i ≡ Some x) ⊎ ((suc i ≡ suc (length zs)) × (x ≡ y))
        on (inl e) = inl e
        on (inr e) = inr (ap suc e.0, e.1)

    by : (slice_get walks j ≡ Some walk) ⊎ ((j ≡ length walks) × (walk ≡ new))
        → Stands o path first rows j walk
    by (inl w) = h j walk w beyond
    by (inr w) = rw (w.0, w.1) (s (rw w.1 at beyond))

-- one in the place of another
pub stand_in : (o : Choice) (path : Path) (first : ℕ) (rows : List Row) (walks : List Walk)
    (j : ℕ) (new : Walk) → AllStand o path first rows walks
    → (first < new.at → Stands o path first rows j new)
    → AllStand o path first rows (set walks j new)
stand_in o path first rows walks j new h s i walk at beyond =
    by (get_set walks j new i walk at)
  where
    by : (slice_get walks i ≡ Some walk) ⊎ ((i ≡ j) × (walk ≡ new)) → Stands o path first rows i walk
    by (inl w) = h i walk w beyond
    by (inr w) = rw (w.0, w.1) (s (rw w.1 at beyond))

pub get_there : {X : Type 0} (xs : List X) (j : ℕ) (d : X) → j < length xs
    → slice_get xs j ≡ Some (get_or xs j d)
get_there [] j d h = absurd (omega (arith, h))
get_there (x ∷ xs) zero d h = refl
get_there (x ∷ xs) (suc j) d h = get_there xs j d (omega (arith, h))
