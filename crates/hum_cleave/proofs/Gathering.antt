-- Data tokens that are joined, one by one.
use Rattle.std.proofs.lemmas.Grind.{common_steps}
use Rattle.std.proofs.lemmas.Bool.Decides.{nat_tests}
use Rattle.std.proofs.Common.{◌≡◌, refl, ap, ℕ, suc, ◌+◌, ◌<◌, ◌≤◌, Bool, true, false, cond}
use Rattle.std.proofs.Common.{List, [], ◌∷◌, ◌++◌, length, map, drop, take, get_or, arith, add-one, append-nil}
use Rattle.std.specs.List.{list_any}
use Rattle.std.proofs.lemmas.List.{drop_all}
use lib.Chars.{codes}
use Rattle.hum_score.specs.Row.{chosen}
use Rattle.hum_columns.proofs.ChosenLists.{chosen_at}
use Rattle.hum_cleave.specs.Tokens.{leftmost, is_left_out, taken, following, joined, data_of, added}

-- a text so far, and the tokens that are still taken
abbrev pub so_far : List ℕ → List ℕ → List (List ℕ) → List ℕ
so_far text [] tokens = joined text tokens
so_far text (byte ∷ bytes) tokens = (byte ∷ bytes) ++ following text tokens

chosen_take : {X : Type 0} (fs : List Bool) (xs : List X) (j : ℕ) (d : X) → j < length fs → length fs ≡ length xs
    → chosen (take (suc j) fs) (take (suc j) xs)
    ≡ chosen (take j fs) (take j xs) ++ cond (get_or fs j false) (get_or xs j d ∷ []) []
chosen_take {X} (true ∷ fs) (x ∷ xs) (suc j) d h e = ap (λ (ys : List X). x ∷ ys) (chosen_take fs xs j d (omega (arith, h)) (omega (arith, e)))
chosen_take (false ∷ fs) (x ∷ xs) (suc j) d h e = chosen_take fs xs j d (omega (arith, h)) (omega (arith, e))
chosen_take fs xs j d h k = grind (arith, nat_tests)

-- what is left to take, from place j on
abbrev pub taken_from : List Bool → List (List ℕ) → ℕ → List (List ℕ)
taken_from fs ts j = taken (chosen (take j fs) (take j ts)) (chosen (drop j fs) (drop j ts))

-- another column
pub passes : (fs : List Bool) (ts : List (List ℕ)) (j : ℕ) → j < length fs → length fs ≡ length ts → get_or fs j false ≡ false
    → taken_from fs ts (j + 1) ≡ taken_from fs ts j
passes fs ts j h e off =
    rw add-one (rw (chosen_take fs ts j [] h e, chosen_at fs ts j [] h e, off) (rw append-nil refl))

-- a token that is left out
pub leaves_out : (fs : List Bool) (ts : List (List ℕ)) (j : ℕ) → j < length fs → length fs ≡ length ts → get_or fs j false ≡ true
    → is_left_out (chosen (take j fs) (take j ts)) (get_or ts j []) ≡ true
    → taken_from fs ts (j + 1) ≡ taken_from fs ts j
leaves_out fs ts j h e on out =
    rw add-one (rw (chosen_take fs ts j [] h e, chosen_at fs ts j [] h e, on) (rw out refl))

-- one that is taken
pub takes : (fs : List Bool) (ts : List (List ℕ)) (j : ℕ) → j < length fs → length fs ≡ length ts → get_or fs j false ≡ true
    → is_left_out (chosen (take j fs) (take j ts)) (get_or ts j []) ≡ false
    → get_or ts j [] ∷ taken_from fs ts (j + 1) ≡ taken_from fs ts j
takes fs ts j h e on out =
    rw add-one (rw (chosen_take fs ts j [] h e, chosen_at fs ts j [] h e, on) (rw out refl))

pub adds : (text before token : List ℕ) (rest : List (List ℕ)) → (token ≡ [] → ⊥)
    → so_far text (added text before token) rest ≡ so_far text before (token ∷ rest)
adds = grind (arith, common_steps)

-- what each cleaved column has

mapped_skips : {X Y : Type 0} (f : X → Y) (fs : List Bool) (xs : List X) (j : ℕ) → j < length fs → length fs ≡ length xs
    → get_or fs j false ≡ false → chosen (drop (suc j) fs) (map f (drop (suc j) xs)) ≡ chosen (drop j fs) (map f (drop j xs))
mapped_skips f (g ∷ fs) (x ∷ xs) (suc j) h e off = mapped_skips f fs xs j (omega (arith, h)) (omega (arith, e)) off
mapped_skips f fs xs j h k w = grind (arith, nat_tests)

mapped_next : {X Y : Type 0} (f : X → Y) (fs : List Bool) (xs : List X) (j : ℕ) (d : X) → j < length fs → length fs ≡ length xs
    → get_or fs j false ≡ true
    → chosen (drop j fs) (map f (drop j xs)) ≡ f (get_or xs j d) ∷ chosen (drop (suc j) fs) (map f (drop (suc j) xs))
mapped_next f (g ∷ fs) (x ∷ xs) (suc j) d h e on = mapped_next f fs xs j d (omega (arith, h)) (omega (arith, e)) on
mapped_next f fs xs j d h k w = grind (arith, nat_tests)

module _ {Y : Type 0} (p : Y → Bool) (f : List ℕ → Y) (fs : List Bool) (ts : List (List ℕ)) (j : ℕ) (h : j < length fs) (e : length fs ≡ length ts) where
  pub any_skips : get_or fs j false ≡ false
      → list_any p (chosen (drop (j + 1) fs) (map f (drop (j + 1) ts))) ≡ list_any p (chosen (drop j fs) (map f (drop j ts)))
  any_skips off = rw add-one (ap (λ (ys : List Y). list_any p ys) (mapped_skips f fs ts j h e off))

  pub any_fails : get_or fs j false ≡ true → p (f (get_or ts j [])) ≡ false
      → list_any p (chosen (drop (j + 1) fs) (map f (drop (j + 1) ts))) ≡ list_any p (chosen (drop j fs) (map f (drop j ts)))
  any_fails on fails = rw add-one (rw (mapped_next f fs ts j [] h e on) (rw fails refl))

  pub any_holds : get_or fs j false ≡ true → p (f (get_or ts j [])) ≡ true → list_any p (chosen (drop j fs) (map f (drop j ts))) ≡ true
  any_holds on holds = rw (mapped_next f fs ts j [] h e on) (rw holds refl)

pub any_ended : {Y : Type 0} (p : Y → Bool) (f : List ℕ → Y) (fs : List Bool) (ts : List (List ℕ)) (j : ℕ) → length fs ≤ j
    → false ≡ list_any p (chosen (drop j fs) (map f (drop j ts)))
any_ended p f fs ts j past = rw (drop_all j fs past) refl

module _ (test : List ℕ → Bool) (other : List ℕ) (fs : List Bool) (ts : List (List ℕ)) (j : ℕ) (h : j < length fs) (e : length fs ≡ length ts) where
  pub left_skips : get_or fs j false ≡ false
      → leftmost test other (chosen (drop (j + 1) fs) (drop (j + 1) ts)) ≡ leftmost test other (chosen (drop j fs) (drop j ts))
  left_skips off = rw add-one (rw (chosen_at fs ts j [] h e, off) refl)

  pub left_passes : get_or fs j false ≡ true → test (get_or ts j []) ≡ true
      → leftmost test other (chosen (drop (j + 1) fs) (drop (j + 1) ts)) ≡ leftmost test other (chosen (drop j fs) (drop j ts))
  left_passes on out = rw add-one (rw (chosen_at fs ts j [] h e, on) (rw out refl))

-- all columns were passed, and what was taken is there
pub all_taken : (text so : List ℕ) (fs : List Bool) (ts : List (List ℕ)) (j : ℕ) → length fs ≤ j → (so ≡ [] → ⊥)
    → so_far text so (taken_from fs ts j) ≡ data_of text (chosen fs ts) → so ≡ data_of text (chosen fs ts)
all_taken = grind (arith, common_steps)

-- all columns were passed, and nothing was taken
pub none_taken : (text so : List ℕ) (fs : List Bool) (ts : List (List ℕ)) (j : ℕ) → length fs ≤ j → so ≡ []
    → so_far text so (taken_from fs ts j) ≡ data_of text (chosen fs ts) → codes "." ≡ data_of text (chosen fs ts)
none_taken = grind (arith, common_steps)

-- what stands to the left of the next place
pub front_passes : (fs : List Bool) (ts : List (List ℕ)) (j : ℕ) → j < length fs → length fs ≡ length ts → get_or fs j false ≡ false
    → chosen (take (j + 1) fs) (take (j + 1) ts) ≡ chosen (take j fs) (take j ts)
front_passes fs ts j h e off = rw add-one (rw (chosen_take fs ts j [] h e, off) (append-nil (chosen (take j fs) (take j ts))))

pub front_takes : (fs : List Bool) (ts : List (List ℕ)) (j : ℕ) → j < length fs → length fs ≡ length ts → get_or fs j false ≡ true
    → chosen (take (j + 1) fs) (take (j + 1) ts) ≡ chosen (take j fs) (take j ts) ++ get_or ts j [] ∷ []
front_takes fs ts j h e on = rw add-one (rw (chosen_take fs ts j [] h e, on) refl)
