-- Exchanged columns, place by place.
use Rattle.std.proofs.lemmas.Grind.{common_steps}
use Rattle.std.proofs.lemmas.Bool.Decides.{nat_tests}
use Rattle.std.proofs.Common.{◌≡◌, ◌∙◌, sym, ap, ℕ, suc, ◌+◌, ◌<◌, Bool, true, false, cond, ◌||◌}
use Rattle.std.proofs.Common.{List, [], ◌∷◌, ◌++◌, length, map, drop, get_or, arith, add-one, drop-cons, Option, None, Some, refl}
use Rattle.std.specs.Option.{option_to_list}
use Rattle.hum_score.specs.declared.spines.Sign.{Sign}
use Rattle.hum_score.specs.Sign.{sign_of, is_exchange}
use Rattle.hum_extract.specs.Extract.{exchanged_flags, is_lone, chosen_before, chosen_between}

abbrev pub lone_after : Option Bool → List Bool → List Sign → Bool
lone_after first flags signs = is_lone (option_to_list first ++ exchanged_flags flags signs)

abbrev pub between_from : Bool → List Bool → List Sign → Bool
between_from true flags signs = chosen_before flags signs
between_from false flags signs = chosen_between flags signs

-- at a place

signs_at : (ts : List (List ℕ)) (j : ℕ) → j < length ts
    → map sign_of (drop j ts) ≡ sign_of (get_or ts j []) ∷ map sign_of (drop (suc j) ts)
signs_at ts j h = ap (map sign_of) (drop-cons ts j [] h)

flag_at : (fs : List Bool) (j : ℕ) → j < length fs → drop j fs ≡ get_or fs j false ∷ drop (suc j) fs
flag_at fs j h = drop-cons fs j false h

abbrev between_next : Bool → Bool → Bool → List Bool → List Sign → Bool
between_next true exchanges mark flags signs = cond exchanges false (mark || chosen_before flags signs)
between_next false exchanges mark flags signs = cond exchanges (chosen_before flags signs) (chosen_between flags signs)

between_step : (inside f : Bool) (s : Sign) (flags : List Bool) (signs : List Sign)
    → between_from inside (f ∷ flags) (s ∷ signs) ≡ between_next inside (is_exchange s) f flags signs
between_step = grind (arith, nat_tests)

between_at : (inside : Bool) (fs : List Bool) (ts : List (List ℕ)) (j : ℕ) → j < length fs → length fs ≡ length ts
    → between_from inside (drop j fs) (map sign_of (drop j ts))
    ≡ between_next inside (is_exchange (sign_of (get_or ts j []))) (get_or fs j false) (drop (suc j) fs) (map sign_of (drop (suc j) ts))
between_at = grind (arith, nat_tests, flag_at, signs_at, between_step, get_or)

pub between_ends : (inside : Bool) (fs : List Bool) (ts : List (List ℕ)) (j : ℕ) → j < length fs → length fs ≡ length ts
    → inside ≡ true → is_exchange (sign_of (get_or ts j [])) ≡ true
    → between_from inside (drop j fs) (map sign_of (drop j ts)) ≡ false
between_ends inside fs ts j h e is exchanges = between_at inside fs ts j h e ∙ rw (is, exchanges) refl

pub between_inside : (inside : Bool) (fs : List Bool) (ts : List (List ℕ)) (j : ℕ) → j < length fs → length fs ≡ length ts
    → inside ≡ true → is_exchange (sign_of (get_or ts j [])) ≡ false → get_or fs j false ≡ false
    → between_from (inside || is_exchange (sign_of (get_or ts j []))) (drop (j + 1) fs) (map sign_of (drop (j + 1) ts))
    ≡ between_from inside (drop j fs) (map sign_of (drop j ts))
between_inside = grind (arith, common_steps)

pub between_outside : (inside : Bool) (fs : List Bool) (ts : List (List ℕ)) (j : ℕ) → j < length fs → length fs ≡ length ts
    → inside ≡ false
    → between_from (inside || is_exchange (sign_of (get_or ts j []))) (drop (j + 1) fs) (map sign_of (drop (j + 1) ts))
    ≡ between_from inside (drop j fs) (map sign_of (drop j ts))
between_outside inside fs ts j h e is =
    let s = is_exchange (sign_of (get_or ts j [])) in
    rw add-one (sym (between_at inside fs ts j h e ∙ rw is (outside s (get_or fs j false) (drop (suc j) fs) (map sign_of (drop (suc j) ts)))))
  where
    outside : (s f : Bool) (flags : List Bool) (signs : List Sign) → between_next false s f flags signs ≡ between_from s flags signs
    outside = grind (arith, nat_tests)

lone_at : (first : Option Bool) (fs : List Bool) (ts : List (List ℕ)) (j : ℕ) → j < length fs → length fs ≡ length ts
    → lone_after first (drop j fs) (map sign_of (drop j ts))
    ≡ is_lone (option_to_list first ++ cond (is_exchange (sign_of (get_or ts j [])))
    (get_or fs j false ∷ exchanged_flags (drop (suc j) fs) (map sign_of (drop (suc j) ts)))
    (exchanged_flags (drop (suc j) fs) (map sign_of (drop (suc j) ts))))
lone_at first fs ts j h e = rw (flag_at fs j h, signs_at ts j (omega (arith, e))) refl

pub lone_first : (first : Option Bool) (fs : List Bool) (ts : List (List ℕ)) (j : ℕ) → j < length fs → length fs ≡ length ts
    → first ≡ None → is_exchange (sign_of (get_or ts j [])) ≡ true
    → lone_after (Some (get_or fs j false)) (drop (j + 1) fs) (map sign_of (drop (j + 1) ts)) ≡ lone_after first (drop j fs) (map sign_of (drop j ts))
lone_first first fs ts j h e none exchanges = rw add-one (sym (lone_at first fs ts j h e ∙ rw (none, exchanges) refl))

pub lone_other : (first : Option Bool) (fs : List Bool) (ts : List (List ℕ)) (j : ℕ) → j < length fs → length fs ≡ length ts
    → is_exchange (sign_of (get_or ts j [])) ≡ false
    → lone_after first (drop (j + 1) fs) (map sign_of (drop (j + 1) ts)) ≡ lone_after first (drop j fs) (map sign_of (drop j ts))
lone_other first fs ts j h e exchanges = rw add-one (sym (lone_at first fs ts j h e ∙ rw exchanges refl))
