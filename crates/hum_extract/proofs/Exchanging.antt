-- Exchanged columns, of which both, none or one is chosen.
use Rattle.std.proofs.lemmas.Grind.{common_steps}
use Rattle.std.proofs.Common.{◌≡◌, ◌∙◌, refl, sym, ap, ℕ, suc, ◌+◌, ◌==◌, Bool, true, false, not}
use Rattle.std.proofs.Common.{◌&&◌, ◌||◌, List, [], ◌∷◌, length, arith}
use Rattle.std.proofs.lemmas.Bool.{false≢true}
use Rattle.std.proofs.lemmas.Bool.Decides.{nat_tests}
use Rattle.std.proofs.lemmas.List.{nil_from_length}
use Rattle.hum_score.specs.declared.spines.Sign.{Sign}
use Rattle.hum_score.specs.declared.spines.Sign.TheVariants.{Join, Exchange}
use Rattle.hum_score.specs.Sign.{is_exchange}
use Rattle.hum_score.specs.Spines.{exchanges}
use Rattle.hum_score.specs.Rules.{is_pair_or_none}
use Rattle.hum_path.specs.Onward.{beginnings, at_next, put_next, swapped}
use Rattle.hum_path.proofs.Onwards.{swapped_none}
use Rattle.hum_score.proofs.Cases.{by_bool}
use Rattle.hum_score.specs.Row.{chosen}
use Rattle.hum_columns.specs.Chosen.{differ}
use Rattle.hum_extract.specs.Extract.{exchanged_flags, is_lone, chosen_before, chosen_between}

-- as many flags as exchanged columns
pub flags_size : (j : ℕ) (fs : List Bool) (ss : List Sign) → length fs ≡ length ss
    → length (exchanged_flags fs ss) ≡ length (exchanges j ss)
flags_size j (f ∷ fs) (s ∷ ss) len = grind (arith, nat_tests, flags_size (j + 1) fs ss (omega (arith, len)))
flags_size j fs ss h = grind (arith, common_steps)

-- the chosen ones of them
pub chosen_exchanges : (j : ℕ) (fs : List Bool) (ss : List Sign)
    → length (exchanges j (chosen fs ss)) ≡ length (chosen (exchanged_flags fs ss) (exchanged_flags fs ss))
chosen_exchanges j (true ∷ fs) (s ∷ ss) = grind (arith, nat_tests, chosen_exchanges (j + 1) fs ss)
chosen_exchanges j (false ∷ fs) (s ∷ ss) = grind (arith, nat_tests, chosen_exchanges j fs ss)
chosen_exchanges j fs ss = grind (arith, nat_tests)

parts : {f g : Bool} {fs gs : List Bool} → f ∷ fs ≡ g ∷ gs → (f ≡ g) × (fs ≡ gs)
parts e = (cc, cc)

dropped_first : {X : Type 0} {fs gs : List Bool} → false ∷ fs ≡ true ∷ gs → X
dropped_first e = absurd (false≢true (parts e).0)

chosen_first : {X : Type 0} {fs gs : List Bool} → true ∷ fs ≡ false ∷ gs → X
chosen_first e = absurd (false≢true (sym (parts e).0))

-- The next exchanged column's flag,
flag_at : (d g : Bool) (gs fs : List Bool) (ss : List Sign) → exchanged_flags fs ss ≡ g ∷ gs → at_next d ss fs ≡ g
flag_at d g gs (f ∷ fs) (s ∷ ss) e =
    by_bool (is_exchange s) (λ w. rw w (parts (rw w at e)).0) (λ w. rw w (flag_at d g gs fs ss (rw w at e)))
flag_at d g gs fs ss h = grind (arith, nat_tests)

-- put where it was
flag_put : (g : Bool) (gs fs : List Bool) (ss : List Sign) → exchanged_flags fs ss ≡ g ∷ gs → put_next g ss fs ≡ fs
flag_put g gs (f ∷ fs) (s ∷ ss) e =
    by_bool (is_exchange s)
    (λ w. rw w (ap (λ (b : Bool). b ∷ fs) (sym (parts (rw w at e)).0)))
    (λ w. rw w (ap (λ (bs : List Bool). f ∷ bs) (flag_put g gs fs ss (rw w at e))))
flag_put g gs fs ss h = grind (arith, nat_tests)

-- two of one flag
swapped_same : (g : Bool) (fs : List Bool) (ss : List Sign) → exchanged_flags fs ss ≡ g ∷ g ∷ [] → swapped ss fs ≡ fs
swapped_same g (f ∷ fs) (s ∷ ss) e =
    by_bool (is_exchange s)
    (λ w.
    let both = parts (rw w at e) in
    rw (w, both.0, flag_at g g [] fs ss both.1, flag_put g [] fs ss both.1) refl)
    (λ w. rw w (ap (λ (bs : List Bool). f ∷ bs) (swapped_same g fs ss (rw w at e))))
swapped_same g fs ss h = grind (arith, nat_tests)

-- both chosen: the next one,
at_chosen : {X : Type 0} (d : X) (gs fs : List Bool) (ss : List Sign) (xs : List X) → length ss ≡ length xs
    → exchanged_flags fs ss ≡ true ∷ gs → at_next d (chosen fs ss) (chosen fs xs) ≡ at_next d ss xs
at_chosen d gs (true ∷ fs) (s ∷ ss) (x ∷ xs) len e =
    by_bool (is_exchange s) (λ w. rw w refl) (λ w. rw w (at_chosen d gs fs ss xs (omega (arith, len)) (rw w at e)))
at_chosen d gs (false ∷ fs) (s ∷ ss) (x ∷ xs) len e =
    by_bool (is_exchange s) (λ w. dropped_first (rw w at e)) (λ w. rw w (at_chosen d gs fs ss xs (omega (arith, len)) (rw w at e)))
at_chosen d gs fs ss xs h k = grind (arith, nat_tests)

put_chosen : {X : Type 0} (y : X) (gs fs : List Bool) (ss : List Sign) (xs : List X) → length ss ≡ length xs
    → exchanged_flags fs ss ≡ true ∷ gs → chosen fs (put_next y ss xs) ≡ put_next y (chosen fs ss) (chosen fs xs)
put_chosen {X} y gs (true ∷ fs) (s ∷ ss) (x ∷ xs) len e =
    by_bool (is_exchange s)
    (λ w. rw w refl)
    (λ w. rw w (ap (λ (ys : List X). x ∷ ys) (put_chosen y gs fs ss xs (omega (arith, len)) (rw w at e))))
put_chosen y gs (false ∷ fs) (s ∷ ss) (x ∷ xs) len e =
    by_bool (is_exchange s) (λ w. dropped_first (rw w at e)) (λ w. rw w (put_chosen y gs fs ss xs (omega (arith, len)) (rw w at e)))
put_chosen y gs fs ss xs h k = grind (arith, nat_tests)

-- and the exchange
swapped_both : {X : Type 0} (fs : List Bool) (ss : List Sign) (xs : List X) → length ss ≡ length xs
    → exchanged_flags fs ss ≡ true ∷ true ∷ [] → chosen fs (swapped ss xs) ≡ swapped (chosen fs ss) (chosen fs xs)
swapped_both {X} (true ∷ fs) (s ∷ ss) (x ∷ xs) len e =
    by_bool (is_exchange s)
    (λ w.
    let last = (parts (rw w at e)).1 in
    let same : length ss ≡ length xs = omega (arith, len) in
    rw w (rw (at_chosen x [] fs ss xs same last, put_chosen x [] fs ss xs same last) refl))
    (λ w. rw w (ap (λ (ys : List X). x ∷ ys) (swapped_both fs ss xs (omega (arith, len)) (rw w at e))))
swapped_both (false ∷ fs) (s ∷ ss) (x ∷ xs) len e =
    by_bool (is_exchange s) (λ w. dropped_first (rw w at e)) (λ w. rw w (swapped_both fs ss xs (omega (arith, len)) (rw w at e)))
swapped_both fs ss xs h k = grind (arith, nat_tests)

-- none chosen
put_dropped : {X : Type 0} (y : X) (gs fs : List Bool) (ss : List Sign) (xs : List X) → length ss ≡ length xs
    → exchanged_flags fs ss ≡ false ∷ gs → chosen fs (put_next y ss xs) ≡ chosen fs xs
put_dropped {X} y gs (true ∷ fs) (s ∷ ss) (x ∷ xs) len e =
    by_bool (is_exchange s)
    (λ w. chosen_first (rw w at e))
    (λ w. rw w (ap (λ (ys : List X). x ∷ ys) (put_dropped y gs fs ss xs (omega (arith, len)) (rw w at e))))
put_dropped y gs (false ∷ fs) (s ∷ ss) (x ∷ xs) len e =
    by_bool (is_exchange s) (λ w. rw w refl) (λ w. rw w (put_dropped y gs fs ss xs (omega (arith, len)) (rw w at e)))
put_dropped y gs fs ss xs h k = grind (arith, nat_tests)

swapped_dropped : {X : Type 0} (fs : List Bool) (ss : List Sign) (xs : List X) → length ss ≡ length xs
    → exchanged_flags fs ss ≡ false ∷ false ∷ [] → chosen fs (swapped ss xs) ≡ chosen fs xs
swapped_dropped {X} (true ∷ fs) (s ∷ ss) (x ∷ xs) len e =
    by_bool (is_exchange s)
    (λ w. chosen_first (rw w at e))
    (λ w. rw w (ap (λ (ys : List X). x ∷ ys) (swapped_dropped fs ss xs (omega (arith, len)) (rw w at e))))
swapped_dropped (false ∷ fs) (s ∷ ss) (x ∷ xs) len e =
    by_bool (is_exchange s)
    (λ w. rw w (put_dropped x [] fs ss xs (omega (arith, len)) (parts (rw w at e)).1))
    (λ w. rw w (swapped_dropped fs ss xs (omega (arith, len)) (rw w at e)))
swapped_dropped fs ss xs h k = grind (arith, nat_tests)

-- One chosen, with no chosen column between: the first,
lone_first : {X : Type 0} (x : X) (gs fs : List Bool) (ss : List Sign) (xs : List X) → length ss ≡ length xs
    → exchanged_flags fs ss ≡ false ∷ gs → chosen_before fs ss ≡ false
    → chosen (put_next true ss fs) (put_next x ss xs) ≡ x ∷ chosen fs xs
lone_first x gs (false ∷ fs) (s ∷ ss) (y ∷ xs) len e none =
    by_bool (is_exchange s)
    (λ w. rw w refl)
    (λ w. rw w (lone_first x gs fs ss xs (omega (arith, len)) (rw w at e) (rw w at none)))
lone_first x gs fs ss xs h k w = grind (arith, nat_tests)

-- the second,
lone_second : {X : Type 0} (x d : X) (gs fs : List Bool) (ss : List Sign) (xs : List X) → length ss ≡ length xs
    → exchanged_flags fs ss ≡ true ∷ gs → chosen_before fs ss ≡ false
    → at_next d ss xs ∷ chosen (put_next false ss fs) (put_next x ss xs) ≡ chosen fs xs
lone_second x d gs (false ∷ fs) (s ∷ ss) (y ∷ xs) len e none =
    by_bool (is_exchange s)
    (λ w. dropped_first (rw w at e))
    (λ w. rw w (lone_second x d gs fs ss xs (omega (arith, len)) (rw w at e) (rw w at none)))
lone_second x d gs fs ss xs h k w = grind (arith, nat_tests)

lone_either : {X : Type 0} (f g : Bool) (fs : List Bool) (ss : List Sign) (x : X) (xs : List X) → length ss ≡ length xs → differ f g ≡ true
    → exchanged_flags fs ss ≡ g ∷ [] → chosen_before fs ss ≡ false
    → chosen (at_next f ss fs ∷ put_next f ss fs) (at_next x ss xs ∷ put_next x ss xs) ≡ chosen (f ∷ fs) (x ∷ xs)
lone_either = grind (arith, nat_tests, false≢true, flag_at, lone_first, lone_second)

-- stays where it is.
swapped_lone : {X : Type 0} (g h : Bool) (fs : List Bool) (ss : List Sign) (xs : List X) → length ss ≡ length xs
    → exchanged_flags fs ss ≡ g ∷ h ∷ [] → differ g h ≡ true → chosen_between fs ss ≡ false
    → chosen (swapped ss fs) (swapped ss xs) ≡ chosen fs xs
swapped_lone {X} g h (f ∷ fs) (s ∷ ss) (x ∷ xs) len e d none =
    by_bool (is_exchange s)
    (λ w.
    let both = parts (rw w at e) in
    rw w (lone_either f h fs ss x xs (omega (arith, len)) (rw both.0 d) both.1 (rw w at none)))
    (λ w. rw w (on f (swapped_lone g h fs ss xs (omega (arith, len)) (rw w at e) d (rw w at none))))
  where
    on : (f : Bool) → chosen (swapped ss fs) (swapped ss xs) ≡ chosen fs xs
        → chosen (f ∷ swapped ss fs) (x ∷ swapped ss xs) ≡ chosen (f ∷ fs) (x ∷ xs)
    on = grind (arith, nat_tests)
swapped_lone g h fs ss xs k w e m = grind (arith, nat_tests)

-- What is the same under each exchange doesn't change.
begin_at : (b : Bool) (ss : List Sign) → at_next false ss (beginnings b ss) ≡ false
begin_at b [] = refl
begin_at b (Exchange ∷ ss) = refl
begin_at b (Join ∷ ss) = begin_at true ss
begin_at b (s ∷ ss) = begin_at false ss

begin_put : (b : Bool) (ss : List Sign) → put_next false ss (beginnings b ss) ≡ beginnings b ss
begin_put b [] = refl
begin_put b (Exchange ∷ ss) = refl
begin_put b (Join ∷ ss) = ap (λ (bs : List Bool). (true && not b) ∷ bs) (begin_put true ss)
begin_put b (s ∷ ss) = ap (λ (bs : List Bool). false ∷ bs) (begin_put false ss)

pub begin_swapped : (b : Bool) (ss : List Sign) → swapped ss (beginnings b ss) ≡ beginnings b ss
begin_swapped b [] = refl
begin_swapped b (Exchange ∷ ss) = rw (begin_at false ss, begin_put false ss) refl
begin_swapped b (Join ∷ ss) = ap (λ (bs : List Bool). (true && not b) ∷ bs) (begin_swapped true ss)
begin_swapped b (s ∷ ss) = ap (λ (bs : List Bool). false ∷ bs) (begin_swapped false ss)

sign_at : (ss : List Sign) → at_next Exchange ss ss ≡ Exchange
sign_at [] = refl
sign_at (s ∷ ss) = grind (arith, nat_tests, sign_at ss)

sign_put : (ss : List Sign) → put_next Exchange ss ss ≡ ss
sign_put [] = refl
sign_put (s ∷ ss) = grind (arith, nat_tests, sign_put ss)

pub sign_swapped : (ss : List Sign) → swapped ss ss ≡ ss
sign_swapped [] = refl
sign_swapped (Exchange ∷ ss) = rw (sign_at ss, sign_put ss) refl
sign_swapped (s ∷ ss) = ap (λ (ts : List Sign). s ∷ ts) (sign_swapped ss)

-- two flags or none
two_or_none : (fs : List Bool) (ss : List Sign) → length fs ≡ length ss → is_pair_or_none (exchanges 0 ss) ≡ true
    → ((length (exchanged_flags fs ss) == 0) || (length (exchanged_flags fs ss) == 2)) ≡ true
two_or_none fs ss len two = rw (flags_size 0 fs ss len) two

too_many : (n : ℕ) → ((suc (suc (suc n)) == 0) || (suc (suc (suc n)) == 2)) ≡ true → ⊥
too_many n e = grind (arith, nat_tests, e)

none_exchanged : (j : ℕ) (fs : List Bool) (ss : List Sign) → length fs ≡ length ss → exchanged_flags fs ss ≡ [] → exchanges j ss ≡ []
none_exchanged j fs ss len e =
    let size = flags_size j fs ss len in let none = ap length e in nil_from_length (exchanges j ss) (omega (arith, size, none))

none_left : (j : ℕ) (fs : List Bool) (ss : List Sign) (gs : List Bool) → exchanged_flags fs ss ≡ gs → chosen gs gs ≡ []
    → exchanges j (chosen fs ss) ≡ []
none_left j fs ss gs e none =
    nil_from_length (exchanges j (chosen fs ss)) (chosen_exchanges j fs ss ∙ ap length (ap (λ (bs : List Bool). chosen bs bs) e ∙ none))

-- Where both are chosen or none is, the exchange is one of the chosen columns.
pub swapped_chosen : {X : Type 0} (fs : List Bool) (ss : List Sign) (xs : List X) → length fs ≡ length ss → length ss ≡ length xs
    → is_pair_or_none (exchanges 0 ss) ≡ true → is_lone (exchanged_flags fs ss) ≡ false
    → (swapped ss fs ≡ fs) × (chosen fs (swapped ss xs) ≡ swapped (chosen fs ss) (chosen fs xs))
swapped_chosen {X} fs ss xs len wide two lone = by_flags (exchanged_flags fs ss) refl (two_or_none fs ss len two) lone
  where
    by_flags : (gs : List Bool) → exchanged_flags fs ss ≡ gs → ((length gs == 0) || (length gs == 2)) ≡ true → is_lone gs ≡ false
        → (swapped ss fs ≡ fs) × (chosen fs (swapped ss xs) ≡ swapped (chosen fs ss) (chosen fs xs))
    by_flags [] e two lone =
        let none = none_exchanged 0 fs ss len e in
        let left = none_left 0 fs ss [] e refl in (
          swapped_none 0 ss fs none,
          ap (λ (ys : List X). chosen fs ys) (swapped_none 0 ss xs none) ∙ sym (swapped_none 0 (chosen fs ss) (chosen fs xs) left),
        )
    by_flags (g ∷ []) e two lone = cc
    by_flags (true ∷ true ∷ []) e two lone = (swapped_same true fs ss e, swapped_both fs ss xs wide e)
    by_flags (false ∷ false ∷ []) e two lone =
        let left = none_left 0 fs ss (false ∷ false ∷ []) e refl in
        (swapped_same false fs ss e, swapped_dropped fs ss xs wide e ∙ sym (swapped_none 0 (chosen fs ss) (chosen fs xs) left))
    by_flags (true ∷ false ∷ []) e two lone = absurd (false≢true (sym lone))
    by_flags (false ∷ true ∷ []) e two lone = absurd (false≢true (sym lone))
    by_flags (g ∷ h ∷ i ∷ gs) e two lone = absurd (too_many (length gs) two)

-- there is one, or none
pub pair_chosen : (fs : List Bool) (ss : List Sign) → length fs ≡ length ss → is_pair_or_none (exchanges 0 ss) ≡ true
    → is_lone (exchanged_flags fs ss) ≡ false
    → is_pair_or_none (exchanges 0 (chosen fs ss)) ≡ true
pair_chosen fs ss len two lone = rw (chosen_exchanges 0 fs ss) (by_flags (exchanged_flags fs ss) (two_or_none fs ss len two) lone)
  where
    by_flags : (gs : List Bool) → ((length gs == 0) || (length gs == 2)) ≡ true → is_lone gs ≡ false
        → ((length (chosen gs gs) == 0) || (length (chosen gs gs) == 2)) ≡ true
    by_flags [] two lone = refl
    by_flags (g ∷ []) two lone = cc
    by_flags (true ∷ true ∷ []) two lone = refl
    by_flags (false ∷ false ∷ []) two lone = refl
    by_flags (true ∷ false ∷ []) two lone = absurd (false≢true (sym lone))
    by_flags (false ∷ true ∷ []) two lone = absurd (false≢true (sym lone))
    by_flags (g ∷ h ∷ i ∷ gs) two lone = absurd (too_many (length gs) two)

-- Where one is chosen, what is chosen stays in its order.
pub lone_stays : {X : Type 0} (fs : List Bool) (ss : List Sign) (xs : List X) → length fs ≡ length ss → length ss ≡ length xs
    → is_pair_or_none (exchanges 0 ss) ≡ true → is_lone (exchanged_flags fs ss) ≡ true → chosen_between fs ss ≡ false
    → chosen (swapped ss fs) (swapped ss xs) ≡ chosen fs xs
lone_stays {X} fs ss xs len wide two lone none = by_flags (exchanged_flags fs ss) refl (two_or_none fs ss len two) lone
  where
    by_flags : (gs : List Bool) → exchanged_flags fs ss ≡ gs → ((length gs == 0) || (length gs == 2)) ≡ true → is_lone gs ≡ true
        → chosen (swapped ss fs) (swapped ss xs) ≡ chosen fs xs
    by_flags [] e two lone = absurd (false≢true lone)
    by_flags (g ∷ []) e two lone = absurd (false≢true lone)
    by_flags (g ∷ h ∷ []) e two lone = swapped_lone g h fs ss xs wide e lone none
    by_flags (g ∷ h ∷ i ∷ gs) e two lone = absurd (too_many (length gs) two)
