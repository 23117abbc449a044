-- Torn joins, exchanges that are crossed, and the tokens that are kept, by places.
use Rattle.std.proofs.lemmas.Grind.{common_steps}
use Rattle.std.proofs.Common.{◌≡◌, ◌≢◌, ◌∙◌, refl, sym, ap, ℕ, zero, suc, ◌+◌, ◌<◌, ◌≤◌, ◌⊎◌, ◌↔◌, inl, inr, arith}
use Rattle.std.proofs.Common.{Bool, true, false, not, ◌&&◌, List, [], ◌∷◌, map, length, get_or, nat_lt}
use Rattle.std.specs.Prelude.{if◌then◌else◌}
use Rattle.std.proofs.Common.{Some, None, slice_get, Result, Ok, Err}
use Rattle.std.proofs.lemmas.Bool.Decides.{nat_tests}
use Rattle.std.proofs.lemmas.List.{length-map}
use Rattle.std.specs.Str.{bytes_eq}
use lib.Chars.{codes}
use Rattle.hum_score.specs.declared.records.SpinedKind.TheVariants.{Interpretation}
use Rattle.hum_score.specs.Row.{Row, Spined, chosen}
use Rattle.hum_score.specs.Sign.{sign_of, is_join, is_exchange}
use Rattle.hum_score.specs.Spines.{Spines, exchanges}
use Rattle.hum_score.specs.Rules.{fault_of, is_pair_or_none}
use Rattle.hum_score.proofs.Cases.{by_bool}
use Rattle.hum_path.specs.Places.{token_at, IsJoin, IsExchange, AreExchanged}
use Rattle.hum_path.proofs.Obeyed.{obeys}
use Rattle.hum_path.proofs.Places.{rules_by_place}
use Rattle.hum_stage.specs.declared.faults.Rule.{Rule}
use Rattle.hum_stage.specs.declared.faults.Rule.TheVariants.{X1, X3}
use Rattle.hum_columns.specs.Spread.{piece, spread, filled}
use Rattle.hum_columns.specs.Chosen.{differ, is_torn, each_piece}
use Rattle.hum_extract.specs.Extract.{exchanged_flags, is_lone, chosen_before, chosen_between, softened, pieces, cut}
use Rattle.hum_places.specs.Columns.{is_chosen, IsChosen, chosen_left, begins, IsLone}
use Rattle.hum_places.specs.Columns.{SomeTorn, SomeLone, SomeCrossed, Writes, AreCut, CutByPlace, CutsByPlace}
use Rattle.hum_places.proofs.Heirs.{joins, is_text, no_text, joins_is, after_at, present}

-- ---- signs and texts

pub join_on : (t : List ℕ) → is_join (sign_of t) ≡ true → t ≡ codes "*v"
join_on t w = is_text t (codes "*v") (sym (joins_is t) ∙ w)

pub on_join : (t : List ℕ) → t ≡ codes "*v" → is_join (sign_of t) ≡ true
on_join t e = rw e refl

pub exchange_is : (t : List ℕ) → is_exchange (sign_of t) ≡ bytes_eq t (codes "*x")
exchange_is = grind (arith, nat_tests)

exchange_on : (t : List ℕ) → is_exchange (sign_of t) ≡ true → t ≡ codes "*x"
exchange_on t w = is_text t (codes "*x") (sym (exchange_is t) ∙ w)

exchange_off : (t : List ℕ) → t ≢ codes "*x" → is_exchange (sign_of t) ≡ false
exchange_off t other = exchange_is t ∙ no_text t (codes "*x") other

on_exchange : (t : List ℕ) → t ≡ codes "*x" → is_exchange (sign_of t) ≡ true
on_exchange t e = rw e refl

pub no_false : {X : Type 0} → false ≡ true → X
no_false = grind (arith, nat_tests)

pub both_of : (a b : Bool) → (a && b) ≡ true → (a ≡ true) × (b ≡ true)
both_of = grind (arith, nat_tests)

both : {a b : Bool} → (a && b) ≡ true → (a ≡ true) × (b ≡ true)
both {a} {b} = both_of a b

differ_is : (a b : Bool) → differ a b ≡ true → ((a ≡ true) × (b ≡ false)) ⊎ ((a ≡ false) × (b ≡ true))
differ_is = grind (arith, nat_tests)

-- ---- torn joins

abbrev TornAt : List Bool → List (List ℕ) → ℕ → Type 0
TornAt fs ts j = IsJoin ts j × IsJoin ts (suc j) × (differ (is_chosen fs j) (is_chosen fs (suc j)) ≡ true)

torn_at : (fs : List Bool) (ts : List (List ℕ)) → is_torn fs (map sign_of ts) ≡ true → (j : ℕ) × TornAt fs ts j
torn_at [] ts e = no_false e
torn_at (f ∷ []) [] e = no_false e
torn_at (f ∷ []) (t ∷ ts) e = no_false e
torn_at (f ∷ g ∷ fs) [] e = no_false e
torn_at (f ∷ g ∷ fs) (t ∷ []) e = no_false e
torn_at (f ∷ g ∷ fs) (t ∷ u ∷ ts) e =
    by_bool (is_join (sign_of t) && (is_join (sign_of u) && differ f g))
    (λ w. let a = both w in let b = both a.1 in (zero, (join_on t a.0, join_on u b.0, b.1)))
    (λ w. let more = torn_at (g ∷ fs) (u ∷ ts) (rw w at e) in (suc more.0, more.1))

torn_from : (fs : List Bool) (ts : List (List ℕ)) (j : ℕ) → suc j < length fs → TornAt fs ts j → is_torn fs (map sign_of ts) ≡ true
torn_from [] ts j h at = absurd (omega (arith, h))
torn_from (f ∷ []) ts j h at = absurd (omega (arith, h))
torn_from (f ∷ g ∷ fs) [] j h at = let no : [] ≡ codes "*v" = at.0 in cc
torn_from (f ∷ g ∷ fs) (t ∷ []) zero h at = let no : [] ≡ codes "*v" = at.1 in cc
torn_from (f ∷ g ∷ fs) (t ∷ []) (suc j) h at = let no : [] ≡ codes "*v" = at.0 in cc
torn_from (f ∷ g ∷ fs) (t ∷ u ∷ ts) zero h at = rw (on_join t at.0, on_join u at.1, at.2) refl
torn_from (f ∷ g ∷ fs) (t ∷ u ∷ ts) (suc j) h at =
    let more = torn_from (g ∷ fs) (u ∷ ts) j (omega (arith, h)) at in
    by_bool (is_join (sign_of t) && (is_join (sign_of u) && differ f g)) (λ w. rw w refl) (λ w. rw w more)

pub not_chosen : {b : Bool} → b ≡ false → ¬ (b ≡ true)
not_chosen e w = no_false (sym e ∙ w)

off_of : (b : Bool) → ¬ (b ≡ true) → b ≡ false
off_of = grind (arith, nat_tests)

pub off : {b : Bool} → ¬ (b ≡ true) → b ≡ false
off {b} = off_of b

pub torn_is : (fs : List Bool) (ts : List (List ℕ)) → length fs ≡ length ts → (is_torn fs (map sign_of ts) ≡ true) ↔ SomeTorn fs ts
torn_is fs ts wide = (there, back)
  where
    there : is_torn fs (map sign_of ts) ≡ true → SomeTorn fs ts
    there = grind (arith, nat_tests, torn_at, differ_is, joins, not_chosen)

    at_left : (j k : ℕ) → k ≡ j + 1 → IsJoin ts j → IsJoin ts k → differ (is_chosen fs j) (is_chosen fs k) ≡ true → is_torn fs (map sign_of ts) ≡ true
    at_left j k e a b d =
        let same : k ≡ suc j = omega (arith, e) in
        let within = present ts k (codes "*v") (λ w. cc) b in
        torn_from fs ts j (omega (arith, e, within, wide)) (a, rw same at b, rw same at d)

    back : SomeTorn fs ts → is_torn fs (map sign_of ts) ≡ true
    back (j, k, w) = elim w.beside [
      | inl e ↦ at_left j k e w.joins.0 w.joins.1 (rw (w.own, off w.other) refl)
      | inr e ↦ at_left k j e w.joins.1 w.joins.0 (rw (w.own, off w.other) refl)
    ]

-- ---- exchanges

none_flags : (fs : List Bool) (ts : List (List ℕ)) → ((i : ℕ) → ¬ IsExchange ts i) → exchanged_flags fs (map sign_of ts) ≡ []
none_flags [] ts none = refl
none_flags (f ∷ fs) [] none = refl
none_flags (f ∷ fs) (t ∷ ts) none = rw (exchange_off t (none zero)) (none_flags fs ts (λ i. none (suc i)))

-- one exchange
module _ where
  one_flags : (fs : List Bool) (ts : List (List ℕ)) (b : ℕ) → length fs ≡ length ts → IsExchange ts b
      → ((i : ℕ) → IsExchange ts i → i ≡ b) → exchanged_flags fs (map sign_of ts) ≡ is_chosen fs b ∷ []
  one_flags [] [] b wide here only = let no : [] ≡ codes "*x" = here in cc
  one_flags [] (t ∷ ts) b wide here only = absurd (omega (arith, wide))
  one_flags (f ∷ fs) [] b wide here only = absurd (omega (arith, wide))
  one_flags (f ∷ fs) (t ∷ ts) zero wide here only =
      rw (on_exchange t here) (ap (λ (gs : List Bool). f ∷ gs) (none_flags fs ts (λ i e. let w = only (suc i) e in absurd (omega (arith, w)))))
  one_flags (f ∷ fs) (t ∷ ts) (suc b) wide here only =
      rw (exchange_off t (λ e. let w = only zero e in omega (arith, w)))
      (one_flags fs ts b (omega (arith, wide)) here (λ i e. let same = only (suc i) e in omega (arith, same)))

two_flags : (fs : List Bool) (ts : List (List ℕ)) (a b : ℕ) → length fs ≡ length ts → a < b → IsExchange ts a → IsExchange ts b
    → ((i : ℕ) → IsExchange ts i → (i ≡ a) ⊎ (i ≡ b)) → exchanged_flags fs (map sign_of ts) ≡ is_chosen fs a ∷ is_chosen fs b ∷ []
two_flags [] [] a b wide less first second only = let no : [] ≡ codes "*x" = first in cc
two_flags [] (t ∷ ts) a b wide less first second only = absurd (omega (arith, wide))
two_flags (f ∷ fs) [] a b wide less first second only = absurd (omega (arith, wide))
two_flags (f ∷ fs) (t ∷ ts) a zero wide less first second only = absurd (omega (arith, less))
two_flags (f ∷ fs) (t ∷ ts) zero (suc b) wide less first second only =
    rw (on_exchange t first) (ap (λ (gs : List Bool). f ∷ gs) (one_flags fs ts b (omega (arith, wide)) second later))
  where
    later : (i : ℕ) → IsExchange ts i → i ≡ b
    later i e = elim (only (suc i) e) [ inl w ↦ absurd (omega (arith, w)) | inr same ↦ omega (arith, same) ]
two_flags (f ∷ fs) (t ∷ ts) (suc a) (suc b) wide less first second only =
    rw (exchange_off t no_first) (two_flags fs ts a b (omega (arith, wide)) (omega (arith, less)) first second later)
  where
    no_first : ¬ IsExchange (t ∷ ts) zero
    no_first e = elim (only zero e) [ inl w ↦ omega (arith, w) | inr w ↦ omega (arith, w) ]

    later : (i : ℕ) → IsExchange ts i → (i ≡ a) ⊎ (i ≡ b)
    later i e = elim (only (suc i) e) [ inl same ↦ inl (omega (arith, same)) | inr same ↦ inr (omega (arith, same)) ]

-- a chosen column before the next exchange
before_at : (fs : List Bool) (ts : List (List ℕ)) (b : ℕ) → IsExchange ts b → chosen_before fs (map sign_of ts) ≡ true
    → (i : ℕ) × (i < b) × IsChosen fs i
before_at [] ts b here e = no_false e
before_at (f ∷ fs) [] b here e = no_false e
before_at (f ∷ fs) (t ∷ ts) zero here e = no_false (rw (on_exchange t here) at e)
before_at (f ∷ fs) (t ∷ ts) (suc b) here e = by_bool (is_exchange (sign_of t))
    (λ w. no_false (rw w at e))
    (λ w. by_bool f
    (λ v. (zero, omega arith, v))
    (λ v. let more = before_at fs ts b here (rw (w, v) at e) in let less = more.1 in (suc more.0, omega (arith, less), more.2)))

from_before : (fs : List Bool) (ts : List (List ℕ)) (b i : ℕ) → length fs ≡ length ts → ((k : ℕ) → k < b → ¬ IsExchange ts k) → i < b → IsChosen fs i
    → chosen_before fs (map sign_of ts) ≡ true
from_before [] ts b i wide none less here = no_false here
from_before (f ∷ fs) [] b i wide none less here = absurd (omega (arith, wide))
from_before (f ∷ fs) (t ∷ ts) b zero wide none less here = rw (exchange_off t (none zero less), here) refl
from_before (f ∷ fs) (t ∷ ts) zero (suc i) wide none less here = absurd (omega (arith, less))
from_before (f ∷ fs) (t ∷ ts) (suc b) (suc i) wide none less here =
    let off = exchange_off t (none zero (omega arith)) in
    let more = from_before fs ts b i (omega (arith, wide)) (λ k l. none (suc k) (omega (arith, l))) (omega (arith, less)) here in
    by_bool f (λ w. rw (off, w) refl) (λ w. rw (off, w) more)

between_at : (fs : List Bool) (ts : List (List ℕ)) (a b : ℕ) → a < b → IsExchange ts a → IsExchange ts b
    → ((i : ℕ) → IsExchange ts i → (i ≡ a) ⊎ (i ≡ b)) → chosen_between fs (map sign_of ts) ≡ true
    → (i : ℕ) × (a < i) × (i < b) × IsChosen fs i
between_at [] ts a b less first second only e = no_false e
between_at (f ∷ fs) [] a b less first second only e = no_false e
between_at (f ∷ fs) (t ∷ ts) a zero less first second only e = absurd (omega (arith, less))
between_at (f ∷ fs) (t ∷ ts) zero (suc b) less first second only e =
    let h = before_at fs ts b second (rw (on_exchange t first) at e) in
    let l = h.1 in
    (suc h.0, omega arith, omega (arith, l), h.2)
between_at (f ∷ fs) (t ∷ ts) (suc a) (suc b) less first second only e =
    let h = between_at fs ts a b (omega (arith, less)) first second later (rw (exchange_off t no_first) at e) in
    let l = h.1 in
    let m = h.2 in
    (suc h.0, omega (arith, l), omega (arith, m), h.3)
  where
    no_first : ¬ IsExchange (t ∷ ts) zero
    no_first e = elim (only zero e) [ inl w ↦ omega (arith, w) | inr w ↦ omega (arith, w) ]

    later : (i : ℕ) → IsExchange ts i → (i ≡ a) ⊎ (i ≡ b)
    later i e = elim (only (suc i) e) [ inl same ↦ inl (omega (arith, same)) | inr same ↦ inr (omega (arith, same)) ]

from_between : (fs : List Bool) (ts : List (List ℕ)) (a b i : ℕ) → length fs ≡ length ts → IsExchange ts a
    → ((k : ℕ) → IsExchange ts k → (k ≡ a) ⊎ (k ≡ b)) → a < i → i < b → IsChosen fs i → chosen_between fs (map sign_of ts) ≡ true
from_between fs [] a b i wide first only low high here = let no : [] ≡ codes "*x" = first in cc
from_between [] (t ∷ ts) a b i wide first only low high here = no_false here
from_between (f ∷ fs) (t ∷ ts) a b zero wide first only low high here = absurd (omega (arith, low))
from_between (f ∷ fs) (t ∷ ts) a zero (suc i) wide first only low high here = absurd (omega (arith, high))
from_between (f ∷ fs) (t ∷ ts) zero (suc b) (suc i) wide first only low high here =
    rw (on_exchange t first) (from_before fs ts b i (omega (arith, wide)) none (omega (arith, high)) here)
  where
    none : (k : ℕ) → k < b → ¬ IsExchange ts k
    none k l e = elim (only (suc k) e) [ inl w ↦ omega (arith, w) | inr w ↦ omega (arith, w, l) ]
from_between (f ∷ fs) (t ∷ ts) (suc a) (suc b) (suc i) wide first only low high here =
    rw (exchange_off t no_first) (from_between fs ts a b i (omega (arith, wide)) first later (omega (arith, low)) (omega (arith, high)) here)
  where
    no_first : ¬ IsExchange (t ∷ ts) zero
    no_first e = elim (only zero e) [ inl w ↦ omega (arith, w) | inr w ↦ omega (arith, w, low) ]

    later : (k : ℕ) → IsExchange ts k → (k ≡ a) ⊎ (k ≡ b)
    later k e = elim (only (suc k) e) [ inl same ↦ inl (omega (arith, same)) | inr same ↦ inr (omega (arith, same)) ]

-- what the two places are, or that there are none
abbrev TwoOrNone : List (List ℕ) → Type 0
TwoOrNone ts = ((i : ℕ) → ¬ IsExchange ts i) ⊎ ((a : ℕ) × (b : ℕ) × (a < b) × IsExchange ts a × IsExchange ts b × ((i : ℕ) → IsExchange ts i → (i ≡ a) ⊎ (i ≡ b)))

in_order : (ts : List (List ℕ)) (a b : ℕ) → AreExchanged ts a b → TwoOrNone ts
in_order ts a b e = by_bool (nat_lt a b)
    (λ w. inr (a, b, grind (arith, nat_tests, w), e.at.0, e.at.1, e.alone))
    (λ w. inr (b, a, below (grind (arith, nat_tests, w)), e.at.1, e.at.0, other))
  where
    below : b ≤ a → b < a
    below h = let apart : a ≢ b = e.apart in omega (arith, apart, h)

    other : (i : ℕ) → IsExchange ts i → (i ≡ b) ⊎ (i ≡ a)
    other i w = elim (e.alone i w) [ inl v ↦ inr v | inr v ↦ inl v ]

two_or_none : (names tokens : List (List ℕ)) → fault_of (Spines names) (Spined Interpretation tokens) ≡ None → TwoOrNone tokens
two_or_none names tokens sound =
    let pair = (obeys names tokens sound).pair in
    let obeyed : ¬ (not (is_pair_or_none (exchanges 0 (map sign_of tokens))) ≡ true) = λ w. no_not pair w in
    by_pair ((rules_by_place names tokens).exchanged.0 obeyed)
  where
    no_not : {b : Bool} → b ≡ true → not b ≡ true → ⊥
    no_not e w = let v = rw e at w in cc

    by_pair : ((i : ℕ) → ¬ IsExchange tokens i) ⊎ ((a : ℕ) × (b : ℕ) × AreExchanged tokens a b) → TwoOrNone tokens
    by_pair (inl none) = inl none
    by_pair (inr two) = in_order tokens two.0 two.1 two.2

-- the exchange of chosen columns, by places
record Exchanging (fs : List Bool) (ts : List (List ℕ)) : Type 0 where
  lone : (is_lone (exchanged_flags fs (map sign_of ts)) ≡ true) ↔ SomeLone fs ts
  crossed : ((is_lone (exchanged_flags fs (map sign_of ts)) && chosen_between fs (map sign_of ts)) ≡ true) ↔ SomeCrossed fs ts

and_both : {a b : Bool} → a ≡ true → b ≡ true → (a && b) ≡ true
and_both p q = rw (p, q) refl

exchanging : (fs : List Bool) (ts : List (List ℕ)) → length fs ≡ length ts → TwoOrNone ts → Exchanging fs ts
exchanging fs ts wide (inl none) = grind (arith, nat_tests, none_flags, no_false)
exchanging fs ts wide (inr (a, b, less, first, second, only)) = record { lone = (some, is); crossed = (some_crossed, is_crossed) }
  where
    two : exchanged_flags fs (map sign_of ts) ≡ is_chosen fs a ∷ is_chosen fs b ∷ []
    two = two_flags fs ts a b wide less first second only

    -- of two places one is chosen
    of_two : (j k : ℕ) → (j ≡ a) ⊎ (j ≡ b) → (k ≡ a) ⊎ (k ≡ b) → IsChosen fs j → ¬ IsChosen fs k
        → ((j ≡ a) × (k ≡ b)) ⊎ ((j ≡ b) × (k ≡ a))
    of_two = grind (arith, nat_tests)

    placed : (j k : ℕ) → IsLone fs ts j k → ((j ≡ a) × (k ≡ b)) ⊎ ((j ≡ b) × (k ≡ a))
    placed j k w = of_two j k (only j w.exchanges.0) (only k w.exchanges.1) w.own w.other

    some : is_lone (exchanged_flags fs (map sign_of ts)) ≡ true → SomeLone fs ts
    some = grind (arith, nat_tests, differ_is, two, not_chosen)

    is : SomeLone fs ts → is_lone (exchanged_flags fs (map sign_of ts)) ≡ true
    is (j, k, w) = elim (placed j k w) [
      | inl p ↦ rw (two, rw p.0 at w.own, off (rw p.1 at w.other)) refl
      | inr p ↦ rw (two, rw p.0 at w.own, off (rw p.1 at w.other)) refl
    ]

    some_crossed : (is_lone (exchanged_flags fs (map sign_of ts)) && chosen_between fs (map sign_of ts)) ≡ true → SomeCrossed fs ts
    some_crossed e =
        let parts : (is_lone (exchanged_flags fs (map sign_of ts)) ≡ true) × (chosen_between fs (map sign_of ts) ≡ true) = both e in
        let i = between_at fs ts a b less first second only parts.1 in
        elim (differ_is (is_chosen fs a) (is_chosen fs b) (rw two at parts.0)) [
          | inl w ↦ (
            a,
            b,
            i.0,
            record {
              lone = record { exchanges = (first, second); own = w.0; other = not_chosen w.1 };
              between = inl (i.1, i.2);
              chosen = i.3;
            },
          )
          | inr w ↦ (
            b,
            a,
            i.0,
            record {
              lone = record { exchanges = (second, first); own = w.1; other = not_chosen w.0 };
              between = inr (i.1, i.2);
              chosen = i.3;
            },
          )
        ]

    is_crossed : SomeCrossed fs ts → (is_lone (exchanged_flags fs (map sign_of ts)) && chosen_between fs (map sign_of ts)) ≡ true
    is_crossed (j, k, i, w) = and_both (is (j, k, w.lone)) (from_between fs ts a b i wide first only range.0 range.1 w.chosen)
      where
        range : (a < i) × (i < b)
        range = grind (arith, nat_tests)

-- ---- chosen tokens

pub left_more : (f : Bool) (fs : List Bool) (j : ℕ) → chosen_left (f ∷ fs) (suc j) ≡ (if f then 1 else 0) + chosen_left fs j
left_more true fs zero = refl
left_more false fs zero = refl
left_more f fs (suc j) = grind (arith, nat_tests, left_more f fs j)

pub chosen_at : {X : Type 0} (fs : List Bool) (xs : List X) (j : ℕ) → j < length xs → IsChosen fs j
    → slice_get (chosen fs xs) (chosen_left fs j) ≡ slice_get xs j
chosen_at [] xs j h e = no_false e
chosen_at (f ∷ fs) [] j h e = absurd (omega (arith, h))
chosen_at (true ∷ fs) (x ∷ xs) zero h e = refl
chosen_at (false ∷ fs) (x ∷ xs) zero h e = no_false e
chosen_at (true ∷ fs) (x ∷ xs) (suc j) h e =
    let place : chosen_left (true ∷ fs) (suc j) ≡ suc (chosen_left fs j) = left_more true fs j ∙ omega arith in
    rw place (chosen_at fs xs j (omega (arith, h)) e)
chosen_at (false ∷ fs) (x ∷ xs) (suc j) h e =
    let place : chosen_left (false ∷ fs) (suc j) ≡ chosen_left fs j = left_more false fs j ∙ omega arith in
    rw place (chosen_at fs xs j (omega (arith, h)) e)

pub chosen_count : {X : Type 0} (fs : List Bool) (xs : List X) → length fs ≡ length xs → length (chosen fs xs) ≡ chosen_left fs (length xs)
chosen_count [] [] e = refl
chosen_count [] (x ∷ xs) e = absurd (omega (arith, e))
chosen_count (f ∷ fs) [] e = absurd (omega (arith, e))
chosen_count (true ∷ fs) (x ∷ xs) e =
    grind (arith, nat_tests, chosen_count fs xs (omega (arith, e)), left_more)
chosen_count (false ∷ fs) (x ∷ xs) e =
    grind (arith, nat_tests, chosen_count fs xs (omega (arith, e)), left_more)

pub each_at : (after : Bool) (ts : List (List ℕ)) (j : ℕ) → j < length ts
    → slice_get (each_piece after ts) j ≡ Some (piece (is_join (sign_of (token_at ts j)) && not (after_at after ts j)) (token_at ts j))
each_at after [] j h = absurd (omega (arith, h))
each_at after (t ∷ ts) zero h = refl
each_at after (t ∷ ts) (suc zero) h = each_at (is_join (sign_of t)) ts zero (omega (arith, h))
each_at after (t ∷ ts) (suc (suc j)) h = each_at (is_join (sign_of t)) ts (suc j) (omega (arith, h))

pub each_length : (after : Bool) (ts : List (List ℕ)) → length (each_piece after ts) ≡ length ts
each_length after [] = refl
each_length after (t ∷ ts) = ap suc (each_length (is_join (sign_of t)) ts)

-- whether a join begins, by texts
pub begins_is : (ts : List (List ℕ)) (j : ℕ) → (is_join (sign_of (token_at ts j)) && not (after_at false ts j)) ≡ begins ts j
begins_is = grind (arith, nat_tests, joins_is, not)

-- ---- what is written

soft_joins : (lone : Bool) (t : List ℕ) → is_join (sign_of (softened lone t)) ≡ is_join (sign_of t)
soft_joins = grind (arith, nat_tests)

soft_after : (lone : Bool) (ts : List (List ℕ)) (j : ℕ) → j < length ts
    → after_at false (map (softened lone) ts) j ≡ after_at false ts j
soft_after lone ts zero h = refl
soft_after lone ts (suc j) h =
    ap (λ (t : List ℕ). is_join (sign_of t)) (soft_at lone ts j (omega (arith, h))) ∙ soft_joins lone (token_at ts j)
  where
    soft_at : (lone : Bool) (ts : List (List ℕ)) (j : ℕ) → j < length ts → token_at (map (softened lone) ts) j ≡ softened lone (token_at ts j)
    soft_at = grind (arith, common_steps)

map_slice : {A B : Type 0} (f : A → B) (xs : List A) (j : ℕ) (d : A) → j < length xs → slice_get (map f xs) j ≡ Some (f (get_or xs j d))
map_slice f [] j d h = absurd (omega (arith, h))
map_slice f (x ∷ xs) zero d h = refl
map_slice f (x ∷ xs) (suc j) d h = map_slice f xs j d (omega (arith, h))

map_get : {A B : Type 0} (f : A → B) (xs : List A) (j : ℕ) (d : A) (e : B) → j < length xs → get_or (map f xs) j e ≡ f (get_or xs j d)
map_get = grind (arith, common_steps)

module _ (fs : List Bool) (ts : List (List ℕ)) (wide : length fs ≡ length ts) (pair : TwoOrNone ts) where
  abbrev lone : Bool
  lone = is_lone (exchanged_flags fs (map sign_of ts))

  abbrev soft : List (List ℕ)
  soft = map (softened lone) ts

  soft_piece : (j : ℕ) → j < length ts
      → slice_get (each_piece false soft) j ≡ Some (piece (begins ts j) (softened lone (token_at ts j)))
  soft_piece =
      grind (arith, nat_tests, length-map, map_get, soft_after, not, after_at, soft_joins, begins_is, each_at)

  -- an exchanged column that is chosen is the one of the two
  own_lone : (j : ℕ) → IsChosen fs j → IsExchange ts j → SomeLone fs ts → (k : ℕ) × IsLone fs ts j k
  own_lone = grind (arith, nat_tests)

  writes : (j : ℕ) → IsChosen fs j → Writes fs ts j (softened lone (token_at ts j))
  writes j own =
      let exchange = exchanging fs ts wide pair in (
        λ w. rw (exchange.lone.1 (j, w.0, w.1), on_exchange (token_at ts j) w.1.exchanges.0) refl,
        λ none. by_bool (lone && is_exchange (sign_of (token_at ts j)))
            (λ w.
            let parts = both w in
            let other = own_lone j own (exchange_on (token_at ts j) parts.1) (exchange.lone.0 parts.0) in
            absurd (none other.0 other.1))
            (λ w. rw w refl),
      )

  are_cut : AreCut fs ts (pieces fs soft)
  are_cut =
      let size = each_length false soft ∙ length-map ts (softened lone) in
      record {
        at = λ j h own. (
          softened lone (token_at ts j),
          chosen_at fs (each_piece false soft) j (omega (arith, size, h)) own ∙ soft_piece j h,
          writes j own,
        );
        count = chosen_count fs (each_piece false soft) (omega (arith, wide, size)) ∙ ap (chosen_left fs) size;
      }

  abbrev torn : Bool
  torn = is_torn fs (map sign_of ts)

  abbrev crossed : Bool
  crossed = lone && chosen_between fs (map sign_of ts)

  abbrev ok : Result (List Row) Rule
  ok = Ok (filled Interpretation (spread (pieces fs soft)))

  by_tests : (t c : Bool) → torn ≡ t → crossed ≡ c → cut fs ts ≡ (if t then Err X1 else if c then Err X3 else ok)
  by_tests t c p q = rw (p, q) refl

  pub cut_is : CutByPlace fs ts
  cut_is =
      let t = torn_is fs ts wide in
      let x = (exchanging fs ts wide pair).crossed in
      record {
        torn = (
          λ e. by_bool torn t.0 (λ w. by_bool crossed
              (λ v. absurd (x3_not_x1 (sym (by_tests false true w v) ∙ e)))
              (λ v. absurd (ok_not (sym (by_tests false false w v) ∙ e)))),
          λ w. by_bool crossed (λ v. by_tests true true (t.1 w) v) (λ v. by_tests true false (t.1 w) v),
        );
        crossed = (
          λ e. by_bool torn
              (λ w. by_bool crossed
              (λ v. absurd (x1_not_x3 (sym (by_tests true true w v) ∙ e)))
              (λ v. absurd (x1_not_x3 (sym (by_tests true false w v) ∙ e))))
              (λ w. by_bool crossed
              (λ v. (λ some. not_chosen w (t.1 some), x.0 v))
              (λ v. absurd (ok_not (sym (by_tests false false w v) ∙ e)))),
          λ w. by_tests false true (off (λ v. w.0 (t.0 v))) (x.1 w.1),
        );
        kept = λ no_torn no_crossed.
            (pieces fs soft, are_cut, by_tests false false (off (λ v. no_torn (t.0 v))) (off (λ v. no_crossed (x.0 v))));
      }
    where
      x3_not_x1 : ◌≡◌ {A = Result (List Row) Rule} (Err X3) (Err X1) → ⊥
      x3_not_x1 e = cc

      x1_not_x3 : ◌≡◌ {A = Result (List Row) Rule} (Err X1) (Err X3) → ⊥
      x1_not_x3 e = cc

      ok_not : {rule : Rule} → ok ≡ Err rule → ⊥
      ok_not e = cc

pub cuts_by_place : (names : List (List ℕ)) (flags : List Bool) (tokens : List (List ℕ)) → CutsByPlace names flags tokens
cuts_by_place names flags tokens sound wide = cut_is flags tokens wide (two_or_none names tokens sound)
