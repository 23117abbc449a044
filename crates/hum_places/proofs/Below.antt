-- The cells whose next cell below is that of a spine behind an interpretation.
use Rattle.std.proofs.Common.{◌≡◌, ◌≢◌, ◌∙◌, refl, sym, subst, ℕ, ◌+◌, ◌<◌, ◌≤◌, ◌⊎◌, ◌↔◌, inl, inr, arith}
use Rattle.std.proofs.Common.{true, false, List, length}
use Rattle.std.proofs.Common.{Option, Some, None, slice_get}
use Rattle.std.proofs.lemmas.Bool.Decides.{nat_tests}
use Rattle.std.specs.Str.{bytes_eq}
use Rattle.std.proofs.lemmas.Slice.Eq.{bytes_eq-Decides}
use lib.Chars.{codes}
use Rattle.hum_score.specs.declared.records.SpinedKind.TheVariants.{Interpretation}
use Rattle.hum_score.specs.Row.{Spined}
use Rattle.hum_score.specs.declared.spines.Move.{Move}
use Rattle.hum_score.specs.declared.spines.Move.TheVariants.{Same, Left, Right, Join as Joined, Added}
use Rattle.hum_score.specs.Sign.{sign_of}
use Rattle.hum_score.specs.Spines.{Spines, moves_at}
use Rattle.hum_score.specs.Rules.{fault_of}
use Rattle.hum_path.specs.Places.{token_at}
use Rattle.hum_path.specs.Chains.{goes_on}
use Rattle.hum_score.proofs.Cases.{by_bool}
use Rattle.hum_places.specs.Heirs.{place_below, width_below, IsRun}
use Rattle.hum_places.specs.Clock.{IsBelow, own as goes_own, joined as goes_joined, exchanged as goes_exchanged}
use Rattle.hum_places.proofs.Heirs.{Asks, splits, joins, changes, adds, ends, nothing, asks, quiet_sign, after_at, own, width_is, by_place, present}
use Rattle.hum_places.proofs.Above.{cell_of, other_of}
use Rattle.hum_places.proofs.OneWay.{run_from, sized, quiet_one, alone}

-- the cell at place j goes on as the spine at place i, by its move
abbrev pub GoesOn : List Move → ℕ → ℕ → Type 0
GoesOn found j i = (m : Move) × (slice_get found i ≡ Some m) × (goes_on j m ≡ true)

pub some_same : {a b : Move} → ◌≡◌ {A = Option Move} (Some a) (Some b) → a ≡ b
some_same e = cc

-- splits and added spines are no joins, exchanges or ends
record IsOther (text : List ℕ) : Type 0 where
  join : text ≢ codes "*v"
  exchange : text ≢ codes "*x"
  end : text ≢ codes "*-"

right_not : {X : Type 0} → false ≡ true → X
right_not = grind (arith, nat_tests)

told : (text other : List ℕ) → bytes_eq text other ≡ false → text ≢ other
told text other apart e = right_not (sym apart ∙ (bytes_eq-Decides text other).1 e)

split_other : IsOther (codes "*^")
split_other = record { join = told (codes "*^") (codes "*v") refl; exchange = told _ (codes "*x") refl; end = told _ (codes "*-") refl }

added_other : IsOther (codes "*+")
added_other = record { join = told _ (codes "*v") refl; exchange = told _ (codes "*x") refl; end = told _ (codes "*-") refl }

module _ (names tokens : List (List ℕ)) (sound : fault_of (Spines names) (Spined Interpretation tokens) ≡ None) where
  abbrev found : List Move
  found = moves_at (Spines names) tokens

  goes_by : (j i : ℕ) → IsBelow tokens j i → GoesOn found j i
  goes_by j i (goes_own cell no_join no_exchange no_end) = by_what (asks (token_at tokens j))
    where
      by_what : Asks (token_at tokens j) → GoesOn found j (place_below tokens j)
      by_what = grind (arith, nat_tests, by_place)
  goes_by j i (goes_joined {first = first} {last = last} run from to) =
      (Joined first last, (by_place names tokens sound).join first last run, grind (arith, nat_tests, from, to))
  goes_by j i (goes_exchanged {other = other} here there apart) = grind (arith, nat_tests, by_place, here)

  -- the width of a cell by its text, and that no `*v` is left of the first
  wide : (j : ℕ) (text : List ℕ) → token_at tokens j ≡ text → width_below tokens j ≡ own (after_at false tokens j) (sign_of text)
  wide = sized names tokens sound found (by_place names tokens sound)

  -- the move at a place that is the only one below a cell
  one_move : (c i : ℕ) (m o : Move) → width_below tokens c ≡ 1 → place_below tokens c ≤ i → i < place_below tokens c + width_below tokens c
      → slice_get found (place_below tokens c) ≡ Some o → slice_get found i ≡ Some m → (i ≡ place_below tokens c) × (m ≡ o)
  one_move = grind (arith, nat_tests)

  -- the same of two
  two_moves : (c i : ℕ) (m o p : Move) → width_below tokens c ≡ 2 → place_below tokens c ≤ i → i < place_below tokens c + width_below tokens c
      → (slice_get found (place_below tokens c) ≡ Some o) × (slice_get found (place_below tokens c + 1) ≡ Some p)
      → slice_get found i ≡ Some m → ((i ≡ place_below tokens c) × (m ≡ o)) ⊎ (m ≡ p)
  two_moves = grind (arith, nat_tests)

  here : {a b : ℕ} → goes_on a (Same b) ≡ true → b ≡ a
  here w = grind (arith, nat_tests, w)

  between : {j first last : ℕ} → goes_on j (Joined first last) ≡ true → (first ≤ j) × (j ≤ last)
  between w = (grind (arith, nat_tests, w), grind (arith, nat_tests, w))

  below_by : (j i : ℕ) → j < length tokens → GoesOn found j i → i < length found → IsBelow tokens j i
  below_by j i cell (m, is, goes) h =
      let c = cell_of names tokens sound i (length tokens) (rw (by_place names tokens sound).count at h) in
      by_what c.0 c.1 c.2 c.3 (asks (token_at tokens c.0))
    where
      -- its own cell, with another text than three
      own_below : (c : ℕ) → c < length tokens → (text : List ℕ) → token_at tokens c ≡ text → IsOther text
          → c ≡ j → i ≡ place_below tokens c → IsBelow tokens j i
      own_below c within text e o same at =
          rw (at, ← same) (goes_own within (λ w. o.join (sym e ∙ w)) (λ w. o.exchange (sym e ∙ w)) (λ w. o.end (sym e ∙ w)))

      by_what : (c : ℕ) → c < length tokens → place_below tokens c ≤ i → i < place_below tokens c + width_below tokens c
          → Asks (token_at tokens c) → IsBelow tokens j i
      by_what c within from to (splits e) = elim (two_moves c i m (Left c) (Right c) (wide c (codes "*^") e) from to ((by_place names tokens sound).split c e) is) [
        | inl w ↦ own_below c within (codes "*^") e split_other (here (rw w.1 at goes)) w.0
        | inr w ↦ right_not (rw w at goes)
      ]
      by_what c within from to (adds e) = elim (two_moves c i m (Same c) (Added c) (wide c (codes "*+") e) from to ((by_place names tokens sound).add c e) is) [
        | inl w ↦ own_below c within (codes "*+") e added_other (here (rw w.1 at goes)) w.0
        | inr w ↦ right_not (rw w at goes)
      ]
      by_what c within from to (ends e) = let none = wide c (codes "*-") e in absurd (omega (arith, none, from, to))
      by_what c within from to (changes e) =
          let k = other_of names tokens sound c e in
          let w = one_move c i m (Same k.0) (wide c (codes "*x") e) from to ((by_place names tokens sound).exchange c k.0 e k.1 (λ w. k.2 (sym w))) is in
          let same : k.0 ≡ j = here (rw w.1 at goes) in
          rw w.0 (subst (λ (n : ℕ). IsBelow tokens n (place_below tokens c)) same (goes_exchanged k.1 e k.2))
      by_what c within from to (nothing q) =
          let one : width_below tokens c ≡ 1 = width_is tokens c
          ∙ quiet_one names tokens sound found (by_place names tokens sound) (after_at false tokens c) (sign_of (token_at tokens c)) (quiet_sign (token_at tokens c) q) in
          let w = one_move c i m (Same c) one from to ((by_place names tokens sound).quiet c within q) is in
          own_below c within (token_at tokens c) refl (record { join = q.join; exchange = q.exchange; end = q.end }) (here (rw w.1 at goes)) w.0
      by_what c within from to (joins e) =
          by_bool (after_at false tokens c)
          (λ w. let none : width_below tokens c ≡ 0 = rw w at (wide c (codes "*v") e) in absurd (omega (arith, none, from, to)))
          (λ w.
          let one : width_below tokens c ≡ 1 = rw w at (wide c (codes "*v") e) in
          let r = run_from tokens c e in
          let run : IsRun tokens c r.0 = record { order = r.1; within = r.2; left = alone names tokens sound found (by_place names tokens sound) c w; right = r.3 } in
          let v = one_move c i m (Joined c r.0) one from to ((by_place names tokens sound).join c r.0 run) is in
          let range = between (rw v.1 at goes) in
          rw v.0 (goes_joined run range.0 range.1))

  pub below_is : (j i : ℕ) → j < length tokens → i < length found → IsBelow tokens j i ↔ GoesOn found j i
  below_is j i cell h = (goes_by j i, λ w. below_by j i cell w h)

  -- such a cell is there
  pub below_within : (j i : ℕ) → IsBelow tokens j i → j < length tokens
  below_within j i (goes_own cell a b d) = cell
  below_within j i (goes_joined run from to) = present tokens j (codes "*v") (λ w. cc) (run.within j from to)
  below_within j i (goes_exchanged here there apart) = present tokens j (codes "*x") (λ w. cc) here
