-- The cell above each spine, and where one comes to by going up.
use Rattle.std.proofs.lemmas.Grind.{common_steps}
use Rattle.std.proofs.Common.{◌≡◌, ◌≢◌, ◌∙◌, refl, sym, ap, subst, ℕ, zero, suc, ◌+◌, ◌-◌, ◌<◌, ◌≤◌, ◌⊎◌, ◌↔◌, inl, inr, arith}
use Rattle.std.proofs.Common.{Bool, true, false, not, List, [], ◌∷◌, map, length, drop, nat_lt}
use Rattle.std.proofs.Common.{Option, None, slice_get}
use Rattle.std.proofs.lemmas.Bool.Decides.{nat_tests}
use Rattle.std.specs.Str.{bytes_eq}
use lib.Chars.{codes}
use Rattle.hum_score.specs.declared.records.SpinedKind.TheVariants.{Local, Interpretation, Values}
use Rattle.hum_score.specs.Row.{Row, Comment, Spined}
use Rattle.hum_score.specs.declared.spines.Sign.{Sign}
use Rattle.hum_score.specs.declared.spines.Sign.TheVariants.{Exchange}
use Rattle.hum_score.specs.declared.spines.Move.{Move}
use Rattle.hum_score.specs.Sign.{sign_of}
use Rattle.hum_path.specs.Places.{token_at, IsExchange, AreExchanged}
use Rattle.hum_score.specs.Spines.{Path, Unopened, Spines, width, exchanges, heirs, moves_at}
use Rattle.hum_score.specs.Rules.{fault_of, is_pair_or_none}
use Rattle.hum_score.specs.Score.{IsOpen, path_after}
use Rattle.hum_path.specs.Origins.{up, origin}
use Rattle.hum_score.proofs.Cases.{by_bool}
use Rattle.hum_path.proofs.Obeyed.{obeys}
use Rattle.hum_path.proofs.Places.{rules_by_place}
use Rattle.hum_path.proofs.Plain.{sound_width}
use Rattle.hum_path.proofs.Steady.{same_upto_length, get-same_upto_first}
use Rattle.hum_path.proofs.Widths.{moves_width}
use Rattle.hum_places.specs.Heirs.{place_below, width_below}
use Rattle.hum_places.specs.Above.{IsUnder, IsExchangedWith, IsAbove, Ascends, CellsAreAbove, OriginsAreAbove}
use Rattle.hum_places.proofs.Heirs.{after_at, own, pair, width_is, heirs_length, at_place, by_place, is_text, other_text, exchange_sign}

-- but under an exchange a spine comes from its own cell
own_source : (ps : List ℕ) (j : ℕ) (after : Bool) (s : Sign) (ss : List Sign) (r i : ℕ) → (s ≡ Exchange → ⊥)
    → r < length (heirs ps j after s ss) → up (slice_get (heirs ps j after s ss) r) i ≡ j
own_source = grind (arith, nat_tests)

module _ (names tokens : List (List ℕ)) (sound : fault_of (Spines names) (Spined Interpretation tokens) ≡ None) where
  abbrev found : List Move
  found = moves_at (Spines names) tokens

  from_own : (j i : ℕ) → IsUnder tokens j i → up (slice_get found i) i ≡ j
  from_own j i h =
      let from = h.from in
      let to = h.to in
      let r : (r : ℕ) × (place_below tokens j + r ≡ i) = (i - place_below tokens j, omega (arith, from)) in
      let at = r.1 in
      let s = sign_of (token_at tokens j) in
      let rest = map sign_of (drop (suc j) tokens) in
      let size = heirs_length (pair names tokens) j (after_at false tokens j) s rest in
      let wide = width_is tokens j in
      let within : r.0 < length (heirs (pair names tokens) j (after_at false tokens j) s rest) = omega (arith, size, wide, at, to) in
      ap (λ (n : ℕ). up (slice_get found n) i) (sym at)
      ∙ ap (λ (o : Option Move). up o i) (at_place names tokens j r.0 s h.cell refl within)
      ∙ own_source (pair names tokens) j (after_at false tokens j) s rest r.0 i (λ e. h.still (exchange_sign (token_at tokens j) e)) within

  from_other : (j i : ℕ) → IsExchangedWith tokens j i → up (slice_get found i) i ≡ j
  from_other = grind (arith, nat_tests, by_place, slice_get)

  from_above : (j i : ℕ) → IsAbove (Spines names) tokens j i → j ≡ up (slice_get found i) i
  from_above j i (inl h) = sym (from_own j i h)
  from_above j i (inr h) = sym (from_other j i h)

  -- the cell to which a place belongs
  pub cell_of : (i n : ℕ) → i < place_below tokens n
      → (j : ℕ) × (j < n) × (place_below tokens j ≤ i) × (i < place_below tokens j + width_below tokens j)
  cell_of i zero h = absurd (omega (arith, h))
  cell_of i (suc n) h = by_bool (nat_lt i (place_below tokens n))
      (λ w.
      let c = cell_of i n (grind (arith, nat_tests, w)) in
      let less = c.1 in
      (c.0, omega (arith, less), c.2, c.3))
      (λ w. (n, omega arith, grind (arith, nat_tests, w), h))

  pub other_of : (j : ℕ) → IsExchange tokens j → (k : ℕ) × (IsExchange tokens k) × (k ≢ j)
  other_of j e =
      let pair = (obeys names tokens sound).pair in
      let obeyed : ¬ (not (is_pair_or_none (exchanges 0 (map sign_of tokens))) ≡ true) = λ w. no_not pair w in
      by_pair ((rules_by_place names tokens).exchanged.0 obeyed)
    where
      no_not : {b : Bool} → b ≡ true → not b ≡ true → ⊥
      no_not e w = let v = rw e at w in cc

      by_pair : ((((i : ℕ) → ¬ IsExchange tokens i)) ⊎ ((a : ℕ) × (b : ℕ) × AreExchanged tokens a b))
          → (k : ℕ) × (IsExchange tokens k) × (k ≢ j)
      by_pair (inl none) = absurd (none j e)
      by_pair (inr two) = grind (arith, nat_tests)

  some_above : (i : ℕ) → i < length found → (j : ℕ) × IsAbove (Spines names) tokens j i
  some_above i h =
      let c = cell_of i (length tokens) (rw (by_place names tokens sound).count at h) in
      by_bool (bytes_eq (token_at tokens c.0) (codes "*x"))
      (λ w.
      let e = is_text (token_at tokens c.0) (codes "*x") w in
      let k = other_of c.0 e in
      let one : width_below tokens c.0 ≡ 1 = width_is tokens c.0 ∙ ap (λ (t : List ℕ). own (after_at false tokens c.0) (sign_of t)) e in
      let from = c.2 in
      let to = c.3 in
      (k.0, inr (record { other = c.0; cells = (k.1, e); apart = k.2; at = omega (arith, one, from, to) })))
      (λ w. (c.0, inl (record { cell = c.1; still = other_text (token_at tokens c.0) (codes "*x") w; from = c.2; to = c.3 })))

  above_from : (j i : ℕ) → i < length found → j ≡ up (slice_get found i) i → IsAbove (Spines names) tokens j i
  above_from j i h e =
      let k = some_above i h in
      subst (λ (n : ℕ). IsAbove (Spines names) tokens n i) (from_above k.0 i k.1 ∙ sym e) k.1

  -- a cell above is one of the record
  pub cell_within : (j i : ℕ) → IsAbove (Spines names) tokens j i → j < length tokens
  cell_within = grind (arith, common_steps)

pub cells_above : (path : Path) (tokens : List (List ℕ)) → CellsAreAbove path tokens
cells_above Unopened tokens sound j i h =
    grind (arith, nat_tests, same_upto_length, slice_get, get-same_upto_first)
cells_above (Spines names) tokens sound j i h = (from_above names tokens sound j i, above_from names tokens sound j i h)

-- before the opening
unopened : (past : List Row) (i o : ℕ) → path_after past ≡ Unopened → Ascends past i o ↔ (o ≡ origin past i)
unopened [] i o e = (λ w. sym w, λ w. sym w)
unopened (Comment text ∷ past) i o e = unopened past i o e
unopened (Spined Interpretation tokens ∷ past) i o e = cc
unopened (Spined Local tokens ∷ past) i o e = unopened past i o e
unopened (Spined Values tokens ∷ past) i o e = unopened past i o e

pub origins_above : (past : List Row) → IsOpen past → OriginsAreAbove past
origins_above [] sound i o h = absurd (omega (arith, h))
origins_above (Comment text ∷ past) sound i o h = origins_above past sound.0 i o h
origins_above (Spined Local tokens ∷ past) sound i o h = origins_above past sound.0 i o h
origins_above (Spined Values tokens ∷ past) sound i o h = origins_above past sound.0 i o h
origins_above (Spined Interpretation tokens ∷ past) sound i o h =
    let wide = moves_width (path_after past) tokens in
    let within : i < length (moves_at (path_after past) tokens) = omega (arith, wide, h) in
    let place = λ (j : ℕ). cells_above (path_after past) tokens sound.1 j i within in
    let before = λ (j : ℕ) (e : IsAbove (path_after past) tokens j i). ascended (origins_above past sound.0) j e in (
      λ w. (before w.0 w.1).0 w.2 ∙ ap (origin past) ((place w.0).0 w.1),
      λ w.
          let j = up (slice_get (moves_at (path_after past) tokens) i) i in
          let e = (place j).1 refl in
          (j, e, (before j e).1 w),
    )
  where
    ascended : OriginsAreAbove past → (j : ℕ) → IsAbove (path_after past) tokens j i → Ascends past j o ↔ (o ≡ origin past j)
    ascended further j e = by_path (path_after past) refl
      where
        by_path : (path : Path) → path_after past ≡ path → Ascends past j o ↔ (o ≡ origin past j)
        by_path Unopened at = unopened past j o at
        by_path (Spines names) at =
            let wide = sound_width names tokens (rw at at sound.1) in
            let cell = cell_within names tokens (rw at at sound.1) j i (rw at at e) in
            let size : width (path_after past) ≡ length names = ap width at in
            further j o (omega (arith, wide, cell, size))
