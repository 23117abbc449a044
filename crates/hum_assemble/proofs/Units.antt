-- A round of units.
use Rattle.std.proofs.lemmas.Bool.Decides.{nat_tests}
use Rattle.std.proofs.lemmas.Bool.{eqb-false}
use Rattle.std.proofs.Common.{◌≡◌, ◌∙◌, refl, sym, ap, ℕ, suc, ◌≤◌, ◌<◌, Bool, true}
use Rattle.std.proofs.Common.{false, not, List, [], ◌∷◌, ◌++◌, length, arith}
use Rattle.std.proofs.Common.{map}
use Rattle.std.specs.Prelude.{Option, None, Some, ◌==◌}
use Rattle.std.specs.List.{list_any}
use Rattle.hum_score.specs.Row.{Row}
use Rattle.hum_score.specs.Spines.{Path, Spines, after}
use Rattle.hum_score.specs.InOrder.{Follow}
use Rattle.hum_stage.specs.declared.faults.End as end
use Rattle.hum_assemble.specs.declared.places.Place.{Place}
use Rattle.hum_assemble.specs.declared.places.Place.TheVariants.{Remark, Change}
use Rattle.hum_assemble.specs.declared.places.Place.TheVariants.{Local as LocalPlace, Tandem}
use Rattle.hum_assemble.specs.Source.{Source, place, is_inside, unit_place}
use Rattle.hum_assemble.specs.Places.{rank, is_shared, is_over}
use Rattle.hum_assemble.specs.Round.{any_due}
use Rattle.hum_assemble.specs.Taking.{is_at}
use Rattle.hum_assemble.specs.Groups.{Body, with_row, body, adds, is_comment}
use Rattle.hum_assemble.specs.Groups.{Adds, Single, is_closed_end, is_local}
use Rattle.hum_assemble.specs.Groups.{is_tandem, is_other, unit_round, each_alone, together}
use Rattle.hum_assemble.specs.Groups.{behind_unit, unit_if, row_if, alone}
use Rattle.hum_assemble.proofs.Written.{same_place}
use Rattle.hum_assemble.proofs.Does.{Does, does_more, does_weaken, does_then, Both}
use Rattle.hum_assemble.proofs.Does.{Shares, does_together}
use Rattle.hum_assemble.proofs.Apart.{waiting, gone, HasUnit, MayGive, Leaves, single_unit, alone_step}
use Rattle.hum_assemble.proofs.Apart.{see_more, each_does, Given}
use Rattle.hum_assemble.proofs.Sorting.{stands, Sorted, AsClosing, AsData, AsAdds, AsSingle, sorted}
use Rattle.hum_assemble.proofs.Sorting.{Tests, picks_comments, picks_locals, picks_tandems}
use Rattle.hum_assemble.proofs.Sorting.{picks_others}
use Rattle.hum_assemble.proofs.Bodies.{InBody, InRound, Waits, Gone, GoneBefore, gone_later, round_sees}
use Rattle.hum_assemble.proofs.Bodies.{body_stands, inside_does, Bare, inside_of}
use Rattle.hum_assemble.proofs.Taking.{same_rank}

-- what is left behind a unit of one record
gone_single : (n : List ℕ) (ns : List (List ℕ)) (row : Row) (rows : List Row)
    (ended : Option end.End) (whole : Bool)
    → is_closed_end ended ≡ whole → stands (after (Spines (n ∷ ns)) row) ≡ true
    → is_inside (after (Spines (n ∷ ns)) row) ≡ false → Follow (Spines (n ∷ ns)) (row ∷ rows)
    → InBody (gone (Spines (n ∷ ns)) row rows ended) (body whole false rows)
gone_single n ns row rows ended whole wh st out f =
    rw out (body_stands (after (Spines (n ∷ ns)) row) rows ended (body whole false rows) st out f.1
    (ap (λ (w : Bool). body w false rows) wh))

-- A unit that begins spines.
adds_unit : (n : List ℕ) (ns : List (List ℕ)) (row : Row) (rows : List Row)
    (ended : Option end.End) (whole : Bool)
    → is_closed_end ended ≡ whole → adds row ≡ true → place (Spines (n ∷ ns)) row ≡ Change
    → place (Spines (n ∷ ns)) row ≡ unit_place row
    → stands (after (Spines (n ∷ ns)) row) ≡ true → is_inside (after (Spines (n ∷ ns)) row) ≡ true
    → Follow (Spines (n ∷ ns)) (row ∷ rows)
    → HasUnit 7 (InRound 8) (row ∷ (body whole true rows).pending) (waiting (Spines (n ∷ ns)) row rows ended)
    (with_row Adds row rows (body whole true rows))
adds_unit n ns row rows ended whole wh ad at u st i f = record {
  sees = record { known = refl; later = rw at (omega arith); follow = f };
  gives = λ done behind h w.
      let same : gone (Spines (n ∷ ns)) row rows ended ≡ inside_of (after (Spines (n ∷ ns)) row) rows ended =
      ap (λ (b : Bool). record { path = after (Spines (n ∷ ns)) row; due = b; coming = rows; ended = ended }) i in
      let four : 4 ≤ rank (unit_place row) = rw (← u, at) (omega arith) in
      let seven : rank (unit_place row) ≤ 7 = rw (← u, at) (omega arith) in
      let d = inside_does whole rows (after (Spines (n ∷ ns)) row) ended done behind wh st i f.1
      (see_more 2 8 done (omega arith) h) (see_more 2 7 behind (omega arith) w) in
      rw ad
      (does_more (alone (length done) (length behind) row)
      (map (alone (length done) (length behind)) (body whole true rows).pending)
      (list_any (λ r. not (is_comment r)) (body whole true rows).pending)
      (done ++ waiting (Spines (n ∷ ns)) row rows ended ∷ behind)
      (done ++ inside_of (after (Spines (n ∷ ns)) row) rows ended ∷ behind)
      (Leaves (InRound 8) (with_row Adds row rows (body whole true rows)) done behind)
      (λ qs m. alone_step Change (Spines (n ∷ ns)) row rows ended done behind qs at refl refl f h w (rw same m))
      (does_weaken (record {
        parts = map (alone (length done) (length behind)) (body whole true rows).pending;
        goes = list_any (λ r. not (is_comment r)) (body whole true rows).pending;
      }) (done ++ inside_of (after (Spines (n ∷ ns)) row) rows ended ∷ behind) (Leaves Bare (body whole true rows) done behind)
      (Leaves (InRound 8) (with_row Adds row rows (body whole true rows)) done behind) d
      (λ b p. (p.0, p.1, Gone p.2 (four, seven, omega (arith, seven))))));
}

-- A source's own part, by the test of its place.
past_rank : (n m : ℕ) → (n == m) ≡ false → n ≤ m → suc n ≤ m
past_rank n m h l = let other = eqb-false n m h in omega (arith, l, other)

module _ (k : ℕ) (t : Row → Bool) (p : Place) (ts : Tests t k) (pk : rank p ≡ k) (low : 4 ≤ k)
    (high : k ≤ 7) where
  test_at : (path : Path) (row : Row) → place path row ≡ unit_place row → 4 ≤ rank (place path row)
      → rank (place path row) ≤ 7 → t row ≡ (k == rank (place path row))
  test_at = grind (arith, nat_tests)

  test_gone : (b : Body) (units : List (List Row)) → GoneBefore k units
      → unit_if t (record b { units = units }) ≡ None
  test_gone = grind (arith, nat_tests)

  abbrev pub Mine : Source → Body → Type 0
  Mine s b = MayGive k (InRound (suc k)) (unit_if t b) s b

  gone_gives : (s : Source) (b : Body) → InBody s (behind_unit b) → GoneBefore k b.units → Mine s b
  gone_gives s b h g = rw (test_gone b b.units g) (Gone h (gone_later k b.units g))

  module _ (un : is_shared p ≡ false) (ov : is_over p ≡ false) (n : List ℕ) (ns : List (List ℕ))
      (row : Row) (rows : List Row) (ended : Option end.End) (o : is_inside (Spines (n ∷ ns)) ≡ false)
      (f : Follow (Spines (n ∷ ns)) (row ∷ rows))
      (x : k ≤ rank (place (Spines (n ∷ ns)) row)) (y : rank (place (Spines (n ∷ ns)) row) ≤ 7) where
    waits_on : (b : Body) → body (is_closed_end ended) false (row ∷ rows) ≡ b
        → (k == rank (place (Spines (n ∷ ns)) row)) ≡ false
        → InRound (suc k) (waiting (Spines (n ∷ ns)) row rows ended) b
    waits_on b w e =
        Waits n ns row rows ended refl o f w (past_rank k (rank (place (Spines (n ∷ ns)) row)) e x) y

    adds_gives : (c : Bool) → t row ≡ c → (k == rank (place (Spines (n ∷ ns)) row)) ≡ c
        → adds row ≡ true → place (Spines (n ∷ ns)) row ≡ Change
        → place (Spines (n ∷ ns)) row ≡ unit_place row
        → stands (after (Spines (n ∷ ns)) row) ≡ true → is_inside (after (Spines (n ∷ ns)) row) ≡ true
        → body (is_closed_end ended) false (row ∷ rows)
        ≡ with_row Adds row rows (body (is_closed_end ended) true rows)
        → Mine (waiting (Spines (n ∷ ns)) row rows ended)
        (with_row Adds row rows (body (is_closed_end ended) true rows))
    adds_gives true tc e ad at u st i w =
        let seven : k ≡ 7 = same_rank k (rank (place (Spines (n ∷ ns)) row)) e ∙ ap rank at in
        rw (tc, seven) (adds_unit n ns row rows ended (is_closed_end ended) refl ad at u st i f)
    adds_gives false tc e ad at u st i w = rw tc (waits_on _ w e)

    single_gives : (c : Bool) → t row ≡ c → (k == rank (place (Spines (n ∷ ns)) row)) ≡ c
        → adds row ≡ false → place (Spines (n ∷ ns)) row ≡ unit_place row
        → stands (after (Spines (n ∷ ns)) row) ≡ true → is_inside (after (Spines (n ∷ ns)) row) ≡ false
        → body (is_closed_end ended) false (row ∷ rows)
        ≡ with_row Single row rows (body (is_closed_end ended) false rows)
        → Mine (waiting (Spines (n ∷ ns)) row rows ended)
        (with_row Single row rows (body (is_closed_end ended) false rows))
    single_gives true tc e ad u st i w =
        let same = same_rank k (rank (place (Spines (n ∷ ns)) row)) e in
        let at = same_place (place (Spines (n ∷ ns)) row) p (sym same ∙ sym pk) in
        let four : 4 ≤ rank (unit_place row) = rw (← u, ← same) low in
        let seven : rank (unit_place row) ≤ 7 = rw (← u, ← same) high in
        let now : rank (unit_place row) < suc k = rw (← u, ← same) (omega arith) in
        rw (tc, ← pk)
        (single_unit (InRound (suc (rank p))) (with_row Single row rows (body (is_closed_end ended) false rows)) p
        (Spines (n ∷ ns)) row rows ended at un ov f ad
        (rw pk (Gone (gone_single n ns row rows ended (is_closed_end ended) refl st i f) (four, seven, now))))
    single_gives false tc e ad u st i w = rw tc (waits_on _ w e)

    row_gives : (b : Body) → body (is_closed_end ended) false (row ∷ rows) ≡ b
        → Sorted (Spines (n ∷ ns)) row → Mine (waiting (Spines (n ∷ ns)) row rows ended) b
    row_gives b w (AsClosing s at a) = absurd (let l = rw at at y in omega (arith, l))
    row_gives b w (AsData s ad at a) = absurd (let l = rw at at y in omega (arith, l))
    row_gives b w (AsAdds s ad u at st i) =
        let e : body (is_closed_end ended) false (row ∷ rows)
        ≡ with_row Adds row rows (body (is_closed_end ended) true rows) = rw (s, ad) refl in
        let q = test_at (Spines (n ∷ ns)) row u (omega (arith, low, x)) y in
        rw (sym w ∙ e) (adds_gives (k == rank (place (Spines (n ∷ ns)) row)) q refl ad at u st i e)
    row_gives b w (AsSingle s ad u a c st i) =
        let e : body (is_closed_end ended) false (row ∷ rows)
        ≡ with_row Single row rows (body (is_closed_end ended) false rows) = rw (s, ad) refl in
        let q = test_at (Spines (n ∷ ns)) row u (omega (arith, low, x)) y in
        rw (sym w ∙ e) (single_gives (k == rank (place (Spines (n ∷ ns)) row)) q refl ad u st i e)

  pub gives : is_shared p ≡ false → is_over p ≡ false → (s : Source) (b : Body) → InRound k s b
      → Mine s b
  gives = grind (arith, nat_tests, row_gives, sorted, gone_gives)

pub some_due : (p : Place) (ss : List Source) → is_over p ≡ false
    → list_any (is_at true p) ss ≡ true → any_due ss ≡ true
some_due p [] o h = cc
some_due p (s ∷ ss) o h = grind (arith, nat_tests, some_due p ss o)

module _ (k : ℕ) (t : Row → Bool) (p : Place) (ts : Tests t k) (pk : rank p ≡ k) (low : 4 ≤ k)
    (high : k ≤ 6) (ov : is_over p ≡ false) where
  abbrev pub Ours : Source → Body → Type 0
  Ours s b = Shares true p (row_if t) (InRound (suc k)) s b

  gone_shares : (s : Source) (b : Body) → InBody s (behind_unit b) → GoneBefore k b.units → Ours s b
  gone_shares s b h g = grind (arith, nat_tests)

  module _ (n : List ℕ) (ns : List (List ℕ))
      (row : Row) (rows : List Row) (ended : Option end.End) (o : is_inside (Spines (n ∷ ns)) ≡ false)
      (f : Follow (Spines (n ∷ ns)) (row ∷ rows))
      (x : k ≤ rank (place (Spines (n ∷ ns)) row)) (y : rank (place (Spines (n ∷ ns)) row) ≤ 7) where
    past_waits : (b : Body) → body (is_closed_end ended) false (row ∷ rows) ≡ b
        → (k == rank (place (Spines (n ∷ ns)) row)) ≡ false
        → InRound (suc k) (waiting (Spines (n ∷ ns)) row rows ended) b
    past_waits b w e =
        Waits n ns row rows ended refl o f w (past_rank k (rank (place (Spines (n ∷ ns)) row)) e x) y

    shares_not : (b : Body) → body (is_closed_end ended) false (row ∷ rows) ≡ b
        → row_if t b ≡ None → (k == rank (place (Spines (n ∷ ns)) row)) ≡ false
        → Ours (waiting (Spines (n ∷ ns)) row rows ended) b
    shares_not b w none e =
        let a : is_at true p (waiting (Spines (n ∷ ns)) row rows ended) ≡ false = rw pk e in
        record {
          sees = rw pk (record { known = refl; later = x; follow = f });
          part = rw (a, none) refl;
          at = rw (a, none) refl;
          on = rw a (past_waits b w e);
          stays = λ z. past_waits b w e;
        }

    single_shares : (c : Bool) → t row ≡ c → (k == rank (place (Spines (n ∷ ns)) row)) ≡ c
        → adds row ≡ false → place (Spines (n ∷ ns)) row ≡ unit_place row
        → stands (after (Spines (n ∷ ns)) row) ≡ true → is_inside (after (Spines (n ∷ ns)) row) ≡ false
        → body (is_closed_end ended) false (row ∷ rows)
        ≡ with_row Single row rows (body (is_closed_end ended) false rows)
        → Ours (waiting (Spines (n ∷ ns)) row rows ended)
        (with_row Single row rows (body (is_closed_end ended) false rows))
    single_shares true tc e ad u st i w =
        let same = same_rank k (rank (place (Spines (n ∷ ns)) row)) e in
        let four : 4 ≤ rank (unit_place row) = rw (← u, ← same) low in
        let seven : rank (unit_place row) ≤ 7 = rw (← u, ← same) (omega (arith, high)) in
        let now : rank (unit_place row) < suc k = rw (← u, ← same) (omega arith) in
        let a : is_at true p (waiting (Spines (n ∷ ns)) row rows ended) ≡ true = rw pk e in
        let got : row_if t (with_row Single row rows (body (is_closed_end ended) false rows)) ≡ Some row =
        rw (row_if, tc) refl in
        record {
          sees = rw pk (record { known = refl; later = x; follow = f });
          part = rw (a, got) refl;
          at = rw (a, got) refl;
          on = rw a (Gone (gone_single n ns row rows ended (is_closed_end ended) refl st i f) (four, seven, now));
          stays = λ z. absurd (let v = sym a ∙ z in cc);
        }
    single_shares false tc e ad u st i w = shares_not _ w (rw (row_if, tc) refl) e

    adds_not : (c : Bool) → t row ≡ c → (k == rank (place (Spines (n ∷ ns)) row)) ≡ c
        → place (Spines (n ∷ ns)) row ≡ Change
        → body (is_closed_end ended) false (row ∷ rows)
        ≡ with_row Adds row rows (body (is_closed_end ended) true rows)
        → Ours (waiting (Spines (n ∷ ns)) row rows ended)
        (with_row Adds row rows (body (is_closed_end ended) true rows))
    adds_not true tc e at w = grind (arith, nat_tests)
    adds_not false tc e at w = shares_not _ w (rw (row_if, tc) refl) e

    row_shares : (b : Body) → body (is_closed_end ended) false (row ∷ rows) ≡ b
        → Sorted (Spines (n ∷ ns)) row → Ours (waiting (Spines (n ∷ ns)) row rows ended) b
    row_shares b w (AsClosing s at a) = absurd (let l = rw at at y in omega (arith, l))
    row_shares b w (AsData s ad at a) = absurd (let l = rw at at y in omega (arith, l))
    row_shares b w (AsAdds s ad u at st i) =
        let e : body (is_closed_end ended) false (row ∷ rows)
        ≡ with_row Adds row rows (body (is_closed_end ended) true rows) = rw (s, ad) refl in
        let q = ts.picks row (rw (← u) (omega (arith, low, x))) (rw (← u) y)
        ∙ ap (λ (q : Place). k == rank q) (sym u) in
        rw (sym w ∙ e) (adds_not (k == rank (place (Spines (n ∷ ns)) row)) q refl at e)
    row_shares b w (AsSingle s ad u a c st i) =
        let e : body (is_closed_end ended) false (row ∷ rows)
        ≡ with_row Single row rows (body (is_closed_end ended) false rows) = rw (s, ad) refl in
        let q = ts.picks row (rw (← u) (omega (arith, low, x))) (rw (← u) y)
        ∙ ap (λ (q : Place). k == rank q) (sym u) in
        rw (sym w ∙ e) (single_shares (k == rank (place (Spines (n ∷ ns)) row)) q refl ad u st i e)

  pub shares : (s : Source) (b : Body) → InRound k s b → Ours s b
  shares s b (Waits n ns row rows ended e o f w x y) =
      rw e (row_shares n ns row rows ended o f x y b w (sorted n ns o row f.0))
  shares s b (Gone h g) = gone_shares s b h g

-- A round.
pub both_map : {A B : Type 0} (P Q : A → B → Type 0) (xs : List A) (ys : List B)
    → ((x : A) (y : B) → P x y → Q x y) → Both P xs ys → Both Q xs ys
both_map P Q (x ∷ xs) (y ∷ ys) f h = (f x y h.0, both_map P Q xs ys f h.1)
both_map P Q xs ys h k = grind (arith, nat_tests)

module _ (k : ℕ) (t : Row → Bool) (p : Place) (ts : Tests t k) (pk : rank p ≡ k) (low : 4 ≤ k)
    (ov : is_over p ≡ false) where
  pub each_given : k ≤ 7 → is_shared p ≡ false → (ss : List Source) (bs : List Body)
      → Both (InRound k) ss bs
      → Does (each_alone 0 (map (unit_if t) bs)) ss (λ x. Both (InRound (suc k)) x bs)
  each_given high un ss bs h =
      does_weaken (each_alone 0 (map (unit_if t) bs)) ss
      (Given k (unit_if t) (InRound (suc k)) (λ s b. round_sees (suc k) s b (omega (arith, high))) bs [])
      (λ x. Both (InRound (suc k)) x bs)
      (each_does k (unit_if t) (InRound (suc k)) (λ s b. round_sees (suc k) s b (omega (arith, high)))
      [] ss bs tt (both_map (InRound k) (Mine k t p ts pk low high) ss bs
      (gives k t p ts pk low high un ov) h))
      (λ x q. rw q.1 q.2)

  pub one_given : k ≤ 6 → is_shared p ≡ true → (ss : List Source) (bs : List Body)
      → Both (InRound k) ss bs
      → Does (together (map (row_if t) bs)) ss (λ x. Both (InRound (suc k)) x bs)
  one_given high sh ss bs h =
      does_together true p (row_if t) (InRound (suc k)) ss bs sh ov (some_due p ss ov)
      (both_map (InRound k) (Ours k t p ts pk low high ov) ss bs (shares k t p ts pk low high ov) h)

round_over : (s : Source) (b : Body) → InRound 8 s b → InBody s (behind_unit b)
round_over = grind (arith, nat_tests)

pub round_does : (ss : List Source) (bs : List Body) → Both (InRound 4) ss bs
    → Does (unit_round bs) ss (λ x. Both (λ s b. InBody s (behind_unit b)) x bs)
round_does ss bs h =
    does_then (each_alone 0 (map (unit_if is_comment) bs)) _ ss (λ x. Both (InRound 5) x bs)
    (λ x. Both (λ s b. InBody s (behind_unit b)) x bs)
    (each_given 4 is_comment Remark picks_comments refl (omega arith) refl (omega arith) refl ss bs h)
    (λ x r. does_then (together (map (row_if is_local) bs)) _ x (λ x. Both (InRound 6) x bs)
    (λ x. Both (λ s b. InBody s (behind_unit b)) x bs)
    (one_given 5 is_local LocalPlace picks_locals refl (omega arith) refl (omega arith) refl x bs r)
    (λ x r. does_then (together (map (row_if is_tandem) bs)) _ x (λ x. Both (InRound 7) x bs)
    (λ x. Both (λ s b. InBody s (behind_unit b)) x bs)
    (one_given 6 is_tandem Tandem picks_tandems refl (omega arith) refl (omega arith) refl x bs r)
    (λ x r. does_weaken (each_alone 0 (map (unit_if is_other) bs)) x (λ x. Both (InRound 8) x bs)
    (λ x. Both (λ s b. InBody s (behind_unit b)) x bs)
    (each_given 7 is_other Change picks_others refl (omega arith) refl (omega arith) refl x bs r)
    (λ x r. both_map (InRound 8) (λ s b. InBody s (behind_unit b)) x bs round_over r))))
