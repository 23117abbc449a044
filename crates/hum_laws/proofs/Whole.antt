-- A score of which all columns are extracted.
use Rattle.std.proofs.Common.{◌≡◌, ◌∙◌, refl, sym, ap, ℕ, suc, ◌==◌, Bool, true, false, List, [], ◌∷◌, ◌++◌, length, map}
use Rattle.std.proofs.Common.{arith, None, Some}
use Rattle.std.specs.Prelude.{Option, Result, Ok}
use Rattle.std.specs.List.{list_all, find}
use Rattle.std.proofs.lemmas.Bool.{and_parts, and_from, or_parts, false≢true}
use Rattle.std.proofs.lemmas.Bool.Decides.{nat_tests}
use Rattle.hum_score.specs.declared.records.SpinedKind.{SpinedKind}
use Rattle.hum_score.specs.declared.records.SpinedKind.TheVariants.{Local, Interpretation, Values}
use Rattle.hum_score.specs.Row.{Row, Comment, Spined, chosen}
use Rattle.hum_score.specs.declared.spines.Sign.{Sign}
use Rattle.hum_score.specs.Sign.{sign_of, is_join, is_exchange}
use Rattle.hum_score.specs.Spines.{Path, Unopened, Spines, after}
use Rattle.hum_score.specs.Rules.{breaks, breaks_as_text, in_order}
use Rattle.hum_score.specs.Score.{IsOpen, path_after}
use Rattle.hum_path.specs.Onward.{beginnings, onward, onward_one, at_next, put_next, swapped}
use Rattle.hum_score.proofs.Cases.{by_bool}
use Rattle.hum_path.proofs.Plain.{find_head}
use Rattle.hum_path.proofs.Widths.{text_width}
use Rattle.hum_path.proofs.Obeyed.{obeys}
use Rattle.hum_stage.specs.declared.faults.Rule.{Rule}
use Rattle.hum_score.specs.InOrder.{Follow, IsScore}
use Rattle.hum_columns.specs.Spread.{touches, filled}
use Rattle.hum_columns.specs.Chosen.{is_torn, each_piece, opening_of, flags}
use Rattle.hum_columns.specs.Deciding.{at_path}
use Rattle.hum_columns.proofs.ChosenJoins.{each_tokens}
use Rattle.hum_columns.proofs.Flags.{flags_width, flags_open, flags_after, flags_onward, text_opening}
use Rattle.hum_columns.proofs.KeepsScores.{text_parts}
use Rattle.hum_choices.specs.Extract.{Choice}
use Rattle.hum_extract.specs.Choice.{opening_flags}
use Rattle.hum_extract.specs.Extract.{exchanged_flags, is_lone, cut, opened, extract}
use Rattle.hum_extract.proofs.ChosenTokens.{chosen_whole}
use Rattle.hum_extract.proofs.Taking.{opening_length, softened_none}
use Rattle.hum_laws.proofs.Runs.{Fine, out, taken, made_by}

-- each one is chosen
abbrev pub all_on : List Bool → Bool
all_on fs = list_all (λ b. b) fs

first_on : (f : Bool) (fs : List Bool) → all_on (f ∷ fs) ≡ true → (f ≡ true) × (all_on fs ≡ true)
first_on f fs h = and_parts f (all_on fs) h

both_on : (f : Bool) (fs : List Bool) → f ≡ true → all_on fs ≡ true → all_on (f ∷ fs) ≡ true
both_on f fs a b = and_from f (all_on fs) a b

-- then each one is below it
next_on : (other : Bool) (ss : List Sign) (fs : List Bool) → other ≡ true → all_on fs ≡ true → at_next other ss fs ≡ true
next_on other (s ∷ ss) (f ∷ fs) o h =
    let both = first_on f fs h in
    by_bool (is_exchange s) (λ w. rw w both.0) (λ w. rw w (next_on other ss fs o both.1))
next_on other ss fs h k = grind (arith, nat_tests)

put_on : (other : Bool) (ss : List Sign) (fs : List Bool) → other ≡ true → all_on fs ≡ true → all_on (put_next other ss fs) ≡ true
put_on other (s ∷ ss) (f ∷ fs) o h =
    let both = first_on f fs h in
    by_bool (is_exchange s)
    (λ w. rw w (both_on other fs o both.1))
    (λ w. rw w (both_on f (put_next other ss fs) both.0 (put_on other ss fs o both.1)))
put_on other ss fs h k = grind (arith, nat_tests)

swapped_on : (ss : List Sign) (fs : List Bool) → all_on fs ≡ true → all_on (swapped ss fs) ≡ true
swapped_on (s ∷ ss) (f ∷ fs) h =
    let both = first_on f fs h in
    by_bool (is_exchange s)
    (λ w. rw w (both_on (at_next f ss fs) (put_next f ss fs) (next_on f ss fs both.0 both.1) (put_on f ss fs both.0 both.1)))
    (λ w. rw w (both_on f (swapped ss fs) both.0 (swapped_on ss fs both.1)))
swapped_on ss fs h = grind (arith, nat_tests)

onward_on : (bs : List Bool) (ss : List Sign) (fs : List Bool) → all_on fs ≡ true → all_on (onward (λ f. f) bs ss fs) ≡ true
onward_on (b ∷ bs) (s ∷ ss) (f ∷ fs) h = let both = first_on f fs h in cell b s both.0 (onward_on bs ss fs both.1)
  where
    cell : (b : Bool) (s : Sign) → f ≡ true → all_on (onward (λ f. f) bs ss fs) ≡ true → all_on (onward_one (λ f. f) b s f ++ onward (λ f. f) bs ss fs) ≡ true
    cell = grind (arith, nat_tests)
onward_on bs ss fs h = grind (arith, nat_tests)

pub after_on : (fs : List Bool) (ss : List Sign) → all_on fs ≡ true → all_on (flags_after fs ss) ≡ true
after_on fs ss h = onward_on (beginnings false ss) ss (swapped ss fs) (swapped_on ss fs h)

-- nothing is torn, and nothing is left behind
torn_on : (fs : List Bool) (ss : List Sign) → all_on fs ≡ true → is_torn fs ss ≡ false
torn_on (true ∷ true ∷ fs) (s ∷ t ∷ ss) h = grind (arith, nat_tests, torn_on (true ∷ fs) (t ∷ ss) h)
torn_on fs ss h = grind (arith, nat_tests)

exchanged_on : (fs : List Bool) (ss : List Sign) → all_on fs ≡ true → all_on (exchanged_flags fs ss) ≡ true
exchanged_on (f ∷ fs) (s ∷ ss) h =
    let both = first_on f fs h in
    by_bool (is_exchange s) (λ w. rw w (both_on f (exchanged_flags fs ss) both.0 (exchanged_on fs ss both.1))) (λ w. rw w (exchanged_on fs ss both.1))
exchanged_on fs ss h = grind (arith, nat_tests)

lone_on : (fs : List Bool) → all_on fs ≡ true → is_lone fs ≡ false
lone_on = grind (arith, nat_tests)

each_size : (b : Bool) (ts : List (List ℕ)) → length (each_piece b ts) ≡ length ts
each_size b [] = refl
each_size b (t ∷ ts) = ap suc (each_size (is_join (sign_of t)) ts)

-- joins of a record don't touch
each_apart : (b : Bool) (ts : List (List ℕ)) → touches b (each_piece b ts) ≡ false
each_apart b [] = refl
each_apart b (t ∷ ts) = grind (arith, nat_tests, each_apart (is_join (sign_of t)) ts)

pub cut_whole : (fs : List Bool) (ts : List (List ℕ)) → all_on fs ≡ true → length fs ≡ length ts → cut fs ts ≡ Ok (filled Interpretation (ts ∷ []))
cut_whole fs ts h e =
    let size = each_size false ts in
    let all : chosen fs (each_piece false ts) ≡ each_piece false ts = chosen_whole fs (each_piece false ts) h (omega (arith, e, size)) in
    rw (
      torn_on fs (map sign_of ts) h,
      lone_on (exchanged_flags fs (map sign_of ts))
          (exchanged_on fs (map sign_of ts) h),
      softened_none ts,
      all,
      each_apart false ts,
      each_tokens false ts,
    ) refl

some_filled : (kind : SpinedKind) (ts : List (List ℕ)) → (length ts ≡ 0 → ⊥) → filled kind (ts ∷ []) ≡ Spined kind ts ∷ []
some_filled = grind (arith, nat_tests)

not_none : (n : ℕ) → (n == 0) ≡ false → n ≡ 0 → ⊥
not_none n h e = grind (arith, nat_tests, h, e)

module _ (choice : Choice) where
  abbrev marked : List Row → List Bool
  marked past = flags (opening_flags choice) past

  -- a record behind the opening one stays, and all columns are chosen behind it
  text_stays : (past : List Row) (kind : SpinedKind) (tokens : List (List ℕ)) → IsOpen past → all_on (marked past) ≡ true
      → find (breaks_as_text (path_after past) tokens) in_order ≡ None → filled kind (chosen (marked past) tokens ∷ []) ≡ Spined kind tokens ∷ []
  text_stays =
      grind (arith, nat_tests, flags_width, text_width, chosen_whole, some_filled, not_none, text_parts)

  later_stays : (past : List Row) (names tokens : List (List ℕ)) → IsOpen past → path_after past ≡ Spines names → all_on (marked past) ≡ true
      → find (breaks (Spines names) tokens) in_order ≡ None → cut (marked past) tokens ≡ Ok (Spined Interpretation tokens ∷ [])
  later_stays = grind (arith, nat_tests, obeys, flags_width, find_head, cut_whole, some_filled, not_none)

  -- the opening record of records, if there is one
  abbrev pub opening_in : List Row → Option (List (List ℕ))
  opening_in [] = None
  opening_in (Comment text ∷ rows) = opening_in rows
  opening_in (Spined kind tokens ∷ rows) = Some tokens

  opened_whole : (tokens : List (List ℕ)) (made : List Row) → all_on (opening_flags choice tokens) ≡ true → opened choice tokens ≡ Ok made
      → made ≡ Spined Interpretation tokens ∷ []
  opened_whole =
      grind (arith, nat_tests, false≢true, or_parts, out, chosen_whole, opening_length, some_filled)

  -- each record stays
  stays_open : (past p : List Row) → IsOpen past → Follow (path_after past) p → all_on (marked past) ≡ true → (opened : Path) → path_after past ≡ opened
      → (opened ≡ Unopened → ⊥) → out (extract choice) past p ≡ p
  stays_open past (Comment text ∷ p) sound follow h path at is =
      ap (λ (x : List Row). Comment text ∷ x) (stays_open (Comment text ∷ past) p (sound, follow.0) follow.1 h path at is)
  stays_open past (Spined Local tokens ∷ p) sound follow h path at is =
      let same = text_stays past Local tokens sound h follow.0 in
      rw same (ap (λ (x : List Row). Spined Local tokens ∷ x)
      (stays_open (Spined Local tokens ∷ past) p (sound, follow.0) follow.1
      (rw (text_opening (path_after past) tokens (opening_of past) follow.0) h) path at is))
  stays_open past (Spined Values tokens ∷ p) sound follow h path at is =
      let same = text_stays past Values tokens sound h follow.0 in
      rw same (ap (λ (x : List Row). Spined Values tokens ∷ x)
      (stays_open (Spined Values tokens ∷ past) p (sound, follow.0) follow.1
      (rw (text_opening (path_after past) tokens (opening_of past) follow.0) h) path at is))
  stays_open past (Spined Interpretation tokens ∷ p) sound follow h (Spines names) at is =
      let here : find (breaks (Spines names) tokens) in_order ≡ None = rw at at follow.0 in
      let told : at_path (path_after past) (opened choice tokens) (cut (marked past) tokens) ≡ Ok (Spined Interpretation tokens ∷ []) =
      ap (λ (q : Path). at_path q (opened choice tokens) (cut (marked past) tokens)) at ∙ later_stays past names tokens sound at h here in
      let more = flags_onward (opening_flags choice) past names tokens sound at (obeys names tokens here) in
      ap (λ (d : Result (List Row) Rule). made_by d ++ out (extract choice) (Spined Interpretation tokens ∷ past) p) told
      ∙ ap (λ (x : List Row). Spined Interpretation tokens ∷ x)
      (stays_open (Spined Interpretation tokens ∷ past) p (sound, follow.0) follow.1 (rw more (after_on (marked past) (map sign_of tokens) h))
      (after (Spines names) (Spined Interpretation tokens)) (ap (λ (q : Path). after q (Spined Interpretation tokens)) at) (λ e. cc))
  stays_open past p h k w opened e m = grind (arith, nat_tests)

  stays_from : (past p : List Row) → IsOpen past → Follow (path_after past) p → path_after past ≡ Unopened
      → ((tokens : List (List ℕ)) → opening_in p ≡ Some tokens → all_on (opening_flags choice tokens) ≡ true) → Fine (extract choice) past p
      → out (extract choice) past p ≡ p
  stays_from past [] sound follow at h fine = refl
  stays_from past (Comment text ∷ p) sound follow at h fine =
      ap (λ (x : List Row). Comment text ∷ x) (stays_from (Comment text ∷ past) p (sound, follow.0) follow.1 at h fine.1)
  stays_from past (Spined Local tokens ∷ p) sound follow at h fine = grind (arith, nat_tests)
  stays_from past (Spined Values tokens ∷ p) sound follow at h fine = grind (arith, nat_tests)
  stays_from past (Spined Interpretation tokens ∷ p) sound follow at h fine =
      let all = h tokens refl in
      let told = taken (extract choice past (Spined Interpretation tokens)) fine.0 in
      let first : opened choice tokens ≡ Ok (made_by (extract choice past (Spined Interpretation tokens))) =
      sym (ap (λ (q : Path). at_path q (opened choice tokens) (cut (marked past) tokens)) at) ∙ told in
      let same = opened_whole tokens (made_by (extract choice past (Spined Interpretation tokens))) all first in
      let marks = flags_open (opening_flags choice) past tokens (opening_length choice tokens) sound at in
      ap (λ (x : List Row). x ++ out (extract choice) (Spined Interpretation tokens ∷ past) p) same
      ∙ ap (λ (x : List Row). Spined Interpretation tokens ∷ x)
      (stays_open (Spined Interpretation tokens ∷ past) p (sound, follow.0) follow.1 (rw marks all)
      (after Unopened (Spined Interpretation tokens)) (ap (λ (q : Path). after q (Spined Interpretation tokens)) at) (λ e. cc))

  -- A score whose opening spines are all chosen is what is extracted of it.
  pub stays_whole : (p : List Row) → IsScore p → ((tokens : List (List ℕ)) → opening_in p ≡ Some tokens → all_on (opening_flags choice tokens) ≡ true)
      → Fine (extract choice) [] p → out (extract choice) [] p ≡ p
  stays_whole p score h fine = stays_from [] p tt score refl h fine
