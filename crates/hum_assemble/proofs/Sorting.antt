-- What stands behind an opening record: the sort of each record, its place, and the spines after it.
use Rattle.std.proofs.Common.{◌≡◌, ◌∙◌, refl, sym, ℕ, ◌≤◌, Bool, true}
use Rattle.std.proofs.Common.{false, cond, List, [], ◌∷◌, length, arith}
use Rattle.std.proofs.Common.{map}
use Rattle.std.specs.Prelude.{None, ◌==◌}
use Rattle.std.specs.List.{list_any, list_all, find}
use Rattle.std.proofs.lemmas.List.{length-map}
use Rattle.hum_score.specs.declared.records.SpinedKind.TheVariants.{Local, Interpretation, Values}
use Rattle.hum_score.specs.Row.{Row, Comment, Spined, tokens_of}
use Rattle.hum_score.specs.Spelling.{is_empty}
use Rattle.hum_score.specs.declared.spines.Sign.{Sign}
use Rattle.hum_score.specs.declared.spines.Sign.TheVariants.{End}
use Rattle.hum_score.specs.declared.spines.Sign.TheVariants.{Exclusive, Plain}
use Rattle.hum_score.specs.Sign.{sign_of, is_exclusive, is_join, is_plain, all_plain}
use Rattle.hum_score.specs.Sign.{is_path_indicator}
use Rattle.hum_score.specs.Spines.{Path, Unopened, Spines, after, names_after}
use Rattle.hum_score.specs.Rules.{fault_of, breaks, breaks_as_text, in_order, has_unnamed}
use Rattle.hum_score.specs.Rules.{stays_unnamed}
use Rattle.hum_path.specs.Onward.{beginnings, onward, swapped, at_next, put_next}
use Rattle.hum_path.specs.Onward.{renamed_each}
use Rattle.std.proofs.lemmas.Bool.{or_parts}
use Rattle.std.proofs.lemmas.Bool.Decides.{nat_tests}
use Rattle.std.proofs.lemmas.List.Folds.{list_any-append}
use Rattle.hum_path.proofs.Obeyed.{opens, obeys}
use Rattle.hum_path.proofs.Kept.{exclusive_filled}
use Rattle.hum_path.proofs.Onwards.{names_onward, swapped_length, each_length}
use Rattle.hum_assemble.specs.declared.places.Place.TheVariants.{Tandem, Change, Note, Closing}
use Rattle.hum_assemble.specs.Source.{place, is_inside, is_end, unit_place}
use Rattle.hum_assemble.specs.Places.{rank}
use Rattle.hum_assemble.specs.Groups.{Closes, IsData, Adds, Single, sort_of, adds}
use Rattle.hum_assemble.specs.Groups.{is_add, is_comment, is_local, is_tandem, is_other}
use Rattle.hum_assemble.proofs.Sounding.{ends_leave_none}
use Rattle.hum_assemble.proofs.Turning.{exclusive_named}

-- there are spines
abbrev pub stands : Path → Bool
stands Unopened = false
stands (Spines []) = false
stands (Spines (n ∷ ns)) = true

onward_named : (b : Bool) (signs : List Sign) (xs : List (List ℕ)) → list_any is_empty xs ≡ false
    → list_any is_add signs ≡ false
    → list_any is_empty (onward (λ _. []) (beginnings b signs) signs xs) ≡ false
onward_named b (s ∷ signs) (x ∷ xs) h a = grind (arith, nat_tests, onward_named (is_join s) signs xs)
onward_named b signs xs h a = grind (arith, nat_tests)

onward_added : (b : Bool) (signs : List Sign) (xs : List (List ℕ)) → length xs ≡ length signs
    → list_any is_add signs ≡ true
    → list_any is_empty (onward (λ _. []) (beginnings b signs) signs xs) ≡ true
onward_added b (s ∷ signs) (x ∷ xs) l a =
    grind (arith, nat_tests, list_any-append is_empty, onward_added (is_join s) signs xs (omega (arith, l)))
onward_added b signs xs l a = grind (arith, nat_tests)

onward_stands : (signs : List Sign) (xs : List (List ℕ)) → length xs ≡ length signs
    → list_all is_end signs ≡ false
    → stands (Spines (onward (λ _. []) (beginnings false signs) signs xs)) ≡ true
onward_stands (End ∷ signs) (x ∷ xs) l h = onward_stands signs xs (omega (arith, l)) h
onward_stands signs xs l h = grind (arith, nat_tests)

-- Exchanged names aren't empty where none was.
next_named : (other : List ℕ) (signs : List Sign) (xs : List (List ℕ)) → is_empty other ≡ false
    → list_any is_empty xs ≡ false → is_empty (at_next other signs xs) ≡ false
next_named other (s ∷ signs) (x ∷ xs) o h = grind (arith, nat_tests, next_named other signs xs o)
next_named other signs xs o h = grind (arith, nat_tests)

put_named : (other : List ℕ) (signs : List Sign) (xs : List (List ℕ)) → is_empty other ≡ false
    → list_any is_empty xs ≡ false → list_any is_empty (put_next other signs xs) ≡ false
put_named other (s ∷ signs) (x ∷ xs) o h = grind (arith, nat_tests, put_named other signs xs o)
put_named other signs xs o h = grind (arith, nat_tests)

swapped_named : (signs : List Sign) (xs : List (List ℕ)) → list_any is_empty xs ≡ false
    → list_any is_empty (swapped signs xs) ≡ false
swapped_named (s ∷ signs) (x ∷ xs) h =
    grind (arith, nat_tests, swapped_named signs xs, or_parts, next_named, put_named)
swapped_named signs xs h = grind (arith, nat_tests)

-- A name that waits gets its exclusive interpretation.
renamed_named : (names tokens : List (List ℕ)) → has_unnamed names (map sign_of tokens) ≡ false
    → list_any is_empty (renamed_each names tokens) ≡ false
renamed_named (n ∷ names) (t ∷ tokens) h =
    let p = or_parts (stays_unnamed n (sign_of t)) (has_unnamed names (map sign_of tokens)) h in
    grind (arith, nat_tests, p.0, exclusive_filled t, renamed_named names tokens p.1)
renamed_named names tokens h = grind (arith, nat_tests)

-- The names after an interpretation.
record Names (names tokens : List (List ℕ)) : Type 0 where
  xs : List (List ℕ)
  wide : length xs ≡ length (map sign_of tokens)
  named : list_any is_empty xs ≡ false
  are : names_after (Spines names) tokens
      ≡ onward (λ _. []) (beginnings false (map sign_of tokens)) (map sign_of tokens) xs

names_of : (names tokens : List (List ℕ)) → find (breaks (Spines names) tokens) in_order ≡ None
    → Names names tokens
names_of names tokens h =
    let o = obeys names tokens h in
    record {
      xs = swapped (map sign_of tokens) (renamed_each names tokens);
      wide = grind (arith, nat_tests, swapped_length, each_length, length-map);
      named = grind (arith, nat_tests, swapped_named, renamed_named);
      are = names_onward names tokens o.wide o.pair;
    }

added_inside : (names tokens : List (List ℕ)) → find (breaks (Spines names) tokens) in_order ≡ None
    → list_any is_add (map sign_of tokens) ≡ true
    → list_any is_empty (names_after (Spines names) tokens) ≡ true
added_inside names tokens h a =
    grind (arith, nat_tests, names_of names tokens h, onward_added false (map sign_of tokens))

all_named : (names tokens : List (List ℕ)) → find (breaks (Spines names) tokens) in_order ≡ None
    → list_any is_add (map sign_of tokens) ≡ false
    → list_any is_empty (names_after (Spines names) tokens) ≡ false
all_named names tokens h a =
    grind (arith, nat_tests, names_of names tokens h, onward_named false (map sign_of tokens))

still_stands : (names tokens : List (List ℕ)) → find (breaks (Spines names) tokens) in_order ≡ None
    → list_all is_end (map sign_of tokens) ≡ false
    → stands (Spines (names_after (Spines names) tokens)) ≡ true
still_stands names tokens h e =
    grind (arith, nat_tests, names_of names tokens h, onward_stands (map sign_of tokens))

all_ended : (names tokens : List (List ℕ)) → find (breaks (Spines names) tokens) in_order ≡ None
    → list_all is_end (map sign_of tokens) ≡ true → names_after (Spines names) tokens ≡ []
all_ended names tokens h e =
    let o = obeys names tokens h in
    names_onward names tokens o.wide o.pair ∙ ends_leave_none false (map sign_of tokens) _ e

empty_stands : (names : List (List ℕ)) → list_any is_empty names ≡ true
    → stands (Spines names) ≡ true
empty_stands = grind (arith, nat_tests)

-- Signs.
add_not_plain : (signs : List Sign) → list_any is_add signs ≡ true → list_all is_plain signs ≡ false
add_not_plain (Plain ∷ signs) h = add_not_plain signs h
add_not_plain signs h = grind (arith, nat_tests)

unsteered : (signs : List Sign) → list_any is_path_indicator signs ≡ false
    → list_any is_add signs ≡ false
unsteered (Exclusive ∷ signs) h = unsteered signs h
unsteered (Plain ∷ signs) h = unsteered signs h
unsteered signs h = grind (arith, nat_tests)

exclusive_goes : (signs : List Sign) → list_any is_exclusive signs ≡ true
    → list_all is_end signs ≡ false
exclusive_goes (End ∷ signs) h = exclusive_goes signs h
exclusive_goes signs h = grind (arith, nat_tests)

some_exclusive : (names : List (List ℕ)) (signs : List Sign) → length names ≡ length signs
    → list_any is_empty names ≡ true → has_unnamed names signs ≡ false
    → list_any is_exclusive signs ≡ true
some_exclusive (n ∷ names) (s ∷ signs) l h k =
    grind (arith, nat_tests, some_exclusive names signs (omega (arith, l)))
some_exclusive names signs l h k = grind (arith, nat_tests)

-- Inside a unit: the record that begins the added spines.
pub record Begun (path : Path) (row : Row) : Type 0 where
  pub stand : stands (after path row) ≡ true
  pub out : is_inside (after path row) ≡ false

text_out : (names tokens : List (List ℕ)) → list_any is_empty names ≡ true
    → find (breaks_as_text (Spines names) tokens) in_order ≡ None → ⊥
text_out = grind (arith, nat_tests)

pub begins : (names : List (List ℕ)) (row : Row) → is_inside (Spines names) ≡ true
    → is_comment row ≡ false → fault_of (Spines names) row ≡ None → Begun (Spines names) row
begins names (Comment text) i c h = cc
begins names (Spined Local tokens) i c h = absurd (text_out names tokens i h)
begins names (Spined Values tokens) i c h = absurd (text_out names tokens i h)
begins names (Spined Interpretation tokens) i c h =
    let o = obeys names tokens h in
    let x = some_exclusive names (map sign_of tokens) (o.wide ∙ sym (length-map tokens sign_of)) i o.unnamed in
    let p : list_any is_path_indicator (map sign_of tokens) ≡ false = rw x at o.steers in
    record {
      stand = still_stands names tokens h (exclusive_goes (map sign_of tokens) x);
      out = all_named names tokens h (unsteered (map sign_of tokens) p);
    }

-- Between units.
pub data Sorted (path : Path) (row : Row) : Type 0 where
  AsClosing : sort_of row ≡ Closes → place path row ≡ Closing → after path row ≡ Spines []
      → Sorted path row
  AsData : sort_of row ≡ IsData → adds row ≡ false → place path row ≡ Note
      → after path row ≡ path → Sorted path row
  AsAdds : sort_of row ≡ Adds → adds row ≡ true → place path row ≡ unit_place row
      → place path row ≡ Change → stands (after path row) ≡ true → is_inside (after path row) ≡ true
      → Sorted path row
  AsSingle : sort_of row ≡ Single → adds row ≡ false → place path row ≡ unit_place row
      → 4 ≤ rank (unit_place row) → rank (unit_place row) ≤ 7 → stands (after path row) ≡ true
      → is_inside (after path row) ≡ false → Sorted path row

module _ (n : List ℕ) (ns : List (List ℕ)) (out : is_inside (Spines (n ∷ ns)) ≡ false) where
  unit_at : (row : Row) → place (Spines (n ∷ ns)) row ≡ unit_place row
  unit_at row = rw out refl

  going_on : (tokens : List (List ℕ)) (a : Bool) → list_all is_end (map sign_of tokens) ≡ false
      → list_any is_add (map sign_of tokens) ≡ a
      → find (breaks (Spines (n ∷ ns)) tokens) in_order ≡ None
      → Sorted (Spines (n ∷ ns)) (Spined Interpretation tokens)
  going_on tokens true e a h =
      let p = add_not_plain (map sign_of tokens) a in
      let u : unit_place (Spined Interpretation tokens) ≡ Change = rw (e, p) refl in
      let i = added_inside (n ∷ ns) tokens h a in
      AsAdds (rw (e, a) refl) a (unit_at (Spined Interpretation tokens))
      (unit_at (Spined Interpretation tokens) ∙ u)
      (empty_stands (names_after (Spines (n ∷ ns)) tokens) i) i
  going_on tokens false e a h =
      let u : unit_place (Spined Interpretation tokens) ≡ cond (all_plain tokens) Tandem Change = rw e refl in
      AsSingle (rw (e, a) refl) a (unit_at (Spined Interpretation tokens))
      (rw u (elim (all_plain tokens) as (λ b. 4 ≤ rank (cond b Tandem Change)) [ true ↦ omega arith | false ↦ omega arith ]))
      (rw u (elim (all_plain tokens) as (λ b. rank (cond b Tandem Change) ≤ 7) [ true ↦ omega arith | false ↦ omega arith ]))
      (still_stands (n ∷ ns) tokens h e) (all_named (n ∷ ns) tokens h a)

  by_ends : (tokens : List (List ℕ)) (e : Bool) → list_all is_end (map sign_of tokens) ≡ e
      → find (breaks (Spines (n ∷ ns)) tokens) in_order ≡ None
      → Sorted (Spines (n ∷ ns)) (Spined Interpretation tokens)
  by_ends tokens true e h =
      grind (arith, nat_tests, unit_at (Spined Interpretation tokens), all_ended (n ∷ ns) tokens h e)
  by_ends tokens false e h = going_on tokens (list_any is_add (map sign_of tokens)) e refl h

  pub sorted : (row : Row) → fault_of (Spines (n ∷ ns)) row ≡ None → Sorted (Spines (n ∷ ns)) row
  sorted = grind (arith, nat_tests, unit_at, by_ends)

-- Behind the last spine there are only global comments.
pub record IsRemark (row : Row) : Type 0 where
  pub text : List ℕ
  pub is : row ≡ Comment text

pub in_tail : (row : Row) → fault_of (Spines []) row ≡ None → IsRemark row
in_tail = grind (arith, nat_tests)

-- At an opening record.
unopened_text : (tokens : List (List ℕ)) → find (breaks_as_text Unopened tokens) in_order ≡ None → ⊥
unopened_text = grind (arith, nat_tests)

pub record Opened (row : Row) : Type 0 where
  pub after_is : after Unopened row ≡ Spines (tokens_of row)
  pub out : is_inside (Spines (tokens_of row)) ≡ false

pub opened_row : (row : Row) → is_comment row ≡ false → fault_of Unopened row ≡ None → Opened row
opened_row = grind (arith, nat_tests, unopened_text, exclusive_named, opens)

-- Which records a test of a round picks.
pub record Tests (test : Row → Bool) (k : ℕ) : Type 0 where
  pub picks : (row : Row) → 4 ≤ rank (unit_place row) → rank (unit_place row) ≤ 7
      → test row ≡ (k == rank (unit_place row))

pub picks_comments : Tests is_comment 4
picks_comments = grind (arith, nat_tests)

pub picks_locals : Tests is_local 5
picks_locals = grind (arith, nat_tests)

pub picks_tandems : Tests is_tandem 6
picks_tandems = grind (arith, nat_tests)

pub picks_others : Tests is_other 7
picks_others = grind (arith, nat_tests)
