-- Items between commas.
use Rattle.std.proofs.lemmas.Grind.{common_steps}
use Rattle.std.proofs.lemmas.Bool.Decides.{nat_tests}
use Rattle.std.proofs.Common.{◌≡◌, ◌<◌, ◌≤◌, ◌+◌, ◌==◌, refl, ap, ℕ, suc, false}
use Rattle.std.proofs.Common.{List, [], ◌∷◌, ◌++◌, length, arith, None, Some, Option, map}
use Rattle.std.specs.Prelude.{nat_le, Result, IfOk}
use Rattle.std.specs.Option.{option_map, option_and_then}
use Rattle.std.specs.List.{AllByRecursion, join_with_byte}
use Rattle.std.proofs.lemmas.Result.{IfOk-weaker}
use Rattle.std.proofs.lemmas.Bool.{leb-true, le-leb}
use Rattle.std.proofs.lemmas.List.Splits.{join_with_byte-slice_split, length-slice_split}
use Rattle.hum_score.specs.Spelling.{has_byte}
use Rattle.hum_score.proofs.Cases.{by_bool}
use Rattle.hum_options.specs.Cutting.{front, remainder, parts}
use Rattle.hum_options.specs.Items.{AreItems, one, more, AreListed, with_first, all_of, items_of}
use Rattle.hum_options.specs.Read.{IsReadAs}
use Rattle.hum_options.proofs.Choices.{chosen, read_as}
use Rattle.hum_options.proofs.Cuts.{parts_lack, cut_alone, cut_before, behind_first, filled, emptied}

-- the values of what is still to come, behind those that are done
abbrev pub behind : {A : Type 0} → List A → Option (List A) → Option (List A)
behind done values = option_map (λ more. done ++ more) values

-- the parts behind the first, by what stands from its end on
abbrev pub parts_behind : List ℕ → List (List ℕ)
parts_behind [] = []
parts_behind (comma ∷ text) = parts 44 text

-- Some parts of a text were read as these items, at most 64, and some are left.
pub record IsListing {A B : Type 0} (value_of : List ℕ → Option A) (view : B → A) (text : List ℕ) (left : List (List ℕ))
    (items : List B) : Type 0 where
  pub few : length items ≤ 64
  pub count : length (parts 44 text) ≡ length items + length left
  pub values : all_of value_of (parts 44 text) ≡ behind (map view items) (all_of value_of left)

first_part : (text : List ℕ) → parts 44 text ≡ front 44 text ∷ parts_behind (remainder 44 text)
first_part [] = refl
first_part (b ∷ bytes) = by_bool (b == 44) (λ w. rw w refl) (λ w. rw (w, first_part bytes) refl)

-- what stands behind the comma, if there is one
pub left_behind : (left : List ℕ) → 1 ≤ length left → parts_behind left ≡ parts 44 (behind_first left)
left_behind left some = ap parts_behind (filled left some)

pub none_behind : (left : List ℕ) → length left < 1 → parts_behind left ≡ []
none_behind left none = ap parts_behind (emptied left none)

-- nothing is read yet
pub listing_begins : {A B : Type 0} {value_of : List ℕ → Option A} {view : B → A} (text : List ℕ)
    → IsListing value_of view text (parts 44 text) []
listing_begins = grind (arith, nat_tests)

-- the next part, and what is behind it
pub next_part : {A B : Type 0} {value_of : List ℕ → Option A} {view : B → A} {text part left : List ℕ} {items : List B}
    (here : List ℕ) → IsListing value_of view text (parts 44 here) items → part ≡ front 44 here
    → left ≡ remainder 44 here
    → IsListing value_of view text (part ∷ parts_behind left) items
next_part here h part_is left_is = rw (part_is, left_is) (rw (first_part here) at h)

module _ {A B : Type 0} {value_of : List ℕ → Option A} {view : B → A} {text part : List ℕ} {left : List (List ℕ)}
    {items : List B} (h : IsListing value_of view text (part ∷ left) items) where
  -- one more is read
  pub listing_goes_on : (item : B) → Some (view item) ≡ value_of part → length items < 64
      → IsListing value_of view text left (items ++ item ∷ [])
  listing_goes_on = grind (arith, common_steps)

  -- a part that isn't read
  pub listing_refused : None ≡ value_of part → None ≡ items_of value_of text
  listing_refused = grind (arith, nat_tests)

  -- a part behind 64 others
  pub listing_full : 64 ≤ length items → None ≡ items_of value_of text
  listing_full = grind (arith, nat_tests)

-- all are read
pub listing_ends : {A B : Type 0} {value_of : List ℕ → Option A} {view : B → A} {text : List ℕ} {items : List B}
    → IsListing value_of view text [] items → Some (map view items) ≡ items_of value_of text
listing_ends = grind (arith, common_steps)

-- what the first of some answers is, and the others
record IsFirst {A : Type 0} (o : Option A) (others : Option (List A)) (values : List A) : Type 0 where
  value : A
  more_values : List A
  is : o ≡ Some value
  others_are : others ≡ Some more_values
  all : value ∷ more_values ≡ values

first_is : {A : Type 0} (o : Option A) (others : Option (List A)) (values : List A)
    → option_and_then (with_first others) o ≡ Some values → IsFirst o others values
first_is = grind (arith, nat_tests)

module _ {A : Type 0} {value_of : List ℕ → Option A} {IsItem : List ℕ → A → Type 0}
    (is : (item : List ℕ) (value : A) → has_byte 44 item ≡ false → value_of item ≡ Some value → IsItem item value)
    (alone : (item : List ℕ) (value : A) → IsItem item value → value_of item ≡ Some value)
    (lacks : (item : List ℕ) (value : A) → IsItem item value → has_byte 44 item ≡ false) where
  record AreAll (texts : List (List ℕ)) (values : List A) : Type 0 where
    items : AreItems IsItem (join_with_byte 44 texts) values
    count : length values ≡ length texts

  all_are : (texts : List (List ℕ)) (values : List A) → AllByRecursion (λ text. has_byte 44 text ≡ false) texts
      → 0 < length texts → all_of value_of texts ≡ Some values → AreAll texts values
  all_are [] values lack some e = absurd (omega (arith, some))
  all_are (text ∷ []) values lack some e =
      let first = first_is (value_of text) (Some []) values e in
      let none : [] ≡ first.more_values = cc in
      let same : first.value ∷ [] ≡ values = rw (← none) at first.all in
      rw (← same) (record { items = one (is text first.value lack.0 first.is); count = refl })
  all_are (text ∷ next ∷ texts) values lack some e =
      let first = first_is (value_of text) (all_of value_of (next ∷ texts)) values e in
      let others = all_are (next ∷ texts) first.more_values lack.1 (omega arith) first.others_are in
      rw (← first.all) (record {
        items = more (is text first.value lack.0 first.is) others.items;
        count = ap suc others.count;
      })

  -- a list that is read has these items
  items_are : (text : List ℕ) (values : List A) → items_of value_of text ≡ Some values → AreListed IsItem text values
  items_are text values e =
      let test = chosen (nat_le (length (parts 44 text)) 64) (all_of value_of (parts 44 text)) values e in
      let some : 0 < length (parts 44 text) = omega (arith, length-slice_split (λ b. b == 44) text) in
      let all = all_are (parts 44 text) values (parts_lack 44 text) some test.1 in
      record {
        items = rw (join_with_byte-slice_split 44 text) at all.items;
        most = omega (arith, all.count, leb-true (length (parts 44 text)) 64 test.0);
      }

  record AreRead (text : List ℕ) (values : List A) : Type 0 where
    values_are : all_of value_of (parts 44 text) ≡ Some values
    count : length (parts 44 text) ≡ length values

  all_alone : (text : List ℕ) (values : List A) → AreItems IsItem text values → AreRead text values
  all_alone _ _ (one {item} {value} h) = grind (arith, nat_tests, cut_alone 44 item (lacks item value h))
  all_alone _ _ (more {item} {text} {value} {values} h hs) =
      grind (arith, nat_tests, all_alone text values hs, cut_before 44 item text (lacks item value h) refl)

  -- a list of these items is read
  items_alone : (text : List ℕ) (values : List A) → AreListed IsItem text values → items_of value_of text ≡ Some values
  items_alone = grind (arith, nat_tests, all_alone, le-leb)

  -- what is read is such a list, and each such list is read
  pub listed : {B E : Type 0} (f : B → List A) (text : List ℕ) (r : Result (Option B) E)
      → IfOk r (λ found. option_map f found ≡ items_of value_of text)
      → IfOk r (λ found. IsReadAs (AreListed IsItem text) (items_of value_of text) (option_map f found))
  listed f text r was = IfOk-weaker r _ _ (λ found e. read_as e (items_are text) (items_alone text)) was
