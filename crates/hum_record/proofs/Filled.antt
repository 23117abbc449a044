-- Tokens that are put one after another, some in place of others.
use Rattle.std.proofs.lemmas.Grind.{common_steps}
use Rattle.std.proofs.lemmas.Bool.Decides.{nat_tests}
use Rattle.std.proofs.Common.{◌≡◌, ◌≢◌, ◌∙◌, ℕ, suc, ◌+◌, ◌-◌, ◌<◌, ◌≤◌, List, [], ◌∷◌, ◌++◌, length, take, drop, set, get_or}
use Rattle.std.proofs.Common.{Bool, refl, sym, ap, subst, arith, append_assoc, length-append, if◌then◌else◌, take_at}
use Rattle.std.proofs.lemmas.List.{take_more, take_more_set, take-set, drop_at, drop-take, length-set, get_or-set_same}
use Rattle.std.proofs.lemmas.Simd.{length-chunk, take_more_put_chunk}
use Rattle.std.specs.Prelude.{slice_range}
use Rattle.std.specs.Simd.Lanes.{chunk, put_chunk}
use Rattle.hum_record.specs.Building.{spelled}
use Rattle.hum_record.specs.Contents.{filled_from, is_null}
use Rattle.std.specs.List.{AllByRecursion}
use Rattle.hum_score.specs.declared.records.Kind.TheVariants.{Values as AnyValues}
use Rattle.hum_score.specs.declared.records.SpinedKind.TheVariants.{Local, Interpretation, Values}
use Rattle.hum_record.specs.Fields.{ends_from, begins_at, row_in, AreFields}
use Rattle.hum_score.specs.Row.{Row, Comment, Spined, kind_of, tokens_of, width_of, text_of}
use Rattle.hum_score.specs.Spelling.{IsToken, IsTextOf, parts}
use Rattle.hum_record.proofs.Ends.{part_lies, ends_push, length-ends_from, width_counts}
use Rattle.hum_record.proofs.Laws.{parts_filled, only, row_read}
use Rattle.hum_record.proofs.Left.{parts_are}
use Rattle.hum_record.proofs.Places.{front_of_front, take_count}
use Rattle.hum_record.proofs.Words.{joined}

-- the front of what was put at a place
pub put_front : (text held : List ℕ) (at begin end : ℕ) → end - begin ≤ 16 → begin + 16 ≤ length held → at + 16 ≤ length text
    → take (at + (end - begin)) (put_chunk at text (chunk begin 16 held)) ≡ take at text ++ slice_range held begin end
put_front text held at begin end short filled room =
    let size = end - begin in
    let word = chunk begin 16 held in
    let new = put_chunk at text word in
    let long : length word ≡ 16 = length-chunk begin 16 held filled in
    let front : length (take at text) ≡ at = take_count at text (omega (arith, room)) in
    let all : take (at + 16) new ≡ take at text ++ word = take_more_put_chunk at text word (at + 16) (omega (arith, long)) room in
    sym (front_of_front (at + size) (at + 16) new (omega (arith, short)))
    ∙ ap (take (at + size)) all
    ∙ joined at size (at + size) (take at text ++ word) refl
    ∙ ap (λ (xs : List ℕ). xs ++ take size (drop at (take at text ++ word))) (take_at (take at text) word at front)
    ∙ ap (λ (xs : List ℕ). take at text ++ take size xs) (drop_at (take at text) word at front)
    ∙ ap (λ (xs : List ℕ). take at text ++ xs) (front_of_front size 16 (drop begin held) short)

-- tokens, and a tab behind each
abbrev pub tabbed : List (List ℕ) → List ℕ
tabbed [] = []
tabbed (t ∷ ts) = t ++ (9 ∷ tabbed ts)

tabbed_push : (ts : List (List ℕ)) (t : List ℕ) → tabbed (ts ++ t ∷ []) ≡ tabbed ts ++ (t ++ 9 ∷ [])
tabbed_push [] t = refl
tabbed_push (x ∷ ts) t = ap (λ (rest : List ℕ). x ++ (9 ∷ rest)) (tabbed_push ts t) ∙ sym (append_assoc x (9 ∷ tabbed ts) (t ++ 9 ∷ []))

last_tab : (ts : List (List ℕ)) → ts ≢ [] → tabbed ts ≡ spelled ts ++ 9 ∷ []
last_tab (x ∷ y ∷ ts) filled = grind (arith, common_steps, last_tab (y ∷ ts) (λ e. cc))
last_tab ts h = grind (arith, nat_tests)

some_pushed : (ts : List (List ℕ)) (t : List ℕ) → ts ++ t ∷ [] ≢ []
some_pushed = grind (arith, common_steps)

pushed_size : (ts : List (List ℕ)) (t : List ℕ) → length (spelled (ts ++ t ∷ [])) ≡ length (tabbed ts) + length t
pushed_size ts t =
    let more = ts ++ t ∷ [] in
    let whole = ap length (last_tab more (some_pushed ts t)) in
    let front = length-append (spelled more) (9 ∷ []) in
    let pushed = ap length (tabbed_push ts t) in
    let behind = length-append (tabbed ts) (t ++ 9 ∷ []) in
    let last = length-append t (9 ∷ []) in
    omega (arith, whole, front, pushed, behind, last)

pub length-filled : (above tokens : List (List ℕ)) → length (filled_from above tokens) ≡ length tokens
length-filled (a ∷ above) (t ∷ tokens) = let ih = length-filled above tokens in omega (arith, ih)
length-filled above tokens = grind (arith, nat_tests)

filled_at : (above tokens : List (List ℕ)) (j : ℕ) → length tokens ≡ length above → j < length tokens
    → get_or (filled_from above tokens) j [] ≡ (if is_null (get_or tokens j []) then get_or above j [] else get_or tokens j [])
filled_at (a ∷ above) (t ∷ tokens) (suc j) wide less = filled_at above tokens j (omega (arith, wide)) (omega (arith, less))
filled_at above tokens j h k = grind (arith, nat_tests)

-- The first of some tokens stand in front of a text, and where they end in front of some places.
pub record Filling (all : List (List ℕ)) (j len : ℕ) (text places : List ℕ) : Type 0 where
  pub done : take len text ≡ tabbed (take j all)
  pub ends_are : take j places ≡ ends_from 0 (take j all)
  pub within : len ≤ length text

-- one more
pub one_filled : (all : List (List ℕ)) (j len to : ℕ) (text places put : List ℕ) → Filling all j len text places
    → j < length all → j < length places → to < length put → take to put ≡ take len text ++ get_or all j []
    → Filling all (j + 1) (to + 1) (set put to 9) (set places j to)
one_filled all j len to text places put f less room within is =
    let t = get_or all j [] in
    let ts = take j all in
    let next : take (j + 1) all ≡ ts ++ t ∷ [] = take_more all j [] less in
    let size = ap length is in
    let parts_size = length-append (take len text) t in
    let done = ap length f.done in
    let front = take_count to put (omega (arith, within)) in
    let place : to ≡ 0 + length (spelled (ts ++ t ∷ [])) = omega (arith, size, parts_size, done, front, pushed_size ts t) in
    record {
      done = grind (arith, nat_tests, take_more_set, append_assoc, tabbed_push);
      ends_are = grind (arith, nat_tests, take_more_set, ends_push);
      within = omega (arith, length-set put to 9, within);
    }

-- all of them
pub record AllFilled (all : List (List ℕ)) (len n : ℕ) (text places : List ℕ) : Type 0 where
  pub some : 0 < len
  pub text_is : take (len - 1) (set text (len - 1) 10) ≡ spelled all
  pub ends_are : take n places ≡ ends_from 0 all
  pub ended : get_or (set text (len - 1) 10) (len - 1) 0 ≡ 10

pub all_filled : (all : List (List ℕ)) (j n len : ℕ) (text places : List ℕ) → Filling all j len text places
    → n ≡ length all → n ≤ j → j ≤ n → all ≢ [] → AllFilled all len n text places
all_filled all j n len text places f wide past most filled =
    let whole : take j all ≡ all = take_whole j all (omega (arith, wide, past)) in
    let tabs : take len text ≡ spelled all ++ 9 ∷ [] = f.done ∙ ap tabbed whole ∙ last_tab all filled in
    let within = f.within in
    let size = ap length tabs in
    let front = take_count len text within in
    let behind = length-append (spelled all) (9 ∷ []) in
    let last : length (spelled all) ≡ len - 1 = omega (arith, size, front, behind) in
    let some : 0 < len = omega (arith, size, front, behind) in
    let same : j ≡ n = omega (arith, past, most) in
    record {
      some = some;
      text_is = take-set text (len - 1) 10
          ∙ sym (front_of_front (len - 1) len text (omega arith)) ∙ ap (take (len - 1)) tabs
          ∙ take_at (spelled all) (9 ∷ []) (len - 1) last;
      ends_are = ap (λ m. take m places) (sym same) ∙ f.ends_are ∙ ap (ends_from 0) whole;
      ended = get_or-set_same text (len - 1) 10 0 (omega (arith, some, within));
    }
  where
    take_whole : (k : ℕ) (xs : List (List ℕ)) → length xs ≤ k → take k xs ≡ xs
    take_whole = grind (arith, common_steps)

-- a token of a text that is the front of some bytes
pub record Stands (held : List ℕ) (len : ℕ) (ends : List ℕ) (j : ℕ) : Type 0 where
  pub order : begins_at ends j ≤ get_or ends j 0
  pub within : get_or ends j 0 ≤ len
  pub reads : slice_range held (begins_at ends j) (get_or ends j 0) ≡ get_or (parts (take len held)) j []

range_front : (held : List ℕ) (len from to : ℕ) → from ≤ to → to ≤ len → slice_range held from to ≡ slice_range (take len held) from to
range_front held len from to order within =
    let behind : from + (len - from) ≡ len = omega (arith, order, within) in
    sym (ap (λ n. take (to - from) (drop from (take n held))) (sym behind)
    ∙ ap (take (to - from)) (drop-take from (len - from) held)
    ∙ front_of_front (to - from) (len - from) (drop from held) (omega (arith, order, within)))

pub stands : (held : List ℕ) (len : ℕ) (ends : List ℕ) (j : ℕ) → len ≤ length held → ends ≡ ends_from 0 (parts (take len held))
    → j < length ends → Stands held len ends j
stands held len ends j short cut less =
    let lies = part_lies (take len held) ends j cut less in
    let size = take_count len held short in
    let order = lies.order in
    let within : get_or ends j 0 ≤ len = let w = lies.within in omega (arith, w, size) in
    record {
      order = order;
      within = within;
      reads = range_front held len (begins_at ends j) (get_or ends j 0) order within ∙ lies.reads;
    }

-- what is put of a token, or of what stands above it
pub put_of : (row above : List ℕ) (row_len above_len : ℕ) (ends above_ends : List ℕ) (j : ℕ)
    → Stands row row_len ends j → Stands above above_len above_ends j
    → ends ≡ ends_from 0 (parts (take row_len row)) → above_ends ≡ ends_from 0 (parts (take above_len above))
    → length ends ≡ length above_ends → j < length ends
    → (if is_null (slice_range row (begins_at ends j) (get_or ends j 0))
    then slice_range above (begins_at above_ends j) (get_or above_ends j 0)
    else slice_range row (begins_at ends j) (get_or ends j 0))
    ≡ get_or (filled_from (parts (take above_len above)) (parts (take row_len row))) j []
put_of = grind (arith, nat_tests, length-ends_from, filled_at)

-- One turn of the loop: a token of a row, or what stands above it.
module _ (row above : List ℕ) (row_len above_len : ℕ) (ends above_ends : List ℕ) (j : ℕ)
    (room : row_len + 16 ≤ length row) (room_above : above_len + 16 ≤ length above)
    (cut : ends ≡ ends_from 0 (parts (take row_len row))) (above_cut : above_ends ≡ ends_from 0 (parts (take above_len above)))
    (wide : length ends ≡ length above_ends) (less : j < length ends) where
  pub stands_below : Stands row row_len ends j
  stands_below = stands row row_len ends j (omega (arith, room)) cut less

  pub stands_above : Stands above above_len above_ends j
  stands_above = stands above above_len above_ends j (omega (arith, room_above)) above_cut (omega (arith, wide, less))

  pub one_put : (len to begin above_begin : ℕ) (text places put : List ℕ)
      → Filling (filled_from (parts (take above_len above)) (parts (take row_len row))) j len text places
      → begin ≡ begins_at ends j → above_begin ≡ begins_at above_ends j
      → j < length places → to < length put
      → take to put ≡ take len text ++ (if is_null (slice_range row begin (get_or ends j 0))
      then slice_range above above_begin (get_or above_ends j 0) else slice_range row begin (get_or ends j 0))
      → Filling (filled_from (parts (take above_len above)) (parts (take row_len row))) (j + 1) (to + 1) (set put to 9) (set places j to)
  one_put len to begin above_begin text places put f at above_at fits within is =
      let tokens = parts (take row_len row) in
      let over = parts (take above_len above) in
      let all = filled_from over tokens in
      let many = ap length cut ∙ length-ends_from 0 tokens in
      let few : j < length all = omega (arith, length-filled over tokens, many, less) in
      let one = put_of row above row_len above_len ends above_ends j stands_below stands_above cut above_cut wide less in
      one_filled all j len to text places put f few fits within
      ((rw (at, above_at) at is) ∙ ap (λ (t : List ℕ). take len text ++ t) one)

pub begins_next : (ends : List ℕ) (j : ℕ) → get_or ends j 0 + 1 ≡ begins_at ends (j + 1)
begins_next ends j = let next : suc j ≡ j + 1 = omega arith in ap (begins_at ends) next

pub all_put : (row above : List ℕ) (row_len above_len : ℕ) (ends : List ℕ) (j len : ℕ) (text places : List ℕ)
    → ends ≡ ends_from 0 (parts (take row_len row))
    → Filling (filled_from (parts (take above_len above)) (parts (take row_len row))) j len text places
    → length ends ≤ j → j ≤ length ends
    → AllFilled (filled_from (parts (take above_len above)) (parts (take row_len row))) len (length ends) text places
all_put row above row_len above_len ends j len text places cut f past most =
    let tokens = parts (take row_len row) in
    let over = parts (take above_len above) in
    let size = length-filled over tokens in
    let many = ap length cut ∙ length-ends_from 0 tokens in
    all_filled (filled_from over tokens) j (length ends) len text places f (omega (arith, size, many)) past most
    (λ none. parts_filled (take row_len row) (is_none tokens (omega (arith, ap length none, size))))
  where
    is_none : (ts : List (List ℕ)) → length ts ≡ 0 → ts ≡ []
    is_none = grind (arith, common_steps)

-- Records of which one is filled from the other

chosen_lawful : (b : Bool) (a t : List ℕ) → IsToken Values a → IsToken Values t → IsToken Values (if b then a else t)
chosen_lawful = grind (arith, nat_tests)

filled_lawful : (above tokens : List (List ℕ)) → AllByRecursion (IsToken Values) above → AllByRecursion (IsToken Values) tokens
    → AllByRecursion (IsToken Values) (filled_from above tokens)
filled_lawful (a ∷ above) (t ∷ tokens) over are =
    (chosen_lawful (is_null t) a t over.0 are.0, filled_lawful above tokens over.1 are.1)
filled_lawful above tokens h k = grind (arith, nat_tests)

filled_some : (above : List (List ℕ)) (t : List ℕ) (tokens : List (List ℕ)) → filled_from above (t ∷ tokens) ≢ []
filled_some [] t tokens e = cc
filled_some (a ∷ above) t tokens e = cc

-- what the fields of the filled record are
pub record FilledFields (row above : Row) (text ends : List ℕ) : Type 0 where
  pub fields : AreFields text ends
  pub is : row_in text ≡ Spined Values (filled_from (tokens_of above) (tokens_of row))
  pub at_most : length (text_of (row_in text)) ≤ 1048576

filled_fields : (row above : Row) (row_text above_text text ends : List ℕ) → IsTextOf row row_text → IsTextOf above above_text
    → kind_of row ≡ AnyValues → kind_of above ≡ AnyValues
    → text ≡ spelled (filled_from (parts above_text) (parts row_text))
    → ends ≡ ends_from 0 (filled_from (parts above_text) (parts row_text)) → length text ≤ 1048576
    → FilledFields row above text ends
filled_fields (Comment comment) above row_text above_text text ends h over kind kind_above spells cut most = cc
filled_fields (Spined Local ts) above row_text above_text text ends h over kind kind_above spells cut most = cc
filled_fields (Spined Interpretation ts) above row_text above_text text ends h over kind kind_above spells cut most = cc
filled_fields (Spined Values ts) (Comment comment) row_text above_text text ends h over kind kind_above spells cut most = cc
filled_fields (Spined Values ts) (Spined Local us) row_text above_text text ends h over kind kind_above spells cut most = cc
filled_fields (Spined Values ts) (Spined Interpretation us) row_text above_text text ends h over kind kind_above spells cut most = cc
filled_fields (Spined Values []) (Spined Values us) row_text above_text text ends h over kind kind_above spells cut most = absurd (h.1 refl)
filled_fields (Spined Values (t ∷ ts)) (Spined Values []) row_text above_text text ends h over kind kind_above spells cut most = absurd (over.1 refl)
filled_fields (Spined Values (t ∷ ts)) (Spined Values (u ∷ us)) row_text above_text text ends h over kind kind_above spells cut most =
    let all = filled_from (u ∷ us) (t ∷ ts) in
    let are : parts row_text ≡ t ∷ ts = parts_are row_text (Spined Values (t ∷ ts)) h (omega arith) in
    let above_are : parts above_text ≡ u ∷ us = parts_are above_text (Spined Values (u ∷ us)) over (omega arith) in
    let same : filled_from (parts above_text) (parts row_text) ≡ all = rw (are, above_are) refl in
    let spelling : text ≡ spelled all = spells ∙ ap spelled same in
    let is_text : IsTextOf (Spined Values all) text = grind (arith, nat_tests, filled_some, filled_lawful) in
    let is = row_read text _ (only text _ is_text) in
    record {
      fields = record {
        lawful = subst (λ (r : Row). IsTextOf r text) (sym is) is_text;
        cut = cut ∙ ap (ends_from 0) same ∙ ap (λ (r : Row). ends_from 0 (tokens_of r)) (sym is);
      };
      is = is;
      at_most =
          let size = ap (λ (r : Row). length (text_of r)) is in
          let spelled_size = ap length spelling in
          omega (arith, size, spelled_size, most);
    }

module _ (row above : Row) (row_text row_ends above_text above_ends : List ℕ)
    (fields : AreFields row_text row_ends) (view : row_in row_text ≡ row)
    (above_fields : AreFields above_text above_ends) (above_view : row_in above_text ≡ above) where
  pub as_wide : width_of row ≡ width_of above → length row_ends ≡ length above_ends
  as_wide wide = width_counts row_text row_ends row fields view ∙ wide ∙ sym (width_counts above_text above_ends above above_fields above_view)

  pub filled_record : (text ends : List ℕ) → kind_of row ≡ AnyValues → kind_of above ≡ AnyValues
      → text ≡ spelled (filled_from (parts above_text) (parts row_text))
      → ends ≡ ends_from 0 (filled_from (parts above_text) (parts row_text)) → length text ≤ 1048576
      → FilledFields row above text ends
  filled_record text ends =
      filled_fields row above row_text above_text text ends (subst (λ (r : Row). IsTextOf r row_text) view fields.lawful)
      (subst (λ (r : Row). IsTextOf r above_text) above_view above_fields.lawful)
