-- Longer lines of plain data, by the bits of their words.
use Rattle.std.proofs.lemmas.Grind.{common_steps}
use Rattle.std.proofs.lemmas.Bool.Decides.{nat_tests}
use Rattle.std.proofs.Common.{◌≡◌, ◌∙◌, refl, sym, ap, ap₂, ℕ, suc, ◌+◌, ◌*◌, ◌-◌, ◌/◌, ◌%◌, ◌≤◌, ◌<◌, ◌^◌, Bool, true, false}
use Rattle.std.proofs.Common.{List, [], ◌∷◌, ◌++◌, map, length, take, drop, cond, get_or, arith, length-append, length-drop, append_assoc, subst, ⊎_elim}
use Rattle.std.specs.Prelude.{◌==◌}
use Rattle.std.specs.Simd.Lanes.{chunk, mask_l}
use Rattle.std.proofs.lemmas.Nat.{and_mask, and_assoc, and_comm}
use Rattle.std.proofs.lemmas.Simd.{length-chunk}
use native.Mathlib.Nat.{mod-eq_of_lt}
use lib.Bits.{bit_and}
use Rattle.hum_record.specs.Cutting.{bits_of, set_places, tabs_from}
use Rattle.hum_record.specs.Lines.{IsLine}
use Rattle.hum_record.specs.Plain.{is_stop, has_mark, head_after, HasPlaces, EndsLine}
use Rattle.hum_record.proofs.Cuts.{tabs_append}
use Rattle.hum_record.proofs.Places.{moved_down, take_count}
use Rattle.hum_record.proofs.Plain.{mark_append, head_append, head_end}
use Rattle.hum_record.proofs.Short.{set_tabs, none_rare, rare_free, front_line, unmarked_by, plain_by_marks, tabs_cut, not_set, unset}

-- The bits of a word that may begin a token, cut to a word, have those in common with others that all of
-- them have.
pub cut_heads : (head ends : ℕ) → head ≤ 1 → ends < 2 ^ 64
    → bit_and (ends * 2 ^ 1 % 18446744073709551616 + head) ends ≡ bit_and (head + 2 * ends) ends
cut_heads head ends few fits =
    let n = head + 2 * ends in
    let cut : ends * 2 ^ 1 % 18446744073709551616 + head ≡ n % 2 ^ 64 = omega (arith, few) in
    ap (λ m. bit_and m ends) (cut ∙ sym (and_mask n 64))
    ∙ and_assoc ends n (2 ^ 64 - 1)
    ∙ ap (bit_and n) (and_comm (2 ^ 64 - 1) ends ∙ and_mask ends 64 ∙ mod-eq_of_lt fits)

none_behind : (xs ys : List ℕ) → mask_l (map is_stop xs) ≡ 0 → mask_l (map is_stop ys) ≡ 0 → mask_l (map is_stop (xs ++ ys)) ≡ 0
none_behind [] ys h g = g
none_behind (x ∷ xs) ys h g =
    let here = not_set (is_stop x) (mask_l (map is_stop xs)) h in
    unset (is_stop x) (mask_l (map is_stop (xs ++ ys))) here.0 (none_behind xs ys here.1 g)

none_in_front : (xs ys : List ℕ) → mask_l (map is_stop (xs ++ ys)) ≡ 0 → mask_l (map is_stop xs) ≡ 0
none_in_front [] ys h = refl
none_in_front (x ∷ xs) ys h =
    let here = not_set (is_stop x) (mask_l (map is_stop (xs ++ ys))) h in
    unset (is_stop x) (mask_l (map is_stop xs)) here.0 (none_in_front xs ys here.1)

-- What is found of the words in front: where tabs stand, and that all is plain data so far.
pub record Words (front places : List ℕ) (head : ℕ) : Type 0 where
  pub tabs : places ≡ tabs_from 0 front
  pub stops : mask_l (map is_stop front) ≡ 0
  pub marks : has_mark true front ≡ false
  pub head_is : head ≡ cond (head_after true front) 1 0

pub no_words : Words [] [] 1
no_words = record { tabs = refl; stops = refl; marks = refl; head_is = refl }

pub head_few : (front places : List ℕ) (head : ℕ) → Words front places head → head ≤ 1
head_few = grind (arith, nat_tests)

-- one word more
pub more_words : (front block places next : List ℕ) (head ends later : ℕ) → Words front places head → length block ≤ 64
    → ends ≡ bits_of 9 block → mask_l (map is_stop block) ≡ 0 → bit_and (head + 2 * ends) ends ≡ 0
    → next ≡ places ++ set_places 64 (length front) ends → later ≡ cond (head_after (head_after true front) block) 1 0
    → Words (front ++ block) next later
more_words front block places next head ends later w few is_ends free apart put is_later =
    let h = head_after true front in
    let none = none_rare block (rare_free block free) in
    let clear : has_mark h block ≡ false = grind (arith, nat_tests, unmarked_by, ap₂) in
    record {
      tabs = grind (arith, nat_tests, ap₂, set_tabs, tabs_append);
      stops = none_behind front block w.stops free;
      marks = mark_append true front block ∙ rw (w.marks, clear) refl;
      head_is = is_later ∙ ap (λ b. cond b 1 0) (sym (head_append true front block));
    }

-- a front is one part and the next
pub joined : (a b n : ℕ) (xs : List ℕ) → a + b ≡ n → take n xs ≡ take a xs ++ take b (drop a xs)
joined (suc a) b (suc n) (x ∷ xs) e = ap (λ (ys : List ℕ). x ∷ ys) (joined a b n xs (omega (arith, e)))
joined a b n xs h = grind (arith, common_steps)

-- a whole word
pub whole_word : (held places next : List ℕ) (at head ends stops : ℕ) → at + 64 ≤ length held → Words (take at held) places head
    → ends ≡ bits_of 9 (chunk at 64 held) → stops ≡ mask_l (map is_stop (chunk at 64 held)) → stops ≡ 0
    → bit_and (head + 2 * ends) ends ≡ 0 → next ≡ places ++ set_places 64 at ends
    → Words (take (at + 64) held) next (ends / 2 ^ 63)
whole_word held places next at head ends stops room w is_ends is_stops none apart put =
    let block = chunk at 64 held in
    let size : length block ≡ 64 = length-chunk at 64 held room in
    let front = take_count at held (omega (arith, room)) in
    let last : ends / 2 ^ 63 ≡ cond (head_after (head_after true (take at held)) block) 1 0 =
    ap (λ n. n / 2 ^ 63) is_ends ∙ moved_down 9 block 63 ∙ last_bit (drop 63 block) (length_last block size)
    ∙ ap (λ (b : Bool). cond b 1 0) (ap (λ x. x == 9) (first_of 63 block) ∙ ap (λ n. get_or block n 0 == 9) (omega (arith, size))
    ∙ head_end (head_after true (take at held)) block (omega (arith, size))) in
    rw (joined at 64 (at + 64) held refl) (more_words (take at held) block places next head ends _ w (omega (arith, size)) is_ends (sym is_stops ∙ none) apart
    (put ∙ ap (λ n. places ++ set_places 64 n ends) (sym front)) last)
  where
    length_last : (xs : List ℕ) → length xs ≡ 64 → length (drop 63 xs) ≡ 1
    length_last xs size = let d = length-drop 63 xs in omega (arith, d, size)

    last_bit : (xs : List ℕ) → length xs ≡ 1 → bits_of 9 xs ≡ cond (get_or xs 0 0 == 9) 1 0
    last_bit = grind (arith, common_steps)

    first_of : (k : ℕ) (xs : List ℕ) → get_or (drop k xs) 0 0 ≡ get_or xs k 0
    first_of = grind (arith, common_steps)

-- the last word, as if a tab stood behind it
pub record FarLine (held places : List ℕ) (len : ℕ) : Type 0 where
  pub line : IsLine held len
  pub plain : HasPlaces (take len held) places

pub last_word : (held places next : List ℕ) (at head len size ends : ℕ) → len < at + 64 → Words (take at held) places head
    → EndsLine held at head len size ends → next ≡ places ++ set_places 64 at ends → FarLine held next len
last_word held places next at head len whole_size ends short w end put =
    let rest = take end.rest (drop at held) in
    let block = rest ++ 9 ∷ [] in
    let text = take len held in
    let within : end.lf < length held = end.behind.0 in
    let before : len ≤ end.lf = ⊎_elim (λ same. omega (arith, same)) (λ one. let more = one.0 in omega (arith, more)) end.behind.2 in
    let place = end.place in
    let front = take_count at held (omega (arith, place, before, within)) in
    let behind = length-drop at held in
    let some = take_count end.rest (drop at held) (omega (arith, behind, place, before, within)) in
    let size : length block ≤ 64 = omega (arith, length-append rest (9 ∷ []), some, short, place) in
    let free : mask_l (map is_stop block) ≡ 0 = none_behind rest (9 ∷ []) end.free refl in
    let whole : text ≡ take at held ++ rest = joined at end.rest len held (sym place) in
    let all : take at held ++ block ≡ text ++ 9 ∷ [] = grind (arith, nat_tests, append_assoc) in
    let words = subst (λ (xs : List ℕ). Words xs next (cond (head_after (head_after true (take at held)) block) 1 0)) all
    (more_words (take at held) block places next head ends _ w size end.bits free end.apart
    (put ∙ ap (λ n. places ++ set_places 64 n ends) (sym front)) refl) in
    let clear = none_in_front text (9 ∷ []) words.stops in
    record {
      line = front_line held len end.lf clear end.behind;
      plain = record {
        plain = plain_by_marks text (rare_free text clear) words.marks;
        cut = words.tabs ∙ tabs_cut text;
      };
    }

-- a line that ends in the second word
pub second_word : (held : List ℕ) (first len size ends : ℕ) → 64 ≤ length held → first ≡ bits_of 9 (chunk 0 64 held)
    → mask_l (map is_stop (chunk 0 64 held)) ≡ 0 → bit_and (1 + 2 * first) first ≡ 0 → len < 128
    → EndsLine held 64 (first / 2 ^ 63) len size ends → FarLine held (set_places 64 0 first ++ set_places 64 64 ends) len
second_word held first len size ends room is_first free apart short end =
    last_word held (set_places 64 0 first) _ 64 (first / 2 ^ 63) len size ends short
    (whole_word held [] (set_places 64 0 first) 0 1 first _ room no_words is_first refl free apart refl) end refl
