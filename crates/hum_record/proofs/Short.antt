-- Short lines of plain data, by the bits of their bytes.
use Rattle.std.proofs.lemmas.Bool.Decides.{nat_tests}
use Rattle.std.proofs.Common.{◌≡◌, ◌∙◌, refl, sym, ap, ap₂, ◌⊎◌, ℕ, suc, zero, ◌+◌, ◌*◌, ◌-◌, ◌/◌, ◌%◌, ◌≤◌, ◌<◌, ◌^◌, min, Bool, true, false, not, ◌||◌}
use Rattle.std.proofs.Common.{List, [], ◌∷◌, ◌++◌, map, length, take, drop, get_or, replicate, cond, eqb, Ok, Some, Fits, w8, arith, append_assoc, length-append, subst, ⊎_elim}
use Rattle.std.proofs.Common.{mod-lt, zero-lt-suc, pow-suc, add-zero}
use Rattle.std.specs.Prelude.{◌==◌, if◌then◌else◌}
use Rattle.std.specs.Simd.Lanes.{chunk, mask_l, top, zip2, Each1}
use Rattle.std.proofs.lemmas.Simd.{mask_l-mod, length-chunk, trailing_mask_l, zip2_splat, map-map}
use Rattle.std.specs.List.{prefix_len}
use Rattle.std.proofs.lemmas.List.{length-map, append-nil, get_or-take}
use Rattle.std.proofs.lemmas.Bool.{eqb-true, eq-eqb, or_from, cases_lt}
use Rattle.hum_record.proofs.Bytes.{upto_sound, same, same_is}
use lib.Bits.{bit_and, bit_or, and_step, and_self, and_zero_r}
use lib.Count.{count_trailing_zeros, under}
use lib.Pow.{pow_mono}
use Rattle.memchr.specs.Find.{IsFirstByte, is_byte}
use Rattle.hum_score.specs.declared.records.Kind.TheVariants.{Values as AnyValues}
use Rattle.hum_score.specs.declared.records.SpinedKind.TheVariants.{Values}
use Rattle.hum_score.specs.Row.{Row, Spined, kind_of, text_of}
use Rattle.hum_score.specs.Spelling.{IsTextOf, has_byte, is_comment, reading, parts}
use Rattle.hum_record.specs.Fields.{AreFields, ends_from, row_in}
use Rattle.hum_record.specs.Cutting.{bits_of, set_places, tabs_from}
use Rattle.hum_record.specs.Lines.{IsBehind, IsLine, IsRead, IsReadTo}
use Rattle.hum_record.specs.Plain.{is_rare, is_stop, has_mark, head_after, IsPlain, HasEnds, HasPlaces, EndsLine}
use Rattle.hum_record.proofs.Laws.{spined_fields, reads_row, reads_spined, row_read}
use Rattle.hum_record.proofs.Cuts.{tabs_append, ends_tabs}
use Rattle.hum_record.proofs.Places.{any_bit, take_count, front_of_front, one_moved, bits_front, bits_below}
use Rattle.hum_record.proofs.Plain.{mark_append, no_marks, plain_data, or_left, or_right}

-- The places of bits

bit_cases : (P : ℕ → Type 0) → P 0 → P 1 → (x : ℕ) → x < 2 → P x
bit_cases = grind (arith, nat_tests)

pub no_places : (k b : ℕ) → set_places k b 0 ≡ []
unfolding set_places
no_places zero b = refl
no_places (suc k) b = no_places k (b + 1)

abbrev turn : ℕ → ℕ → ℕ → ℕ → List ℕ
turn k b r t = if r == 1 then b ∷ set_places k (b + 1) t else set_places k (b + 1) t

abbrev Goal : ℕ → ℕ → ℕ → Type 0
Goal k b x = turn k b (x % 2) (x / 2) ≡ (b + under (x % 2) (count_trailing_zeros k (x / 2))) ∷ turn k b (bit_and x (x - 1) % 2) (bit_and x (x - 1) / 2)

-- the lowest bit is the first place, and the others are left
pub lowest : (k b x : ℕ) → 0 < x → x < 2 ^ k → set_places k b x ≡ (b + count_trailing_zeros k x) ∷ set_places k b (bit_and x (x - 1))
unfolding set_places count_trailing_zeros
lowest zero b x some h = let no : ⊥ = omega arith in absurd no
lowest (suc k) b x some h =
    bit_cases (λ r. x % 2 ≡ r → Goal k b x)
    (even (λ p. lowest k (b + 1) (x / 2) p (omega (arith, pow-suc 2 k))))
    odd (x % 2) (mod-lt x (zero-lt-suc 1)) refl
  where
    odd : x % 2 ≡ 1 → Goal k b x
    odd e =
        let y = bit_and x (x - 1) in
        let half : (x - 1) / 2 ≡ x / 2 = omega arith in
        let low : min (x % 2) ((x - 1) % 2) ≡ 0 = omega arith in
        let is : y ≡ x / 2 * 2 + 0 = and_step x (x - 1) ∙ ap₂ (λ u v. u * 2 + v) (ap (bit_and (x / 2)) half ∙ and_self (x / 2)) low in
        let p : y % 2 ≡ 0 = omega arith in
        let q : y / 2 ≡ x / 2 = omega arith in
        ap (λ r. turn k b r (x / 2)) e
        ∙ ap₂ (λ u v. u ∷ v)
        (sym (ap (λ r. b + under r (count_trailing_zeros k (x / 2))) e ∙ add-zero b)) (sym (ap₂ (turn k b) p q))

    even : (0 < x / 2 → set_places k (b + 1) (x / 2)
        ≡ (b + 1 + count_trailing_zeros k (x / 2)) ∷ set_places k (b + 1) (bit_and (x / 2) (x / 2 - 1)))
        → x % 2 ≡ 0 → Goal k b x
    even below e =
        let y = bit_and x (x - 1) in
        let half : (x - 1) / 2 ≡ x / 2 - 1 = omega arith in
        let low : min (x % 2) ((x - 1) % 2) ≡ 0 = omega arith in
        let z = bit_and (x / 2) (x / 2 - 1) in
        let is : y ≡ z * 2 + 0 = and_step x (x - 1) ∙ ap₂ (λ u v. u * 2 + v) (ap (bit_and (x / 2)) half) low in
        let p : y % 2 ≡ 0 = omega arith in
        let q : y / 2 ≡ z = omega arith in
        let t = count_trailing_zeros k (x / 2) in
        let place : b + 1 + t ≡ b + suc t = omega arith in
        ap (λ r. turn k b r (x / 2)) e ∙ below (omega arith)
        ∙ ap₂ (λ u v. u ∷ v) (place ∙ sym (ap (λ r. b + under r t) e)) (sym (ap₂ (turn k b) p q))

-- one place more in a list
pub next_place : (front all : List ℕ) (b x : ℕ) → 0 < x → x < 2 ^ 64 → front ++ set_places 64 b x ≡ all
    → (front ++ (b + count_trailing_zeros 64 x) ∷ []) ++ set_places 64 b (bit_and x (x - 1)) ≡ all
next_place = grind (arith, nat_tests, append_assoc, lowest)

-- there are no more places than bits were looked at
pub most_places : (k b x : ℕ) → length (set_places k b x) ≤ k
unfolding set_places
most_places zero b x = omega arith
most_places (suc k) b x = grind (arith, nat_tests, most_places k (b + 1) (x / 2))

-- half as many where no two of them stand side by side
pub apart_places : (k b head x : ℕ) → head ≤ 1 → bit_and (head + 2 * x) x ≡ 0 → 2 * length (set_places k b x) + head ≤ suc k
unfolding set_places
apart_places zero b head x few apart = omega (arith, few)
apart_places (suc k) b head x few apart =
    let rest = set_places k (b + 1) (x / 2) in
    let half : (head + 2 * x) / 2 ≡ x = omega (arith, few) in
    let low : (head + 2 * x) % 2 ≡ head = omega (arith, few) in
    let parts : bit_and (head + 2 * x) x ≡ bit_and x (x / 2) * 2 + min head (x % 2) =
    and_step (head + 2 * x) x ∙ ap₂ (λ u v. bit_and u (x / 2) * 2 + min v (x % 2)) half low in
    let whole : x % 2 + 2 * (x / 2) ≡ x = omega arith in
    let again : bit_and (x % 2 + 2 * (x / 2)) (x / 2) ≡ 0 = ap (λ n. bit_and n (x / 2)) whole ∙ omega (arith, parts, apart) in
    let bit : x % 2 ≤ 1 = omega arith in
    let ih = apart_places k (b + 1) (x % 2) (x / 2) bit again in
    bit_cases (λ r. x % 2 ≡ r → 2 * length (if r == 1 then b ∷ rest else rest) + head ≤ suc (suc k))
    (λ e. omega (arith, ih, few))
    (λ e. let free : min head 1 ≡ 0 = ap (min head) (sym e) ∙ omega (arith, parts, apart) in omega (arith, ih, e, free))
    (x % 2) (mod-lt x (zero-lt-suc 1)) refl

-- where a bit is left there is room for its place
pub room_left : (places all : List ℕ) (j b x : ℕ) → 0 < x → x < 2 ^ 64 → j ≤ length places → length all ≤ length places
    → take j places ++ set_places 64 b x ≡ all → j < length places
room_left = grind (arith, nat_tests, take_count, lowest, length-append)

-- where none is left all places are put
pub all_put : (places all : List ℕ) (j b x : ℕ) → take j places ++ set_places 64 b x ≡ all → x ≡ 0 → take j places ≡ all
all_put = grind (arith, nat_tests, no_places, append-nil)

one_step : (k b n m : ℕ) (t : Bool) → n ≡ cond t 1 0 + 2 * m → set_places (suc k) b n ≡ (if t then b ∷ set_places k (b + 1) m else set_places k (b + 1) m)
unfolding set_places
one_step = grind (arith, nat_tests)

-- the places of the bits of tabs are those of the tabs
pub set_tabs : (k b : ℕ) (xs : List ℕ) → length xs ≤ k → set_places k b (bits_of 9 xs) ≡ tabs_from b xs
set_tabs k b [] h = no_places k b
set_tabs zero b (x ∷ xs) h = absurd (omega (arith, h))
set_tabs (suc k) b (x ∷ xs) h = grind (arith, nat_tests, set_tabs k (b + 1) xs (omega (arith, h)), one_step)

-- a tab behind a text is one bit more
pub tab_behind : (xs : List ℕ) → bits_of 9 xs + 2 ^ length xs ≡ bits_of 9 (xs ++ 9 ∷ [])
tab_behind [] = refl
tab_behind (x ∷ xs) = grind (arith, nat_tests, tab_behind xs)

-- the tabs of a line from the bits of more bytes
pub tabs_at : (held : List ℕ) (w len bits : ℕ) → len ≤ w → len ≤ 63 → w ≤ length held → bits ≡ bits_of 9 (chunk 0 w held)
    → bit_and bits (1 * 2 ^ len % 18446744073709551616 - 1) ≡ bits_of 9 (take len held)
tabs_at held w len bits few short filled is = rw (one_moved len short) (bits_front 9 held w len bits few filled is)

-- and where its tokens end
pub ends_at : (held : List ℕ) (len tabs : ℕ) → len ≤ 63 → len ≤ length held → tabs ≡ bits_of 9 (take len held)
    → tabs + 1 * 2 ^ len % 18446744073709551616 ≡ bits_of 9 (take len held ++ 9 ∷ [])
ends_at = grind (arith, nat_tests, take_count, one_moved, tab_behind)

pub ends_fit : (held : List ℕ) (len tabs : ℕ) → len ≤ 63 → len ≤ length held → tabs ≡ bits_of 9 (take len held)
    → tabs + 1 * 2 ^ len % 18446744073709551616 < 18446744073709551616
ends_fit held len tabs short filled is =
    let ends = ends_at held len tabs short filled is in
    let xs = take len held ++ 9 ∷ [] in
    let size : length xs ≤ 64 = omega (arith, length-append (take len held) (9 ∷ []), take_count len held (omega (arith, filled)), short) in
    let most : 2 ^ length xs ≤ 2 ^ 64 = pow_mono size in
    omega (arith, ends, bits_below 9 xs, most)

-- Bytes that seldom stand in data

abbrev pub hit : ℕ → ℕ → ℕ
hit a b = cond (eqb a b) 255 0

abbrev pub stop_lane : ℕ → ℕ
stop_lane x = bit_or (bit_or (hit (bit_or x 32) 42) (hit x 33)) (hit x 13)

-- it shows a stop at each of the 256 bytes
abbrev agrees : ℕ → Bool
agrees x = same (top 7 (stop_lane x)) (is_stop x)

each_lane : (v : List ℕ) → Each1 (Fits w8) v → map (top 7) (map stop_lane v) ≡ map is_stop v
each_lane [] fits = refl
each_lane (x ∷ xs) fits =
    ap₂ (λ (a : Bool) (b : List Bool). a ∷ b) (same_is _ _ (upto_sound agrees 256 tt x fits.0.fits)) (each_lane xs fits.1)

pub stop_mask : (v z : List ℕ) → length v ≤ 64 → Each1 (Fits w8) v → z ≡ map stop_lane v → mask_l (map (top 7) z) % 2 ^ 64 ≡ mask_l (map is_stop v)
stop_mask v z short fits e =
    ap (λ (l : List Bool). mask_l l % 2 ^ 64) (ap (map (top 7)) e ∙ each_lane v fits)
    ∙ mask_l-mod (map is_stop v) 64 (omega (arith, length-map v is_stop, short))

-- the lanes of a vector that are equal to one value, once they were changed
pub equal_lanes : (f : ℕ → ℕ) (y n : ℕ) (v : List ℕ) {a : List ℕ} → length v ≡ n → a ≡ map f v → zip2 hit a (replicate n y) ≡ map (λ x. hit (f x) y) v
equal_lanes = grind (arith, nat_tests, zip2_splat, length-map, map-map)

-- no bit is set of a byte
pub record NoneRare (xs : List ℕ) : Type 0 where
  pub bangs : bits_of 33 xs ≡ 0
  pub stars : bits_of 42 xs ≡ 0
  pub returns : bits_of 13 xs ≡ 0

pub not_set : (t : Bool) (n : ℕ) → cond t 1 0 + 2 * n ≡ 0 → (t ≡ false) × (n ≡ 0)
not_set = grind (arith, nat_tests)

pub unset : (t : Bool) (n : ℕ) → t ≡ false → n ≡ 0 → cond t 1 0 + 2 * n ≡ 0
unset = grind (arith, nat_tests)

pub none_rare : (xs : List ℕ) → mask_l (map is_rare xs) ≡ 0 → NoneRare xs
none_rare [] h = record { bangs = refl; stars = refl; returns = refl }
none_rare (x ∷ xs) h =
    let here = not_set (is_rare x) (mask_l (map is_rare xs)) h in
    let rest = none_rare xs here.1 in
    let front = or_left (x == 33 || x == 42) (x == 13) here.0 in
    record {
      bangs = unset (x == 33) (bits_of 33 xs) (or_left (x == 33) (x == 42) front) rest.bangs;
      stars = unset (x == 42) (bits_of 42 xs) (or_right (x == 33) (x == 42) front) rest.stars;
      returns = unset (x == 13) (bits_of 13 xs) (or_right (x == 33 || x == 42) (x == 13) here.0) rest.returns;
    }

-- no byte is a stop
pub rare_free : (xs : List ℕ) → mask_l (map is_stop xs) ≡ 0 → mask_l (map is_rare xs) ≡ 0
rare_free [] h = refl
rare_free (x ∷ xs) h =
    let here = not_set (is_stop x) (mask_l (map is_stop xs)) h in
    unset (is_rare x) (mask_l (map is_rare xs)) (or_left (is_rare x) (x == 10) here.0) (rare_free xs here.1)

lf_bits : (xs : List ℕ) → mask_l (map is_stop xs) ≡ 0 → bits_of 10 xs ≡ 0
lf_bits [] h = refl
lf_bits (x ∷ xs) h =
    let here = not_set (is_stop x) (mask_l (map is_stop xs)) h in
    unset (x == 10) (bits_of 10 xs) (or_right (is_rare x) (x == 10) here.0) (lf_bits xs here.1)

pub one_line : (xs : List ℕ) → mask_l (map is_stop xs) ≡ 0 → has_byte 10 xs ≡ false
one_line xs h = sym (any_bit 10 xs) ∙ ap (λ n. not (n == 0)) (lf_bits xs h)

lf_free : (xs : List ℕ) (k : ℕ) → mask_l (map is_stop xs) ≡ 0 → k < length xs → get_or xs k 0 ≡ 10 → ⊥
lf_free (x ∷ xs) (suc k) h less is = lf_free xs k (not_set (is_stop x) (mask_l (map is_stop xs)) h).1 (omega (arith, less)) is
lf_free xs k h w e = grind (arith, nat_tests)

not_true : (b : Bool) → (b ≡ true → ⊥) → b ≡ false
not_true = grind (arith, nat_tests)

-- The line ends at the first LF.
pub front_lf : (held : List ℕ) (len lf : ℕ) → mask_l (map is_stop (take len held)) ≡ 0 → IsBehind held len lf
    → IsFirstByte (is_byte 10) held (Some lf)
front_lf =
    grind (arith, nat_tests, ⊎_elim, take_count, get_or, lf_free, get_or-take, cases_lt, eqb-true, eq-eqb)

pub front_line : (held : List ℕ) (len lf : ℕ) → mask_l (map is_stop (take len held)) ≡ 0 → IsBehind held len lf → IsLine held len
front_line held len lf free behind = record { lf = lf; first = front_lf held len lf free behind; text = behind.2 }

-- and none stands in its text
no_lf : (xs : List ℕ) → ((k : ℕ) → k < length xs → get_or xs k 0 ≡ 10 → ⊥) → has_byte 10 xs ≡ false
no_lf [] free = refl
no_lf (x ∷ xs) free =
    or_from (x == 10) (has_byte 10 xs) (not_true (x == 10) (λ yes. free 0 (omega arith) (eqb-true x 10 yes)))
    (no_lf xs (λ k less. free (suc k) (omega (arith, less))))

pub line_text : (held : List ℕ) (len : ℕ) → IsLine held len → (has_byte 10 (take len held) ≡ false) × (length (take len held) ≡ len)
line_text = grind (arith, nat_tests, ⊎_elim, take_count, no_lf, eq-eqb, get_or-take)

-- in front of the first stop there is none
no_stop : (xs : List ℕ) (n : ℕ) → n ≡ prefix_len (λ x. not (is_stop x)) xs → mask_l (map is_stop (take n xs)) ≡ 0
no_stop (x ∷ xs) (suc n) is = grind (arith, nat_tests, no_stop xs n)
no_stop xs n h = grind (arith, nat_tests)

stop_within : (xs : List ℕ) → 0 < mask_l (map is_stop xs) → prefix_len (λ x. not (is_stop x)) xs < length xs
stop_within [] some = absurd (omega (arith, some))
stop_within (x ∷ xs) some = grind (arith, nat_tests, stop_within xs)

-- the first stop, by the lowest bit
pub record FirstStop (held : List ℕ) (at n rest : ℕ) : Type 0 where
  pub near : rest < n
  pub free : mask_l (map is_stop (take rest (drop at held))) ≡ 0

pub first_stop : (held : List ℕ) (at n stops : ℕ) → n ≤ 64 → at + n ≤ length held → stops ≡ mask_l (map is_stop (chunk at n held)) → 0 < stops
    → FirstStop held at n (count_trailing_zeros 64 stops)
first_stop held at n stops few room is some =
    let xs = chunk at n held in
    let size : length xs ≡ n = length-chunk at n held room in
    let some_here : 0 < mask_l (map is_stop xs) = omega (arith, is, some) in
    let rest = count_trailing_zeros 64 stops in
    let counted : rest ≡ prefix_len (λ x. not (is_stop x)) xs = grind (arith, nat_tests, trailing_mask_l) in
    let near : rest < n = omega (arith, counted, stop_within xs some_here, size) in
    record {
      near = near;
      free = ap (λ (ys : List ℕ). mask_l (map is_stop ys)) (sym (front_of_front rest n (drop at held) (omega (arith, near)))) ∙ no_stop xs rest counted;
    }

unset_behind : (b : ℕ) (xs : List ℕ) → (9 == b) ≡ false → bits_of b xs ≡ 0 → bits_of b (xs ++ 9 ∷ []) ≡ 0
unset_behind b [] other h = unset (9 == b) 0 other refl
unset_behind b (x ∷ xs) other h =
    let here = not_set (x == b) (bits_of b xs) h in
    unset (x == b) (bits_of b (xs ++ 9 ∷ [])) here.0 (unset_behind b xs other here.1)

no_bang : (xs : List ℕ) → bits_of 33 xs ≡ 0 → is_comment xs ≡ false
no_bang = grind (arith, nat_tests)

no_head : (h : Bool) → has_mark h (9 ∷ []) ≡ false → h ≡ false
no_head = grind (arith, nat_tests)

-- Plain data, by the bits of where its tokens end

-- no byte of it seldom stands in data, and no token that begins in it shows another kind
pub plain_by_marks : (text : List ℕ) → mask_l (map is_rare text) ≡ 0 → has_mark true (text ++ 9 ∷ []) ≡ false → IsPlain text
plain_by_marks text free none_marked =
    let none = none_rare text free in
    let clear : (has_mark true text || has_mark (head_after true text) (9 ∷ [])) ≡ false = sym (mark_append true text (9 ∷ [])) ∙ none_marked in
    record {
      unbroken = sym (any_bit 13 text) ∙ ap (λ n. not (n == 0)) none.returns;
      spined = no_bang text none.bangs;
      lawful = plain_data text (or_left _ _ clear) (no_head (head_after true text) (or_right _ _ clear));
    }

-- by the bits of a text, where those that may begin a token have none in common with those of marks
pub unmarked_by : (head : Bool) (xs : List ℕ) → bit_and (cond head 1 0 + 2 * bits_of 9 xs) (bits_of 9 xs) ≡ 0
    → bits_of 33 xs ≡ 0 → bits_of 42 xs ≡ 0 → has_mark head xs ≡ false
unmarked_by head xs apart bangs stars =
    let heads = mask_l (head ∷ map (λ x. x == 9) xs) in
    no_marks head xs apart (ap (bit_and heads) bangs ∙ and_zero_r heads) (ap (bit_and heads) stars ∙ and_zero_r heads)

pub near_ends : (held : List ℕ) (len size ends : ℕ) → EndsLine held 0 1 len size ends → HasEnds (take len held) ends
near_ends held len size ends line =
    let text = take len held in
    let place : len ≡ line.rest = omega (arith, line.place) in
    let same : take line.rest held ≡ text = ap (λ n. take n held) (sym place) in
    let rare_none : mask_l (map is_rare text) ≡ 0 = rare_free text (ap (λ (xs : List ℕ). mask_l (map is_stop xs)) (sym same) ∙ line.free) in
    let bits : ends ≡ bits_of 9 (text ++ 9 ∷ []) = line.bits ∙ ap (λ (xs : List ℕ). bits_of 9 (xs ++ 9 ∷ [])) same in
    let none = none_rare text rare_none in
    let apart = ap (λ n. bit_and (1 + 2 * n) n) (sym bits) ∙ line.apart in
    record {
      plain = plain_by_marks text rare_none (unmarked_by true (text ++ 9 ∷ []) apart
          (unset_behind 33 text refl none.bangs) (unset_behind 42 text refl none.stars));
      bits = bits;
    }

pub near_free : (held : List ℕ) (len size ends : ℕ) → EndsLine held 0 1 len size ends → mask_l (map is_stop (take len held)) ≡ 0
near_free = grind (arith, nat_tests)

pub plain_fields : (text ends : List ℕ) → length text ≤ 1048576 → has_byte 10 text ≡ false → HasPlaces text ends → AreFields text ends
plain_fields text ends few line is =
    spined_fields text ends Values few line is.plain.unbroken is.plain.spined is.plain.lawful is.cut

-- where the tabs stand, and one behind the text, its tokens end
pub tabs_cut : (text : List ℕ) → tabs_from 0 (text ++ 9 ∷ []) ≡ ends_from 0 (parts text)
tabs_cut text = tabs_append 0 text (9 ∷ []) ∙ sym (ends_tabs 0 text)

pub short_places : (text all : List ℕ) (ends : ℕ) → length text ≤ 63 → HasEnds text ends → all ≡ set_places 64 0 ends → HasPlaces text all
short_places = grind (arith, nat_tests, length-append, set_tabs, tabs_cut)

-- what a text's record says again
text_known : (row : Row) (text : List ℕ) → IsTextOf row text → text_of row ≡ text
text_known = grind (arith, nat_tests)

pub plain_reads : (text : List ℕ) → IsPlain text → reading text ≡ Ok (row_in text)
plain_reads text plain = reads_row text _ (reads_spined text Values plain.unbroken plain.spined plain.lawful)

plain_kind : (text : List ℕ) → IsPlain text → kind_of (row_in text) ≡ AnyValues
plain_kind text plain =
    ap kind_of (row_read text (Spined Values (parts text)) (reads_spined text Values plain.unbroken plain.spined plain.lawful))

-- a line of plain data is read as its record
pub line_read : (held ends : List ℕ) (len : ℕ) → IsLine held len → len ≤ 1048576 → HasPlaces (take len held) ends
    → AreFields (take len held) ends × IsRead held (row_in (take len held))
line_read held ends len line few is =
    let text = take len held in
    let known = line_text held len line in
    let fields = plain_fields text ends (omega (arith, known.1, few)) known.0 is in
    let same : text_of (row_in text) ≡ text = text_known (row_in text) text fields.lawful in
    let size : length (text_of (row_in text)) ≡ len = ap length same ∙ known.1 in (
      fields,
      record {
        line = subst (IsLine held) (sym size) line;
        text = ap (λ n. take n held) size ∙ sym same;
        read = ap reading same ∙ plain_reads text is.plain;
        lawful = subst (IsTextOf (row_in text)) (sym same) fields.lawful;
        kind = plain_kind text is.plain;
      },
    )

-- and with its line end it has so many bytes
pub line_read_to : (held ends : List ℕ) (len lf size : ℕ) → mask_l (map is_stop (take len held)) ≡ 0 → IsBehind held len lf → size ≡ lf + 1
    → len ≤ 1048576 → HasPlaces (take len held) ends → IsReadTo held (row_in (take len held)) size
line_read_to held ends len lf size free behind whole few is =
    let text = take len held in
    let line = front_line held len lf free behind in
    let known = line_text held len line in
    let fields = plain_fields text ends (omega (arith, known.1, few)) known.0 is in
    let count : length (text_of (row_in text)) ≡ len = ap length (text_known (row_in text) text fields.lawful) ∙ known.1 in
    let read = (line_read held ends len line few is).1 in
    record {
      read = record {
        line = record {
          lf = lf;
          first = front_lf held len lf free behind;
          text = subst (λ n. (lf ≡ n) ⊎ ((lf ≡ n + 1) × (get_or held n 0 ≡ 13))) (sym count) behind.2;
        };
        text = read.text;
        read = read.read;
        lawful = read.lawful;
        kind = read.kind;
      };
      whole = whole;
    }
