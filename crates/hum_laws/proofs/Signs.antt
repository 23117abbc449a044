-- What a pitch that was read is written as: without the sign of a natural.
use Rattle.std.proofs.Common.{◌≡◌, refl, sym, ap, ◌∙◌, ℕ, zero, suc, ◌+◌, ◌≤◌, ℤ, pos, negsuc, ◌+ℤ◌, ◌-ℤ◌, Bool}
use Rattle.std.proofs.Common.{true, false, List, [], ◌∷◌, ◌++◌, append_assoc, length, take, drop, arith, Option}
use Rattle.std.proofs.Common.{None, Some, subst, ◌==◌, rules}
use Rattle.std.specs.Prelude.{Result, Ok, neg_ℤ, not, ◌||◌, nat_lt, filter, replicate, slice_index}
use Rattle.std.specs.List.{position, list_all, list_any, AllByRecursion}
use Rattle.std.proofs.lemmas.Int.{ints}
use Rattle.std.proofs.lemmas.Bool.{and_parts}
use Rattle.std.proofs.lemmas.Bool.Decides.{nat_tests}
use Rattle.std.proofs.lemmas.List.{length-replicate}
use Rattle.std.proofs.lemmas.List.Quantifiers.{position-Some}
use Rattle.hum_score.proofs.Cases.{by_bool}
use Rattle.hum_pitch.specs.Pitch.{Spelled, IsOctave, IsAlteration, away}
use Rattle.hum_pitch.specs.Spelling.{spelling, small_letters, capitals, letters, accidentals, read_letters, read_small, read_capitals, altered_by, natural_note}
use Rattle.hum_kern.specs.declared.KernFault.{KernFault}
use Rattle.hum_kern.specs.Classes.{is_letter, is_sign, is_natural_sign}
use Rattle.hum_kern.specs.Note.{Notation, Reading, note, notation_of, pitch_of, alteration_of, is_uniform, is_doubtful, is_excessive}
use Rattle.hum_kern.specs.NoteParts.{AreNoteParts}
use Rattle.hum_kern.proofs.Found.{found_in}
use Rattle.hum_kern.proofs.Placing.{no_more}
use Rattle.hum_tones.specs.Trans.{is_alteration, is_octave, if_spelled, put, moved, moved_as_read, transposed_part}
use Rattle.hum_laws.specs.Unsigned.{without_naturals, if_pitched, unsigned_as_read, unsigned}
use Rattle.hum_kern.proofs.Found.{before_is, left_is}
use Rattle.hum_laws.proofs.Undone.{stay, found_step, undone}

same_byte : (x b : ℕ) → (x == b) ≡ true → x ≡ b
same_byte x b h = search rules

all_same : (b : ℕ) (more : List ℕ) → list_all (λ x. x == b) more ≡ true → more ≡ replicate (length more) b
all_same b [] h = refl
all_same b (x ∷ more) h =
    let both = and_parts (x == b) (list_all (λ x. x == b) more) h in
    let is = same_byte x b both.0 in
    let rest = all_same b more both.1 in
    cc

all_repeated : (b : ℕ) (more : List ℕ) → AllByRecursion (λ (x : ℕ). (x == b) ≡ true) more → more ≡ replicate (length more) b
all_repeated b [] h = refl
all_repeated b (x ∷ more) h = grind (arith, nat_tests, all_repeated b more h.1)

-- letters that are read are written again
record Written (letter n : ℕ) (p : Spelled) : Type 0 where
  text : letters p.step (p.octave -ℤ pos 4) ≡ replicate (suc n) letter
  octave : suc n ≤ 8 → IsOctave p.octave

written : (letter n : ℕ) (q : Spelled) → read_letters letter (suc n) ≡ Some q → Written letter n q
written letter n q e = small (position (λ x. x == letter) small_letters) refl e
  where
    large : (o : Option ℕ) → position (λ x. x == letter) capitals ≡ o → read_capitals (suc n) o ≡ Some q → Written letter n q
    large None f e = cc
    large (Some k) f e =
        let found = position-Some (λ x. x == letter) capitals k 0 f in
        let is : natural_note k (pos 4 -ℤ pos (suc n)) ≡ q = cc in
        let there : slice_index capitals k ≡ letter = same_byte (slice_index capitals k) letter found.1 in
        let down : (pos 4 -ℤ pos (suc n)) -ℤ pos 4 ≡ negsuc n = omega (arith, ints) in
        rw (← is) (record {
          text = ap (letters k) down ∙ ap (replicate (suc n)) there;
          octave = λ few. (omega (arith, ints, few), omega (arith, ints, few));
        })

    small : (o : Option ℕ) → position (λ x. x == letter) small_letters ≡ o → read_small letter (suc n) o ≡ Some q → Written letter n q
    small None f e = large (position (λ x. x == letter) capitals) refl e
    small (Some k) f e =
        let found = position-Some (λ x. x == letter) small_letters k 0 f in
        let is : natural_note k (pos 3 +ℤ pos (suc n)) ≡ q = cc in
        let there : slice_index small_letters k ≡ letter = same_byte (slice_index small_letters k) letter found.1 in
        let up : (pos 3 +ℤ pos (suc n)) -ℤ pos 4 ≡ pos n = omega (arith, ints) in
        rw (← is) (record {
          text = ap (letters k) up ∙ ap (replicate (suc n)) there;
          octave = λ few. (omega (arith, ints, few), omega (arith, ints, few));
        })

-- and so are signs, but for n
record Kept (signs : List ℕ) : Type 0 where
  text : accidentals (alteration_of signs) ≡ filter (λ b. not (is_natural_sign b)) signs
  few : IsAlteration (alteration_of signs)

keep_sharps : (n : ℕ) → filter (λ b. not (is_natural_sign b)) (replicate n 35) ≡ replicate n 35
keep_sharps zero = refl
keep_sharps (suc n) = ap (λ (x : List ℕ). 35 ∷ x) (keep_sharps n)

keep_flats : (n : ℕ) → filter (λ b. not (is_natural_sign b)) (replicate n 45) ≡ replicate n 45
keep_flats zero = refl
keep_flats (suc n) = ap (λ (x : List ℕ). 45 ∷ x) (keep_flats n)

drop_naturals : (n : ℕ) → filter (λ b. not (is_natural_sign b)) (replicate n 110) ≡ []
drop_naturals zero = refl
drop_naturals (suc n) = drop_naturals n

sharps : (n : ℕ) → suc n ≤ 7 → Kept (35 ∷ replicate n 35)
sharps = grind (arith, nat_tests, length-replicate, keep_sharps, ints)

flats : (n : ℕ) → suc n ≤ 7 → Kept (45 ∷ replicate n 45)
flats = grind (arith, nat_tests, length-replicate, keep_flats, ints)

naturals : (n : ℕ) → Kept (110 ∷ replicate n 110)
naturals n = record { text = sym (drop_naturals n); few = (omega (arith, ints), omega (arith, ints)) }

kept : (signs : List ℕ) → AllByRecursion (λ (x : ℕ). is_sign x ≡ true) signs → is_uniform signs ≡ true → length signs ≤ 7 → Kept signs
kept [] all same few = record { text = refl; few = (omega (arith, ints), omega (arith, ints)) }
kept (s ∷ signs) all same few =
    let run = all_same s signs same in
    let size : suc (length signs) ≤ 7 = few in
    by_bool (s == 35) (λ w. let is = same_byte s 35 w in
    subst Kept (sym (ap (λ (x : List ℕ). s ∷ x) run ∙ ap (λ (b : ℕ). b ∷ replicate (length signs) b) is))
    (sharps (length signs) size))
    (λ no_sharp. by_bool (s == 45) (λ w. let is = same_byte s 45 w in
    subst Kept (sym (ap (λ (x : List ℕ). s ∷ x) run ∙ ap (λ (b : ℕ). b ∷ replicate (length signs) b) is))
    (flats (length signs) size))
    (λ no_flat. let w : (s == 110) ≡ true = third (s == 35) (s == 45) (s == 110) all.0 no_sharp no_flat in
    let is = same_byte s 110 w in subst Kept (sym (ap (λ (x : List ℕ). s ∷ x) run
    ∙ ap (λ (b : ℕ). b ∷ replicate (length signs) b) is)) (naturals (length signs))))
  where
    third : (a b c : Bool) → a || (b || c) ≡ true → a ≡ false → b ≡ false → c ≡ true
    third = grind (arith, nat_tests)

octave_is : (o : ℤ) → IsOctave o → is_octave o ≡ true
octave_is = grind (arith, nat_tests)

alteration_is : (a : ℤ) → IsAlteration a → is_alteration a ≡ true
alteration_is = grind (arith, nat_tests)

-- a pitch that was read, as it is written
record Rewritten (letters signs : List ℕ) (p : Spelled) : Type 0 where
  text : spelling p ≡ letters ++ filter (λ b. not (is_natural_sign b)) signs
  spelled : if_spelled p ≡ Ok p

uniform_of : (b : Bool) → not b ≡ false → b ≡ true
uniform_of = grind (arith, nat_tests)

at_most : (n m : ℕ) → nat_lt m n ≡ false → n ≤ m
at_most n m h = grind (arith, nat_tests, h)

rewritten : (b : ℕ) (more signs : List ℕ) (p : Spelled) → AllByRecursion (λ (x : ℕ). (x == b) ≡ true) more → AllByRecursion (λ (x : ℕ). is_sign x ≡ true) signs
    → is_uniform signs ≡ true → length (b ∷ more) ≤ 8 → length signs ≤ 7 → pitch_of (b ∷ more) signs ≡ Some p → Rewritten (b ∷ more) signs p
rewritten b more signs p same all uniform few modest e = go (read_letters b (length (b ∷ more))) refl e
  where
    go : (o : Option Spelled) → read_letters b (suc (length more)) ≡ o → altered_by o (Some (alteration_of signs)) ≡ Some p → Rewritten (b ∷ more) signs p
    go None f e = cc
    go (Some q) f e =
        let is : record q { alteration = alteration_of signs } ≡ p = cc in
        let w = written b (length more) q f in
        let k = kept signs all uniform modest in
        let octave = octave_is q.octave (w.octave few) in
        let altered = alteration_is (alteration_of signs) k.few in
        rw (← is) (record {
          text = grind (arith, nat_tests, all_repeated);
          spelled = rw (altered, octave) refl;
        })

by_letters : (bytes before letters signs left : List ℕ) (p : Spelled) →
    AreNoteParts bytes (record { before = before; letters = letters; signs = signs; left = left })
    → list_any is_letter left || not (is_uniform signs) ≡ false → nat_lt 8 (length letters) || nat_lt 7 (length signs) ≡ false
    → pitch_of letters signs ≡ Some p → Rewritten letters signs p
by_letters bytes before [] signs left p are clear modest e = cc
by_letters bytes before (b ∷ more) signs left p are clear modest e =
    let doubt = no_more (list_any is_letter left) (not (is_uniform signs)) clear in
    let long = no_more (nat_lt 8 (length (b ∷ more))) (nat_lt 7 (length signs)) modest in
    rewritten b more signs p are.letters.all_in are.signs.all_in (uniform_of (is_uniform signs) doubt.1)
    (at_most (length (b ∷ more)) 8 long.0) (at_most (length signs) 7 long.1) e

found_again : (parts : Notation) (bytes : List ℕ) (p : Spelled) → AreNoteParts bytes parts → is_doubtful parts ≡ false → is_excessive parts ≡ false
    → pitch_of parts.letters parts.signs ≡ Some p → Rewritten parts.letters parts.signs p
found_again parts bytes p are clear modest e = by_letters bytes parts.before parts.letters parts.signs parts.left p are clear modest e

-- what a pitch is put into where it stood
unsigned_there : (part : List ℕ) (found : Reading) (p : Spelled) → Ok found ≡ note part → found.pitch ≡ Some p
    → put part found (if_spelled (away (pos 0) (pos 0) p)) ≡ Ok (Some (without_naturals (notation_of part)))
unsigned_there part found p read there =
    let parts : Notation = notation_of part in
    let h = found_in part found p read there in
    let again = found_again parts part p h.are h.clear h.modest h.pitch in
    let start : found.start ≡ length parts.before = ap (λ (r : Reading). r.start) h.is in
    let end : found.end ≡ length parts.before + length parts.letters + length parts.signs = ap (λ (r : Reading). r.end) h.is in
    let front : take found.start part ≡ parts.before = ap (λ (n : ℕ). take n part) start ∙ before_is part parts h.are in
    let rest : drop found.end part ≡ parts.left = ap (λ (n : ℕ). drop n part) end ∙ left_is part parts h.are in
    ap (λ (x : Spelled). put part found (if_spelled x)) (stay p (found_step part found p h))
    ∙ ap (put part found) again.spelled
    ∙ ap (λ (x : List ℕ). Ok (Some (x ++ (spelling p ++ drop found.end part)))) front
    ∙ ap (λ (x : List ℕ). Ok (Some (parts.before ++ (spelling p ++ x)))) rest
    ∙ ap (λ (x : List ℕ). Ok (Some (parts.before ++ (x ++ parts.left)))) again.text
    ∙ ap (λ (x : List ℕ). Ok (Some (parts.before ++ x))) (append_assoc parts.letters (filter (λ b. not (is_natural_sign b)) parts.signs) parts.left)

not_moved : (part : List ℕ) → transposed_part (pos 0) (pos 0) part ≡ unsigned part
not_moved part = go (note part) refl
  where
    there : (found : Reading) → note part ≡ Ok found → (o : Option Spelled) → found.pitch ≡ o →
        moved (pos 0) (pos 0) part found o ≡ Ok (Some (if_pitched part o))
    there = grind (arith, nat_tests, unsigned_there)

    go : (r : Result Reading KernFault) → note part ≡ r → moved_as_read (pos 0) (pos 0) part r ≡ unsigned_as_read part r
    go = grind (arith, nat_tests, there)

-- There and back.
pub back_unsigned : (n m : ℤ) (part text : List ℕ) → transposed_part n m part ≡ Ok (Some text) → unsigned part ≡ transposed_part (neg_ℤ n) (neg_ℤ m) text
back_unsigned n m part text e = sym (undone n m part text e ∙ not_moved part)
