-- A transposition is undone by the opposite one.
use Rattle.std.proofs.lemmas.Grind.{common_steps}
use Rattle.std.proofs.Common.{◌≡◌, refl, sym, ap, ◌∙◌, ℕ, ◌+◌, ◌<◌, ℤ, pos, ◌+ℤ◌, Bool, true}
use Rattle.std.proofs.Common.{List, ◌++◌, append_assoc, length, length-append, take, drop}
use Rattle.std.proofs.Common.{arith, Option, None, Some, subst}
use Rattle.std.specs.Prelude.{Result, Ok, Err, neg_ℤ, not, if◌then◌else◌}
use Rattle.std.proofs.lemmas.Int.{ints}
use Rattle.std.proofs.lemmas.Bool.Decides.{nat_tests}
use Rattle.std.proofs.Math.Seq.{drop-append_seam}
use Rattle.hum_pitch.specs.Pitch.{Spelled, IsPitch, IsOctave, IsAlteration, IsAway, away, semitones}
use Rattle.hum_pitch.specs.Spelling.{spelling}
use Rattle.hum_pitch.proofs.Steps.{away_is, away_only}
use Rattle.hum_kern.specs.declared.KernFault.{KernFault}
use Rattle.hum_kern.specs.Note.{Notation, Reading, note, notation_of, pitch_of}
use Rattle.hum_kern.proofs.Found.{IsFound, found_in, before_is, placed_there}
use Rattle.hum_stage.specs.declared.faults.Rule.{Rule}
use Rattle.hum_stage.specs.declared.faults.Rule.TheVariants.{TR1, TR2}
use Rattle.std.specs.Prelude.{◌&&◌}
use Rattle.std.specs.Fmt.{signed_decimal}
use lib.Chars.{codes}
use Rattle.hum_tones.specs.Semits.{semits_of, by_reading}
use Rattle.hum_laws.specs.Shifting.{semits_higher, higher_reading, higher_pitch}
use Rattle.hum_tones.specs.Trans.{is_alteration, is_octave, if_spelled, put, moved, moved_as_read, transposed_part}

-- the opposite way leads back
back_is : (n m : ℤ) (p q : Spelled) → p.step < 7 → IsAway n m p q → IsAway (neg_ℤ n) (neg_ℤ m) q p
back_is n m p q small h = record { step = small; steps = omega (arith, ints, h.steps); width = omega (arith, ints, h.width) }

back : (n m : ℤ) (p : Spelled) → p.step < 7 → away (neg_ℤ n) (neg_ℤ m) (away n m p) ≡ p
back n m p small = sym (away_only (neg_ℤ n) (neg_ℤ m) (away n m p) p (back_is n m p (away n m p) small (away_is n m p)))

pub stay : (p : Spelled) → p.step < 7 → away (pos 0) (pos 0) p ≡ p
stay p small = sym (away_only (pos 0) (pos 0) p p (record { step = small; steps = omega (arith, ints); width = omega (arith, ints) }))

-- what is read has one of seven steps
step_in : (letters signs : List ℕ) (p : Spelled) → pitch_of letters signs ≡ Some p → p.step < 7
step_in = grind (arith, nat_tests)

pub alteration_within : (a : ℤ) → is_alteration a ≡ true → IsAlteration a
alteration_within = grind (arith, nat_tests)

pub octave_within : (o : ℤ) → is_octave o ≡ true → IsOctave o
octave_within = grind (arith, nat_tests)

-- the text before and behind a pitch that was put there
front_there : (bytes : List ℕ) (found : Reading) (p : Spelled) → IsFound bytes (notation_of bytes) found p →
    (xs : List ℕ) → take found.start (take found.start bytes ++ (xs ++ drop found.end bytes)) ≡ take found.start
    bytes
front_there = grind (arith, common_steps)

rest_there : (bytes : List ℕ) (found : Reading) (p : Spelled) → IsFound bytes (notation_of bytes) found p →
    (xs : List ℕ) → drop (found.start + length xs)
    (take found.start bytes ++ (xs ++ drop found.end bytes)) ≡ drop found.end bytes
rest_there bytes found p h xs =
    let parts : Notation = notation_of bytes in
    let start : found.start ≡ length parts.before = ap (λ (r : Reading). r.start) h.is in
    let front : take found.start bytes ≡ parts.before = ap (λ (n : ℕ). take n bytes) start ∙ before_is bytes parts h.are in
    let counted : found.start + length xs ≡ length (parts.before ++ xs) = let both = length-append parts.before xs in omega (arith, start) in
    ap (λ (ys : List ℕ). drop (found.start + length xs) (ys ++ (xs ++ drop found.end bytes))) front
    ∙ ap (λ (n : ℕ). drop n (parts.before ++ (xs ++ drop found.end bytes))) counted
    ∙ ap (drop (length (parts.before ++ xs))) (sym (append_assoc parts.before xs (drop found.end bytes)))
    ∙ drop-append_seam (parts.before ++ xs) (drop found.end bytes)

-- what is put where a pitch was put is put where the first one was
put_again : (bytes : List ℕ) (found : Reading) (p : Spelled) → IsFound bytes (notation_of bytes) found p → (q : Spelled) (r : Result Spelled Rule) →
    put (take found.start bytes ++ (spelling q ++ drop found.end bytes))
    (record found { pitch = Some q; end = found.start + length (spelling q) }) r ≡ put bytes found r
put_again bytes found p h q (Err rule) = refl
put_again bytes found p h q (Ok there) =
    let front = front_there bytes found p h (spelling q) in
    let rest = rest_there bytes found p h (spelling q) in
    ap (λ (xs : List ℕ). Ok (Some (xs ++ (spelling there ++ drop (found.start + length (spelling q))
    (take found.start bytes ++ (spelling q ++ drop found.end bytes)))))) front
    ∙ ap (λ (xs : List ℕ). Ok (Some (take found.start bytes ++ (spelling there ++ xs)))) rest

pub found_step : (bytes : List ℕ) (found : Reading) (p : Spelled) → IsFound bytes (notation_of bytes) found p → p.step < 7
found_step bytes found p h = step_in (notation_of bytes).letters (notation_of bytes).signs p h.pitch

undone_there : (n m : ℤ) (part text : List ℕ) (found : Reading) (p : Spelled) → Ok found ≡ note part → found.pitch ≡ Some p → (q : Spelled) → q ≡ away n m p
    → put part found (if_spelled q) ≡ Ok (Some text) → transposed_part (neg_ℤ n) (neg_ℤ m) text ≡ put part found (if_spelled (away (pos 0) (pos 0) p))
undone_there n m part text found p read there q is e = go (is_alteration q.alteration) refl (is_octave q.octave) refl e
  where
    h : IsFound part (notation_of part) found p
    h = found_in part found p read there

    small : p.step < 7
    small = found_step part found p h

    made : IsPitch q.step q.octave q.alteration → take found.start
        part ++ (spelling q ++ drop found.end part) ≡ text → transposed_part (neg_ℤ n) (neg_ℤ m) text ≡ put part
        found (if_spelled (away (pos 0) (pos 0) p))
    made range same =
        let new : List ℕ = take found.start part ++ (spelling q ++ drop found.end part) in
        ap (transposed_part (neg_ℤ n) (neg_ℤ m)) (sym same)
        ∙ ap (moved_as_read (neg_ℤ n) (neg_ℤ m) new) (placed_there part found p read there q range)
        ∙ ap (λ (x : Spelled). put new (record found {
          pitch = Some q;
          end =
              found.start + length (spelling q);
        }) (if_spelled x)) (ap (away (neg_ℤ n) (neg_ℤ m)) is
        ∙ back n m p small)
        ∙ put_again part found p h q (if_spelled p)
        ∙ ap (λ (x : Spelled). put part found (if_spelled x)) (sym (stay p small))

    step_of : q.step < 7
    step_of = subst (λ (x : Spelled). x.step < 7) (sym is) (away_is n m p).step

    go : (a : Bool) → is_alteration q.alteration ≡ a → (b : Bool) → is_octave q.octave ≡ b →
        put part found (if not a then Err TR1 else if not b then Err TR2 else Ok q) ≡ Ok (Some text) →
        transposed_part (neg_ℤ n) (neg_ℤ m) text ≡ put part found (if_spelled (away (pos 0) (pos 0) p))
    go = grind (arith, nat_tests, made, step_of, octave_within, alteration_within)

-- A transposition is undone by the opposite one.
pub undone : (n m : ℤ) (part text : List ℕ) → transposed_part n m part ≡ Ok (Some text) →
    transposed_part (neg_ℤ n) (neg_ℤ m) text ≡ transposed_part (pos 0) (pos 0) part
undone n m part text e = go (note part) refl e
  where
    there : (found : Reading) → note part ≡ Ok found → (o : Option Spelled) → found.pitch ≡ o →
        moved n m part found o ≡ Ok (Some text) → transposed_part (neg_ℤ n) (neg_ℤ m) text ≡ moved (pos 0)
        (pos 0) part found o
    there found read None is e = grind (arith, nat_tests)
    there found read (Some p) is e = undone_there n m part text found p (sym read) is (away n m p) refl e

    go : (r : Result Reading KernFault) → note part ≡ r → moved_as_read n m part r ≡ Ok (Some text) →
        transposed_part (neg_ℤ n) (neg_ℤ m) text ≡ transposed_part (pos 0) (pos 0) part
    go = grind (arith, nat_tests, there, pos)

shifted_there : (ties : Bool) (n m : ℤ) (part text : List ℕ) (found : Reading) (p : Spelled) →
    Ok found ≡ note part → found.pitch ≡ Some p → (q : Spelled) → q ≡ away n m p
    → put part found (if_spelled q) ≡ Ok (Some text) → semits_of ties text ≡ Ok (higher_reading m ties found)
shifted_there ties n m part text found p read there q is e = go (is_alteration q.alteration) refl (is_octave q.octave) refl e
  where
    step_of : q.step < 7
    step_of = subst (λ (x : Spelled). x.step < 7) (sym is) (away_is n m p).step

    sounds : semitones q ≡ semitones p +ℤ m
    sounds = subst (λ (x : Spelled). semitones x ≡ semitones p +ℤ m) (sym is) (away_is n m p).width

    made : IsPitch q.step q.octave q.alteration → take found.start
        part ++ (spelling q ++ drop found.end part) ≡ text → semits_of ties text ≡ Ok
        (higher_reading m ties found)
    made range same =
        ap (semits_of ties) (sym same)
        ∙ ap (by_reading ties) (placed_there part found p read there q range)
        ∙ ap (λ (z : ℤ). Ok (if found.rest then Some (codes "r") else if ties && found.continued then None else Some (signed_decimal z))) sounds
        ∙ ap (λ (o : Option Spelled). Ok (if found.rest then Some (codes "r") else higher_pitch m (ties && found.continued) o)) (sym there)

    go : (a : Bool) → is_alteration q.alteration ≡ a → (b : Bool) → is_octave q.octave ≡ b →
        put part found (if not a then Err TR1 else if not b then Err TR2 else Ok q) ≡ Ok (Some text) →
        semits_of ties text ≡ Ok (higher_reading m ties found)
    go = grind (arith, nat_tests, made, step_of, octave_within, alteration_within)

pub shifted : (ties : Bool) (n m : ℤ) (part text : List ℕ) → transposed_part n m part ≡ Ok (Some text) → semits_of ties text ≡ semits_higher m ties part
shifted ties n m part text e = go (note part) refl e
  where
    there : (found : Reading) → note part ≡ Ok found → (o : Option Spelled) → found.pitch ≡ o →
        moved n m part found o ≡ Ok (Some text) → semits_of ties text ≡ Ok (higher_reading m ties found)
    there found read None is e = grind (arith, nat_tests)
    there found read (Some p) is e = shifted_there ties n m part text found p (sym read) is (away n m p) refl e

    go : (r : Result Reading KernFault) → note part ≡ r → moved_as_read n m part r ≡ Ok (Some text) → semits_of ties text ≡ semits_higher m ties part
    go = grind (arith, nat_tests, there)

-- two ways, one after the other
both_ways : (n m k l : ℤ) (p q r : Spelled) → IsAway n m p q → IsAway k l q r → IsAway (n +ℤ k) (m +ℤ l) p r
both_ways n m k l p q r f g = record { step = g.step; steps = omega (arith, ints, f.steps, g.steps); width = omega (arith, ints, f.width, g.width) }

further : (n m k l : ℤ) (p : Spelled) → away k l (away n m p) ≡ away (n +ℤ k) (m +ℤ l) p
further n m k l p = away_only (n +ℤ k) (m +ℤ l) p (away k l (away n m p))
    (both_ways n m k l p (away n m p) (away k l (away n m p)) (away_is n m p) (away_is k l (away n m p)))

added_there : (n m k l : ℤ) (part text : List ℕ) (found : Reading) (p : Spelled) → Ok found ≡ note part → found.pitch ≡ Some p → (q : Spelled) → q ≡ away n m p
    → put part found (if_spelled q) ≡ Ok (Some text) → transposed_part k l text ≡ put part found (if_spelled (away (n +ℤ k) (m +ℤ l) p))
added_there n m k l part text found p read there q is e = go (is_alteration q.alteration) refl (is_octave q.octave) refl e
  where
    h : IsFound part (notation_of part) found p
    h = found_in part found p read there

    step_of : q.step < 7
    step_of = subst (λ (x : Spelled). x.step < 7) (sym is) (away_is n m p).step

    made : IsPitch q.step q.octave q.alteration → take found.start
        part ++ (spelling q ++ drop found.end part) ≡ text → transposed_part k l text ≡ put part found
        (if_spelled (away (n +ℤ k) (m +ℤ l) p))
    made range same =
        let new : List ℕ = take found.start part ++ (spelling q ++ drop found.end part) in
        ap (transposed_part k l) (sym same)
        ∙ ap (moved_as_read k l new) (placed_there part found p read there q range)
        ∙ ap (λ (x : Spelled). put new (record found {
          pitch = Some q;
          end =
              found.start + length (spelling q);
        }) (if_spelled x)) (ap (away k l) is ∙ further n m k l p)
        ∙ put_again part found p h q (if_spelled (away (n +ℤ k) (m +ℤ l) p))

    go : (a : Bool) → is_alteration q.alteration ≡ a → (b : Bool) → is_octave q.octave ≡ b →
        put part found (if not a then Err TR1 else if not b then Err TR2 else Ok q) ≡ Ok (Some text) →
        transposed_part k l text ≡ put part found (if_spelled (away (n +ℤ k) (m +ℤ l) p))
    go = grind (arith, nat_tests, made, step_of, octave_within, alteration_within)

-- Two transpositions are one by both together.
pub added : (n m k l : ℤ) (part text : List ℕ) → transposed_part n m part ≡ Ok (Some text) → transposed_part k l text ≡ transposed_part (n +ℤ k) (m +ℤ l) part
added n m k l part text e = go (note part) refl e
  where
    there : (found : Reading) → note part ≡ Ok found → (o : Option Spelled) → found.pitch ≡ o →
        moved n m part found o ≡ Ok (Some text) → transposed_part k l text ≡ moved (n +ℤ k) (m +ℤ l) part found
        o
    there found read None is e = grind (arith, nat_tests)
    there found read (Some p) is e = added_there n m k l part text found p (sym read) is (away n m p) refl e

    go : (r : Result Reading KernFault) → note part ≡ r → moved_as_read n m part r ≡ Ok (Some text) →
        transposed_part k l text ≡ transposed_part (n +ℤ k) (m +ℤ l) part
    go = grind (arith, nat_tests, there)
