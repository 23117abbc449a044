-- What becomes of a part whose pitch is transposed.
use Rattle.std.proofs.lemmas.Grind.{common_steps}
use Rattle.std.proofs.lemmas.Bool.Decides.{nat_tests}
use Rattle.std.proofs.Common.{◌≡◌, refl, ap, ◌∙◌, ℕ, ℤ, pos, negsuc, true, false, List, ◌++◌, take, drop, arith, Some}
use Rattle.std.specs.Prelude.{Ok, Err}
use Rattle.hum_pitch.specs.Pitch.{Spelled, away, IsAlteration, IsOutside}
use Rattle.hum_pitch.specs.Given.{spelled}
use Rattle.hum_pitch.specs.Spelling.{spelling}
use Rattle.hum_pitch.specs.declared.pitch.Pitch.{Pitch}
use Rattle.hum_kern.specs.declared.notes.Note.{Note}
use Rattle.hum_kern.specs.Note.{reading, note}
use Rattle.hum_stage.specs.declared.faults.Rule.TheVariants.{TR1, TR2}
use Rattle.hum_tones.specs.Trans.{is_alteration, is_octave, if_spelled, put, transposed_part}

alteration_in : (z : ℤ) → IsAlteration z → is_alteration z ≡ true
alteration_in = grind (arith, nat_tests)

alteration_out : (z : ℤ) → IsOutside (negsuc 6) z (pos 7) → is_alteration z ≡ false
alteration_out = grind (arith, nat_tests)

octave_out : (z : ℤ) → IsOutside (negsuc 3) z (pos 11) → is_octave z ≡ false
octave_out = grind (arith, nat_tests)

over_seven : (there : Spelled) → IsOutside (negsuc 6) there.alteration (pos 7) → if_spelled there ≡ Err TR1
over_seven there h = rw (alteration_out there.alteration h) refl

octave_beyond : (there : Spelled) → IsAlteration there.alteration → IsOutside (negsuc 3) there.octave (pos 11) → if_spelled there ≡ Err TR2
octave_beyond there h out = rw (alteration_in there.alteration h, octave_out there.octave out) refl

-- where a pitch was read
with_pitch : (n m : ℤ) (part : List ℕ) (found : Note) (pitch : Pitch) → Ok (reading found) ≡ note part →
    found.pitch ≡ Some pitch → transposed_part n m part ≡ put part (reading found)
    (if_spelled (away n m (spelled pitch)))
with_pitch = grind (arith, nat_tests)

pub too_many_signs : (n m : ℤ) (part : List ℕ) (found : Note) (pitch : Pitch) → Ok (reading found) ≡ note part →
    found.pitch ≡ Some pitch → IsOutside (negsuc 6) (away n m (spelled pitch)).alteration (pos 7) →
    transposed_part n m part ≡ Err TR1
too_many_signs n m part found pitch read there h = with_pitch n m part found pitch read there
    ∙ ap (put part (reading found)) (over_seven (away n m (spelled pitch)) h)

pub too_far : (n m : ℤ) (part : List ℕ) (found : Note) (pitch : Pitch) → Ok (reading found) ≡ note part →
    found.pitch ≡ Some pitch → IsAlteration (away n m (spelled pitch)).alteration × IsOutside (negsuc 3)
    (away n m (spelled pitch)).octave (pos 11) → transposed_part n m part ≡ Err TR2
too_far n m part found pitch read there h = with_pitch n m part found pitch read there
    ∙ ap (put part (reading found)) (octave_beyond (away n m (spelled pitch)) h.0 h.1)

pub put_there : (n m : ℤ) (part : List ℕ) (found : Note) (pitch q : Pitch) → Ok (reading found) ≡ note part →
    found.pitch ≡ Some pitch → spelled q ≡ away n m (spelled pitch) →
    transposed_part n m part ≡ Ok (Some
    (take found.start part ++ (spelling (spelled q) ++ drop found.end part)))
put_there = grind (arith, nat_tests)

pub in_order : (t x y z a b d : List ℕ) → a ≡ t ++ x → b ≡ a ++ y → d ≡ b ++ z → d ≡ t ++ (x ++ (y ++ z))
in_order = grind (arith, common_steps)
