-- What is transposed lasts as long as before.
use Rattle.std.proofs.lemmas.Bool.Decides.{nat_tests}
use Rattle.std.proofs.Common.{◌≡◌, refl, sym, ap, ◌∙◌, ℕ, ◌+◌, ◌<◌, ℤ, Bool, arith}
use Rattle.std.proofs.Common.{false, List, [], ◌++◌, length, take, drop, Option, None, Some, subst}
use Rattle.std.specs.Prelude.{Result, Ok, Err, not, if◌then◌else◌}
use lib.Chars.{codes}
use Rattle.hum_pitch.specs.Pitch.{Spelled, IsPitch, away}
use Rattle.hum_pitch.specs.Spelling.{spelling}
use Rattle.hum_pitch.proofs.Steps.{away_is}
use Rattle.hum_kern.specs.declared.KernFault.{KernFault}
use Rattle.hum_kern.specs.declared.Length.{Length}
use Rattle.hum_kern.specs.Duration.{duration}
use Rattle.hum_kern.specs.Lasting.{Lasting, lasting_in, lasting}
use Rattle.hum_kern.specs.Note.{Reading, note, is_rest}
use Rattle.hum_kern.proofs.Found.{found_in, placed_there}
use Rattle.hum_kern.proofs.Lasting.{keeps_there}
use Rattle.hum_stage.specs.declared.faults.Rule.{Rule}
use Rattle.hum_stage.specs.declared.faults.Rule.TheVariants.{TR1, TR2}
use Rattle.hum_tones.specs.Faults.{rule_of}
use Rattle.hum_tones.specs.Recip.{by_length, recip_of}
use Rattle.hum_tones.specs.Trans.{is_alteration, is_octave, if_spelled, put, moved, moved_as_read, transposed_part}
use Rattle.hum_laws.proofs.Undone.{octave_within, alteration_within}

-- recip says how long a part lasts, and whether it is a rest
abbrev by_lasting : Result (Option Lasting) KernFault → Bool → Result (Option (List ℕ)) Rule
by_lasting (Ok (Some l)) rest = Ok (Some (l.text ++ (if rest then codes "r" else [])))
by_lasting (Ok None) rest = Ok (if rest then Some (codes "r") else None)
by_lasting (Err fault) rest = Err (rule_of fault)

recip_is : (part : List ℕ) → recip_of part ≡ by_lasting (lasting part) (is_rest part)
recip_is part = go (duration part)
  where
    go : (r : Result Length KernFault) → by_length r part ≡ by_lasting (lasting_in part r) (is_rest part)
    go = grind (arith, nat_tests)

lasts_there : (n m : ℤ) (part text : List ℕ) (found : Reading) (p : Spelled) → Ok found ≡ note part → found.pitch ≡ Some p
    → (q : Spelled) → q ≡ away n m p
    → put part found (if_spelled q) ≡ Ok (Some text) → recip_of part ≡ recip_of text
lasts_there n m part text found p read there q is e = go (is_alteration q.alteration) refl (is_octave q.octave) refl e
  where
    step_of : q.step < 7
    step_of = subst (λ (x : Spelled). x.step < 7) (sym is) (away_is n m p).step

    made : IsPitch q.step q.octave q.alteration → take found.start part ++ (spelling q ++ drop found.end part) ≡ text → recip_of part ≡ recip_of text
    made range same =
        let new : List ℕ = take found.start part ++ (spelling q ++ drop found.end part) in
        let again = placed_there part found p read there q range in
        let old : is_rest part ≡ false = (found_in part found p read there).no_rest in
        let still : is_rest new ≡ false =
        (found_in new (record found { pitch = Some q; end = found.start + length (spelling q) }) q (sym again) refl).no_rest in
        recip_is part
        ∙ ap (by_lasting (lasting part)) (old ∙ sym still)
        ∙ ap (λ (l : Result (Option Lasting) KernFault). by_lasting l (is_rest new)) (sym (keeps_there part found p read there q range))
        ∙ sym (recip_is new)
        ∙ ap recip_of same

    go : (a : Bool) → is_alteration q.alteration ≡ a → (b : Bool) → is_octave q.octave ≡ b
        → put part found (if not a then Err TR1 else if not b then Err TR2 else Ok q) ≡ Ok (Some text) → recip_of part ≡ recip_of text
    go = grind (arith, nat_tests, made, step_of, octave_within, alteration_within)

-- A part that is transposed has its duration.
pub lasts : (n m : ℤ) (part text : List ℕ) → transposed_part n m part ≡ Ok (Some text) → recip_of part ≡ recip_of text
lasts n m part text e = go (note part) refl e
  where
    there : (found : Reading) → note part ≡ Ok found → (o : Option Spelled) → found.pitch ≡ o → moved n m part found o ≡ Ok (Some text)
        → recip_of part ≡ recip_of text
    there found read None is e = let same : part ≡ text = cc in ap recip_of same
    there found read (Some p) is e = lasts_there n m part text found p (sym read) is (away n m p) refl e

    go : (r : Result Reading KernFault) → note part ≡ r → moved_as_read n m part r ≡ Ok (Some text) → recip_of part ≡ recip_of text
    go = grind (arith, nat_tests, there)
