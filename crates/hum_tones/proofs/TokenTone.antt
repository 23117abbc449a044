-- What is heard of the first parts of a token.
use Rattle.std.proofs.lemmas.Grind.{common_steps}
use Rattle.std.proofs.lemmas.Bool.Decides.{nat_tests}
use Rattle.std.proofs.Common.{◌≡◌, refl, sym, ap, ◌∙◌, ℕ, ◌+◌, ◌<◌, ◌≤◌, Bool, true, false, List, [], ◌∷◌, ◌++◌}
use Rattle.std.proofs.Common.{length, drop, get_or, Option, None, Some, arith}
use Rattle.std.specs.Prelude.{Result, Ok, Err, ◌||◌}
use Rattle.std.specs.List.{list_any}
use Rattle.hum_kern.specs.declared.KernFault.{KernFault}
use Rattle.hum_kern.specs.Note.{Reading, note}
use Rattle.hum_kern.specs.Usual.{IsReadAlone}
use Rattle.hum_stage.specs.declared.faults.Rule.{Rule}
use Rattle.hum_tones.specs.Faults.{rule_of}
use Rattle.hum_tones.specs.Mint.{readings, told, told_of, minted, approached, readings_of, with_reading, or_tone, leading, TokenTone, heard}
use Rattle.hum_tones.specs.Mint.{remembered_of, new_pitch, pitch_in}
use Rattle.hum_tones.specs.Memory.{silence, heard_of, told_as}
use Rattle.hum_score.specs.declared.records.SpinedKind.TheVariants.{Values}
use Rattle.hum_record.specs.Contents.{is_filled, is_null, is_barline}
use Rattle.hum_score.specs.Spelling.{IsToken}
use Rattle.hum_cells.specs.Rewriting.{has_content}
use Rattle.std.specs.Prelude.{not, ◌&&◌, if◌then◌else◌}
use Rattle.std.proofs.lemmas.Bool.{and_parts}
use lib.Chars.{codes}
use Rattle.hum_pitch.specs.Pitch.{Spelled}
use Rattle.hum_pitch.specs.Given.{spelled}
use Rattle.hum_tones.specs.declared.hearing.Tone.{Tone as KeptTone}
use Rattle.hum_tones.specs.Hearing.{hearing, heard_with, heard_in, first_of}
use Rattle.hum_tones.specs.declared.hearing.TokenTone.{TokenTone as Kept}

abbrev pub onto : List Reading → Result (List Reading) Rule → Result (List Reading) Rule
onto done (Ok readings) = Ok (done ++ readings)
onto done (Err rule) = Err rule

-- so many parts have been read
pub record HeardSoFar (parts : List (List ℕ)) (n : ℕ) (kept : Kept) : Type 0 where
  pub done : List Reading
  pub is : hearing kept ≡ heard done
  pub rest : readings_of parts ≡ onto done (readings_of (drop n parts))

onto_one_more : (done : List Reading) (reading : Reading) (r : Result (List Reading) Rule) →
    onto done (with_reading (Ok reading) r) ≡ onto (done ++ reading ∷ []) r
onto_one_more = grind (arith, common_steps)

leading_one_more : (done : List Reading) (reading : Reading) → leading (done ++ reading ∷ []) ≡ first_of
    (leading done) (or_tone reading.pitch reading.continued None)
leading_one_more [] reading = refl
leading_one_more (first ∷ done) reading = grind (arith, nat_tests, leading_one_more done reading)

rest_one_more : (done : List Reading) (reading : Reading) → list_any (λ (r : Reading). r.rest)
    (done ++ reading ∷ []) ≡ (list_any (λ (r : Reading). r.rest) done || reading.rest)
rest_one_more = grind (arith, common_steps)

heard_one_more : (done : List Reading) (reading : Reading) → heard (done ++ reading ∷ []) ≡ heard_with (heard done) reading
heard_one_more = grind (arith, nat_tests, leading_one_more, rest_one_more)

module _ (parts : List (List ℕ)) (n : ℕ) (kept : Kept) (h : HeardSoFar parts n kept) where
  -- the next part
  split : (part : List ℕ) → n < length parts → part ≡ get_or parts n part →
      readings_of parts ≡ onto h.done (with_reading (note part) (readings_of (drop (n + 1) parts)))
  split part below is = grind (arith, common_steps)

  pub one_more : (part : List ℕ) (reading : Reading) (after : Kept) →
      (n < length parts) × (part ≡ get_or parts n part) → Ok reading ≡ note part →
      hearing after ≡ heard_with (hearing kept) reading → HeardSoFar parts (n + 1) after
  one_more part reading after at read more = record {
    done = h.done ++ reading ∷ [];
    is = more ∙ ap (λ (x : TokenTone). heard_with x reading) h.is ∙ sym (heard_one_more h.done reading);
    rest = split part at.0 at.1 ∙ ap (λ (r : Result Reading KernFault).
        onto h.done (with_reading r (readings_of (drop (n + 1) parts)))) (sym read)
        ∙ onto_one_more h.done reading (readings_of (drop (n + 1) parts));
  }

  pub refused : (part : List ℕ) (fault : KernFault) → (n < length parts) × (part ≡ get_or parts n part) →
      Err fault ≡ note part → readings_of parts ≡ Err (rule_of fault)
  refused part fault at read = grind (arith, common_steps)

  pub all_heard : length parts ≤ n → Ok (hearing kept) ≡ heard_in (readings_of parts)
  all_heard = grind (arith, common_steps)

-- a token of one part
pub one_heard : (token : List ℕ) (reading : Reading) (kept : Kept) → IsReadAlone token reading → hearing kept ≡ heard_with silence reading
    → Ok (hearing kept) ≡ heard_in (readings token)
one_heard = grind (arith, nat_tests)

-- a token with a note that begins anew
pub told_anew : (signless sizeonly : Bool) (before : Option Spelled) (r : Result TokenTone Rule) (kept : Kept) (tone : KeptTone)
    → Ok (hearing kept) ≡ r → kept.tone ≡ Some tone → tone.continued ≡ false
    → told_as signless sizeonly before r ≡ Ok (approached signless sizeonly before (spelled tone.pitch))
told_anew = grind (arith, nat_tests)

-- a token with a note whose tie goes on, and one without a note
pub told_on : (signless sizeonly : Bool) (before : Option Spelled) (r : Result TokenTone Rule) (kept : Kept) (tone : KeptTone)
    → Ok (hearing kept) ≡ r → kept.tone ≡ Some tone → tone.continued ≡ true → told_as signless sizeonly before r ≡ Ok (codes ".")
told_on = grind (arith, nat_tests)

pub told_still : (signless sizeonly : Bool) (before : Option Spelled) (r : Result TokenTone Rule) (kept : Kept)
    → Ok (hearing kept) ≡ r → kept.tone ≡ None → told_as signless sizeonly before r ≡ Ok (if kept.rest then codes "r" else codes ".")
told_still = grind (arith, nat_tests)

-- what is remembered of a cell, by what is heard of it
abbrev pub pitch_heard : Result TokenTone Rule → Option Spelled
pitch_heard (Ok heard) = new_pitch heard.tone
pitch_heard (Err rule) = None

pub remembered_is : (token : List ℕ) → pitch_heard (heard_of token) ≡ remembered_of token
remembered_is token = go (is_filled token && not (is_barline token)) (readings token)
  where
    go : (b : Bool) (r : Result (List Reading) Rule) → pitch_heard (if b then heard_in r else Ok silence) ≡ (if b then pitch_in r else None)
    go = grind (arith, nat_tests)

-- what a data token becomes, by what is heard of it
pub told_is : (signless sizeonly : Bool) (before : Option Spelled) (token : List ℕ) → IsToken Values token → has_content token ≡ true
    → told_as signless sizeonly before (heard_of token) ≡ minted signless sizeonly before token
told_is signless sizeonly before token lawful told =
    let both = and_parts (not (is_null token)) (not (is_barline token)) told in
    let all : (is_filled token && not (is_barline token)) ≡ true = rw (lawful.of_kind, both.0, both.1) refl in
    rw all (go (readings token))
  where
    go : (r : Result (List Reading) Rule) → told_as signless sizeonly before (heard_in r) ≡ told_of signless sizeonly before r
    go = grind (arith, nat_tests)
