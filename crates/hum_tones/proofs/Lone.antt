-- Tokens of one part become what that gives.
use Rattle.std.proofs.lemmas.Grind.{common_steps}
use Rattle.std.proofs.lemmas.Bool.Decides.{nat_tests}
use Rattle.std.proofs.Common.{arith}
use Rattle.std.proofs.Common.{◌≡◌, refl, Bool, List, ℕ, [], ◌∷◌, ◌++◌, Option, None, Some}
use Rattle.std.specs.Prelude.{Result, Ok, Err}
use lib.Chars.{codes}
use Rattle.hum_kern.specs.declared.notes.Note.{Note}
use Rattle.hum_kern.specs.Note.{Reading, reading, note}
use Rattle.hum_kern.specs.Usual.{IsReadAlone, IsLastingText}
use Rattle.hum_stage.specs.declared.faults.Rule.{Rule}
use Rattle.hum_tones.specs.declared.part_rule.PartRule.TheVariants.{Semitones, Durations, Transposed}
use Rattle.hum_tones.specs.Subtokens.{subtokens, lone_text, HasPut, HasAdded}
use Rattle.hum_tones.specs.Semits.{of_reading}
use Rattle.hum_tones.specs.Trans.{transposed_part}
use Rattle.hum_choices.specs.declared.trans.TransOptions.{TransOptions}
use Rattle.hum_tones.specs.PartRule.{given}

pub semits_lone : (ties : Bool) (token : List ℕ) (reading : Reading) → IsReadAlone token reading
    → given (Semitones ties) token ≡ Ok (lone_text (of_reading ties reading))
semits_lone = grind (arith, nat_tests)

pub recip_lone : (token text : List ℕ) → IsLastingText token text → given Durations token ≡ Ok text
recip_lone = grind (arith, nat_tests)

pub trans_lone : (way : TransOptions) (token text : List ℕ) → subtokens token ≡ token ∷ []
    → HasPut (transposed_part way.steps way.semitones token) [] text None → given (Transposed way) token ≡ Ok text
trans_lone way token text alone put = go (transposed_part way.steps way.semitones token) refl put
  where
    go : (r : Result (Option (List ℕ)) Rule) → transposed_part way.steps way.semitones token ≡ r → HasPut r [] text None
        → given (Transposed way) token ≡ Ok text
    go = grind (arith, nat_tests)

-- a token of one part without a pitch stays
pub trans_stays : (way : TransOptions) (token : List ℕ) (found : Note) → Ok (reading found) ≡ note token → subtokens token ≡ token ∷ []
    → found.pitch ≡ None → given (Transposed way) token ≡ Ok token
trans_stays = grind (arith, nat_tests)

-- a part with a space behind it
pub spaced : (given : Result (Option (List ℕ)) Rule) (before middle after : List ℕ) → HasPut given before middle None
    → after ≡ middle ++ codes " " → HasAdded given before after None
spaced = grind (arith, common_steps)

pub refused_on : (given : Result (Option (List ℕ)) Rule) (before after after' : List ℕ) (rule : Rule) → HasPut given before after (Some rule)
    → HasAdded given before after' (Some rule)
refused_on = grind (arith, nat_tests)
