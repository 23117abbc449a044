-- The duration of a part, as it is written, may stand in a token.
use Rattle.std.proofs.Common.{◌≡◌, ◌≢◌, refl, sym, ap, ◌∙◌, ℕ, suc, ◌+◌, ◌-◌, ◌≤◌, ◌==◌, Bool, true}
use Rattle.std.proofs.Common.{false, List, [], ◌∷◌, ◌++◌, append_assoc, length, take, drop, arith, Option, None}
use Rattle.std.proofs.Common.{Some}
use Rattle.std.specs.Prelude.{if◌then◌else◌, Ok, Err}
use Rattle.std.specs.List.{list_any, AllByRecursion}
use Rattle.std.proofs.lemmas.List.{drop_at}
use Rattle.std.proofs.lemmas.List.Folds.{list_any-append}
use Rattle.std.proofs.lemmas.Bool.{or_parts}
use Rattle.std.proofs.lemmas.Bool.Decides.{nat_tests}
use lib.Chars.{codes}
use Rattle.hum_score.specs.declared.records.SpinedKind.TheVariants.{Values}
use Rattle.hum_score.specs.Spelling.{has_byte, kind_of_token}
use Rattle.hum_score.proofs.Cases.{by_bool}
use Rattle.hum_frac.specs.Ratio.{Ratio}
use Rattle.hum_kern.specs.declared.KernFault.TheVariants.{K3}
use Rattle.hum_kern.specs.declared.Length.{Length}
use Rattle.hum_kern.specs.Classes.{is_digit, is_grace_sign}
use Rattle.hum_kern.specs.Value.{value_of}
use Rattle.hum_kern.specs.Duration.{Spelling, spelling_of, duration, said, said_of, with_dots, no_length, is_torn, is_empty, second_length}
use Rattle.hum_kern.specs.Parts.{AreParts, behind_first}
use Rattle.hum_kern.proofs.Parts.{are_parts}
use Rattle.hum_tones.specs.Subtokens.{HasAdded}
use Rattle.hum_kern.specs.Note.{is_rest}
use Rattle.hum_tones.specs.Recip.{written, rest_sign, recip_of}
use Rattle.hum_tones.proofs.Parts.{IsPart, IsPiece}

place_of : (start end : ℕ) (value : Option Ratio) (dots : ℕ) (found : Length) →
    Ok found ≡ with_dots start end value dots → (found.start ≡ start) × (end ≤ found.end)
place_of = grind (arith, nat_tests)

said_place : (parts : Spelling) (found : Length) → Ok found ≡ said parts →
    (found.start ≡ length parts.before) × (length parts.before + length parts.digits ≤ found.end)
said_place parts found e = go (is_torn parts) e
  where
    start : ℕ
    start = length parts.before

    end : ℕ
    end = length parts.before + length parts.digits + second_length parts.second

    go : (b : Bool) → Ok found ≡ (if b then Err K3 else with_dots start end (value_of parts.digits parts.second)
        (length parts.dots)) → (found.start ≡ length parts.before) × (length parts.before + length
        parts.digits ≤ found.end)
    go true e = cc
    go false e = let at = place_of start end (value_of parts.digits parts.second) (length parts.dots) found e in (at.0, let ends = at.1 in omega arith)

-- a text that begins with a digit
pub record BeginsWithDigit (text : List ℕ) : Type 0 where
  pub first : ℕ
  pub more : List ℕ
  pub is : text ≡ first ∷ more
  pub digit : is_digit first ≡ true

from_place : (before digits behind : List ℕ) (end : ℕ) → is_empty digits ≡ false →
    AllByRecursion (λ b. is_digit b ≡ true) digits → length before + length digits ≤ end
    → BeginsWithDigit (take (end - length before) (drop (length before) (before ++ (digits ++ behind))))
from_place = grind (arith, nat_tests, drop_at)

begins : (bytes : List ℕ) (parts : Spelling) (found : Length) → AreParts bytes parts →
    Ok found ≡ said_of bytes parts → found.value ≢ None → BeginsWithDigit (written found bytes)
begins bytes parts found are e some = go (list_any is_grace_sign bytes) (is_empty parts.digits) refl e
  where
    nothing : found ≡ no_length → ⊥
    nothing is = some (rw is refl)

    go : (a b : Bool) → is_empty parts.digits ≡ b →
        Ok found ≡ (if a then Ok no_length else if b then Ok no_length else said parts) →
        BeginsWithDigit (written found bytes)
    go true b h e = absurd (nothing cc)
    go false true h e = absurd (nothing cc)
    go false false h e =
        let at = said_place parts found e in
        rw (at.0, are.text) (from_place parts.before parts.digits (behind_first parts) found.end h are.digits.all_in at.1)

pub lacks_drop : (c n : ℕ) (text : List ℕ) → has_byte c text ≡ false → has_byte c (drop n text) ≡ false
lacks_drop c (suc n) (x ∷ text) h = lacks_drop c n text (or_parts (x == c) (has_byte c text) h).1
lacks_drop c n text h = grind (arith, nat_tests)

pub lacks_take : (c n : ℕ) (text : List ℕ) → has_byte c text ≡ false → has_byte c (take n text) ≡ false
lacks_take c (suc n) (x ∷ text) h = let both = or_parts (x == c) (has_byte c text) h in rw (both.0, lacks_take c n text both.1) refl
lacks_take c n text h = grind (arith, nat_tests)

lacks_rest : (c : ℕ) (part : List ℕ) → (114 == c) ≡ false → has_byte c (rest_sign part) ≡ false
lacks_rest c part apart = by_bool (is_rest part) (λ w. rw (w, apart) refl) (λ w. rw w refl)

lacks_written : (c : ℕ) (found : Length) (part : List ℕ) → (114 == c) ≡ false → has_byte c part ≡ false →
    has_byte c (written found part ++ rest_sign part) ≡ false
lacks_written = grind (arith, nat_tests, list_any-append, lacks_take, lacks_drop, lacks_rest)

digit_kind : (text more : List ℕ) → BeginsWithDigit text → (kind_of_token (text ++ more) ≡ Values) × (text ++ more ≢ [])
digit_kind = grind (arith, nat_tests)

-- the duration of a part, as it is written, with the sign of a rest
pub written_piece : (part : List ℕ) (found : Length) → Ok found ≡ duration part → found.value ≢ None → IsPart part →
    IsPiece (written found part ++ rest_sign part)
written_piece part found is some lawful = record {
  part = grind (arith, nat_tests, lacks_written);
  filled = kind.1;
  of_kind = kind.0;
}
  where
    kind : (kind_of_token (written found part ++ rest_sign part) ≡ Values) × (written found part ++ rest_sign part ≢ [])
    kind = digit_kind (written found part) (rest_sign part) (begins part (spelling_of part) found (are_parts part) is some)

pub adds_written : (part : List ℕ) (found : Length) (value : Ratio) (before after : List ℕ) → Ok found ≡ duration part → found.value ≡ Some value →
    after ≡ before ++ ((written found part ++ rest_sign part) ++ codes " ") → HasAdded (recip_of part) before after None
adds_written part found value before after is some made = rw (← is) (rw some made)

pub regrouped : (a w r s : List ℕ) → (a ++ w) ++ (r ++ s) ≡ a ++ ((w ++ r) ++ s)
regrouped a w r s = append_assoc a w (r ++ s) ∙ ap (λ (x : List ℕ). a ++ x) (sym (append_assoc w r s))
