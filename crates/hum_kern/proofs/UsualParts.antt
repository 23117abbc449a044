-- Subtokens as most are.
use Rattle.std.proofs.lemmas.Grind.{common_steps}
use Rattle.std.proofs.lemmas.Bool.Decides.{nat_tests}
use Rattle.std.proofs.Common.{◌≡◌, ℕ, ℤ, zero, suc, ◌+◌, ◌==◌, ◌<◌, ◌≤◌, Bool, true, false, List, [], ◌∷◌, ◌++◌}
use Rattle.std.proofs.Common.{Option, Some, None, Ok, length, take, drop, refl, sym, ap, ◌∙◌, arith, subst, slice_index_or}
use Rattle.std.specs.Prelude.{◌||◌, not, if◌then◌else◌}
use Rattle.std.specs.List.{list_any, AllByRecursion}
use Rattle.std.proofs.lemmas.List.Folds.{list_any-append}
use Rattle.std.proofs.lemmas.List.{take-append-drop, length-take-le}
use Rattle.hum_pitch.specs.Pitch.{Spelled}
use Rattle.hum_pitch.specs.Spelling.{read_letters, natural_note, altered_by}
use Rattle.hum_kern.specs.declared.runs.Class.TheVariants.{NoLetter, Repeat, Sign, Plain}
use Rattle.hum_kern.specs.Runs.{front, behind}
use Rattle.hum_kern.specs.Classes.{is_in, is_letter, is_sign, is_mark, is_rest_sign, is_grace_sign, is_continued_sign, is_space, is_plain}
use Rattle.hum_kern.specs.Parts.{IsMaximal, EndsBefore}
use Rattle.hum_kern.specs.Note.{Notation, Reading, is_uniform, alteration_of, pitch_of, is_doubtful, is_excessive, is_rest, marks_of, with_pitch, note_by, note}
use Rattle.hum_kern.specs.NoteParts.{AreNoteParts}
use Rattle.hum_kern.specs.Subtokens.{subtokens}
use Rattle.hum_kern.specs.Usual.{tie_at_end, IsReadAlone}
use Rattle.hum_kern.proofs.Notations.{one_notation}
use Rattle.hum_kern.proofs.Parts.{run_maximal, front-behind}
use Rattle.hum_kern.proofs.Placing.{no_more, off, neither, not_of, otherwise, not_over, same_marks, rest_letter, rest_sign, grace_letter, grace_sign, continued_letter, continued_sign}

-- which bytes from k on are plain
abbrev pub plain_from : ℕ → ℕ → List Bool
plain_from k zero = []
plain_from k (suc n) = is_plain k ∷ plain_from (suc k) n

at_plain : (n k i : ℕ) (default : Bool) → i < n → slice_index_or (plain_from k n) i default ≡ is_plain (k + i)
at_plain zero k i default below = absurd (omega (arith, below))
at_plain (suc n) k zero default below = let same : k ≡ k + 0 = omega arith in ap is_plain same
at_plain (suc n) k (suc i) default below =
    let same : suc k + i ≡ k + suc i = omega arith in at_plain n (suc k) i default (omega (arith, below)) ∙ ap is_plain same

-- the table of all bytes
pub plain_at : (b : ℕ) → b < 256 → slice_index_or (plain_from 0 256) b false ≡ is_plain b
plain_at b below = let same : 0 + b ≡ b = omega arith in at_plain 256 0 b false below ∙ ap is_plain same

-- what a plain byte is not
record IsPlainByte (b : ℕ) : Type 0 where
  letter : is_letter b ≡ false
  sign : is_sign b ≡ false
  mark : is_mark b ≡ false
  space : is_space b ≡ false

plain_parts : (b : ℕ) → is_plain b ≡ true → IsPlainByte b
plain_parts b h =
    let letter = no_more (is_letter b) (is_sign b || (is_mark b || is_space b)) (is_not _ h) in
    let sign = no_more (is_sign b) (is_mark b || is_space b) letter.1 in
    let mark = no_more (is_mark b) (is_space b) sign.1 in
    record { letter = letter.0; sign = sign.0; mark = mark.0; space = mark.1 }
  where
    is_not : (x : Bool) → not x ≡ true → x ≡ false
    is_not = grind (arith, nat_tests)

plain_letter : (b : ℕ) → is_plain b ≡ true → is_letter b ≡ false
plain_letter b h = (plain_parts b h).letter

plain_sign : (b : ℕ) → is_plain b ≡ true → is_sign b ≡ false
plain_sign b h = (plain_parts b h).sign

plain_mark : (b : ℕ) → is_plain b ≡ true → is_mark b ≡ false
plain_mark b h = (plain_parts b h).mark

plain_space : (b : ℕ) → is_plain b ≡ true → is_space b ≡ false
plain_space b h = (plain_parts b h).space

plain_rest : (b : ℕ) → is_plain b ≡ true → is_rest_sign b ≡ false
plain_rest b h = (no_more (is_rest_sign b) (is_grace_sign b || is_continued_sign b) (plain_mark b h)).0

plain_grace : (b : ℕ) → is_plain b ≡ true → is_grace_sign b ≡ false
plain_grace = grind (arith, nat_tests)

plain_continued : (b : ℕ) → is_plain b ≡ true → is_continued_sign b ≡ false
plain_continued = grind (arith, nat_tests)

space_letter : (b : ℕ) → is_letter b ≡ true → is_space b ≡ false
space_letter b h = grind arith

space_sign : (b : ℕ) → is_sign b ≡ true → is_space b ≡ false
space_sign b h = grind arith

-- a text without spaces is one subtoken
one_part : (bytes : List ℕ) → list_any is_space bytes ≡ false → subtokens bytes ≡ bytes ∷ []
one_part [] none = refl
one_part (b ∷ bytes) none = grind (arith, nat_tests, one_part bytes)

-- what is known of the last byte, if it is at most a tie's mark
record IsTieAtEnd (last : List ℕ) (continued : Bool) : Type 0 where
  no_rest : list_any is_rest_sign last ≡ false
  no_grace : list_any is_grace_sign last ≡ false
  held : list_any is_continued_sign last ≡ continued
  no_letter : list_any is_letter last ≡ false
  no_space : list_any is_space last ≡ false
  no_sign : EndsBefore Sign last

tie : (b : ℕ) → is_continued_sign b ≡ true → IsTieAtEnd (b ∷ []) true
tie b h = go (b == 95) refl h
  where
    go : (x : Bool) → (b == 95) ≡ x → (x || (b == 93)) ≡ true → IsTieAtEnd (b ∷ []) true
    go true e w = grind (arith, nat_tests)
    go false e w = grind (arith, nat_tests)

tied : (last : List ℕ) (continued : Bool) → Some continued ≡ tie_at_end last → IsTieAtEnd last continued
tied [] continued h = grind (arith, nat_tests)
tied (b ∷ []) continued h = go (is_continued_sign b) refl h
  where
    go : (x : Bool) → is_continued_sign b ≡ x → Some continued ≡ (if x then Some true else None) → IsTieAtEnd (b ∷ []) continued
    go true e w = let is : continued ≡ true = cc in rw is (tie b e)
    go false e w = cc
tied (b ∷ c ∷ bytes) continued h = cc

-- what is said of four pieces of a text by a test that neither plain bytes nor letters nor signs pass
none_but_last : (test : ℕ → Bool) → ((b : ℕ) → is_plain b ≡ true → test b ≡ false) → ((b : ℕ) → is_letter b ≡ true → test b ≡ false)
    → ((b : ℕ) → is_sign b ≡ true → test b ≡ false) → (before letters signs plain last : List ℕ)
    → AllByRecursion (λ b. is_plain b ≡ true) before → AllByRecursion (λ b. is_letter b ≡ true) letters
    → AllByRecursion (λ b. is_sign b ≡ true) signs → AllByRecursion (λ b. is_plain b ≡ true) plain
    → list_any test (before ++ (letters ++ (signs ++ (plain ++ last)))) ≡ list_any test last
none_but_last test f g h before letters signs plain last p q r s =
    rw (
      list_any-append test before (letters ++ (signs ++ (plain ++ last))),
      list_any-append test letters (signs ++ (plain ++ last)),
      list_any-append test signs (plain ++ last),
      list_any-append test plain last,
      off test is_plain f before p,
      off test is_letter g letters q,
      off test is_sign h signs r,
      off test is_plain f plain s,
    ) refl

no_letters : (before : List ℕ) → AllByRecursion (λ b. is_plain b ≡ true) before → AllByRecursion (λ b. is_in NoLetter b ≡ true) before
no_letters [] all = tt
no_letters (b ∷ before) all = (rw (plain_letter b all.0) refl, no_letters before all.1)

repeats : (letter : ℕ) (more : List ℕ) → is_letter letter ≡ true → AllByRecursion (λ b. is_in (Repeat letter) b ≡ true) more
    → AllByRecursion (λ b. is_letter b ≡ true) more
repeats letter [] h all = tt
repeats letter (b ∷ more) h all = grind (arith, nat_tests, repeats letter more h all.1)

ends_signs : (plain last : List ℕ) → AllByRecursion (λ b. is_plain b ≡ true) plain → EndsBefore Sign last → EndsBefore Sign (plain ++ last)
ends_signs [] last all h = h
ends_signs (b ∷ plain) last all h = plain_sign b all.0

uniform : (signs : List ℕ) → length signs ≤ 1 → is_uniform signs ≡ true
uniform = grind (arith, common_steps)

-- what is known of the pieces of such a text
pub record IsUsual (before : List ℕ) (letter : ℕ) (more signs plain last : List ℕ) (continued : Bool) : Type 0 where
  pub plain_before : AllByRecursion (λ b. is_plain b ≡ true) before
  pub letter_is : is_letter letter ≡ true
  pub repeated : IsMaximal (Repeat letter) more (signs ++ (plain ++ last))
  pub signs_are : AllByRecursion (λ b. is_sign b ≡ true) signs
  pub one_sign : length signs ≤ 1
  pub plain_behind : AllByRecursion (λ b. is_plain b ≡ true) plain
  pub tie : Some continued ≡ tie_at_end last
  pub few : length more ≤ 7

pub usual_note : (before : List ℕ) (letter : ℕ) (more signs plain last : List ℕ) (continued : Bool)
    → IsUsual before letter more signs plain last continued
    → note (before ++ ((letter ∷ more) ++ (signs ++ (plain ++ last)))) ≡ Ok (record {
      pitch = pitch_of (letter ∷ more) signs;
      start = length before;
      end = length before + length (letter ∷ more) + length signs;
      rest = false;
      grace = false;
      continued = continued;
    })
usual_note before letter more signs plain last continued h =
    let end = tied last continued h.tie in
    let letters : AllByRecursion (λ b. is_letter b ≡ true) (letter ∷ more) = (h.letter_is, repeats letter more h.letter_is h.repeated.all_in) in
    let text : List ℕ = before ++ ((letter ∷ more) ++ (signs ++ (plain ++ last))) in
    let parts : Notation = record { before = before; letters = letter ∷ more; signs = signs; left = plain ++ last } in
    let are : AreNoteParts text parts = grind (arith, nat_tests, no_letters, not_of, ends_signs) in
    let rest : is_rest text ≡ false =
    none_but_last is_rest_sign plain_rest rest_letter rest_sign before (letter ∷ more) signs plain last h.plain_before letters h.signs_are h.plain_behind
    ∙ end.no_rest in
    let grace : list_any is_grace_sign text ≡ false =
    none_but_last is_grace_sign plain_grace grace_letter grace_sign before (letter ∷ more) signs plain last h.plain_before letters h.signs_are h.plain_behind
    ∙ end.no_grace in
    let held : list_any is_continued_sign text ≡ continued =
    none_but_last is_continued_sign plain_continued continued_letter continued_sign before (letter ∷ more) signs plain last h.plain_before letters h.signs_are h.plain_behind
    ∙ end.held in
    let clear : list_any is_letter (plain ++ last) ≡ false =
    rw (list_any-append is_letter plain last, off is_letter is_plain plain_letter plain h.plain_behind) end.no_letter in
    let few = h.few in
    let one = h.one_sign in
    let letters_few : length (letter ∷ more) ≤ 8 = omega (arith, few) in
    let doubtful : is_doubtful parts ≡ false = grind (arith, nat_tests, neither, not_of, uniform) in
    let excessive : is_excessive parts ≡ false = grind (arith, nat_tests, neither, not_over) in
    ap (note_by text) (one_notation text parts are)
    ∙ otherwise (is_rest text) (Ok (marks_of text)) _ rest
    ∙ otherwise (is_doubtful parts) _ _ doubtful
    ∙ otherwise (is_excessive parts) _ _ excessive
    ∙ ap (λ (m : Reading). Ok (with_pitch m (pitch_of (letter ∷ more) signs) (length before)
    (length before + length (letter ∷ more) + length signs))) (same_marks rest grace held)

-- such a text is one subtoken
pub usual_alone : (before : List ℕ) (letter : ℕ) (more signs plain last : List ℕ) (continued : Bool)
    → IsUsual before letter more signs plain last continued
    → subtokens (before ++ ((letter ∷ more) ++ (signs ++ (plain ++ last))))
    ≡ (before ++ ((letter ∷ more) ++ (signs ++ (plain ++ last)))) ∷ []
usual_alone before letter more signs plain last continued h =
    let letters : AllByRecursion (λ b. is_letter b ≡ true) (letter ∷ more) = (h.letter_is, repeats letter more h.letter_is h.repeated.all_in) in
    one_part _
    (none_but_last is_space plain_space space_letter space_sign before (letter ∷ more) signs plain last h.plain_before letters h.signs_are h.plain_behind
    ∙ (tied last continued h.tie).no_space)

-- what is read of it
abbrev usual_reading : List ℕ → ℕ → List ℕ → List ℕ → Bool → Reading
usual_reading before letter more signs continued = record {
  pitch = pitch_of (letter ∷ more) signs;
  start = length before;
  end = length before + length (letter ∷ more) + length signs;
  rest = false;
  grace = false;
  continued = continued;
}

-- the pieces that such a text is cut into
pub usual_read : (before : List ℕ) (letter : ℕ) (rest more next : List ℕ) (signs : ℕ) (plain last : List ℕ) (continued : Bool)
    → AllByRecursion (λ b. is_plain b ≡ true) before → is_letter letter ≡ true
    → more ≡ front (is_in (Repeat letter)) rest → next ≡ behind (is_in (Repeat letter)) rest
    → signs ≤ length next → AllByRecursion (λ b. is_sign b ≡ true) (take signs next) → signs ≤ 1
    → plain ≡ front (is_in Plain) (drop signs next) → last ≡ behind (is_in Plain) (drop signs next)
    → Some continued ≡ tie_at_end last → length more ≤ 7
    → IsReadAlone (before ++ (letter ∷ rest)) (record {
      pitch = pitch_of (letter ∷ more) (take signs next);
      start = length before;
      end = length before + length (letter ∷ more) + length (take signs next);
      rest = false;
      grace = false;
      continued = continued;
    })
usual_read before letter rest more next signs plain last continued p q more_is next_is within s one plain_is last_is t few =
    let counted : length (take signs next) ≡ signs = length-take-le signs next within in
    let pieces : plain ++ last ≡ drop signs next = rw (plain_is, last_is) (front-behind Plain (drop signs next)) in
    let tail : behind (is_in (Repeat letter)) rest ≡ take signs next ++ (plain ++ last) =
    sym next_is ∙ sym (take-append-drop signs next) ∙ ap (λ (xs : List ℕ). take signs next ++ xs) (sym pieces) in
    let whole : rest ≡ more ++ (take signs next ++ (plain ++ last)) =
    grind (arith, nat_tests, front-behind) in
    let repeated : IsMaximal (Repeat letter) more (take signs next ++ (plain ++ last)) =
    grind (arith, nat_tests, run_maximal) in
    let plain_behind : AllByRecursion (λ b. is_plain b ≡ true) plain =
    subst (AllByRecursion (λ b. is_plain b ≡ true)) (sym plain_is) (run_maximal Plain (drop signs next)).all_in in
    let usual : IsUsual before letter more (take signs next) plain last continued =
    grind (arith, nat_tests, tie) in
    subst (λ (xs : List ℕ). IsReadAlone (before ++ (letter ∷ xs)) (usual_reading before letter more (take signs next) continued)) (sym whole) (record {
      read = sym (usual_note before letter more (take signs next) plain last continued usual);
      alone = usual_alone before letter more (take signs next) plain last continued usual;
    })

-- the pitch by one letter and its signs
pub pitch_is : (letter : ℕ) (more signs : List ℕ) (step : ℕ) (octave alteration : ℤ)
    → read_letters letter (length more + 1) ≡ Some (natural_note step octave) → alteration ≡ alteration_of signs
    → pitch_of (letter ∷ more) signs ≡ Some (record { step = step; octave = octave; alteration = alteration })
pitch_is letter more signs step octave alteration read is =
    let counted : suc (length more) ≡ length more + 1 = omega arith in
    ap (λ (n : ℕ). altered_by (read_letters letter n) (Some (alteration_of signs))) counted
    ∙ ap (λ (o : Option Spelled). altered_by o (Some (alteration_of signs))) read
    ∙ ap (λ (a : ℤ). altered_by (Some (natural_note step octave)) (Some a)) (sym is)

-- what is read of a rest whose sign stands last
abbrev pub lone_rest : Reading
lone_rest = record { pitch = None; start = 0; end = 0; rest = true; grace = false; continued = false }

pub rest_at_end : (before : List ℕ) → AllByRecursion (λ b. is_plain b ≡ true) before → IsReadAlone (before ++ (114 ∷ [])) lone_rest
rest_at_end before h =
    let rest : is_rest (before ++ (114 ∷ [])) ≡ true =
    rw (list_any-append is_rest_sign before (114 ∷ []), off is_rest_sign is_plain plain_rest before h) refl in
    let grace : list_any is_grace_sign (before ++ (114 ∷ [])) ≡ false =
    rw (list_any-append is_grace_sign before (114 ∷ []), off is_grace_sign is_plain plain_grace before h) refl in
    let continued : list_any is_continued_sign (before ++ (114 ∷ [])) ≡ false =
    rw (list_any-append is_continued_sign before (114 ∷ []), off is_continued_sign is_plain plain_continued before h) refl in
    let space : list_any is_space (before ++ (114 ∷ [])) ≡ false =
    rw (list_any-append is_space before (114 ∷ []), off is_space is_plain plain_space before h) refl in
    record { read = rw (rest, grace, continued) refl; alone = one_part (before ++ (114 ∷ [])) space }
