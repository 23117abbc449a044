-- A pitch that is written among other bytes is read there.
use Rattle.std.proofs.lemmas.Bool.Decides.{nat_tests}
use Rattle.std.proofs.Common.{◌≡◌, ℕ, zero, suc, ◌+◌, ◌==◌, ◌<◌, ◌≤◌, Bool, true, false, ℤ, pos, negsuc, ◌+ℤ◌}
use Rattle.std.proofs.Common.{◌-ℤ◌, List, [], ◌∷◌, ◌++◌, Option, Some, None, Ok, length, refl, sym, ap, ◌∙◌}
use Rattle.std.proofs.Common.{subst, arith, rules}
use Rattle.std.specs.Prelude.{replicate, slice_index, nat_lt, ◌||◌, not, if◌then◌else◌}
use Rattle.std.specs.List.{list_any, list_all, AllByRecursion}
use Rattle.std.proofs.lemmas.List.{length-replicate, append-nil}
use Rattle.std.proofs.Common.{length-append, append_assoc}
use Rattle.std.proofs.lemmas.List.Folds.{list_any-append}
use Rattle.std.proofs.lemmas.Int.{ints}
use Rattle.hum_pitch.specs.Pitch.{Spelled, IsPitch, IsAlteration}
use Rattle.hum_pitch.specs.Spelling.{small_letters, capitals, letters, letters_of, accidentals, spelling, natural_note, read_letters, altered_by}
use Rattle.hum_pitch.specs.Given.{spelled}
use Rattle.hum_pitch.specs.declared.pitch.Pitch.{Pitch}
use Rattle.hum_pitch.proofs.Steps.{same_note}
use Rattle.hum_kern.specs.declared.runs.Class.TheVariants.{NoLetter, Repeat, Sign}
use Rattle.hum_kern.specs.Classes.{is_in, is_letter, is_sign, is_rest_sign, is_grace_sign, is_continued_sign}
use Rattle.hum_kern.specs.Parts.{EndsBefore}
use Rattle.hum_kern.specs.Note.{Notation, Reading, is_uniform, alteration_of, pitch_of, is_doubtful}
use Rattle.hum_kern.specs.Note.{is_excessive, is_rest, marks_of, with_pitch, pitched, note_by, note}
use Rattle.hum_kern.specs.Note.{notation_of}
use Rattle.hum_kern.specs.NoteParts.{IsRepeated}
use Rattle.hum_kern.proofs.Notations.{of_parts}

-- the letters of a pitch: one letter, and the same some times more
pub record AreLetters (p : Spelled) (xs : List ℕ) : Type 0 where
  pub letter : ℕ
  pub more : ℕ
  pub is : xs ≡ replicate (suc more) letter
  pub letter_is : is_letter letter ≡ true
  pub few : suc more ≤ 8
  pub read : read_letters letter (suc more) ≡ Some (natural_note p.step p.octave)

small_read : (step k : ℕ) → step < 7 → (is_letter (slice_index small_letters step) ≡ true) × (read_letters
    (slice_index small_letters step) (suc k) ≡ Some (natural_note step (pos 3 +ℤ pos (suc k))))
small_read zero k h = (refl, refl)
small_read (suc zero) k h = (refl, refl)
small_read (suc (suc zero)) k h = (refl, refl)
small_read (suc (suc (suc zero))) k h = (refl, refl)
small_read (suc (suc (suc (suc zero)))) k h = (refl, refl)
small_read (suc (suc (suc (suc (suc zero))))) k h = (refl, refl)
small_read (suc (suc (suc (suc (suc (suc zero)))))) k h = (refl, refl)
small_read (suc (suc (suc (suc (suc (suc (suc n))))))) k h = absurd (omega arith)

capital_read : (step k : ℕ) → step < 7 → (is_letter (slice_index capitals step) ≡ true) × (read_letters
    (slice_index capitals step) (suc k) ≡ Some (natural_note step (pos 4 -ℤ pos (suc k))))
capital_read zero k h = (refl, refl)
capital_read (suc zero) k h = (refl, refl)
capital_read (suc (suc zero)) k h = (refl, refl)
capital_read (suc (suc (suc zero))) k h = (refl, refl)
capital_read (suc (suc (suc (suc zero)))) k h = (refl, refl)
capital_read (suc (suc (suc (suc (suc zero))))) k h = (refl, refl)
capital_read (suc (suc (suc (suc (suc (suc zero)))))) k h = (refl, refl)
capital_read (suc (suc (suc (suc (suc (suc (suc n))))))) k h = absurd (omega arith)

pub are_letters : (p : Spelled) → IsPitch p.step p.octave p.alteration → AreLetters p (letters_of p)
are_letters p h = go (p.octave -ℤ pos 4) (omega (arith, ints))
  where
    go : (z : ℤ) → p.octave ≡ z +ℤ pos 4 → AreLetters p (letters p.step z)
    go (pos k) e =
        let octave : pos 3 +ℤ pos (suc k) ≡ p.octave = omega (arith, ints) in
        let read = small_read p.step k h.0 in
        let limits = h.1 in
        record {
          letter = slice_index small_letters p.step;
          more = k;
          is = refl;
          letter_is = read.0;
          few = grind (arith, nat_tests, ints);
          read = read.1 ∙ ap (λ (o : ℤ). Some (natural_note p.step o)) octave;
        }
    go (negsuc k) e =
        let octave : pos 4 -ℤ pos (suc k) ≡ p.octave = omega (arith, ints) in
        let read = capital_read p.step k h.0 in
        let limits = h.1 in
        record {
          letter = slice_index capitals p.step;
          more = k;
          is = refl;
          letter_is = read.0;
          few =
              omega (arith, ints);
          read = read.1 ∙ ap (λ (o : ℤ). Some (natural_note p.step o)) octave;
        }

all_same : (b n : ℕ) → list_all (λ (x : ℕ). x == b) (replicate n b) ≡ true
all_same b zero = refl
all_same b (suc n) = let e : (b == b) ≡ true = search rules in rw e (all_same b n)

pub all_in : (test : ℕ → Bool) (b n : ℕ) → test b ≡ true → AllByRecursion (λ (x : ℕ). test x ≡ true) (replicate n b)
all_in test b zero h = tt
all_in test b (suc n) h = (h, all_in test b n h)

pub record AreSigns (a : ℤ) (xs : List ℕ) : Type 0 where
  pub all_in : AllByRecursion (λ (x : ℕ). is_sign x ≡ true) xs
  pub few : length xs ≤ 7
  pub uniform : is_uniform xs ≡ true
  pub alteration : alteration_of xs ≡ a

pub are_signs : (a : ℤ) → IsAlteration a → AreSigns a (accidentals a)
are_signs (pos zero) h = record { all_in = tt; few = omega arith; uniform = refl; alteration = refl }
are_signs (pos (suc k)) h =
    let counted : length {A = ℕ} (replicate k 35) ≡ k = length-replicate {A = ℕ} k 35 in
    record { all_in = all_in is_sign 35 (suc k) refl; few = omega (arith, ints); uniform = all_same 35 k; alteration = ap (λ (n : ℕ). pos (suc n)) counted }
are_signs (negsuc k) h =
    let counted : length {A = ℕ} (replicate k 45) ≡ k = length-replicate {A = ℕ} k 45 in
    record { all_in = all_in is_sign 45 (suc k) refl; few = omega (arith, ints); uniform = all_same 45 k; alteration = ap (λ (n : ℕ). negsuc n) counted }

differs : (c x : ℕ) → is_letter c ≡ false → is_letter x ≡ true → (c == x) ≡ false
differs = grind (arith, nat_tests)

pub no_more : (a b : Bool) → (a || b) ≡ false → (a ≡ false) × (b ≡ false)
no_more = grind (arith, nat_tests)

-- no letter begins what stands behind the letters
ends_letters : (x : ℕ) (a : ℤ) (left : List ℕ) → is_letter x ≡ true → list_any is_letter left ≡ false → EndsBefore (Repeat x) (accidentals a ++ left)
ends_letters x (pos zero) [] h none = tt
ends_letters x (pos zero) (c ∷ left) h none = differs c x (no_more (is_letter c) (list_any is_letter left) none).0 h
ends_letters x (pos (suc k)) left h none = differs 35 x refl h
ends_letters x (negsuc k) left h none = differs 45 x refl h

-- bytes that a test doesn't tell
pub off : (test class : ℕ → Bool) → ((b : ℕ) → class b ≡ true → test b ≡ false) → (xs : List ℕ) →
    AllByRecursion (λ (x : ℕ). class x ≡ true) xs → list_any test xs ≡ false
off test class h [] all = refl
off test class h (x ∷ xs) all = rw (h x all.0) (off test class h xs all.1)

-- A test that tells neither letters nor signs tells the same of a text with a pitch and without.
pub beside : (test : ℕ → Bool) → ((b : ℕ) → is_letter b ≡ true → test b ≡ false) →
    ((b : ℕ) → is_sign b ≡ true → test b ≡ false) → (before letters signs left : List ℕ) →
    AllByRecursion (λ (x : ℕ). is_letter x ≡ true) letters → AllByRecursion (λ (x : ℕ). is_sign x ≡ true) signs
    → list_any test (before ++ (letters ++ (signs ++ left))) ≡ list_any test (before ++ left)
beside test f g before letters signs left p q =
    list_any-append test before (letters ++ (signs ++ left))
    ∙ ap (λ (b : Bool). list_any test before || b) (list_any-append test letters (signs ++ left)
    ∙ ap (λ (b : Bool). b || list_any test (signs ++ left)) (off test is_letter f letters p)
    ∙ list_any-append test signs left ∙ ap (λ (b : Bool). b || list_any test left)
    (off test is_sign g signs q))
    ∙ sym (list_any-append test before left)

-- no letter and no sign is a mark
pub rest_letter : (b : ℕ) → is_letter b ≡ true → is_rest_sign b ≡ false
rest_letter b h = grind arith

pub rest_sign : (b : ℕ) → is_sign b ≡ true → is_rest_sign b ≡ false
rest_sign b h = grind arith

pub grace_letter : (b : ℕ) → is_letter b ≡ true → is_grace_sign b ≡ false
grace_letter b h = grind arith

pub grace_sign : (b : ℕ) → is_sign b ≡ true → is_grace_sign b ≡ false
grace_sign b h = grind arith

pub continued_letter : (b : ℕ) → is_letter b ≡ true → is_continued_sign b ≡ false
continued_letter b h = grind arith

pub continued_sign : (b : ℕ) → is_sign b ≡ true → is_continued_sign b ≡ false
continued_sign b h = grind arith

pub same_marks : {a b c d e f : Bool} → a ≡ b → c ≡ d → e ≡ f → ◌≡◌ {A = Reading}
    (record { pitch = None; start = 0; end = 0; rest = a; grace = c; continued = e })
    (record { pitch = None; start = 0; end = 0; rest = b; grace = d; continued = f })
same_marks = grind (arith, nat_tests)

-- A pitch bears no marks.
pub marks_beside : (before letters signs left : List ℕ) → AllByRecursion (λ (x : ℕ). is_letter x ≡ true) letters
    → AllByRecursion (λ (x : ℕ). is_sign x ≡ true) signs → marks_of
    (before ++ (letters ++ (signs ++ left))) ≡ marks_of (before ++ left)
marks_beside before letters signs left p q = same_marks
    (beside is_rest_sign rest_letter rest_sign before letters signs left p q)
    (beside is_grace_sign grace_letter grace_sign before letters signs left p q)
    (beside is_continued_sign continued_letter continued_sign before letters signs left p q)

-- what stands round a pitch: no letters, no sign directly behind it, and no rest
pub record IsRound (before left : List ℕ) : Type 0 where
  pub letterless : AllByRecursion (λ (x : ℕ). is_in NoLetter x ≡ true) before
  pub no_letter : list_any is_letter left ≡ false
  pub no_sign : EndsBefore Sign left
  pub no_rest : is_rest (before ++ left) ≡ false

pub otherwise : {A : Type 0} (b : Bool) (x y : A) → b ≡ false → (if b then x else y) ≡ y
otherwise = grind (arith, nat_tests)

pub not_over : (k n : ℕ) → n ≤ k → nat_lt k n ≡ false
not_over k n h = grind arith

pub neither : (a b : Bool) → a ≡ false → b ≡ false → (a || b) ≡ false
neither = grind (arith, nat_tests)

pub not_of : (b : Bool) → b ≡ true → not b ≡ false
not_of = grind (arith, nat_tests)

pitch_there : (p : Spelled) (xs : List ℕ) → AreLetters p xs → (ys : List ℕ) → AreSigns p.alteration ys → pitch_of xs ys ≡ Some p
pitch_there p xs l ys s =
    let counted : length (replicate (suc l.more) l.letter) ≡ suc l.more = length-replicate (suc l.more) l.letter in
    ap (λ (zs : List ℕ). pitch_of zs ys) l.is
    ∙ ap (λ (n : ℕ). altered_by (read_letters l.letter n) (Some (alteration_of ys))) counted
    ∙ ap (λ (o : Option Spelled). altered_by o (Some (alteration_of ys))) l.read
    ∙ ap (λ (a : ℤ). altered_by (Some (natural_note p.step p.octave)) (Some a)) s.alteration
    ∙ ap Some (same_note _ p refl refl refl)

letters_alone : (p : Spelled) (left : List ℕ) (letter more : ℕ) → is_letter letter ≡ true →
    list_any is_letter left ≡ false → IsRepeated (replicate (suc more) letter)
    (accidentals p.alteration ++ left)
letters_alone p left letter more h none = let same : (letter == letter) ≡ true = search rules in
    record {
      all_in = all_in (λ (x : ℕ). x == letter) letter more same;
      ends = grind (arith, nat_tests, ends_letters);
    }

some_letters : (p : Spelled) (xs : List ℕ) → AreLetters p xs → (marks : Reading) (before ys left : List ℕ) →
    is_doubtful (record { before = before; letters = xs; signs = ys; left = left }) ≡ false →
    is_excessive (record { before = before; letters = xs; signs = ys; left = left }) ≡ false →
    pitched marks (record { before = before; letters = xs; signs = ys; left = left }) ≡ Ok
    (with_pitch marks (pitch_of xs ys) (length before) (length before + length xs + length ys))
some_letters = grind (arith, nat_tests)

placed_in : (before left : List ℕ) → IsRound before left → (p : Spelled) (xs : List ℕ) → AreLetters p xs →
    IsRepeated xs (accidentals p.alteration ++ left) → AreSigns p.alteration (accidentals p.alteration) →
    note (before ++ (xs ++ (accidentals p.alteration ++ left))) ≡ Ok
    (with_pitch (marks_of (before ++ left)) (Some p) (length before)
    (length before + length xs + length (accidentals p.alteration)))
placed_in before left h p xs l repeated s =
    let ys : List ℕ = accidentals p.alteration in
    let parts : Notation = record { before = before; letters = xs; signs = ys; left = left } in
    let text : List ℕ = before ++ (xs ++ (ys ++ left)) in
    let all : AllByRecursion (λ (x : ℕ). is_letter x ≡ true) xs =
    subst (AllByRecursion (λ (x : ℕ). is_letter x ≡ true)) (sym l.is)
    (all_in is_letter l.letter (suc l.more) l.letter_is) in
    let begins : EndsBefore NoLetter (xs ++ (ys ++ left)) = grind (arith, nat_tests, not_of) in
    let cut : notation_of text ≡ parts = of_parts parts (record { all_in = h.letterless; ends = begins })
    repeated (record { all_in = s.all_in; ends = h.no_sign }) in
    let marks : marks_of text ≡ marks_of (before ++ left) = marks_beside before xs ys left all s.all_in in
    let no_rest : is_rest text ≡ false = ap (λ (m : Reading). m.rest) marks ∙ h.no_rest in
    let counted : length xs ≡ suc l.more = ap length l.is ∙ length-replicate (suc l.more) l.letter in
    let few : length xs ≤ 8 = let bound = l.few in omega arith in
    let clear : is_doubtful parts ≡ false = neither (list_any is_letter left) (not (is_uniform ys)) h.no_letter (not_of (is_uniform ys) s.uniform) in
    let modest : is_excessive parts ≡ false = grind (arith, nat_tests, neither, not_over) in
    ap (note_by text) cut
    ∙ otherwise (is_rest text) (Ok (marks_of text)) (pitched (marks_of text) parts) no_rest
    ∙ ap (λ (m : Reading). pitched m parts) marks
    ∙ some_letters p xs l (marks_of (before ++ left)) before ys left clear modest
    ∙ ap (λ (o : Option Spelled). Ok (with_pitch (marks_of (before ++ left)) o (length before)
    (length before + length xs + length ys))) (pitch_there p xs l ys s)

-- A pitch that is written among such bytes is read there.
pub placed : (before left : List ℕ) → IsRound before left → (p : Spelled) →
    IsPitch p.step p.octave p.alteration → note (before ++ (spelling p ++ left)) ≡ Ok
    (with_pitch (marks_of (before ++ left)) (Some p) (length before) (length before + length (spelling p)))
placed =
    grind (arith, nat_tests, are_letters, letters_alone, length-append, append_assoc, placed_in, are_signs)

pub written : (bytes : List ℕ) (p : Pitch) → bytes ≡ spelling (spelled p) → note bytes ≡ Ok (with_pitch (marks_of []) (Some (spelled p)) 0 (length bytes))
written bytes p e =
    let alone : spelling (spelled p) ++ [] ≡ spelling (spelled p) = append-nil (spelling (spelled p)) in
    let round : IsRound [] [] = record { letterless = tt; no_letter = refl; no_sign = tt; no_rest = refl } in
    let none : 0 + length (spelling (spelled p)) ≡ length (spelling (spelled p)) = omega arith in
    ap note (e ∙ sym alone)
    ∙ placed [] [] round (spelled p) p.in_range
    ∙ ap (λ (n : ℕ). Ok (with_pitch (marks_of []) (Some (spelled p)) 0 n)) none
    ∙ ap (λ (xs : List ℕ). Ok (with_pitch (marks_of []) (Some (spelled p)) 0 (length xs))) (sym e)
