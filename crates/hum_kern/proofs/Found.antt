-- Where a pitch was read.
use Rattle.std.proofs.lemmas.Grind.{common_steps}
use Rattle.std.proofs.lemmas.Bool.Decides.{nat_tests}
use Rattle.std.proofs.Common.{◌≡◌, ℕ, suc, ◌+◌, ◌-◌, ◌==◌, ◌≤◌, Bool, true, false, List, [], ◌∷◌, ◌++◌}
use Rattle.std.proofs.Common.{Option, Some, None, Result, Ok, Err, length, take, drop, refl, sym, ap, ◌∙◌}
use Rattle.std.proofs.Common.{subst, arith, rules}
use Rattle.std.specs.Prelude.{◌||◌, not, if◌then◌else◌, IfOk, IfSome, option_map}
use Rattle.std.specs.List.{list_any, list_all, AllByRecursion}
use Rattle.std.proofs.Common.{length-append, append_assoc}
use Rattle.std.proofs.Math.Seq.{take-append_seam, drop-append_seam}
use Rattle.std.proofs.lemmas.Bool.{and_parts}
use Rattle.std.proofs.lemmas.List.Folds.{list_any-append}
use Rattle.hum_pitch.specs.Pitch.{Spelled, IsPitch}
use Rattle.hum_pitch.specs.Given.{spelled}
use Rattle.hum_pitch.specs.declared.pitch.Pitch.{Pitch}
use Rattle.hum_pitch.specs.Spelling.{run, read_accidentals, read_pitch, spelling}
use Rattle.hum_kern.specs.declared.KernFault.{KernFault}
use Rattle.hum_kern.specs.declared.KernFault.TheVariants.{K1, K2}
use Rattle.hum_kern.specs.declared.notes.Note.{Note}
use Rattle.hum_kern.specs.declared.runs.Class.TheVariants.{NoLetter, Repeat}
use Rattle.hum_kern.specs.Classes.{is_in, is_letter, is_sign, is_natural_sign}
use Rattle.hum_kern.specs.Parts.{IsMaximal, EndsBefore}
use Rattle.hum_kern.specs.Duration.{is_empty}
use Rattle.hum_kern.specs.Note.{Notation, Reading, is_uniform, alteration_of, pitch_of, is_doubtful}
use Rattle.hum_kern.specs.Note.{is_excessive, is_rest, marks_of, with_pitch, note_by, note, notation_of}
use Rattle.hum_kern.specs.Note.{reading, reading_in}
use Rattle.hum_kern.specs.NoteParts.{IsRepeated, AreNoteParts, between, IsRead, replaced, CanBeReplaced}
use Rattle.hum_kern.proofs.Notations.{are_note_parts}
use Rattle.hum_kern.proofs.Placing.{IsRound, placed, no_more, marks_beside}

-- what is known of the parts of a text where a pitch was read
pub record IsFound (bytes : List ℕ) (parts : Notation) (found : Reading) (p : Spelled) : Type 0 where
  pub are : AreNoteParts bytes parts
  pub no_rest : is_rest bytes ≡ false
  pub clear : is_doubtful parts ≡ false
  pub modest : is_excessive parts ≡ false
  pub is : found ≡ with_pitch (marks_of bytes) (pitch_of parts.letters parts.signs) (length parts.before)
      (length parts.before + length parts.letters + length parts.signs)
  pub pitch : pitch_of parts.letters parts.signs ≡ Some p

pub found_by : (bytes : List ℕ) (parts : Notation) → AreNoteParts bytes parts →
    (found : Reading) (p : Spelled) → Ok found ≡ note_by bytes parts → found.pitch ≡ Some p →
    IsFound bytes parts found p
found_by bytes parts are found p e there = go (is_rest bytes) refl (is_empty parts.letters) (is_doubtful parts) refl (is_excessive parts) refl e
  where
    none : found ≡ marks_of bytes → ⊥
    none is = let no : None ≡ Some p = ap (λ (r : Reading). r.pitch) (sym is) ∙ there in cc

    go : (a : Bool) → is_rest bytes ≡ a → (b : Bool) → (d : Bool) → is_doubtful parts ≡ d → (x : Bool) →
        is_excessive parts ≡ x → Ok found ≡ (if a then Ok (marks_of bytes) else if b then Ok (marks_of bytes)
        else if d then Err K1 else if x then Err K2 else Ok
        (with_pitch (marks_of bytes) (pitch_of parts.letters parts.signs) (length parts.before)
        (length parts.before + length parts.letters + length parts.signs))) → IsFound bytes parts found p
    go true f b d g x h e = absurd (none cc)
    go false f true d g x h e = absurd (none cc)
    go false f false false g false h e = grind (arith, nat_tests)
    go a h b d k x w e = grind (arith, nat_tests)

pub found_in : (bytes : List ℕ) (found : Reading) (p : Spelled) → Ok found ≡ note bytes → found.pitch ≡ Some p → IsFound bytes (notation_of bytes) found p
found_in bytes found p e there = found_by bytes (notation_of bytes) (are_note_parts bytes) found p e there

text_length : (bytes : List ℕ) (parts : Notation) → AreNoteParts bytes parts → length parts.before + length parts.letters + length parts.signs ≤ length bytes
text_length = grind (arith, common_steps)

abbrev StandsIn : List ℕ → Result Reading KernFault → Type 0
StandsIn bytes read = IfOk read (λ found. (found.start ≤ found.end) × (found.end ≤ length bytes))

stands : (bytes : List ℕ) → StandsIn bytes (note bytes)
stands bytes = go (is_rest bytes) (is_empty parts.letters) (is_doubtful parts) (is_excessive parts)
  where
    parts : Notation
    parts = notation_of bytes

    go : (a b d x : Bool) → StandsIn bytes (if a then Ok (marks_of bytes) else if b then Ok (marks_of bytes)
        else if d then Err K1 else if x then Err K2 else Ok
        (with_pitch (marks_of bytes) (pitch_of parts.letters parts.signs) (length parts.before)
        (length parts.before + length parts.letters + length parts.signs)))
    go true b d x = (omega arith, omega arith)
    go false true d x = (omega arith, omega arith)
    go false false false false = (omega arith, text_length bytes parts (are_note_parts bytes))
    go a b d x = grind (arith, nat_tests)

pub within : (bytes : List ℕ) (r : Result Note KernFault) → reading_in r ≡ note bytes → IfOk r (λ found. (found.start ≤ found.end) × (found.end ≤ length bytes))
within bytes (Ok found) e = subst (StandsIn bytes) (sym e) (stands bytes)
within bytes (Err fault) e = tt

-- the parts by where the pitch stands
pub before_is : (bytes : List ℕ) (parts : Notation) → AreNoteParts bytes parts → take (length parts.before) bytes ≡ parts.before
before_is bytes parts h = ap (take (length parts.before)) h.text ∙ take-append_seam parts.before (parts.letters ++ (parts.signs ++ parts.left))

pub left_is : (bytes : List ℕ) (parts : Notation) → AreNoteParts bytes parts →
    drop (length parts.before + length parts.letters + length parts.signs) bytes ≡ parts.left
left_is bytes parts h =
    let front : List ℕ = parts.before ++ (parts.letters ++ parts.signs) in
    let joined : parts.before ++ (parts.letters ++ (parts.signs ++ parts.left)) ≡ front ++ parts.left =
    grind (arith, nat_tests, append_assoc) in
    let counted : length parts.before + length parts.letters + length parts.signs ≡ length front =
    grind (arith, nat_tests, length-append) in
    ap (λ (n : ℕ). drop n bytes) counted ∙ ap (drop (length front)) (h.text ∙ joined) ∙ drop-append_seam front parts.left

between_is : (bytes : List ℕ) (parts : Notation) → AreNoteParts bytes parts →
    between (length parts.before) (length parts.before + length parts.letters + length parts.signs)
    bytes ≡ parts.letters ++ parts.signs
between_is bytes parts h =
    let rest : drop (length parts.before) bytes ≡ parts.letters ++ (parts.signs ++ parts.left) =
    grind (arith, nat_tests, drop-append_seam) in
    let counted : (length parts.before + length parts.letters + length parts.signs) - length
    parts.before ≡ length (parts.letters ++ parts.signs) =
    let two = length-append parts.letters parts.signs in omega arith in
    ap (λ (n : ℕ). take n (drop (length parts.before) bytes)) counted
    ∙ ap (take (length (parts.letters ++ parts.signs))) (rest ∙ sym (append_assoc parts.letters parts.signs parts.left))
    ∙ take-append_seam (parts.letters ++ parts.signs) parts.left

run_alone : (b : ℕ) (more rest : List ℕ) → IsMaximal (Repeat b) more rest → run b (more ++ rest) ≡ length more
unfolding run
run_alone b (x ∷ more) rest h = rw h.all_in.0 (ap suc (run_alone b more rest (record { all_in = h.all_in.1; ends = h.ends })))
run_alone b more rest h = grind (arith, nat_tests)

run_same : (b : ℕ) (more : List ℕ) → list_all (λ (x : ℕ). x == b) more ≡ true → run b more ≡ length more
unfolding run
run_same b [] h = refl
run_same b (x ∷ more) h = let both = and_parts (x == b) (list_all (λ (x : ℕ). x == b) more) h in rw both.0 (ap suc (run_same b more both.1))

eqb_self : (x : ℕ) → (x == x) ≡ true
eqb_self x = search rules

as_long : (b : ℕ) (more : List ℕ) → list_all (λ (x : ℕ). x == b) more ≡ true → (run b (b ∷ more) == length (b ∷ more)) ≡ true
as_long = grind (arith, nat_tests, eqb_self, run_same)

no_sharps : (more : List ℕ) → (run 35 (45 ∷ more) == length (45 ∷ more)) ≡ false
unfolding run
no_sharps more = grind arith

sharps : (more : List ℕ) → list_all (λ (x : ℕ). x == 35) more ≡ true → read_accidentals (35 ∷ more) ≡ Some (alteration_of (35 ∷ more))
unfolding read_accidentals
sharps more h = rw (as_long 35 more h) refl

flats : (more : List ℕ) → list_all (λ (x : ℕ). x == 45) more ≡ true → read_accidentals (45 ∷ more) ≡ Some (alteration_of (45 ∷ more))
unfolding read_accidentals
flats more h = rw (no_sharps more, as_long 45 more h) refl

-- Signs that are all the same, and no sign of a natural, are read as accidentals.
signs_read : (signs : List ℕ) → AllByRecursion (λ (x : ℕ). is_sign x ≡ true) signs → is_uniform signs ≡ true →
    list_any is_natural_sign signs ≡ false → read_accidentals signs ≡ Some (alteration_of signs)
unfolding read_accidentals run
signs_read = grind (arith, nat_tests, sharps, flats, no_more)

first_ends : (b : ℕ) (signs left : List ℕ) → EndsBefore (Repeat b) (signs ++ left) → EndsBefore (Repeat b) signs
first_ends = grind (arith, nat_tests)

run_front : (b : ℕ) (more signs : List ℕ) → IsMaximal (Repeat b) more signs → run b ((b ∷ more) ++ signs) ≡ length (b ∷ more)
unfolding run
run_front b more signs h = rw (eqb_self b) (ap suc (run_alone b more signs h))

-- A pitch without signs of naturals is read by its text alone.
pitch_read : (b : ℕ) (more signs : List ℕ) (p : Spelled) → IsMaximal (Repeat b) more signs →
    read_accidentals signs ≡ Some (alteration_of signs) → pitch_of (b ∷ more) signs ≡ Some p →
    read_pitch ((b ∷ more) ++ signs) ≡ Some p
pitch_read = grind (arith, nat_tests, run_front, drop-append_seam)

text_read_in : (letters signs left : List ℕ) (p : Spelled) → IsRepeated letters (signs ++ left) →
    AllByRecursion (λ (x : ℕ). is_sign x ≡ true) signs → is_uniform signs ≡ true →
    pitch_of letters signs ≡ Some p → list_any is_natural_sign (letters ++ signs) ≡ false →
    read_pitch (letters ++ signs) ≡ Some p
text_read_in [] signs left p h all same there none = cc
text_read_in (b ∷ more) signs left p h all same there none =
    let apart : (list_any is_natural_sign (b ∷ more) || list_any is_natural_sign signs) ≡ false =
    sym (list_any-append is_natural_sign (b ∷ more) signs) ∙ none in
    let no = (no_more (list_any is_natural_sign (b ∷ more)) (list_any is_natural_sign signs) apart).1 in
    pitch_read b more signs p (record { all_in = h.all_in; ends = first_ends b signs left h.ends }) (signs_read signs all same no) there

uniform_of : (b : Bool) → not b ≡ false → b ≡ true
uniform_of = grind (arith, nat_tests)

read_there : (bytes : List ℕ) (found : Reading) (p : Spelled) → Ok found ≡ note bytes → found.pitch ≡ Some p →
    list_any is_natural_sign (between found.start found.end bytes) ≡ false →
    read_pitch (between found.start found.end bytes) ≡ Some p
read_there bytes found p e there none =
    let parts : Notation = notation_of bytes in
    let h = found_in bytes found p e there in
    let slice : between found.start found.end bytes ≡ parts.letters ++ parts.signs =
    ap (λ (r : Reading). between r.start r.end bytes) h.is ∙ between_is bytes parts h.are in
    let same = uniform_of (is_uniform parts.signs) (no_more (list_any is_letter parts.left) (not (is_uniform parts.signs)) h.clear).1 in
    let no : list_any is_natural_sign (parts.letters ++ parts.signs) ≡ false = ap (list_any is_natural_sign) (sym slice) ∙ none in
    ap read_pitch slice ∙ text_read_in parts.letters parts.signs parts.left p h.are.letters h.are.signs.all_in same h.pitch no

pub text_read : (bytes : List ℕ) (r : Result Note KernFault) → reading_in r ≡ note bytes → IfOk r (IsRead bytes)
text_read bytes (Ok found) e = go found.pitch refl
  where
    go : (o : Option Pitch) → found.pitch ≡ o → IfSome o
        (λ pitch. list_any is_natural_sign (between found.start found.end bytes) ≡ false →
        read_pitch (between found.start found.end bytes) ≡ Some (spelled pitch))
    go (Some p) there = read_there bytes (reading found) (spelled p) e (ap (option_map spelled) there)
    go None there = tt
text_read bytes (Err fault) e = tt

all_letters : (b : ℕ) (more : List ℕ) → is_letter b ≡ true → AllByRecursion
    (λ (x : ℕ). is_in (Repeat b) x ≡ true) more → AllByRecursion (λ (x : ℕ). is_letter x ≡ true) more
all_letters b [] h all = tt
all_letters b (x ∷ more) h all = let e = all.0 in let is : x ≡ b = search rules in (ap is_letter is ∙ h, all_letters b more h all.1)

pub letters_all : (letters rest : List ℕ) → IsRepeated letters rest → EndsBefore NoLetter (letters ++ rest) →
    AllByRecursion (λ (x : ℕ). is_letter x ≡ true) letters
letters_all [] rest h begins = tt
letters_all (b ∷ more) rest h begins = let letter = uniform_of (is_letter b) begins in (letter, all_letters b more letter h.all_in)

-- What stands round a pitch that was read is as before, whatever pitch is written there.
marks_round : (bytes : List ℕ) (parts : Notation) → AreNoteParts bytes parts → marks_of bytes ≡ marks_of (parts.before ++ parts.left)
marks_round = grind (arith, nat_tests, marks_beside, letters_all)

pub is_round : (bytes : List ℕ) (parts : Notation) (found : Reading) (p : Spelled) → IsFound bytes parts found p → IsRound parts.before parts.left
is_round = grind (arith, nat_tests, no_more, marks_round)

-- A pitch that is written in the place of one that was read is read there.
pub placed_there : (bytes : List ℕ) (found : Reading) (p : Spelled) → Ok found ≡ note bytes →
    found.pitch ≡ Some p → (pitch : Spelled) → IsPitch pitch.step pitch.octave pitch.alteration →
    note (take found.start bytes ++ (spelling pitch ++ drop found.end bytes)) ≡ Ok
    (record found { pitch = Some pitch; end = found.start + length (spelling pitch) })
placed_there bytes found p e there pitch range =
    let parts : Notation = notation_of bytes in
    let h = found_in bytes found p e there in
    let text : take found.start bytes ++ (spelling pitch ++ drop found.end bytes) ≡ parts.before ++ (spelling pitch ++ parts.left) =
    ap (λ (r : Reading). take r.start bytes ++ (spelling pitch ++ drop r.end bytes)) h.is
    ∙ ap (λ (xs : List ℕ). xs ++ (spelling pitch ++ drop (length parts.before + length parts.letters + length parts.signs) bytes)) (before_is bytes parts h.are)
    ∙ ap (λ (xs : List ℕ). parts.before ++ (spelling pitch ++ xs)) (left_is bytes parts h.are) in
    ap note text
    ∙ placed parts.before parts.left (is_round bytes parts found p h) pitch range
    ∙ ap (λ (m : Reading). Ok (with_pitch m (Some pitch) (length parts.before)
    (length parts.before + length (spelling pitch)))) (sym (marks_round bytes parts h.are))
    ∙ ap (λ (r : Reading). Ok (record r { pitch = Some pitch; end = r.start + length (spelling pitch) })) (sym h.is)

pub can_be_replaced : (bytes : List ℕ) (r : Result Note KernFault) → reading_in r ≡ note bytes → IfOk r (CanBeReplaced bytes)
can_be_replaced bytes (Ok found) e = go found.pitch refl
  where
    go : (o : Option Pitch) → found.pitch ≡ o → IfSome o (λ _. (pitch : Pitch) →
        note (replaced bytes found pitch) ≡ Ok (record (reading found)
        { pitch = Some (spelled pitch); end = found.start + length (spelling (spelled pitch)) }))
    go (Some p) there = λ pitch. placed_there bytes (reading found) (spelled p) e (ap (option_map spelled) there) (spelled pitch) pitch.in_range
    go None there = tt
can_be_replaced bytes (Err fault) e = tt
