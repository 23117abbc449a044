-- A pitch in the place of another one leaves the duration as it is.
use Rattle.std.proofs.lemmas.Grind.{common_steps}
use Rattle.std.proofs.Common.{◌≡◌, ◌∙◌, refl, sym, ap, subst, ℕ, suc}
use Rattle.std.proofs.Common.{◌+◌, ◌-◌, ◌==◌, Bool, true, false, ◌&&◌, cond}
use Rattle.std.proofs.Common.{List, [], ◌∷◌, ◌++◌, length, take, drop, Option, None, Some, Result, Ok, Err, arith}
use Rattle.std.proofs.Common.{append_assoc, append-nil, length-append}
use Rattle.std.specs.Prelude.{nat_le, IfOk, IfSome, option_map, if◌then◌else◌}
use Rattle.std.specs.List.{list_any, AllByRecursion}
use Rattle.std.proofs.Math.Seq.{drop-append-add}
use Rattle.std.proofs.lemmas.Bool.Decides.{nat_tests}
use Rattle.hum_frac.specs.Ratio.{Ratio, reduced}
use Rattle.hum_pitch.specs.Pitch.{Spelled, IsPitch}
use Rattle.hum_pitch.specs.Given.{spelled}
use Rattle.hum_pitch.specs.declared.pitch.Pitch.{Pitch}
use Rattle.hum_pitch.specs.Spelling.{spelling, letters_of, accidentals}
use Rattle.hum_kern.specs.declared.KernFault.{KernFault}
use Rattle.hum_kern.specs.declared.KernFault.TheVariants.{K3}
use Rattle.hum_kern.specs.declared.Length.{Length}
use Rattle.hum_kern.specs.declared.notes.Note.{Note}
use Rattle.hum_kern.specs.declared.runs.Class.{Class}
use Rattle.hum_kern.specs.declared.runs.Class.TheVariants.{Digit, Other, Dot}
use Rattle.hum_kern.specs.Runs.{front, behind, starts_with}
use Rattle.hum_kern.specs.Classes.{is_in, is_letter, is_sign, is_grace_sign}
use Rattle.hum_kern.specs.Value.{value_of, dotted}
use Rattle.hum_kern.specs.Duration.{Spelling, spelling_of, second_of, behind_digits, second_length, is_empty, is_torn, with_dots, said, no_length}
use Rattle.hum_kern.specs.Parts.{EndsBefore, IsMaximal}
use Rattle.hum_kern.specs.Note.{Notation, Reading, pitch_of, marks_of, note, notation_of, reading, reading_in}
use Rattle.hum_kern.specs.NoteParts.{between, replaced}
use Rattle.hum_kern.specs.Lasting.{lasting_in, lasting, KeepsDuration}
use Rattle.hum_kern.proofs.Parts.{run_maximal, front-behind, StandsIn, said_stands}
use Rattle.hum_kern.proofs.Unique.{front_is, behind_is, same}
use Rattle.hum_kern.proofs.Placing.{are_letters, are_signs, all_in, marks_beside}
use Rattle.hum_kern.proofs.Found.{found_in, before_is, left_is, letters_all}

-- Runs in front of a byte that isn't of their class.

ends_more : (class : Class) (rest : List ℕ) (z : ℕ) (more : List ℕ) → EndsBefore class rest → is_in class z ≡ false
    → EndsBefore class (rest ++ (z ∷ more))
ends_more = grind (arith, nat_tests)

goes_through : (class : Class) (xs : List ℕ) (z : ℕ) (more : List ℕ) → is_in class z ≡ false
    → IsMaximal class (front (is_in class) xs) (behind (is_in class) xs ++ (z ∷ more))
goes_through class xs z more off =
    let m = run_maximal class xs in record { all_in = m.all_in; ends = ends_more class (behind (is_in class) xs) z more m.ends off }

split_at : (class : Class) (xs ys : List ℕ) → xs ++ ys ≡ front (is_in class) xs ++ (behind (is_in class) xs ++ ys)
split_at class xs ys = ap (λ (zs : List ℕ). zs ++ ys) (sym (front-behind class xs)) ∙ append_assoc (front (is_in class) xs) (behind (is_in class) xs) ys

front_through : (class : Class) (xs : List ℕ) (z : ℕ) (more : List ℕ) → is_in class z ≡ false
    → front (is_in class) (xs ++ (z ∷ more)) ≡ front (is_in class) xs
front_through class xs z more off =
    ap (front (is_in class)) (split_at class xs (z ∷ more))
    ∙ front_is class (front (is_in class) xs) (behind (is_in class) xs ++ (z ∷ more)) (goes_through class xs z more off)

behind_through : (class : Class) (xs : List ℕ) (z : ℕ) (more : List ℕ) → is_in class z ≡ false
    → behind (is_in class) (xs ++ (z ∷ more)) ≡ behind (is_in class) xs ++ (z ∷ more)
behind_through class xs z more off =
    ap (behind (is_in class)) (split_at class xs (z ∷ more))
    ∙ behind_is class (front (is_in class) xs) (behind (is_in class) xs ++ (z ∷ more)) (goes_through class xs z more off)

-- a byte that is in no duration
pub record IsApart (z : ℕ) : Type 0 where
  pub no_digit : is_in Digit z ≡ false
  pub no_dot : is_in Dot z ≡ false
  pub no_percent : (z == 37) ≡ false

-- The duration stands in front of such a byte: the parts of the front, with more behind.

second_through : (rest : List ℕ) (z : ℕ) (more : List ℕ) → IsApart z → second_of (rest ++ (z ∷ more)) ≡ second_of rest
second_through [] z more h = rw h.no_percent refl
second_through (b ∷ rest) z more h = rw (front_through Digit rest z more h.no_digit) refl

tail_through : (rest : List ℕ) (z : ℕ) (more : List ℕ) → IsApart z → behind_digits (rest ++ (z ∷ more)) ≡ behind_digits rest ++ (z ∷ more)
tail_through [] z more h = rw h.no_percent refl
tail_through (b ∷ rest) z more h = by (b == 37)
  where
    by : (t : Bool) → cond t (behind (is_in Digit) (rest ++ (z ∷ more))) (b ∷ (rest ++ (z ∷ more)))
        ≡ cond t (behind (is_in Digit) rest) (b ∷ rest) ++ (z ∷ more)
    by = grind (arith, nat_tests, behind_through)

abbrev with_more : Spelling → List ℕ → Spelling
with_more parts more = record parts { left = parts.left ++ more }

filled_through : (xs : List ℕ) (z : ℕ) (more : List ℕ) → is_empty (behind (is_in Other) xs) ≡ false
    → IsMaximal Other (front (is_in Other) xs) (behind (is_in Other) xs ++ (z ∷ more))
filled_through xs z more some = grind (arith, nat_tests, run_maximal Other xs)

spelling_through : (xs : List ℕ) (z : ℕ) (more : List ℕ) → IsApart z → is_empty (behind (is_in Other) xs) ≡ false
    → spelling_of (xs ++ (z ∷ more)) ≡ with_more (spelling_of xs) (z ∷ more)
spelling_through xs z more h some =
    let rest : List ℕ = behind (is_in Other) xs in
    let m = filled_through xs z more some in
    let first : front (is_in Other) (xs ++ (z ∷ more)) ≡ front (is_in Other) xs =
    ap (front (is_in Other)) (split_at Other xs (z ∷ more)) ∙ front_is Other (front (is_in Other) xs) (rest ++ (z ∷ more)) m in
    let from : behind (is_in Other) (xs ++ (z ∷ more)) ≡ rest ++ (z ∷ more) =
    ap (behind (is_in Other)) (split_at Other xs (z ∷ more)) ∙ behind_is Other (front (is_in Other) xs) (rest ++ (z ∷ more)) m in
    let digits : front (is_in Digit) (behind (is_in Other) (xs ++ (z ∷ more))) ≡ front (is_in Digit) rest =
    ap (front (is_in Digit)) from ∙ front_through Digit rest z more h.no_digit in
    let next : behind (is_in Digit) (behind (is_in Other) (xs ++ (z ∷ more))) ≡ behind (is_in Digit) rest ++ (z ∷ more) =
    ap (behind (is_in Digit)) from ∙ behind_through Digit rest z more h.no_digit in
    let last : behind_digits (behind (is_in Digit) (behind (is_in Other) (xs ++ (z ∷ more)))) ≡ behind_digits (behind (is_in Digit) rest) ++ (z ∷ more) =
    ap behind_digits next ∙ tail_through (behind (is_in Digit) rest) z more h in
    same first digits (ap second_of next ∙ second_through (behind (is_in Digit) rest) z more h)
    (ap (front (is_in Dot)) last ∙ front_through Dot (behind_digits (behind (is_in Digit) rest)) z more h.no_dot)
    (ap (behind (is_in Dot)) last ∙ behind_through Dot (behind_digits (behind (is_in Digit) rest)) z more h.no_dot)

abbrev torn_by : Option (List ℕ) → List ℕ → Bool → Bool
torn_by None dots starts = false
torn_by (Some second) dots starts = is_empty dots && starts

torn_is : (parts : Spelling) → is_torn parts ≡ torn_by parts.second parts.dots (starts_with 37 parts.left)
torn_is = grind (arith, nat_tests)

said_through : (parts : Spelling) (z : ℕ) (more : List ℕ) → IsApart z → said (with_more parts (z ∷ more)) ≡ said parts
said_through = grind (arith, nat_tests)

-- What parts say, in a text with or without the sign of a grace note.
abbrev by_grace : Bool → Spelling → Result Length KernFault
by_grace grace parts = if grace then Ok no_length else if is_empty parts.digits then Ok no_length else said parts

in_front : (xs more : List ℕ) (r : Result Length KernFault) → StandsIn xs r → lasting_in (xs ++ more) r ≡ lasting_in xs r
in_front = grind (arith, common_steps)

lasting_front : (xs : List ℕ) (z : ℕ) (more : List ℕ) → IsApart z → is_empty (behind (is_in Other) xs) ≡ false
    → lasting (xs ++ (z ∷ more)) ≡ lasting_in xs (by_grace (list_any is_grace_sign (xs ++ (z ∷ more))) (spelling_of xs))
lasting_front xs z more h some =
    let grace : Bool = list_any is_grace_sign (xs ++ (z ∷ more)) in
    ap (λ (parts : Spelling). lasting_in (xs ++ (z ∷ more)) (by_grace grace parts)) (spelling_through xs z more h some)
    ∙ ap (λ (r : Result Length KernFault). lasting_in (xs ++ (z ∷ more))
    (if grace then Ok no_length else if is_empty (spelling_of xs).digits then Ok no_length else r))
    (said_through (spelling_of xs) z more h)
    ∙ in_front xs (z ∷ more) (by_grace grace (spelling_of xs)) (said_stands xs grace (is_empty (spelling_of xs).digits))

-- The duration stands behind bytes without a digit.

all_before : (xs ys rest : List ℕ) → AllByRecursion (λ (x : ℕ). is_in Other x ≡ true) xs → IsMaximal Other ys rest
    → IsMaximal Other (xs ++ ys) rest
all_before = grind (arith, common_steps)

abbrev put_before : List ℕ → Spelling → Spelling
put_before xs parts = record parts { before = xs ++ parts.before }

spelling_behind : (xs ys : List ℕ) → AllByRecursion (λ (x : ℕ). is_in Other x ≡ true) xs → spelling_of (xs ++ ys) ≡ put_before xs (spelling_of ys)
spelling_behind xs ys h =
    let m = all_before xs (front (is_in Other) ys) (behind (is_in Other) ys) h (run_maximal Other ys) in
    let text : xs ++ ys ≡ (xs ++ front (is_in Other) ys) ++ behind (is_in Other) ys =
    ap (λ (zs : List ℕ). xs ++ zs) (sym (front-behind Other ys)) ∙ sym (append_assoc xs (front (is_in Other) ys) (behind (is_in Other) ys)) in
    let first : front (is_in Other) (xs ++ ys) ≡ xs ++ front (is_in Other) ys =
    ap (front (is_in Other)) text ∙ front_is Other (xs ++ front (is_in Other) ys) (behind (is_in Other) ys) m in
    let from : behind (is_in Other) (xs ++ ys) ≡ behind (is_in Other) ys =
    ap (behind (is_in Other)) text ∙ behind_is Other (xs ++ front (is_in Other) ys) (behind (is_in Other) ys) m in
    same first (ap (front (is_in Digit)) from) (ap (λ (zs : List ℕ). second_of (behind (is_in Digit) zs)) from)
    (ap (λ (zs : List ℕ). front (is_in Dot) (behind_digits (behind (is_in Digit) zs))) from)
    (ap (λ (zs : List ℕ). behind (is_in Dot) (behind_digits (behind (is_in Digit) zs))) from)

between_behind : (start end : ℕ) (xs ys : List ℕ) → between (length xs + start) (length xs + end) (xs ++ ys) ≡ between start end ys
between_behind = grind (arith, nat_tests, drop-append-add)

dots_behind : (xs ys : List ℕ) (start end : ℕ) (o : Option Ratio) (dots : ℕ)
    → lasting_in (xs ++ ys) (with_dots (length xs + start) (length xs + end) o dots) ≡ lasting_in ys (with_dots start end o dots)
dots_behind xs ys start end None dots = refl
dots_behind xs ys start end (Some value) dots = by (nat_le dots 6)
  where
    there : List ℕ → ℕ → ℕ → Bool → Result Length KernFault
    there text start end fits = if fits then Ok (record { value = Some (reduced (dotted value dots)); start = start; end = end }) else Err K3

    far : (length xs + end) + dots ≡ length xs + (end + dots)
    far = omega arith

    by : (b : Bool) → lasting_in (xs ++ ys) (there (xs ++ ys) (length xs + start) ((length xs + end) + dots) b)
        ≡ lasting_in ys (there ys start (end + dots) b)
    by = grind (arith, nat_tests, far, between_behind)

said_behind : (xs ys : List ℕ) (parts : Spelling) → lasting_in (xs ++ ys) (said (put_before xs parts)) ≡ lasting_in ys (said parts)
said_behind xs ys parts =
    let torn : is_torn (put_before xs parts) ≡ is_torn parts = torn_is (put_before xs parts) ∙ sym (torn_is parts) in
    ap (λ (b : Bool). lasting_in (xs ++ ys) (if b then Err K3 else digits)) torn ∙ by (is_torn parts)
  where
    digits : Result Length KernFault
    digits =
        with_dots (length (xs ++ parts.before)) (length (xs ++ parts.before) + length parts.digits + second_length parts.second)
        (value_of parts.digits parts.second) (length parts.dots)

    own : Result Length KernFault
    own =
        with_dots (length parts.before) (length parts.before + length parts.digits + second_length parts.second)
        (value_of parts.digits parts.second) (length parts.dots)

    start : length (xs ++ parts.before) ≡ length xs + length parts.before
    start = length-append xs parts.before

    end : length (xs ++ parts.before) + length parts.digits + second_length parts.second
        ≡ length xs + (length parts.before + length parts.digits + second_length parts.second)
    end = omega (arith, start)

    there : lasting_in (xs ++ ys) digits ≡ lasting_in ys own
    there = grind (arith, nat_tests, start, end, dots_behind)

    by : (b : Bool) → lasting_in (xs ++ ys) (if b then Err K3 else digits) ≡ lasting_in ys (if b then Err K3 else own)
    by = grind (arith, nat_tests, there)

lasting_behind : (xs ys : List ℕ) → AllByRecursion (λ (x : ℕ). is_in Other x ≡ true) xs
    → lasting (xs ++ ys) ≡ lasting_in ys (by_grace (list_any is_grace_sign (xs ++ ys)) (spelling_of ys))
lasting_behind xs ys h =
    let grace : Bool = list_any is_grace_sign (xs ++ ys) in
    ap (λ (parts : Spelling). lasting_in (xs ++ ys) (by_grace grace parts)) (spelling_behind xs ys h) ∙ by grace (is_empty (spelling_of ys).digits)
  where
    by : (grace none : Bool)
        → lasting_in (xs ++ ys) (if grace then Ok no_length else if none then Ok no_length else said (put_before xs (spelling_of ys)))
        ≡ lasting_in ys (if grace then Ok no_length else if none then Ok no_length else said (spelling_of ys))
    by false false = said_behind xs ys (spelling_of ys)
    by grace none = grind (arith, nat_tests)

-- Bytes that no duration holds, one at least.
record ArePlain (xs : List ℕ) : Type 0 where
  first : ℕ
  more : List ℕ
  is : xs ≡ first ∷ more
  apart : IsApart first
  all : AllByRecursion (λ (x : ℕ). is_in Other x ≡ true) xs

all_one : (xs ys : List ℕ) → AllByRecursion (λ (x : ℕ). is_in Other x ≡ true) xs → AllByRecursion (λ (x : ℕ). is_in Other x ≡ true) ys
    → AllByRecursion (λ (x : ℕ). is_in Other x ≡ true) (xs ++ ys)
all_one = grind (arith, common_steps)

no_digits : (xs : List ℕ) → behind (is_in Other) xs ≡ [] → AllByRecursion (λ (x : ℕ). is_in Other x ≡ true) xs
no_digits xs e =
    let whole : front (is_in Other) xs ≡ xs =
    sym (append-nil (front (is_in Other) xs)) ∙ ap (λ (ys : List ℕ). front (is_in Other) xs ++ ys) (sym e) ∙ front-behind Other xs in
    subst (AllByRecursion (λ (x : ℕ). is_in Other x ≡ true)) whole (run_maximal Other xs).all_in

in_either : (before old new left : List ℕ) → ArePlain old → ArePlain new
    → list_any is_grace_sign (before ++ (old ++ left)) ≡ list_any is_grace_sign (before ++ (new ++ left))
    → lasting (before ++ (old ++ left)) ≡ lasting (before ++ (new ++ left))
in_either before old new left o n grace = by (behind (is_in Other) before) refl
  where
    by : (rest : List ℕ) → behind (is_in Other) before ≡ rest → lasting (before ++ (old ++ left)) ≡ lasting (before ++ (new ++ left))
    by [] e =
        let quiet = no_digits before e in
        let one = append_assoc before old left in
        let two = append_assoc before new left in
        ap lasting (sym one)
        ∙ lasting_behind (before ++ old) left (all_one before old quiet o.all)
        ∙ ap (λ (b : Bool). lasting_in left (by_grace b (spelling_of left)))
        (ap (list_any is_grace_sign) one ∙ grace ∙ ap (list_any is_grace_sign) (sym two))
        ∙ sym (lasting_behind (before ++ new) left (all_one before new quiet n.all))
        ∙ ap lasting two
    by (d ∷ rest) e = grind (arith, nat_tests, lasting_front)

letter_apart : (x : ℕ) → is_letter x ≡ true → IsApart x
letter_apart x h = record { no_digit = grind (arith, nat_tests, h); no_dot = grind (arith, nat_tests, h); no_percent = grind (arith, nat_tests, h) }

sign_other : (x : ℕ) → is_sign x ≡ true → is_in Other x ≡ true
sign_other x h = grind (arith, nat_tests, h)

letter_other : (x : ℕ) → is_letter x ≡ true → is_in Other x ≡ true
letter_other x h = rw (letter_apart x h).no_digit refl

all_as : (test : ℕ → Bool) → ((x : ℕ) → test x ≡ true → is_in Other x ≡ true) → (xs : List ℕ)
    → AllByRecursion (λ (x : ℕ). test x ≡ true) xs
    → AllByRecursion (λ (x : ℕ). is_in Other x ≡ true) xs
all_as test f [] h = tt
all_as test f (x ∷ xs) h = (f x h.0, all_as test f xs h.1)

-- the letters and signs of a pitch
plain_pitch : (letters signs : List ℕ) → is_empty letters ≡ false → AllByRecursion (λ (x : ℕ). is_letter x ≡ true) letters
    → AllByRecursion (λ (x : ℕ). is_sign x ≡ true) signs → ArePlain (letters ++ signs)
plain_pitch [] signs e h k = cc
plain_pitch (x ∷ letters) signs e h k = record {
  first = x;
  more = letters ++ signs;
  is = refl;
  apart = letter_apart x h.0;
  all = all_one (x ∷ letters) signs (all_as is_letter letter_other (x ∷ letters) h) (all_as is_sign sign_other signs k);
}

some_letter : (letters signs : List ℕ) (p : Spelled) → pitch_of letters signs ≡ Some p → is_empty letters ≡ false
some_letter = grind (arith, nat_tests)

pub keeps_there : (bytes : List ℕ) (found : Reading) (p : Spelled) → Ok found ≡ note bytes → found.pitch ≡ Some p → (pitch : Spelled)
    → IsPitch pitch.step pitch.octave pitch.alteration → lasting (take found.start bytes ++ (spelling pitch ++ drop found.end bytes)) ≡ lasting bytes
keeps_there bytes found p e there pitch range =
    let parts : Notation = notation_of bytes in
    let h = found_in bytes found p e there in
    let old = letters_all parts.letters (parts.signs ++ parts.left) h.are.letters h.are.before.ends in
    let l = are_letters pitch range in
    let s = are_signs pitch.alteration range.2 in
    let new : AllByRecursion (λ (x : ℕ). is_letter x ≡ true) (letters_of pitch) =
    subst (AllByRecursion (λ (x : ℕ). is_letter x ≡ true)) (sym l.is) (all_in is_letter l.letter (suc l.more) l.letter_is) in
    let text : take found.start bytes ++ (spelling pitch ++ drop found.end bytes) ≡ parts.before ++ (spelling pitch ++ parts.left) =
    ap (λ (r : Reading). take r.start bytes ++ (spelling pitch ++ drop r.end bytes)) h.is
    ∙ ap (λ (xs : List ℕ). xs ++ (spelling pitch ++ drop (length parts.before + length parts.letters + length parts.signs) bytes))
    (before_is bytes parts h.are)
    ∙ ap (λ (xs : List ℕ). parts.before ++ (spelling pitch ++ xs)) (left_is bytes parts h.are) in
    let own : bytes ≡ parts.before ++ ((parts.letters ++ parts.signs) ++ parts.left) =
    h.are.text ∙ ap (λ (xs : List ℕ). parts.before ++ xs) (sym (append_assoc parts.letters parts.signs parts.left)) in
    let quiet : marks_of (parts.before ++ (spelling pitch ++ parts.left)) ≡ marks_of (parts.before ++ ((parts.letters ++ parts.signs) ++ parts.left)) =
    ap (λ (xs : List ℕ). marks_of (parts.before ++ xs)) (append_assoc (letters_of pitch) (accidentals pitch.alteration) parts.left)
    ∙ marks_beside parts.before (letters_of pitch) (accidentals pitch.alteration) parts.left new s.all_in
    ∙ sym (marks_beside parts.before parts.letters parts.signs parts.left old h.are.signs.all_in)
    ∙ ap (λ (xs : List ℕ). marks_of (parts.before ++ xs)) (sym (append_assoc parts.letters parts.signs parts.left)) in
    ap lasting text
    ∙ in_either parts.before (spelling pitch) (parts.letters ++ parts.signs) parts.left
    (plain_pitch (letters_of pitch) (accidentals pitch.alteration) (ap is_empty l.is) new s.all_in)
    (plain_pitch parts.letters parts.signs (some_letter parts.letters parts.signs p h.pitch) old h.are.signs.all_in)
    (ap (λ (m : Reading). m.grace) quiet)
    ∙ ap lasting (sym own)

pub keeps_duration : (bytes : List ℕ) (r : Result Note KernFault) → reading_in r ≡ note bytes → IfOk r (KeepsDuration bytes)
keeps_duration bytes (Ok found) e = go found.pitch refl
  where
    go : (o : Option Pitch) → found.pitch ≡ o → IfSome o (λ _. (pitch : Pitch) → lasting (replaced bytes found pitch) ≡ lasting bytes)
    go (Some p) there = λ pitch. keeps_there bytes (reading found) (spelled p) e (ap (option_map spelled) there) (spelled pitch) pitch.in_range
    go None there = tt
keeps_duration bytes (Err fault) e = tt
