-- Runs and notes by the places where they begin and end in a text.
use Rattle.std.proofs.lemmas.Bool.Decides.{nat_tests}
use Rattle.std.proofs.Common.{◌≡◌, ◌∙◌, refl, sym, ap, subst, ℕ, ℤ, ◌+◌, ◌-◌, ◌<◌, ◌≤◌, Bool, true, false, List, [], ◌∷◌, ◌++◌}
use Rattle.std.proofs.Common.{Option, Some, take, drop, length, arith}
use Rattle.std.specs.Prelude.{if◌then◌else◌}
use Rattle.std.specs.List.{AllByRecursion}
use Rattle.std.proofs.lemmas.List.{drop_all, drop-drop, take-append-drop, length-take-le}
use Rattle.hum_pitch.specs.Pitch.{Spelled}
use Rattle.hum_pitch.specs.Spelling.{read_letters, natural_note}
use Rattle.hum_kern.specs.declared.runs.Class.{Class}
use Rattle.hum_kern.specs.declared.runs.Class.TheVariants.{Repeat, Plain}
use Rattle.hum_kern.specs.Runs.{run, front, behind}
use Rattle.hum_kern.specs.Classes.{is_in, is_letter, is_sign, is_plain}
use Rattle.hum_kern.specs.Note.{Reading, alteration_of, pitch_of}
use Rattle.hum_kern.specs.Usual.{tie_at_end, IsReadAlone}
use Rattle.hum_kern.proofs.UsualParts.{usual_read, pitch_is, rest_at_end, lone_rest}

run_within : (class : Class) (bytes : List ℕ) → run (is_in class) bytes ≤ length bytes
run_within class [] = omega arith
run_within class (b ∷ bytes) = go (is_in class b) (run_within class bytes)
  where
    go : (t : Bool) → run (is_in class) bytes ≤ length bytes → (if t then run (is_in class) bytes + 1 else 0) ≤ length (b ∷ bytes)
    go = grind (arith, nat_tests)

-- the note of a letter behind plain bytes
abbrev noted : Option Spelled → ℕ → ℕ → Bool → Reading
noted pitch start end continued =
    record { pitch = pitch; start = start; end = end; rest = false; grace = false; continued = continued }

pub usual_at : (bytes : List ℕ) (start letter place signs last : ℕ) (continued : Bool) (step : ℕ) (octave alteration : ℤ)
    → start < length bytes → AllByRecursion (λ b. is_plain b ≡ true) (take start bytes)
    → drop start bytes ≡ letter ∷ drop (start + 1) bytes → is_letter letter ≡ true
    → place ≡ (start + 1) + run (is_in (Repeat letter)) (drop (start + 1) bytes)
    → drop place bytes ≡ behind (is_in (Repeat letter)) (drop (start + 1) bytes)
    → signs ≤ length (drop place bytes) → AllByRecursion (λ b. is_sign b ≡ true) (take signs (drop place bytes)) → signs ≤ 1
    → drop last bytes ≡ behind (is_in Plain) (drop (place + signs) bytes)
    → Some continued ≡ tie_at_end (drop last bytes) → place ≤ start + 8
    → read_letters letter (place - start) ≡ Some (natural_note step octave) → alteration ≡ alteration_of (take signs (drop place bytes))
    → IsReadAlone bytes (noted (Some (record { step = step; octave = octave; alteration = alteration })) start (place + signs) continued)
usual_at bytes start letter place signs last continued step octave alteration below plain at is is_place next_is within all one last_is tie few read by =
    let rest = drop (start + 1) bytes in
    let more = front (is_in (Repeat letter)) rest in
    let next = behind (is_in (Repeat letter)) rest in
    let counted : length (take start bytes) ≡ start = length-take-le start bytes (omega (arith, below)) in
    let long : length more ≡ run (is_in (Repeat letter)) rest = length-take-le (run (is_in (Repeat letter)) rest) rest (run_within (Repeat letter) rest) in
    let inside : signs ≤ length next = subst (λ (xs : List ℕ). signs ≤ length xs) next_is within in
    let all_signs = subst (λ (xs : List ℕ). AllByRecursion (λ b. is_sign b ≡ true) (take signs xs)) next_is all in
    let size : length (take signs next) ≡ signs = length-take-le signs next inside in
    let tail : drop (place + signs) bytes ≡ drop signs next = sym (drop-drop signs place bytes) ∙ ap (λ (xs : List ℕ). drop signs xs) next_is in
    let tied : Some continued ≡ tie_at_end (behind (is_in Plain) (drop signs next)) =
    tie ∙ ap tie_at_end (last_is ∙ ap (λ (xs : List ℕ). behind (is_in Plain) xs) tail) in
    let said = usual_read (take start bytes) letter rest more next signs (front (is_in Plain) (drop signs next)) (behind (is_in Plain) (drop signs next)) continued
    plain is refl refl inside all_signs one refl refl tied (omega (arith, long, is_place, few)) in
    let letters : place - start ≡ length more + 1 = omega (arith, long, is_place) in
    let pitch = pitch_is letter more (take signs next) step octave alteration (ap (λ (n : ℕ). read_letters letter n) (sym letters) ∙ read)
    (by ∙ ap (λ (xs : List ℕ). alteration_of (take signs xs)) next_is) in
    let whole : take start bytes ++ (letter ∷ rest) ≡ bytes = grind (arith, nat_tests, take-append-drop) in
    let end : length (take start bytes) + length (letter ∷ more) + length (take signs next) ≡ place + signs = omega (arith, counted, long, size, is_place) in
    subst (λ (xs : List ℕ). IsReadAlone xs (noted (Some (record { step = step; octave = octave; alteration = alteration })) start (place + signs) continued)) whole
    (subst (λ (p : Option Spelled). IsReadAlone (take start bytes ++ (letter ∷ rest)) (noted p start (place + signs) continued)) pitch
    (subst (λ (e : ℕ). IsReadAlone (take start bytes ++ (letter ∷ rest)) (noted (pitch_of (letter ∷ more) (take signs next)) start e continued)) end
    (subst (λ (s : ℕ). IsReadAlone (take start bytes ++ (letter ∷ rest))
    (noted (pitch_of (letter ∷ more) (take signs next)) s (length (take start bytes) + length (letter ∷ more) + length (take signs next)) continued)) counted said)))

-- a rest whose sign stands last
pub rest_at : (bytes : List ℕ) (start first : ℕ) → AllByRecursion (λ b. is_plain b ≡ true) (take start bytes)
    → drop start bytes ≡ first ∷ drop (start + 1) bytes → first ≡ 114 → start + 1 ≡ length bytes → IsReadAlone bytes lone_rest
rest_at bytes start first plain at is last =
    let none : drop (start + 1) bytes ≡ [] = drop_all (start + 1) bytes (omega (arith, last)) in
    let whole : take start bytes ++ (114 ∷ []) ≡ bytes = grind (arith, nat_tests, take-append-drop) in
    subst (λ (xs : List ℕ). IsReadAlone xs lone_rest) whole (rest_at_end (take start bytes) plain)
