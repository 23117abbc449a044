-- What is written is read as the same pitch.
use Rattle.std.proofs.lemmas.Grind.{common_steps}
use Rattle.std.proofs.lemmas.Bool.Decides.{nat_tests}
use Rattle.std.proofs.Common.{◌≡◌, ◌==◌, ◌+◌, ◌<◌, ℕ, zero, suc, ℤ, pos, negsuc, ◌+ℤ◌, ◌-ℤ◌, true, false, List}
use Rattle.std.proofs.Common.{◌++◌, Option, Some, length, drop, refl, ap, ◌∙◌, arith, ◌<ℤ◌, eq-eqb}
use Rattle.std.specs.Prelude.{replicate, slice_index}
use Rattle.std.proofs.lemmas.List.{length-replicate}
use Rattle.std.proofs.lemmas.Int.{ints}
use Rattle.hum_pitch.specs.Pitch.{Spelled}
use Rattle.hum_pitch.proofs.Steps.{same_note}
use Rattle.hum_pitch.specs.Spelling.{small_letters, capitals, letters, accidentals, spelling, run, natural_note}
use Rattle.hum_pitch.specs.Spelling.{read_letters, read_accidentals, altered_by, read_pitch}

pub capital_letters : (step n : ℕ) (z : ℤ) → z <ℤ pos 4 → pos n ≡ pos 4 -ℤ z
    → replicate n (slice_index capitals step) ≡ letters step (z -ℤ pos 4)
capital_letters step n (pos zero) small e = let f : n ≡ 4 = omega (arith, ints) in ap (λ k. replicate k (slice_index capitals step)) f
capital_letters step n (pos (suc zero)) small e = let f : n ≡ 3 = omega (arith, ints) in ap (λ k. replicate k (slice_index capitals step)) f
capital_letters step n (pos (suc (suc zero))) small e = let f : n ≡ 2 = omega (arith, ints) in ap (λ k. replicate k (slice_index capitals step)) f
capital_letters step n (pos (suc (suc (suc zero)))) small e = let f : n ≡ 1 = omega (arith, ints) in ap (λ k. replicate k (slice_index capitals step)) f
capital_letters step n (pos (suc (suc (suc (suc m))))) small e = absurd (omega (arith, ints))
capital_letters step n (negsuc b) small e = let f : n ≡ suc (suc (b + 3)) = omega (arith, ints) in ap (λ k. replicate k (slice_index capitals step)) f

eqb_self : (x : ℕ) → (x == x) ≡ true
eqb_self x = eq-eqb x x refl

pub run_over : (x k : ℕ) (ys : List ℕ) → run x ys ≡ 0 → run x (replicate k x ++ ys) ≡ k
unfolding run
run_over x zero ys e = e
run_over x (suc k) ys e = rw (eqb_self x) (ap suc (run_over x k ys e))

drop_over : (x k : ℕ) (ys : List ℕ) → drop k (replicate k x ++ ys) ≡ ys
drop_over = grind (arith, common_steps)

run_all : (x k : ℕ) → run x (replicate k x) ≡ k
unfolding run
run_all x zero = refl
run_all x (suc k) = rw (eqb_self x) (ap suc (run_all x k))

-- a run of one byte is as long as the text
as_long : (x k : ℕ) → (run x (replicate k x) == length (replicate k x)) ≡ true
as_long x k = rw (run_all x k, length-replicate k x) (eqb_self k)

flats_only : (k : ℕ) → (run 35 (replicate (suc k) 45) == length {A = ℕ} (replicate (suc k) 45)) ≡ false
unfolding run
flats_only k = rw (length-replicate {A = ℕ} (suc k) 45) (grind arith)

pub reads_accidentals : (a : ℤ) → read_accidentals (accidentals a) ≡ Some a
unfolding read_accidentals
reads_accidentals (pos k) = rw (as_long 35 k, length-replicate {A = ℕ} k 35) refl
reads_accidentals (negsuc k) =
    grind (arith, nat_tests, flats_only k, as_long 45 (suc k), length-replicate {A = ℕ} k 45)

-- no accidental is a letter
none_in_accidentals : (x : ℕ) (a : ℤ) → (35 == x) ≡ false → (45 == x) ≡ false → run x (accidentals a) ≡ 0
unfolding run
none_in_accidentals x (pos zero) e f = refl
none_in_accidentals x (pos (suc k)) e f = rw e refl
none_in_accidentals x (negsuc k) e f = rw f refl

whole : (x k : ℕ) (a : ℤ) (note : Spelled) → (35 == x) ≡ false → (45 == x) ≡ false
    → read_letters x (suc k) ≡ Some note
    → read_pitch (replicate (suc k) x ++ accidentals a) ≡ Some (record note { alteration = a })
whole x k a note e f read =
    let text = replicate (suc k) x ++ accidentals a in
    let by_count : ℕ → Option Spelled = λ count. altered_by (read_letters x count) (read_accidentals (drop count text)) in
    let by_rest : List ℕ → Option Spelled = λ rest. altered_by (read_letters x (suc k)) (read_accidentals rest) in
    let by_alteration : Option ℤ → Option Spelled = λ b. altered_by (read_letters x (suc k)) b in
    let by_note : Option Spelled → Option Spelled = λ b. altered_by b (Some a) in
    ap by_count (run_over x (suc k) (accidentals a) (none_in_accidentals x a e f))
    ∙ ap by_rest (drop_over x (suc k) (accidentals a))
    ∙ ap by_alteration (reads_accidentals a)
    ∙ ap by_note read

small : (step k : ℕ) (a : ℤ) → step < 7
    → read_pitch (replicate (suc k) (slice_index small_letters step) ++ accidentals a)
    ≡ Some (record (natural_note step (pos 3 +ℤ pos (suc k))) { alteration = a })
small zero k a h = whole 99 k a _ refl refl refl
small (suc zero) k a h = whole 100 k a _ refl refl refl
small (suc (suc zero)) k a h = whole 101 k a _ refl refl refl
small (suc (suc (suc zero))) k a h = whole 102 k a _ refl refl refl
small (suc (suc (suc (suc zero)))) k a h = whole 103 k a _ refl refl refl
small (suc (suc (suc (suc (suc zero))))) k a h = whole 97 k a _ refl refl refl
small (suc (suc (suc (suc (suc (suc zero)))))) k a h = whole 98 k a _ refl refl refl
small (suc (suc (suc (suc (suc (suc (suc n))))))) k a h = absurd (omega arith)

capital : (step k : ℕ) (a : ℤ) → step < 7
    → read_pitch (replicate (suc k) (slice_index capitals step) ++ accidentals a)
    ≡ Some (record (natural_note step (pos 4 -ℤ pos (suc k))) { alteration = a })
capital zero k a h = whole 67 k a _ refl refl refl
capital (suc zero) k a h = whole 68 k a _ refl refl refl
capital (suc (suc zero)) k a h = whole 69 k a _ refl refl refl
capital (suc (suc (suc zero))) k a h = whole 70 k a _ refl refl refl
capital (suc (suc (suc (suc zero)))) k a h = whole 71 k a _ refl refl refl
capital (suc (suc (suc (suc (suc zero))))) k a h = whole 65 k a _ refl refl refl
capital (suc (suc (suc (suc (suc (suc zero)))))) k a h = whole 66 k a _ refl refl refl
capital (suc (suc (suc (suc (suc (suc (suc n))))))) k a h = absurd (omega arith)

read_at : (p : Spelled) (o : ℤ) → p.step < 7 → p.octave ≡ o +ℤ pos 4
    → read_pitch (letters p.step o ++ accidentals p.alteration) ≡ Some p
read_at p (pos k) h e = grind (arith, nat_tests, pos, ints, small, same_note)
read_at p (negsuc k) h e =
    grind (arith, nat_tests, pos 4 -ℤ pos (suc k), pos (suc k), capital p.step k p.alteration h)

-- Whatever its octave and its alteration.
pub read_again : (p : Spelled) → p.step < 7 → read_pitch (spelling p) ≡ Some p
read_again p h = read_at p (p.octave -ℤ pos 4) h (omega (arith, ints))
