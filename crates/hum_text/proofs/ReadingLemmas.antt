-- What a reader stands for, from step to step.
use Rattle.std.proofs.lemmas.Grind.{common_steps}
use Rattle.std.proofs.lemmas.Bool.Decides.{nat_tests}
use Rattle.std.proofs.Common.{◌≡◌, ◌≢◌, ℕ, ◌+◌, ◌<◌, ◌≤◌, true, false, List, [], ◌∷◌, ◌++◌}
use Rattle.std.proofs.Common.{length, get_or, take, drop, ap, sym, ◌∙◌, subst, arith, None}
use Rattle.std.proofs.Common.{Some, Result, Ok, Err, append_assoc, length-take}
use Rattle.std.proofs.Common.{◌==◌}
use Rattle.std.proofs.lemmas.Bool.{eqb-true, eq-eqb}
use Rattle.std.proofs.lemmas.List.{drop_more, get_or-take, append-nil, take-append-drop}
use Rattle.std.proofs.Math.Seq.{drop-length, take-length}
use Rattle.memchr.specs.Find.{IsFirstByte, is_byte}
use Rattle.hum_text.specs.declared.Limits.{Limits}
use Rattle.hum_text.specs.declared.TextFault.{TextFault}
use Rattle.hum_text.specs.declared.TextFault.TheVariants.{S1}
use Rattle.hum_text.specs.declared.reader.Step.{Step}
use Rattle.hum_text.specs.declared.reader.Step.TheVariants.{Line}
use Rattle.hum_text.specs.Text.{lines, without_cr, rule_of_line, fault_of, IsOfText, IsLawful, BreaksFirst}
use Rattle.hum_text.specs.Reading.{Reader, Stands, Holds, Gives, GivesNext, bytes_read}
use Rattle.hum_text.specs.Reading.{NeedsRead}
use Rattle.hum_text.proofs.PieceLemmas.{NoLf}
use Rattle.hum_text.proofs.TextLemmas.{step-line, step-fault, step-last, step-end-fault, step-end}

-- a search that found no LF
pub none-free : (block : List ℕ) → IsFirstByte (is_byte 10) block None → NoLf block
none-free block none k h is = none k (omega arith) h (eq-eqb _ 10 is)

-- before the first LF there is none
pub first-free : (block : List ℕ) (k : ℕ) → IsFirstByte (is_byte 10) block (Some k) → (j : ℕ) → j < k
    → get_or block j 0 ≡ 10 → ⊥
first-free block k first j low is = first.0.before j (omega arith) low (eq-eqb _ 10 is)

-- the line before the first LF, and that LF
pub to-line : (block : List ℕ) (k : ℕ) → IsFirstByte (is_byte 10) block (Some k) → take k block ++ 10 ∷ [] ≡ take (k + 1) block
to-line = grind (arith, common_steps)

pub nil-of : (xs : List ℕ) → length xs ≡ 0 → xs ≡ []
nil-of = grind (arith, common_steps)

module _ (l : Limits) (all : List ℕ) (gs : List (List ℕ)) (block rest : List ℕ) (n t : ℕ) where
  -- the first byte that breaks a rule is the fault
  pub stands-fault : Stands l all gs (block ++ rest) n t → (size k : ℕ) (f : TextFault) → size ≤ length block
      → k < length (take size block)
      → ((j : ℕ) → j + 1 < size → get_or block j 0 ≡ 10 → ⊥) → rule_of_line l (n + 1) t (take size block) k ≡ Some f
      → ((j : ℕ) → j < k → rule_of_line l (n + 1) t (take size block) j ≡ None)
      → fault_of l all ≡ Some (length gs + 1, f)
  stands-fault st size k f fits high free is none =
      let at : block ++ rest ≡ take size block ++ (drop size block ++ rest) =
      ap (λ (zs : List ℕ). zs ++ rest) (sym (take-append-drop size block))
      ∙ append_assoc (take size block) (drop size block) rest in
      let S : List ℕ → Type 0 = λ zs. Stands l all gs zs n t in
      let held_in : k < size = omega (arith, simp length-take at high) in
      step-fault l all gs (take size block) (drop size block ++ rest) n t k f (subst S at st) high
      (λ j low ten. free j (omega arith) (sym (get_or-take size block j 0 (omega arith)) ∙ ten)) is none
      ∙ ap (λ (m : ℕ). Some (m + 1, f)) (sym st.number)

  -- the line before the first LF is given
  pub stands-line : Stands l all gs (block ++ rest) n t → (k : ℕ) → IsFirstByte (is_byte 10) block (Some k)
      → IsLawful l (n + 1) t (take (k + 1) block)
      → Stands l all (gs ++ without_cr (take k block) ∷ []) (drop (k + 1) block ++ rest) (n + 1) (t + (k + 1))
  stands-line st k first none =
      let high : k < length block = first.0.high in
      let ten : get_or block k 0 ≡ 10 = eqb-true _ 10 first.1 in
      let held : take (k + 1) block ≡ take k block ++ 10 ∷ [] = sym (to-line block k first) in
      let at : block ++ rest ≡ take k block ++ 10 ∷ (drop (k + 1) block ++ rest) =
      ap (λ (zs : List ℕ). zs ++ rest) (sym (take-append-drop k block)
      ∙ ap (λ (zs : List ℕ). take k block ++ zs) (drop_more block k 0 high
      ∙ ap (λ (b : ℕ). b ∷ drop (k + 1) block) ten))
      ∙ append_assoc (take k block) (10 ∷ drop (k + 1) block) rest in
      let S : List ℕ → Type 0 = λ zs. Stands l all gs zs n t in
      let len : length (take k block) ≡ k = simp length-take (omega arith) in
      let N : ℕ → Type 0 =
      λ m. Stands l all (gs ++ without_cr (take k block) ∷ []) (drop (k + 1) block ++ rest) (n + 1) (t + (m + 1)) in
      let L : List ℕ → Type 0 = λ zs. IsLawful l (n + 1) t zs in
      subst N len (step-line l all gs (take k block) (drop (k + 1) block ++ rest) n t (subst S at st)
      (λ j h is. first-free block k first j (omega arith) (sym (get_or-take k block j 0 (omega arith)) ∙ is))
      (subst L held none))

  -- the last line, which no LF ends, is given
  pub stands-last : Stands l all gs (block ++ rest) n t → rest ≡ [] → IsFirstByte (is_byte 10) block None
      → 0 < length (without_cr block)
      → IsLawful l (n + 1) t block
      → Stands l all (gs ++ without_cr block ∷ []) (drop (length block) block ++ rest) (n + 1) (t + length block)
  stands-last st empty unended some none =
      let at : block ++ rest ≡ block = ap (λ (zs : List ℕ). block ++ zs) empty ∙ append-nil block in
      let S : List ℕ → Type 0 = λ zs. Stands l all gs zs n t in
      let T : List ℕ → Type 0 = λ zs. Stands l all (gs ++ without_cr block ∷ []) zs (n + 1) (t + length block) in
      let nil : drop (length block) block ++ rest ≡ [] = grind (arith, nat_tests, drop-length) in
      subst T (sym nil) (step-last l all gs block n t (subst S at st) (none-free block unended) some none)

  -- the last line is one CR
  pub stands-cr : Stands l all gs (block ++ rest) n t → rest ≡ [] → IsFirstByte (is_byte 10) block None
      → 0 < length block
      → length (without_cr block) ≡ 0 → IsLawful l (n + 1) t block
      → fault_of l all ≡ Some (length gs + 1, S1)
  stands-cr st empty unended long bare none =
      let at : block ++ rest ≡ block = ap (λ (zs : List ℕ). block ++ zs) empty ∙ append-nil block in
      let S : List ℕ → Type 0 = λ zs. Stands l all gs zs n t in
      step-end-fault l all gs block n t (subst S at st) (none-free block unended) long bare none
      ∙ ap (λ (m : ℕ). Some (m + 1, S1)) (sym st.number)

  -- nothing is left
  pub stands-end : Stands l all gs (block ++ rest) n t → rest ≡ [] → length block ≡ 0
      → (lines all ≡ gs) × (fault_of l all ≡ None)
  stands-end st empty none =
      let at : block ++ rest ≡ [] = ap (λ (zs : List ℕ). block ++ zs) empty ∙ append-nil block ∙ nil-of block none in
      let S : List ℕ → Type 0 = λ zs. Stands l all gs zs n t in
      step-end l all gs n t (subst S at st)

-- What was given is a prefix of the lines of all.
pub given-front : {R : Type 0} (v : Reader R) (all : List ℕ) (given : List (List ℕ)) (rest : List ℕ)
    → Holds v all given rest
    → (more : List (List ℕ)) × (lines all ≡ given ++ more)
given-front v all given rest h = (lines (v.pending ++ rest), h.stands.left)

take-all : (xs : List ℕ) (n : ℕ) → n ≡ length xs → take n xs ≡ xs
take-all xs n is = ap (λ (m : ℕ). take m xs) is ∙ take-length xs

pub drop-all : (xs : List ℕ) (n : ℕ) → length xs ≤ n → drop n xs ≡ []
drop-all = grind (arith, common_steps)

pub length-drop_le : (n : ℕ) (xs : List ℕ) → length (drop n xs) ≤ length xs
length-drop_le = grind (arith, common_steps)

-- What a fault gives, where it is the text's whatever follows.
pub gives-fault : {R : Type 0} (old new : Reader R) (result : Result Step TextFault) (f : TextFault) → result ≡ Err f
    → ((all : List ℕ) (gs : List (List ℕ)) (rest : List ℕ) → Holds old all gs rest → IsOfText f
    → fault_of old.limits all ≡ Some (length gs + 1, f))
    → GivesNext old result new
gives-fault {R} old new result f is fault = λ all gs rest h end.
    let P : Result Step TextFault → Type 0 =
    λ r. Gives old.limits all gs r new.line (λ after. Holds new all after rest) in
    subst P (sym is) (fault all gs (bytes_read old new ++ rest) h)

-- a reader that has handed out these bytes as a line, of the first pending ones
abbrev pub given_of : {R : Type 0} → Reader R → List ℕ → ℕ → Reader R
given_of v bytes size =
    record v { line = bytes; pending = drop size v.pending; given = v.given + 1; taken = v.taken + size }

-- What a line gives that was handed out.
pub gives-line : {R : Type 0} (old new : Reader R) (bytes : List ℕ) (size : ℕ) → new ≡ given_of old bytes size
    → ((all : List ℕ) (gs : List (List ℕ)) (rest : List ℕ) → Holds old all gs rest
    → Stands old.limits all (gs ++ bytes ∷ []) (drop size old.pending ++ rest) (old.given + 1) (old.taken + size))
    → GivesNext old (Ok Line) new
gives-line = grind (arith, nat_tests, drop-all, length-drop_le)

-- the first fault in the first bytes of the line, as a scan of them finds it
pub found-fault : {R : Type 0} (v : Reader R) (size : ℕ) (f : TextFault) → size ≤ length v.pending
    → ((j : ℕ) → j + 1 < size → get_or v.pending j 0 ≡ 10 → ⊥)
    → BreaksFirst v.limits (v.given + 1) v.taken (take size v.pending) f
    → (all : List ℕ) (gs : List (List ℕ)) (rest : List ℕ) → Holds v all gs rest
    → fault_of v.limits all ≡ Some (length gs + 1, f)
found-fault v size f fits free found all gs rest h =
    stands-fault v.limits all gs v.pending rest v.given v.taken h.stands size found.place f fits
    found.within free found.breaks found.before

-- a poll that needs a read finds no fault in the bytes that are pending
pub no-fault : {R : Type 0} (v : Reader R) (size : ℕ) (f : TextFault) → NeedsRead v → size ≡ length v.pending
    → BreaksFirst v.limits (v.given + 1) v.taken (take size v.pending) f → ⊥
no-fault = grind (arith, nat_tests, take-all)

-- where nothing is found in the bytes that are pending a poll needs a read
pub needs-read : {R : Type 0} (v : Reader R) (size : ℕ) → v.fault ≡ None → v.ended ≡ false
    → IsFirstByte (is_byte 10) v.pending None
    → size ≡ length v.pending → IsLawful v.limits (v.given + 1) v.taken (take size v.pending) → NeedsRead v
needs-read = grind (arith, nat_tests, none-free, take-all)

positive : (m : ℕ) → (m == 0) ≡ false → 0 < m
positive = grind (arith, nat_tests)

-- The line before the first LF is given, as a scan of it finds.
pub whole-given : {R : Type 0} (v : Reader R) (k size : ℕ) → IsFirstByte (is_byte 10) v.pending (Some k)
    → size ≡ k + 1
    → IsLawful v.limits (v.given + 1) v.taken (take size v.pending)
    → (all : List ℕ) (gs : List (List ℕ)) (rest : List ℕ) → Holds v all gs rest
    → Stands v.limits all (gs ++ without_cr (take k v.pending) ∷ []) (drop size v.pending ++ rest)
    (v.given + 1) (v.taken + size)
whole-given v k size first is none all gs rest h =
    let P : ℕ → Type 0 =
    λ m. Stands v.limits all (gs ++ without_cr (take k v.pending) ∷ []) (drop m v.pending ++ rest)
    (v.given + 1) (v.taken + m) in
    let L : ℕ → Type 0 = λ m. IsLawful v.limits (v.given + 1) v.taken (take m v.pending) in
    subst P (sym is) (stands-line v.limits all gs v.pending rest v.given v.taken h.stands k first (subst L is none))

-- The last line, which no LF ends, is given, as a scan of it finds.
pub last-given : {R : Type 0} (v : Reader R) (hay line : List ℕ) (size : ℕ) → v.ended ≡ true
    → IsFirstByte (is_byte 10) v.pending None
    → hay ≡ v.pending → size ≡ length v.pending → line ≡ without_cr hay → (length line == 0) ≡ false
    → IsLawful v.limits (v.given + 1) v.taken (take size v.pending)
    → (all : List ℕ) (gs : List (List ℕ)) (rest : List ℕ) → Holds v all gs rest
    → Stands v.limits all (gs ++ without_cr (take size v.pending) ∷ []) (drop size v.pending ++ rest)
    (v.given + 1) (v.taken + size)
last-given v hay line size is-end unended same is cut some none all gs rest h =
    let all-of : take size v.pending ≡ v.pending = take-all v.pending size is in
    let L : List ℕ → Type 0 = λ zs. IsLawful v.limits (v.given + 1) v.taken zs in
    let long : 0 < length (without_cr v.pending) = grind (arith, nat_tests, positive) in
    let P : ℕ → Type 0 =
    λ m. Stands v.limits all (gs ++ without_cr v.pending ∷ []) (drop m v.pending ++ rest)
    (v.given + 1) (v.taken + m) in
    rw all-of (subst P (sym is)
    (stands-last v.limits all gs v.pending rest v.given v.taken h.stands (h.done is-end) unended long
    (subst L all-of none)))

-- The last line is one CR, as a scan of it finds.
pub last-cr : {R : Type 0} (v : Reader R) (hay line : List ℕ) (size : ℕ) → v.ended ≡ true
    → IsFirstByte (is_byte 10) v.pending None
    → hay ≡ v.pending → size ≡ length v.pending → size ≢ 0 → line ≡ without_cr hay → (length line == 0) ≡ true
    → IsLawful v.limits (v.given + 1) v.taken (take size v.pending)
    → (all : List ℕ) (gs : List (List ℕ)) (rest : List ℕ) → Holds v all gs rest
    → fault_of v.limits all ≡ Some (length gs + 1, S1)
last-cr v hay line size is-end unended same is some cut empty none all gs rest h =
    let L : List ℕ → Type 0 = λ zs. IsLawful v.limits (v.given + 1) v.taken zs in
    stands-cr v.limits all gs v.pending rest v.given v.taken h.stands (h.done is-end) unended (omega arith)
    (ap (λ (zs : List ℕ). length (without_cr zs)) (sym same) ∙ ap length (sym cut) ∙ eqb-true _ 0 empty)
    (subst L (take-all v.pending size is) none)

-- Where nothing is left all lines were given, and the text has no fault.
pub none-left : {R : Type 0} (v : Reader R) (all : List ℕ) (gs : List (List ℕ)) (rest : List ℕ) → Holds v all gs rest
    → v.ended ≡ true → length v.pending ≡ 0
    → (lines all ≡ gs) × (fault_of v.limits all ≡ None)
none-left v all gs rest h is-end none =
    stands-end v.limits all gs v.pending rest v.given v.taken h.stands (h.done is-end) none
