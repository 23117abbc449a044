-- The lines before a text's first fault are short, and have no LF.
use Rattle.std.proofs.Common.{◌≡◌, ◌∙◌, refl, sym, ap, subst, ℕ, zero, suc, ◌+◌, ◌-◌, ◌<◌, ◌≤◌, ◌==◌, Bool, true, false, cond, ◌&&◌}
use Rattle.std.proofs.Common.{List, [], ◌∷◌, ◌++◌, length, take, get_or, Option, None, Some, arith, append_assoc, append-nil, length-append}
use Rattle.std.specs.Prelude.{nat_lt}
use Rattle.std.specs.List.{AllByRecursion}
use Rattle.std.proofs.lemmas.Bool.{eqb-true, or_parts}
use Rattle.std.proofs.lemmas.Bool.Decides.{nat_tests}
use Rattle.std.proofs.lemmas.List.{take-append-le, take_at, get_or_append_left}
use Rattle.std.proofs.Math.Seq.{take-length, get_or-append_seam}
use Rattle.hum_text.specs.declared.TextFault.{TextFault}
use Rattle.hum_text.specs.declared.TextFault.TheVariants.{S1, S2}
use Rattle.hum_text.specs.Text.{lines, fault_of, without_cr, ends_in_cr, rule_in, rule_of_line, IsLawful}
use Rattle.hum_text.specs.Reading.{Stands}
use Rattle.hum_text.proofs.PieceLemmas.{NoLf}
use Rattle.hum_text.proofs.TextLemmas.{step-line, step-fault, step-last, step-end-fault, step-end, stands-new}
use Rattle.hum_score.specs.Spelling.{has_byte}
use Rattle.hum_read.specs.Denoted.{standard, up_to}

-- a line that may be a record's text
pub record IsShort (line : List ℕ) : Type 0 where
  pub at_most : length line ≤ 1048576
  pub no_line_end : has_byte 10 line ≡ false

-- What comes behind the lines that were given, up to the first fault, is short.
pub record After (all : List ℕ) (given : List (List ℕ)) : Type 0 where
  pub more : List (List ℕ)
  pub is : up_to (fault_of standard all) (lines all) ≡ given ++ more
  pub short : AllByRecursion IsShort more

-- a rule that isn't broken

short_in : (n : ℕ) (piece : List ℕ) (ended : Bool) (size : ℕ) → rule_in standard n piece ended size ≡ None
    → length (without_cr piece) ≤ 1048576
short_in n piece ended size e =
    by (ended && length (without_cr piece) == 0) (nat_lt 1048576 (length (without_cr piece))) refl _ e
  where
    by : (a b : Bool) → nat_lt 1048576 (length (without_cr piece)) ≡ b → (later : Option TextFault)
        → cond a (Some S1) (cond b (Some S2) later) ≡ None → length (without_cr piece) ≤ 1048576
    by true b w later e = cc
    by false true w later e = cc
    by false false w later e = grind (arith, nat_tests, w)

-- no LF

lf_free : (line : List ℕ) → NoLf line → has_byte 10 line ≡ false
lf_free [] h = refl
lf_free (x ∷ xs) h = by (x == 10) refl (lf_free xs (λ k less is. h (suc k) (omega (arith, less)) is))
  where
    by : (b : Bool) → (x == 10) ≡ b → has_byte 10 xs ≡ false → has_byte 10 (x ∷ xs) ≡ false
    by true w more = absurd (h 0 (omega arith) (eqb-true x 10 w))
    by false w more = rw w more

taken_free : (n : ℕ) (line : List ℕ) → has_byte 10 line ≡ false → has_byte 10 (take n line) ≡ false
taken_free zero line h = refl
taken_free (suc n) [] h = refl
taken_free (suc n) (x ∷ xs) h =
    let both = or_parts (x == 10) (has_byte 10 xs) h in rw both.0 (taken_free n xs both.1)

without_free : (line : List ℕ) → has_byte 10 line ≡ false → has_byte 10 (without_cr line) ≡ false
without_free line h = by (ends_in_cr line)
  where
    by : (b : Bool) → has_byte 10 (cond b (take (length line - 1) line) line) ≡ false
    by true = taken_free (length line - 1) line h
    by false = h

-- One byte more of a line.

same_rule : (n t : ℕ) (held more : List ℕ) (k : ℕ) → k < length held
    → rule_of_line standard n t (held ++ more) k ≡ rule_of_line standard n t held k
same_rule n t held more k less =
    rw (get_or_append_left held more 0 k less, take-append-le k held more (omega (arith, less)), take-append-le (k + 1) held more (omega (arith, less))) refl

longer : (n t b : ℕ) (held : List ℕ) → IsLawful standard n t held
    → rule_of_line standard n t (held ++ b ∷ []) (length held) ≡ None → IsLawful standard n t (held ++ b ∷ [])
longer n t b held lawful last k less = by (nat_lt k (length held)) refl
  where
    size : length (held ++ b ∷ []) ≡ length held + 1
    size = length-append held (b ∷ [])

    by : (v : Bool) → nat_lt k (length held) ≡ v → rule_of_line standard n t (held ++ b ∷ []) k ≡ None
    by true w =
        let below : k < length held = grind (arith, nat_tests, w) in
        same_rule n t held (b ∷ []) k below ∙ lawful k below
    by false w =
        let at : length held ≡ k = grind (arith, nat_tests, w, size, less) in
        subst (λ (i : ℕ). rule_of_line standard n t (held ++ b ∷ []) i ≡ None) at last

still_free : (b : ℕ) (held : List ℕ) → (b == 10) ≡ false → NoLf held → NoLf (held ++ b ∷ [])
still_free b held other free k less is = by (nat_lt k (length held)) refl
  where
    size : length (held ++ b ∷ []) ≡ length held + 1
    size = length-append held (b ∷ [])

    by : (v : Bool) → nat_lt k (length held) ≡ v → ⊥
    by true w =
        let below : k < length held = grind (arith, nat_tests, w) in
        free k below (sym (get_or_append_left held (b ∷ []) 0 k below) ∙ is)
    by false w =
        let at : k ≡ length held = grind (arith, nat_tests, w, size, less) in
        let here : b ≡ 10 = sym (get_or-append_seam held b [] 0) ∙ subst (λ (i : ℕ). get_or (held ++ b ∷ []) i 0 ≡ 10) at is in
        let no : (b == 10) ≡ true = rw here refl in
        cc

front_free : (b : ℕ) (held : List ℕ) → NoLf held → (j : ℕ) → j < length held → get_or (held ++ b ∷ []) j 0 ≡ 10 → ⊥
front_free b held free j less is = free j less (sym (get_or_append_left held (b ∷ []) 0 j less) ∙ is)

-- A fault in the next line: nothing comes before it.
stops : (all : List ℕ) (given : List (List ℕ)) (rest : List ℕ) (n t : ℕ) (f : TextFault) → Stands standard all given rest n t
    → fault_of standard all ≡ Some (n + 1, f) → After all given
stops all given rest n t f st e = record {
  more = [];
  is =
      let less : n + 1 - 1 ≡ n = omega arith in
      ap (λ (o : Option (ℕ × TextFault)). up_to o (lines all)) e
      ∙ ap (λ (m : ℕ). take m (lines all)) less
      ∙ ap (λ (ls : List (List ℕ)). take n ls) st.left
      ∙ take_at given (lines rest) n st.number
      ∙ sym (append-nil given);
  short = tt;
}

one_more : (all : List ℕ) (given : List (List ℕ)) (line : List ℕ) → IsShort line → After all (given ++ line ∷ []) → After all given
one_more all given line is h = record {
  more = line ∷ h.more;
  is = h.is ∙ append_assoc given (line ∷ []) h.more;
  short = (is, h.short);
}

ends : (all : List ℕ) (given : List (List ℕ)) (n t : ℕ) → Stands standard all given [] n t → After all given
ends all given n t st =
    let e = step-end standard all given n t st in
    record {
      more = [];
      is = ap (λ (o : Option (ℕ × TextFault)). up_to o (lines all)) e.1 ∙ e.0 ∙ sym (append-nil given);
      short = tt;
    }

-- the last line, which no LF ends
at_end : (all : List ℕ) (given : List (List ℕ)) (held : List ℕ) (n t : ℕ) → Stands standard all given held n t → NoLf held
    → IsLawful standard (n + 1) t held → After all given
at_end all given [] n t st free lawful = ends all given n t st
at_end all given (b ∷ bs) n t st free lawful = by (length (without_cr (b ∷ bs)) == 0) refl
  where
    line : List ℕ
    line = without_cr (b ∷ bs)

    k : ℕ
    k = length bs

    last : rule_of_line standard (n + 1) t (b ∷ bs) k ≡ None
    last = lawful k (omega arith)

    not_lf : (v : Bool) → (get_or (b ∷ bs) k 0 == 10) ≡ v → v ≡ false
    not_lf true w = absurd (free k (omega arith) (eqb-true _ 10 w))
    not_lf false w = refl

    whole : take (k + 1) (b ∷ bs) ≡ b ∷ bs
    whole = let same : k + 1 ≡ length (b ∷ bs) = omega arith in ap (λ (i : ℕ). take i (b ∷ bs)) same ∙ take-length (b ∷ bs)

    short : length line ≤ 1048576
    short = short_in (n + 1) (b ∷ bs) false (t + (k + 1)) (rw (not_lf (get_or (b ∷ bs) k 0 == 10) refl, whole) at last)

    by : (v : Bool) → (length line == 0) ≡ v → After all given
    by true w =
        stops all given (b ∷ bs) n t _ st
        (step-end-fault standard all given (b ∷ bs) n t st free (omega arith) (eqb-true _ 0 w) lawful)
    by false w =
        let some : 0 < length line = grind (arith, nat_tests, w) in
        one_more all given line (record { at_most = short; no_line_end = without_free (b ∷ bs) (lf_free (b ∷ bs) free) })
        (ends all (given ++ line ∷ []) (n + 1) (t + length (b ∷ bs)) (step-last standard all given (b ∷ bs) n t st free some lawful))

scan : (all : List ℕ) (given : List (List ℕ)) (held rest : List ℕ) (n t : ℕ) → Stands standard all given (held ++ rest) n t
    → NoLf held → IsLawful standard (n + 1) t held → After all given
scan all given held [] n t st free lawful =
    at_end all given held n t (subst (λ (r : List ℕ). Stands standard all given r n t) (append-nil held) st) free lawful
scan all given held (b ∷ rest) n t st free lawful =
    by (b == 10) refl (rule_of_line standard (n + 1) t (held ++ b ∷ []) (length held)) refl
    (λ more empty ok. scan all (given ++ without_cr held ∷ []) [] rest (n + 1) (t + (length held + 1)) more empty ok)
    (λ on still ok. scan all given (held ++ b ∷ []) rest n t on still ok)
  where
    size : length (held ++ b ∷ []) ≡ length held + 1
    size = length-append held (b ∷ [])

    at : Stands standard all given ((held ++ b ∷ []) ++ rest) n t
    at = subst (λ (r : List ℕ). Stands standard all given r n t) (sym (append_assoc held (b ∷ []) rest)) st

    refused : (f : TextFault) → rule_of_line standard (n + 1) t (held ++ b ∷ []) (length held) ≡ Some f → After all given
    refused f e =
        stops all given (held ++ b ∷ rest) n t f st
        (step-fault standard all given (held ++ b ∷ []) rest n t (length held) f at (omega (arith, size)) (front_free b held free) e
        (λ j less. same_rule (n + 1) t held (b ∷ []) j less ∙ lawful j less))

    ended : b ≡ 10 → rule_of_line standard (n + 1) t (held ++ b ∷ []) (length held) ≡ None → IsShort (without_cr held)
    ended is e =
        let ten : (get_or (held ++ b ∷ []) (length held) 0 == 10) ≡ true = rw (get_or-append_seam held b [] 0, is) refl in
        let front : take (length held) (held ++ b ∷ []) ≡ held = take_at held (b ∷ []) (length held) refl in
        record {
          at_most = short_in (n + 1) held true (t + (length held + 1)) (rw (ten, front) at e);
          no_line_end = without_free held (lf_free held free);
        }

    by : (v : Bool) → (b == 10) ≡ v → (o : Option TextFault)
        → rule_of_line standard (n + 1) t (held ++ b ∷ []) (length held) ≡ o
        → (Stands standard all (given ++ without_cr held ∷ []) ([] ++ rest) (n + 1) (t + (length held + 1)) → NoLf []
        → IsLawful standard (n + 1 + 1) (t + (length held + 1)) [] → After all (given ++ without_cr held ∷ []))
        → (Stands standard all given ((held ++ b ∷ []) ++ rest) n t → NoLf (held ++ b ∷ [])
        → IsLawful standard (n + 1) t (held ++ b ∷ []) → After all given)
        → After all given
    by v w (Some f) e next on = refused f e
    by true w None e next on =
        let is : b ≡ 10 = eqb-true b 10 w in
        let lawful_on = subst (λ (x : ℕ). IsLawful standard (n + 1) t (held ++ x ∷ [])) is (longer (n + 1) t b held lawful e) in
        let st_on = subst (λ (x : ℕ). Stands standard all given (held ++ x ∷ rest) n t) is st in
        one_more all given (without_cr held) (ended is e)
        (next (step-line standard all given held rest n t st_on free lawful_on) (λ k less. absurd (omega (arith, less)))
        (λ k less. absurd (omega (arith, less))))
    by false w None e next on = on at (still_free b held w free) (longer (n + 1) t b held lawful e)

pub short_lines : (all : List ℕ) → AllByRecursion IsShort (up_to (fault_of standard all) (lines all))
short_lines all =
    let h = scan all [] [] all 0 0 (stands-new standard all) (λ k less. absurd (omega (arith, less))) (λ k less. absurd (omega (arith, less))) in
    subst (AllByRecursion IsShort) (sym h.is) h.short
