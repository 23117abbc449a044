-- Where a reader stops before the end of the bytes, however they go on, a rule is broken in what it
-- has read. For with a line that is too long they would break another rule than where they end.
use Rattle.std.proofs.Common.{◌≡◌, ◌∙◌, refl, sym, ap, ℕ, zero, suc, ◌+◌, ◌-◌, ◌≤◌, ◌<◌, Bool, true, false, ◌==◌}
use Rattle.std.proofs.Common.{List, [], ◌∷◌, ◌++◌, length, take, arith, Option, Some, None, append_assoc}
use Rattle.std.proofs.Common.{get_or, length-append}
use Rattle.std.proofs.lemmas.Bool.{ne_eqb}
use Rattle.std.proofs.lemmas.Bool.Decides.{nat_tests}
use Rattle.std.proofs.lemmas.List.{take_all}
use Rattle.std.proofs.Math.Seq.{get_or-append_seam}
use Rattle.hum_stage.specs.declared.faults.End.{End}
use Rattle.hum_stage.specs.declared.faults.End.TheVariants.{Closed, Broken}
use Rattle.hum_stage.specs.declared.faults.Rule.{Rule}
use Rattle.hum_text.specs.declared.Limits.{Limits}
use Rattle.hum_text.specs.declared.TextFault.{TextFault}
use Rattle.hum_text.specs.Text.{pieces, without_cr, rule_in, rule_at, rule_of_line, fault_of, IsAtStart}
use Rattle.hum_text.proofs.PieceLemmas.{NoLf}
use Rattle.hum_text.proofs.TextLemmas.{rule-at-line, last-snoc}
use Rattle.hum_read.specs.Denoted.{text_rule, end_at}
use Rattle.hum_nodes.specs.Settled.{fault_within}
use Rattle.hum_nodes.proofs.Denotes.{at_byte, at_end}
use Rattle.hum_nodes.proofs.FrontFaults.{AtByte, AtEnd, breaks, faulty, or_none, within_front}
use Rattle.hum_nodes.proofs.Pieces.{free_append, free_cons}
use Rattle.hum_nodes.proofs.Lines.{is_limit, limits, limits_at}

-- The end of the bytes breaks no rule of size.
pub end_limits : (l : Limits) (p : List ℕ) (m : ℕ) (f : TextFault) → fault_within l [] p ≡ None
    → fault_of l p ≡ Some (m, f) → limits (text_rule f) ≡ false
end_limits l p m f sound h = elim (faulty l [] p m f h) [
  | AtByte stands k ↦ cc
  | AtEnd none line rule ↦ rw (← at_end p f rule) refl
]

-- Bytes that are no LF break only these.

no_lf : (x : List ℕ) (b : ℕ) (r : List ℕ) → NoLf (x ++ b ∷ r) → b ≡ 10 → ⊥
no_lf x b r free is = free (length x) (omega (arith, length-append x (b ∷ r))) (get_or-append_seam x b r 0 ∙ is)

pub within_limits : (l : Limits) (p q : List ℕ) → NoLf q → (m : ℕ) (f : TextFault)
    → fault_within l p q ≡ Some (m, f) → limits (text_rule f) ≡ true
within_limits l p q free m f h =
    let k = breaks l p q m f h in
    let at = append_assoc p k.front (k.byte ∷ []) in
    let other = no_lf k.front k.byte k.rest (rw k.split at free) in
    at_byte l ((p ++ k.front) ++ k.byte ∷ []) f (ap (rule_at l) at ∙ k.rule)
    (ap (λ n. n == 10) (last-snoc (p ++ k.front) k.byte 0) ∙ ne_eqb k.byte 10 other)

-- Bytes without LF, more than a line may have, break one.

last_none : (l : Limits) (p q : List ℕ) (b : ℕ) → fault_within l p (q ++ b ∷ []) ≡ None
    → rule_at l (p ++ (q ++ b ∷ [])) ≡ None
unfolding fault_within
last_none = grind (arith, nat_tests, or_none, within_front, append_assoc)

-- (97 is the letter a.)
pub long_breaks : (l : Limits) (before held : List ℕ) → IsAtStart before → NoLf (held ++ 97 ∷ [])
    → l.line ≤ length held → fault_within l before (held ++ 97 ∷ []) ≡ None → ⊥
long_breaks l before held start free long h =
    let all = held ++ 97 ∷ [] in
    let n = length-append held (97 ∷ []) in
    let k = length held in
    let whole : take (k + 1) all ≡ all = take_all (k + 1) all (omega arith) in
    let low : k < length all = omega arith in
    let at : k ≡ length all - 1 = omega arith in
    let byte : get_or all k 0 ≡ 97 = ap (λ i. get_or all i 0) at ∙ last-snoc held 97 0 in
    let none : rule_of_line l (length (pieces before) + 1) (length before) all k ≡ None =
    sym (rule-at-line l before all k start low (λ j less. free j (omega arith)))
    ∙ ap (λ z. rule_at l (before ++ z)) whole ∙ last_none l before held 97 h in
    let open_line : rule_in l (length (pieces before) + 1) all false (length before + (k + 1)) ≡ None =
    rw (byte, whole) at none in
    let kept : without_cr all ≡ all = grind (arith, nat_tests, last-snoc) in
    grind (arith, nat_tests, n, long, kept, open_line)

-- Bytes enough.

pub one_free : NoLf (97 ∷ [])
one_free = free_cons 97 [] (λ e. absurd (omega arith)) (λ k l. absurd (omega arith))

pub some_long : (n : ℕ) → (q : List ℕ) × NoLf q × (n ≤ length q)
some_long zero = ([], (λ k i. absurd (omega arith)), omega arith)
some_long (suc n) =
    let k = some_long n in
    let long = k.2 in
    (97 ∷ k.0, free_append (97 ∷ []) k.0 one_free k.1, omega arith)

-- the same of an end
abbrev pub end_limit : End → Bool
end_limit Closed = false
end_limit (Broken f) = is_limit f.rule

pub limits_end : (stage : ℕ) (o : Option (ℕ × Rule)) → end_limit (end_at stage o) ≡ limits_at o
limits_end stage o = grind arith
