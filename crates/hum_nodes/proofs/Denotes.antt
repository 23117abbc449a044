-- What bytes denote at their end: no more records than a score may have, and a closed score where
-- no rule is broken.
use Rattle.std.proofs.Common.{◌≡◌, ◌∙◌, refl, sym, ap, ℕ, ◌-◌, ◌≤◌, true, false, List, [], ◌∷◌, ◌++◌, length, arith}
use Rattle.std.proofs.Common.{Option, Some, None, append_assoc, append-nil}
use Rattle.std.specs.Prelude.{is_some}
use Rattle.std.proofs.lemmas.Bool.Decides.{nat_tests}
use Rattle.std.proofs.lemmas.List.{length-map, length-take}
use Rattle.hum_score.specs.InOrder.{IsClosed}
use Rattle.hum_text.specs.declared.Limits.{Limits}
use Rattle.hum_text.specs.declared.TextFault.{TextFault}
use Rattle.hum_text.specs.declared.TextFault.TheVariants as text
use Rattle.hum_text.specs.Text.{pieces, lines, without_cr, ends_in_lf, rule_at, rule_at_end, fault_after, fault_of}
use Rattle.hum_text.proofs.PieceLemmas.{pieces-none}
use Rattle.hum_read.specs.Denoted.{up_to, score_of, text_rule}
use Rattle.hum_read.proofs.Denoting.{score-of}
use Rattle.hum_nodes.specs.Settled.{fault_within}
use Rattle.hum_nodes.proofs.Pieces.{one_piece}
use Rattle.hum_nodes.proofs.FrontFaults.{AtByte, AtEnd, after_front, faulty, or_none}
use Rattle.hum_nodes.proofs.Lines.{limits, denoted_closed, row_a_line}

-- The rules of a text: at a byte that is no LF those of its size, at the end S1.

at_named : (l : Limits) (p : List ℕ) (f : TextFault) → rule_at l p ≡ Some f → is_some (text_rule f) ≡ true
unfolding rule_at
at_named l p f h = grind (arith, h)

pub at_byte : (l : Limits) (p : List ℕ) (f : TextFault) → rule_at l p ≡ Some f → ends_in_lf p ≡ false
    → limits (text_rule f) ≡ true
unfolding rule_at
at_byte l p f h other = grind (arith, h, other)

pub at_end : (p : List ℕ) (f : TextFault) → rule_at_end p ≡ Some f → text.S1 ≡ f
unfolding rule_at_end
at_end p f h = grind (arith, h)

-- Each fault of a text names a rule.
pub text_named : (l : Limits) (q : List ℕ) (m : ℕ) (f : TextFault) → fault_after l [] q ≡ Some (m, f)
    → is_some (text_rule f) ≡ true
text_named l q m f h = elim (faulty l [] q m f h) [
  | AtByte stands k ↦ at_named l (k.front ++ k.byte ∷ []) f k.rule
  | AtEnd none line rule ↦ rw (← at_end q f rule) refl
]

pub closed_whole : (all : List ℕ) → (score_of all).fault ≡ None → IsClosed (score_of all).rows
closed_whole all h = grind (arith, nat_tests, score-of, denoted_closed, text_named)

-- No more lines are read than a score may have.

within_limit : (l : Limits) (p : List ℕ) → rule_at l p ≡ None → length (pieces p) ≤ l.records
unfolding rule_at
within_limit l p h = grind (arith, nat_tests, h)

few_sound : (l : Limits) (before q : List ℕ) → fault_within l before q ≡ None → length (pieces before) ≤ l.records
    → length (pieces (before ++ q)) ≤ l.records
unfolding fault_within
few_sound l before [] h few = rw append-nil few
few_sound l before (b ∷ q) h few =
    let next = before ++ b ∷ [] in
    let none : (rule_at l next ≡ None) × (fault_within l next q ≡ None) = grind (arith, h) in
    rw (append_assoc before (b ∷ []) q) at (few_sound l next q none.1 (within_limit l next none.0))

few_front : (l : Limits) (q : List ℕ) → fault_within l [] q ≡ None → length (pieces q) ≤ l.records
few_front l q sound = few_sound l [] q sound (omega (arith, ap length pieces-none))

few_lines : (l : Limits) (q : List ℕ) (o : Option (ℕ × TextFault)) → fault_of l q ≡ o
    → length (up_to o (lines q)) ≤ l.records
few_lines l q None h =
    let all = sym (after_front l [] q []) ∙ ap (fault_of l) (append-nil q) ∙ h in
    let sound : (fault_within l [] q ≡ None) × (fault_after l q [] ≡ None) = or_none _ _ all in
    omega (arith, few_front l q sound.0, length-map (pieces q) without_cr)
few_lines l q (Some (m, f)) h =
    let cut = length-take (m - 1) (lines q) in
    elim (faulty l [] q m f h) [
      | AtByte stands k ↦ omega (arith, cut, k.line, few_front l k.front k.sound, one_piece k.front k.byte)
      | AtEnd none line rule ↦ omega (arith, cut, line, few_front l q none)
    ]

pub few_rows : (all : List ℕ) → length (score_of all).rows ≤ 4294967295
few_rows = grind (arith, nat_tests, row_a_line, few_lines)
