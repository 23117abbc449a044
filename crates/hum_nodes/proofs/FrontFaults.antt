-- The faults that stand in a front, and those of what it goes on to.
use Rattle.std.proofs.lemmas.Grind.{common_steps}
use Rattle.std.proofs.lemmas.Bool.Decides.{nat_tests}
use Rattle.std.proofs.Common.{◌≡◌, ◌∙◌, refl, sym, ap, ℕ, suc, ◌+◌, ◌≤◌, ◌<◌, List, [], ◌∷◌, ◌++◌, length, take, arith}
use Rattle.std.proofs.Common.{append_assoc, append-nil, length-append, Option, Some, None}
use Rattle.std.specs.Option.{option_or}
use Rattle.std.proofs.lemmas.Option.{none-some}
use Rattle.hum_text.specs.declared.Limits.{Limits}
use Rattle.hum_text.specs.declared.TextFault.{TextFault}
use Rattle.hum_text.specs.Text.{pieces, rule_at, rule_at_end, or_later, fault_after}
use Rattle.hum_text.proofs.TextLemmas.{start-end}
use Rattle.hum_turns.proofs.Fronts.{begins_shorter}
use Rattle.hum_nodes.specs.Settled.{whole_pieces, fault_within}
use Rattle.hum_nodes.proofs.Pieces.{whole_begins, but_last, open_end, some_more, pieces_grow}

-- A fault that stands in a front stays. Where none does, the first one is behind it.

front_by : (l : Limits) (F : List ℕ → List ℕ → Option (ℕ × TextFault))
    → ((before : List ℕ) (b : ℕ) (q : List ℕ) → F before (b ∷ q)
    ≡ or_later (rule_at l (before ++ b ∷ [])) (length (pieces (before ++ b ∷ []))) (F (before ++ b ∷ []) q))
    → (before p q : List ℕ) → F before (p ++ q) ≡ option_or (fault_within l before p) (F (before ++ p) q)
unfolding fault_within
front_by l F next before [] q = rw append-nil refl
front_by l F next before (b ∷ p) q = grind (arith, common_steps, front_by l F next (before ++ b ∷ []) p q)

pub after_front : (l : Limits) (before p q : List ℕ)
    → fault_after l before (p ++ q) ≡ option_or (fault_within l before p) (fault_after l (before ++ p) q)
unfolding fault_after
after_front l = front_by l (fault_after l) (λ before b q. refl)

pub within_front : (l : Limits) (before p q : List ℕ)
    → fault_within l before (p ++ q) ≡ option_or (fault_within l before p) (fault_within l (before ++ p) q)
unfolding fault_within
within_front l = front_by l (fault_within l) (λ before b q. refl)

pub or_none : {X : Type 0} (o later : Option X) → option_or o later ≡ None → (o ≡ None) × (later ≡ None)
or_none o later h = grind (arith, h)

-- A rule breaks at a byte of the bytes behind others, and none before it.
pub record Breaks (l : Limits) (before q : List ℕ) (m : ℕ) (f : TextFault) : Type 0 where
  pub front : List ℕ
  pub byte : ℕ
  pub rest : List ℕ
  pub split : q ≡ front ++ byte ∷ rest
  pub sound : fault_within l before front ≡ None
  pub line : length (pieces (before ++ (front ++ byte ∷ []))) ≡ m
  pub rule : rule_at l (before ++ (front ++ byte ∷ [])) ≡ Some f

pub breaks : (l : Limits) (before q : List ℕ) (m : ℕ) (f : TextFault) → fault_within l before q ≡ Some (m, f)
    → Breaks l before q m f
unfolding fault_within
breaks l before [] m f h = cc
breaks l before (b ∷ q) m f h = by (rule_at l (before ++ b ∷ [])) refl (breaks l (before ++ b ∷ []) q m f) h
  where
    by : (o : Option TextFault) → rule_at l (before ++ b ∷ []) ≡ o
        → (fault_within l (before ++ b ∷ []) q ≡ Some (m, f) → Breaks l (before ++ b ∷ []) q m f)
        → or_later o (length (pieces (before ++ b ∷ []))) (fault_within l (before ++ b ∷ []) q) ≡ Some (m, f)
        → Breaks l before (b ∷ q) m f
    by (Some g) is later e = grind (arith, common_steps)
    by None is later e =
        let k = later e in
        let next = append_assoc before (b ∷ []) (k.front ++ k.byte ∷ []) in
        record {
          front = b ∷ k.front;
          byte = k.byte;
          rest = k.rest;
          split = ap (λ z. b ∷ z) k.split;
          sound = rw is k.sound;
          line = ap (λ z. length (pieces z)) (sym next) ∙ k.line;
          rule = ap (rule_at l) (sym next) ∙ k.rule;
        }

-- The first fault of bytes breaks at a byte, or at their end.
pub data Faulty (l : Limits) (before q : List ℕ) (m : ℕ) (f : TextFault) : Type 0 where
  AtByte : fault_within l before q ≡ Some (m, f) → Breaks l before q m f → Faulty l before q m f
  AtEnd : fault_within l before q ≡ None → length (pieces (before ++ q)) ≡ m → rule_at_end (before ++ q) ≡ Some f
      → Faulty l before q m f

pub faulty : (l : Limits) (before q : List ℕ) (m : ℕ) (f : TextFault) → fault_after l before q ≡ Some (m, f)
    → Faulty l before q m f
unfolding fault_after
faulty l before q m f h =
    by (fault_within l before q) refl (sym (after_front l before q []) ∙ ap (fault_after l before) (append-nil q) ∙ h)
  where
    end : (o : Option TextFault) → fault_within l before q ≡ None → rule_at_end (before ++ q) ≡ o
        → or_later o (length (pieces (before ++ q))) None ≡ Some (m, f) → Faulty l before q m f
    end = grind (arith, nat_tests)

    by : (o : Option (ℕ × TextFault)) → fault_within l before q ≡ o
        → option_or o (fault_after l (before ++ q) []) ≡ Some (m, f) → Faulty l before q m f
    by = grind (arith, nat_tests, breaks, end)

some_bytes : (p : List ℕ) (b : ℕ) → 0 < length (p ++ b ∷ [])
some_bytes p b = omega (arith, length-append p (b ∷ []))

-- A fault that stands in a front is in a line that has begun there,
pub line_begun : (l : Limits) (before p : List ℕ) (m : ℕ) (f : TextFault) → fault_within l before p ≡ Some (m, f)
    → m ≤ length (pieces (before ++ p))
line_begun l before p m f h =
    let k = breaks l before p m f h in
    let next = k.front ++ k.byte ∷ [] in
    let all = append_assoc before next k.rest
    ∙ ap (λ z. before ++ z) (append_assoc k.front (k.byte ∷ []) k.rest ∙ sym k.split) in
    omega (arith, k.line, pieces_grow (before ++ next) k.rest, ap (λ z. length (pieces z)) all)

-- so the lines before it have come whole.
pub line_within : (l : Limits) (p : List ℕ) (m : ℕ) (f : TextFault) → fault_within l [] p ≡ Some (m, f)
    → m ≤ length (whole_pieces p) + 1
line_within l p m f h = omega (arith, line_begun l [] p m f h, but_last p)

-- A fault behind a front is in a line behind those that have come whole.

pub line_behind : (l : Limits) (p q : List ℕ) (m : ℕ) (f : TextFault) → fault_within l p q ≡ Some (m, f)
    → length (whole_pieces p) + 1 ≤ m
line_behind l p q m f h =
    let k = breaks l p q m f h in
    omega (arith, k.line, some_more p (k.front ++ k.byte ∷ []) (some_bytes k.front k.byte))

pub line_after : (l : Limits) (p q : List ℕ) (m : ℕ) (f : TextFault) → fault_after l p q ≡ Some (m, f)
    → length (whole_pieces p) + 1 ≤ m
line_after l p q m f h = elim (faulty l p q m f h) [
  | AtByte stands k ↦ omega (arith, k.line, some_more p (k.front ++ k.byte ∷ []) (some_bytes k.front k.byte))
  | AtEnd none line rule ↦
      omega (
        arith,
        line,
        begins_shorter (whole_pieces p) (whole_pieces (p ++ q)) (whole_begins p q),
        open_end (p ++ q) (λ s. none-some f (sym (start-end (p ++ q) s) ∙ rule)),
      )
]

-- Bytes that break no rule.
pub none_within : (l : Limits) (before q : List ℕ)
    → ((k : ℕ) → k < length q → rule_at l (before ++ take (suc k) q) ≡ None)
    → fault_within l before q ≡ None
unfolding fault_within
none_within l before [] none = refl
none_within l before (b ∷ q) none =
    rw (none 0 (omega arith))
    (none_within l (before ++ b ∷ []) q (λ k h. rw append_assoc (none (suc k) (omega arith))))
