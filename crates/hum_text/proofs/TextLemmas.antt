-- How the rules go on from line to line.
use Rattle.std.proofs.lemmas.Grind.{common_steps}
use Rattle.std.proofs.lemmas.Bool.Decides.{nat_tests}
use Rattle.std.proofs.Common.{◌≡◌, ℕ, suc, ◌+◌, ◌-◌, ◌<◌, Bool, true, false, ◌==◌, if◌then◌else◌, List}
use Rattle.std.proofs.Common.{[], ◌∷◌, ◌++◌, length, get_or, take, refl, ap, sym, ◌∙◌, subst, arith}
use Rattle.std.proofs.Common.{None, Some, inl, inr, append_assoc, length-append, length-take, add-one}
use Rattle.std.proofs.lemmas.Bool.{eqb-true, eq-eqb, cases_lt}
use Rattle.std.proofs.lemmas.List.{take_more, get_or-take, append-nil, get_or_append_left, get_or-append-add}
use Rattle.hum_text.specs.declared.Limits.{Limits}
use Rattle.hum_text.specs.declared.TextFault.{TextFault}
use Rattle.hum_text.specs.declared.TextFault.TheVariants.{S1}
use Rattle.hum_text.specs.Text.{pieces, lines, without_cr, ends_in_lf, rule_in, rule_of_line, rule_at}
use Rattle.hum_text.specs.Text.{rule_at_end, fault_after, fault_of, IsAtStart}
use Rattle.hum_text.specs.Reading.{Stands}
use Rattle.hum_text.proofs.PieceLemmas.{NoLf, IsAtStart-lf, pieces-line, pieces-append, pieces-whole}
use Rattle.hum_text.proofs.PieceLemmas.{pieces-part, pieces-none}

pub last-snoc : {A : Type 0} (xs : List A) (x d : A) → get_or (xs ++ x ∷ []) (length (xs ++ x ∷ []) - 1) d ≡ x
last-snoc = grind (arith, common_steps)

-- the rule of a prefix whose last piece and end are known
rule-at-parts : (l : Limits) (p : List ℕ) (ps : List (List ℕ)) (q : List ℕ) (e : Bool) → pieces p ≡ ps ++ q ∷ []
    → ends_in_lf p ≡ e → rule_at l p ≡ rule_in l (length ps + 1) q e (length p)
unfolding rule_at
rule-at-parts = grind (arith, common_steps)

end-parts : (p : List ℕ) (ps : List (List ℕ)) (q : List ℕ) → pieces p ≡ ps ++ q ∷ [] → ends_in_lf p ≡ false
    → 0 < length p → rule_at_end p ≡ (if length (without_cr q) == 0 then Some S1 else None)
unfolding rule_at_end
end-parts = grind (arith, common_steps)

-- at a line's start the end breaks no rule
ends-at-start : (b : ℕ) (bs : List ℕ) → IsAtStart (b ∷ bs) → ends_in_lf (b ∷ bs) ≡ true
unfolding IsAtStart
ends-at-start b [] s = rw s refl
ends-at-start b (c ∷ bs) s = ap (λ (n : ℕ). get_or (b ∷ c ∷ bs) n 0 == 10) one ∙ ends-at-start c bs s where
  one : suc (suc (length bs)) - 1 ≡ suc (suc (length bs) - 1)
  one = omega arith

pub start-end : (p : List ℕ) → IsAtStart p → rule_at_end p ≡ None
unfolding rule_at_end
start-end [] s = refl
start-end (b ∷ bs) s = grind (arith, nat_tests, ends-at-start)

free-front : (held : List ℕ) (k : ℕ) → ((j : ℕ) → j < k → get_or held j 0 ≡ 10 → ⊥) → NoLf (take k held)
free-front = grind (arith, nat_tests, length-take, get_or-take)

free-more : (held : List ℕ) (k : ℕ) → ((j : ℕ) → j < k → get_or held j 0 ≡ 10 → ⊥) → (get_or held k 0 == 10) ≡ false
    → NoLf (take (k + 1) held)
free-more = grind (arith, nat_tests, free-front, cases_lt, get_or, eq-eqb)

-- byte k of a line after a line's start breaks what the line's rule says
pub rule-at-line : (l : Limits) (before held : List ℕ) (k : ℕ) → IsAtStart before → k < length held
    → ((j : ℕ) → j < k → get_or held j 0 ≡ 10 → ⊥)
    → rule_at l (before ++ take (k + 1) held) ≡ rule_of_line l (length (pieces before) + 1) (length before) held k
rule-at-line l before held k s h free =
    let p : List ℕ = before ++ take (k + 1) held in
    let more : take (k + 1) held ≡ take k held ++ get_or held k 0 ∷ [] = take_more held k 0 h in
    let len : length p ≡ length before + (k + 1) = simp (length-append, length-take) (omega arith) in
    let whole : p ≡ (before ++ take k held) ++ get_or held k 0 ∷ [] =
    ap (λ (zs : List ℕ). before ++ zs) more ∙ sym (append_assoc before (take k held) (get_or held k 0 ∷ [])) in
    let last : ends_in_lf p ≡ (get_or held k 0 == 10) = grind (arith, nat_tests, last-snoc, get_or) in
    elim (get_or held k 0 == 10) as (λ (v : Bool). (get_or held k 0 == 10) ≡ v → rule_at l (before ++ take (k + 1) held)
    ≡ (if v then rule_in l (length (pieces before) + 1) (take k held) true (length before + (k + 1))
    else rule_in l (length (pieces before) + 1) (take (k + 1) held) false (length before + (k + 1)))) [
      | true ↦ λ is.
          let cut : pieces p ≡ pieces before ++ take k held ∷ [] =
          grind (arith, nat_tests, eqb-true, pieces-append, pieces-whole, free-front) in
          rule-at-parts l p (pieces before) (take k held) true cut (last ∙ is)
          ∙ ap (λ (n : ℕ). rule_in l (length (pieces before) + 1) (take k held) true n) len
      | false ↦ λ is.
          let long : 0 < length (take (k + 1) held) = simp length-take (omega arith) in
          let cut : pieces p ≡ pieces before ++ take (k + 1) held ∷ [] =
          pieces-append before (take (k + 1) held) s
          ∙ ap (λ (zs : List (List ℕ)). pieces before ++ zs)
          (pieces-part (take (k + 1) held) long (free-more held k free is)) in
          rule-at-parts l p (pieces before) (take (k + 1) held) false cut (last ∙ is)
          ∙ ap (λ (n : ℕ). rule_in l (length (pieces before) + 1) (take (k + 1) held) false n) len
    ] refl

-- bytes that break no rule are passed
pub skip : (l : Limits) (before q r : List ℕ) → ((k : ℕ) → k < length q → rule_at l (before ++ take (suc k) q) ≡ None)
    → fault_after l before (q ++ r) ≡ fault_after l (before ++ q) r
unfolding fault_after
skip l before [] r none = rw append-nil refl
skip l before (b ∷ q) r none =
    let here : rule_at l (before ++ b ∷ []) ≡ None = none 0 (omega arith) in
    rw here (skip l (before ++ b ∷ []) q r (λ k h. rw append_assoc (none (suc k) (omega arith)))
    ∙ ap (λ (p : List ℕ). fault_after l p r) (append_assoc before (b ∷ []) q))

-- the first rule that breaks is the fault
pub hit : (l : Limits) (before q r : List ℕ) (k : ℕ) (f : TextFault) → k < length q
    → rule_at l (before ++ take (suc k) q) ≡ Some f → ((j : ℕ) → j < k → rule_at l (before ++ take (suc j) q) ≡ None)
    → fault_after l before (q ++ r) ≡ Some (length (pieces (before ++ take (suc k) q)), f)
unfolding fault_after
hit l before (b ∷ q) r (suc k) f h is none =
    let here : rule_at l (before ++ b ∷ []) ≡ None = none 0 (omega arith) in
    rw here (hit l (before ++ b ∷ []) q r k f (omega arith) (rw append_assoc is)
    (λ j low. rw append_assoc (none (suc j) (omega arith)))
    ∙ ap (λ (p : List ℕ). Some (length (pieces p), f)) (append_assoc before (b ∷ []) (take (suc k) q)))
hit l before q r k f h w e = grind (arith, nat_tests)

some-rest : (q : List ℕ) (b : ℕ) (r : List ℕ) → q ++ b ∷ r ≡ [] → ⊥
some-rest [] b r is = cc
some-rest (c ∷ q) b r is = cc

at-start : {l : Limits} {all : List ℕ} {given : List (List ℕ)} {rest : List ℕ} {n t : ℕ}
    → (st : Stands l all given rest n t) → (rest ≡ [] → ⊥) → IsAtStart st.before
at-start st some = elim st.start [ inl s ↦ s | inr e ↦ absurd (some e.0) ]

ap2 : {A B C : Type 0} (f : A → B → C) {a a' : A} {b b' : B} → a ≡ a' → b ≡ b' → f a b ≡ f a' b'
ap2 {A} f {a} {a'} {b} {b'} p q = ap (λ (x : A). f x b) p ∙ ap (f a') q

-- the bytes of a line before its last are not LF
free-held : (q : List ℕ) → NoLf q → (k : ℕ) → k < length (q ++ 10 ∷ []) → (j : ℕ) → j < k
    → get_or (q ++ 10 ∷ []) j 0 ≡ 10 → ⊥
free-held = grind (arith, nat_tests, length-append, get_or_append_left)

-- A line that breaks no rule, with its LF, is given.
pub step-line : (l : Limits) (all : List ℕ) (given : List (List ℕ)) (q r : List ℕ) (n t : ℕ)
    → Stands l all given (q ++ 10 ∷ r) n t → NoLf q
    → ((k : ℕ) → k < length (q ++ 10 ∷ []) → rule_of_line l (n + 1) t (q ++ 10 ∷ []) k ≡ None)
    → Stands l all (given ++ without_cr q ∷ []) r (n + 1) (t + (length q + 1))
step-line l all given q r n t st free none =
    let s : IsAtStart st.before = at-start st (some-rest q 10 r) in
    let held : List ℕ = q ++ 10 ∷ [] in
    let split : q ++ 10 ∷ r ≡ held ++ r = sym (append_assoc q (10 ∷ []) r) in
    let cut : pieces (st.before ++ held) ≡ pieces st.before ++ q ∷ [] =
    pieces-append st.before held s ∙ ap (λ (zs : List (List ℕ)). pieces st.before ++ zs) (pieces-whole q free) in
    record {
      before = st.before ++ held;
      whole = st.whole ∙ ap (λ (zs : List ℕ). st.before ++ zs) split ∙ sym (append_assoc st.before held r);
      start = inl (subst IsAtStart (append_assoc st.before q (10 ∷ [])) (IsAtStart-lf (st.before ++ q)));
      left = grind (arith, nat_tests, pieces-line, append_assoc);
      fault = st.fault ∙ ap (λ (zs : List ℕ). fault_after l st.before zs) split ∙ skip l st.before held r (λ k h.
          rw (← add-one k) (rule-at-line l st.before held k s h (free-held q free k h)
          ∙ ap2 (λ (a b : ℕ). rule_of_line l (a + 1) b held k) st.count st.size ∙ none k h));
      count = ap length cut ∙ simp length-append (omega (arith, st.count));
      size = simp length-append (omega (arith, st.size));
      number = simp length-append (omega (arith, st.number));
    }

not-nil : (q : List ℕ) → 0 < length q → q ≡ [] → ⊥
not-nil = grind (arith, nat_tests)

long-some : (held r : List ℕ) (k : ℕ) → k < length held → held ++ r ≡ [] → ⊥
long-some [] r k h is = absurd (omega arith)
long-some (b ∷ q) r k h is = cc

long-without : (q : List ℕ) → 0 < length (without_cr q) → 0 < length q
long-without = grind (arith, nat_tests)

kept : (q : List ℕ) → 0 < length (without_cr q) → (if length (without_cr q) == 0 then Some S1 else None) ≡ None
kept q some = let other : (length (without_cr q) == 0) ≡ false = grind arith in rw other refl

gone : (q : List ℕ) → length (without_cr q) ≡ 0 → (if length (without_cr q) == 0 then Some S1 else None) ≡ Some S1
gone q empty = rw empty refl

last-free : (before q : List ℕ) → 0 < length q → NoLf q → ends_in_lf (before ++ q) ≡ false
last-free = grind (arith, nat_tests, length-append, get_or, get_or-append-add, eqb-true)

at-end-fault : (l : Limits) (p : List ℕ) (f : TextFault) → rule_at_end p ≡ Some f
    → fault_after l p [] ≡ Some (length (pieces p), f)
unfolding fault_after
at-end-fault l p f is = rw is refl

at-end-none : (l : Limits) (p : List ℕ) → rule_at_end p ≡ None → fault_after l p [] ≡ None
unfolding fault_after
at-end-none l p is = rw is refl

-- how many lines have begun at byte k of a line
begun : (before held : List ℕ) (k : ℕ) → IsAtStart before → k < length held
    → ((j : ℕ) → j < k → get_or held j 0 ≡ 10 → ⊥)
    → length (pieces (before ++ take (suc k) held)) ≡ length (pieces before) + 1
begun before held k s h free =
    let more : take (suc k) held ≡ take k held ++ get_or held k 0 ∷ [] = rw (← add-one k) (take_more held k 0 h) in
    elim (get_or held k 0 == 10) as (λ (v : Bool). (get_or held k 0 == 10) ≡ v
    → length (pieces (before ++ take (suc k) held)) ≡ length (pieces before) + 1) [
      | true ↦ grind (arith, nat_tests, eqb-true, pieces-append, pieces-whole, free-front, length-append)
      | false ↦ λ is.
          let long : 0 < length (take (suc k) held) = simp length-take (omega arith) in
          let part : NoLf (take (suc k) held) = rw (← add-one k) (free-more held k free is) in
          ap length (pieces-append before (take (suc k) held) s
          ∙ ap (λ (zs : List (List ℕ)). pieces before ++ zs) (pieces-part (take (suc k) held) long part))
          ∙ simp length-append
    ] refl

-- The first byte of a line that breaks a rule is the fault.
pub step-fault : (l : Limits) (all : List ℕ) (given : List (List ℕ)) (held r : List ℕ) (n t k : ℕ) (f : TextFault)
    → Stands l all given (held ++ r) n t → k < length held
    → ((j : ℕ) → j < k → get_or held j 0 ≡ 10 → ⊥) → rule_of_line l (n + 1) t held k ≡ Some f
    → ((j : ℕ) → j < k → rule_of_line l (n + 1) t held j ≡ None)
    → fault_of l all ≡ Some (n + 1, f)
step-fault l all given held r n t k f st h free is none =
    let s : IsAtStart st.before = at-start st (long-some held r k h) in
    st.fault ∙ hit l st.before held r k f h
    (rw (← add-one k) (rule-at-line l st.before held k s h free
    ∙ ap2 (λ (a b : ℕ). rule_of_line l (a + 1) b held k) st.count st.size ∙ is))
    (λ j low. rw (← add-one j) (rule-at-line l st.before held j s (omega arith) (λ i lower. free i (omega arith))
    ∙ ap2 (λ (a b : ℕ). rule_of_line l (a + 1) b held j) st.count st.size ∙ none j low))
    ∙ ap (λ (m : ℕ). Some (m, f)) (begun st.before held k s h free ∙ ap (λ (m : ℕ). m + 1) st.count)

-- The last line, which no LF ends, is given where it breaks no rule and isn't one CR.
pub step-last : (l : Limits) (all : List ℕ) (given : List (List ℕ)) (q : List ℕ) (n t : ℕ) → Stands l all given q n t
    → NoLf q → 0 < length (without_cr q)
    → ((k : ℕ) → k < length q → rule_of_line l (n + 1) t q k ≡ None)
    → Stands l all (given ++ without_cr q ∷ []) [] (n + 1) (t + length q)
step-last l all given q n t st free some none =
    let long : 0 < length q = long-without q some in
    let s : IsAtStart st.before = at-start st (not-nil q long) in
    let cut : pieces (st.before ++ q) ≡ pieces st.before ++ q ∷ [] =
    pieces-append st.before q s ∙ ap (λ (zs : List (List ℕ)). pieces st.before ++ zs) (pieces-part q long free) in
    record {
      before = st.before ++ q;
      whole = st.whole ∙ sym (append-nil (st.before ++ q));
      start = inr (
        refl,
        end-parts (st.before ++ q) (pieces st.before) q cut (last-free st.before q long free)
            (simp length-append (omega arith)) ∙ kept q some,
      );
      left = grind (arith, nat_tests, pieces-part, append_assoc, pieces-none);
      fault = st.fault ∙ ap (λ (zs : List ℕ). fault_after l st.before zs) (sym (append-nil q))
          ∙ skip l st.before q [] (λ k h.
          rw (← add-one k) (rule-at-line l st.before q k s h (λ j low. free j (omega arith))
          ∙ ap2 (λ (a b : ℕ). rule_of_line l (a + 1) b q k) st.count st.size ∙ none k h));
      count = ap length cut ∙ simp length-append (omega (arith, st.count));
      size = simp length-append (omega (arith, st.size));
      number = simp length-append (omega (arith, st.number));
    }

-- The last line is one CR.
pub step-end-fault : (l : Limits) (all : List ℕ) (given : List (List ℕ)) (q : List ℕ) (n t : ℕ)
    → Stands l all given q n t → NoLf q → 0 < length q → length (without_cr q) ≡ 0
    → ((k : ℕ) → k < length q → rule_of_line l (n + 1) t q k ≡ None)
    → fault_of l all ≡ Some (n + 1, S1)
step-end-fault l all given q n t st free long empty none =
    let s : IsAtStart st.before = at-start st (not-nil q long) in
    let cut : pieces (st.before ++ q) ≡ pieces st.before ++ q ∷ [] =
    pieces-append st.before q s ∙ ap (λ (zs : List (List ℕ)). pieces st.before ++ zs) (pieces-part q long free) in
    let count : length (pieces (st.before ++ q)) ≡ n + 1 = grind (arith, nat_tests, length-append) in
    let rule : rule_at_end (st.before ++ q) ≡ Some S1 =
    grind (arith, nat_tests, end-parts, last-free, length-append, gone) in
    st.fault ∙ ap (λ (zs : List ℕ). fault_after l st.before zs) (sym (append-nil q)) ∙ skip l st.before q [] (λ k h.
    rw (← add-one k) (rule-at-line l st.before q k s h (λ j low. free j (omega arith))
    ∙ ap2 (λ (a b : ℕ). rule_of_line l (a + 1) b q k) st.count st.size ∙ none k h))
    ∙ at-end-fault l (st.before ++ q) S1 rule ∙ ap (λ (m : ℕ). Some (m, S1)) count

-- At the end all lines were given, and there is no fault.
pub step-end : (l : Limits) (all : List ℕ) (given : List (List ℕ)) (n t : ℕ) → Stands l all given [] n t
    → (lines all ≡ given) × (fault_of l all ≡ None)
step-end = grind (arith, nat_tests, start-end, pieces-none, append-nil, at-end-none)

-- Before the first line all of the text stands.
pub stands-new : (l : Limits) (all : List ℕ) → Stands l all [] all 0 0
unfolding IsAtStart
stands-new = grind (arith, nat_tests, pieces-none)
