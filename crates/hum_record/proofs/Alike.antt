-- Null tokens that are added to a record in the making.
use Rattle.std.proofs.lemmas.Grind.{common_steps}
use Rattle.std.proofs.lemmas.Bool.Decides.{nat_tests}
use Rattle.std.proofs.Common.{◌≡◌, ◌∙◌, sym, ap, refl, ℕ, zero, suc, ◌+◌, ◌<◌, ◌≤◌, List, [], ◌∷◌, ◌++◌, length}
use Rattle.std.proofs.Common.{replicate, append_assoc, append-nil, arith}
use Rattle.hum_score.specs.declared.records.SpinedKind.{SpinedKind}
use Rattle.hum_score.specs.Spelling.{IsToken}
use Rattle.hum_record.specs.Building.{Draft, spelled}
use Rattle.hum_record.specs.Nulls.{null_of}
use Rattle.hum_record.proofs.Drafts.{spelled_front}

pub null_lawful : (kind : SpinedKind) → IsToken kind (null_of kind)
null_lawful = grind (arith, nat_tests)

-- a draft with other tokens
abbrev with : Draft → List (List ℕ) → Draft
with draft tokens = record draft { tokens = tokens }

pub none_added : (old : Draft) → old ≡ with old (old.tokens ++ [])
none_added old = ap (with old) (sym (append-nil old.tokens))

-- one null token more was added
pub null_added : (old before after : Draft) (null : List ℕ) (k : ℕ) → before ≡ with old (old.tokens ++ replicate k null)
    → after ≡ with before (before.tokens ++ null ∷ []) → after ≡ with old (old.tokens ++ replicate (k + 1) null)
null_added = grind (arith, common_steps)

-- one more of some that are alike
record Further (x : List ℕ) (k n : ℕ) : Type 0 where
  rest : List (List ℕ)
  whole : replicate n x ≡ replicate k x ++ x ∷ rest

further : (x : List ℕ) (k n : ℕ) → k < n → Further x k n
further x k zero h = absurd (omega (arith, h))
further x zero (suc n) h = record { rest = replicate n x; whole = refl }
further x (suc k) (suc n) h = grind (arith, nat_tests, further x k n (omega (arith, h)))

-- those so far, the next, and the rest
one_more : (tokens front : List (List ℕ)) (t : List ℕ) (rest : List (List ℕ))
    → tokens ++ (front ++ t ∷ rest) ≡ ((tokens ++ front) ++ t ∷ []) ++ rest
one_more tokens front t rest = rw (append_assoc (tokens ++ front) (t ∷ []) rest, append_assoc tokens front (t ∷ rest)) refl

-- where all fit, one more does
pub null_fits : (tokens : List (List ℕ)) (null : List ℕ) (k n : ℕ) → k < n
    → length (spelled (tokens ++ replicate n null)) ≤ 1048576
    → length (spelled ((tokens ++ replicate k null) ++ null ∷ [])) ≤ 1048576
null_fits tokens null k n less h =
    let w = further null k n less in
    let so_far = (tokens ++ replicate k null) ++ null ∷ [] in
    let front = spelled_front so_far w.rest in
    let whole = ap (λ (ts : List (List ℕ)). tokens ++ ts) w.whole ∙ one_more tokens (replicate k null) null w.rest in
    let same = ap (λ (ts : List (List ℕ)). length (spelled ts)) whole in
    omega (arith, front, same, h)
