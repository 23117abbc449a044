-- Barlines that are known.
use Rattle.std.proofs.Common.{arith}
use Rattle.std.proofs.Common.{◌≡◌, ◌∙◌, refl, sym, ap, ℕ, Bool, true, false, cond, ◌||◌, not, List, [], ◌∷◌, map, subst}
use denote.Bor.{Bor}
use Rattle.std.specs.List.{list_any}
use Rattle.std.specs.Str.{bytes_eq}
use Rattle.std.proofs.lemmas.Bool.Decides.{nat_tests}
use Rattle.std.proofs.lemmas.List.Folds.{list_any-append}
use Rattle.std.proofs.lemmas.Slice.Eq.{bytes_eq-Decides}
use Rattle.hum_record.specs.Contents.{is_null, is_barline}
use Rattle.hum_cleave.specs.Tokens.{is_left_out}
use Rattle.hum_cleave.specs.Barlines.{Tells}

pub bytes_eq_sym : (a b : List ℕ) → bytes_eq a b ≡ bytes_eq b a
bytes_eq_sym = grind (arith, nat_tests, bytes_eq-Decides)

any_seen : (token : List ℕ) (keys : List (Bor (List ℕ)))
    → list_any (λ k. bytes_eq token k.now) keys ≡ list_any (bytes_eq token) (map (λ k. k.now) keys)
any_seen token [] = refl
any_seen token (k ∷ keys) = ap (λ b. bytes_eq token k.now || b) (any_seen token keys)

-- keys that one more is put among
abbrev pub Puts : List (Bor (List ℕ)) → List (Bor (List ℕ)) → Bor (List ℕ) → Type 0
Puts old new token =
    (k : Bor (List ℕ)) → list_any (λ q. bytes_eq k.now q.now) new
    ≡ cond (bytes_eq token.now k.now) true (list_any (λ q. bytes_eq k.now q.now) old)

again : (same rest : Bool) → (same || rest) ≡ ((same || rest) || (same || false))
again = grind (arith, nat_tests)

tells_same : (token : List ℕ) (rest : List (List ℕ)) → is_null token ≡ false
    → is_barline token ≡ true → Tells (token ∷ rest) (token ∷ rest) token true
tells_same token rest filled bar before knows =
    let same : bytes_eq token token ≡ true = (bytes_eq-Decides token token).1 refl in (
      rw (filled, bar) (rw same at (knows token bar)),
      λ t at. rw (list_any-append (bytes_eq t) before (token ∷ []), ← knows t at)
          (again (bytes_eq t token) (list_any (bytes_eq t) rest)),
    )

-- the first once more
pub tells_again : (first token : List ℕ) (rest : List (List ℕ)) → bytes_eq first token ≡ true
    → is_null token ≡ false → is_barline token ≡ true
    → Tells (first ∷ rest) (first ∷ rest) token true
tells_again first token rest e filled bar =
    subst (λ (f : List ℕ). Tells (f ∷ rest) (f ∷ rest) token true)
    (sym ((bytes_eq-Decides first token).0 e)) (tells_same token rest filled bar)

beside : (first same kept : Bool) → (first || cond same true kept) ≡ ((first || kept) || (same || false))
beside = grind (arith, nat_tests)

-- one that isn't the first
pub tells_other : (first : List ℕ) (old new : List (Bor (List ℕ))) (token : Bor (List ℕ)) (is_new : Bool)
    → bytes_eq token.now first ≡ false
    → Puts old new token → is_new ≡ not (list_any (λ q. bytes_eq token.now q.now) old)
    → is_null token.now ≡ false → is_barline token.now ≡ true
    → Tells (first ∷ map (λ k. k.now) old) (first ∷ map (λ k. k.now) new) token.now (not is_new)
tells_other first old new token is_new apart puts is filled bar before knows = (
  answer (list_any (λ q. bytes_eq token.now q.now) old) (any_seen token.now old ∙ rw apart at (knows token.now bar)) is,
  λ t at.
      let k : Bor (List ℕ) = record { ref_ptr = token.ref_ptr; now = t } in
      rw (list_any-append (bytes_eq t) before (token.now ∷ []), ← knows t at, ← any_seen t new, ← any_seen t old, puts k, bytes_eq_sym token.now t)
      (beside (bytes_eq t first) (bytes_eq t token.now) (list_any (λ q. bytes_eq t q.now) old)),
)
  where
    answer : (known : Bool) → known ≡ list_any (bytes_eq token.now) before → is_new ≡ not known
        → not is_new ≡ is_left_out before token.now
    answer = grind (arith, nat_tests)
