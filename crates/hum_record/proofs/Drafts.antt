-- A record in the making keeps its text and where its tokens end.
use Rattle.std.proofs.lemmas.Grind.{common_steps}
use Rattle.std.proofs.lemmas.Bool.Decides.{nat_tests}
use Rattle.std.proofs.Common.{◌≡◌, ◌≢◌, ℕ, ◌+◌, ◌≤◌, List, [], ◌∷◌, ◌++◌, length, refl, sym, ap, ◌∙◌, arith, append_assoc, length-append}
use Rattle.std.specs.Prelude.{Bool, true, false}
use Rattle.std.specs.List.{AllByRecursion}
use Rattle.hum_score.specs.declared.records.Kind.TheVariants.{Global}
use Rattle.hum_score.specs.declared.records.SpinedKind.{SpinedKind}
use Rattle.hum_score.specs.Row.{Row, kind_of, tokens_of}
use Rattle.hum_score.specs.Spelling.{IsToken, IsTextOf, parts}
use Rattle.hum_record.specs.Building.{spelled, tab_between, tokens_in, IsDraft}
use Rattle.hum_record.proofs.Ends.{ends_push}
use Rattle.hum_record.proofs.Laws.{parts_join, parts_filled}

pub spelled_push : (ts : List (List ℕ)) (t : List ℕ) → ts ≢ [] → spelled (ts ++ t ∷ []) ≡ spelled ts ++ (9 ∷ t)
spelled_push (x ∷ y ∷ ts) t filled = ap (λ rest. x ++ (9 ∷ rest)) (spelled_push (y ∷ ts) t (λ e. cc)) ∙ sym (append_assoc x (9 ∷ spelled (y ∷ ts)) (9 ∷ t))
spelled_push ts t h = grind (arith, nat_tests)

-- the text of one token more
spelled_more : (text ends t : List ℕ) → spelled (tokens_in text ends ++ t ∷ []) ≡ spelled (tokens_in text ends) ++ (tab_between ends ++ t)
spelled_more = grind (arith, nat_tests, spelled_push, parts_filled)

lawful_push : (k : SpinedKind) (ts : List (List ℕ)) (t : List ℕ) → AllByRecursion (IsToken k) ts → IsToken k t → AllByRecursion (IsToken k) (ts ++ t ∷ [])
lawful_push = grind (arith, common_steps)

-- lawful tokens are the parts of their text
pub again : (k : SpinedKind) (ts : List (List ℕ)) → ts ≢ [] → AllByRecursion (IsToken k) ts → parts (spelled ts) ≡ ts
again k [] filled h = absurd (filled refl)
again k (t ∷ ts) filled h = parts_join k t ts h

tokens_push : (text ends : List ℕ) (end : ℕ) → tokens_in text (ends ++ end ∷ []) ≡ parts text
tokens_push = grind (arith, common_steps)

push_filled : (ts : List (List ℕ)) (t : List ℕ) → ts ++ t ∷ [] ≢ []
push_filled = grind (arith, common_steps)

-- the text with one token more
more_text : (k : SpinedKind) (text ends t : List ℕ) → IsDraft k text ends → text ++ (tab_between ends ++ t) ≡ spelled (tokens_in text ends ++ t ∷ [])
more_text k text ends t draft = ap (λ front. front ++ (tab_between ends ++ t)) draft.spelling ∙ sym (spelled_more text ends t)

-- the tokens with one more
pub more_tokens : (k : SpinedKind) (text ends t : List ℕ) (end : ℕ) → IsDraft k text ends → IsToken k t →
    tokens_in (text ++ (tab_between ends ++ t)) (ends ++ end ∷ []) ≡ tokens_in text ends ++ t ∷ []
more_tokens k text ends t end draft is =
    tokens_push (text ++ (tab_between ends ++ t)) ends end
    ∙ ap parts (more_text k text ends t draft)
    ∙ again k (tokens_in text ends ++ t ∷ []) (push_filled (tokens_in text ends) t) (lawful_push k (tokens_in text ends) t draft.lawful is)

more_length : (text between t : List ℕ) → length (text ++ (between ++ t)) ≡ length text + length between + length t
more_length text between t = omega (arith, length-append text (between ++ t), length-append between t)

-- a draft with one token more
pub draft_more : (k : SpinedKind) (text ends t : List ℕ) → IsDraft k text ends → IsToken k t →
    length text + length (tab_between ends) + length t ≤ 1048576 →
    IsDraft k (text ++ (tab_between ends ++ t)) (ends ++ length (text ++ (tab_between ends ++ t)) ∷ [])
draft_more k text ends t draft is fits =
    let all = text ++ (tab_between ends ++ t) in
    let tokens = more_tokens k text ends t (length all) draft is in
    let spells = more_text k text ends t draft in
    record {
      spelling = spells ∙ ap spelled (sym tokens);
      lawful = rw tokens (lawful_push k (tokens_in text ends) t draft.lawful is);
      cut = grind (arith, nat_tests, ends_push);
      at_most = omega (arith, more_length text (tab_between ends) t, fits);
    }

pub draft_length : (k : SpinedKind) (text ends t : List ℕ) → IsDraft k text ends →
    length (spelled (tokens_in text ends ++ t ∷ [])) ≡ length text + length (tab_between ends) + length t
draft_length k text ends t draft = ap length (sym (more_text k text ends t draft)) ∙ more_length text (tab_between ends) t

-- more tokens make a text no shorter
spelled_grows : (x : List ℕ) (xs ys : List (List ℕ)) → length (spelled (x ∷ xs)) ≤ length (spelled ((x ∷ xs) ++ ys))
spelled_grows x (z ∷ zs) ys = grind (arith, common_steps, spelled_grows z zs ys)
spelled_grows x xs ys = grind (arith, common_steps)

pub spelled_front : (xs ys : List (List ℕ)) → length (spelled xs) ≤ length (spelled (xs ++ ys))
spelled_front [] ys = omega arith
spelled_front (x ∷ xs) ys = spelled_grows x xs ys

pub filled_tokens : (row : Row) (text : List ℕ) → IsTextOf row text → (kind_of row ≡ Global → ⊥) → tokens_of row ≢ []
filled_tokens = grind (arith, nat_tests)

-- a builder that has a body isn't spent
pub not_spent : (spent there : Bool) → (spent ≡ true → there ≡ false) → there ≡ true → spent ≡ false
not_spent = grind (arith, nat_tests)
