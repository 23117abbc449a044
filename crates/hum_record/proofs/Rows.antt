-- All tokens of a record behind those of one in the making.
use Rattle.std.proofs.lemmas.Grind.{common_steps}
use Rattle.std.proofs.lemmas.Bool.Decides.{nat_tests}
use Rattle.std.proofs.Common.{◌≡◌, ◌∙◌, ◌≢◌, ℕ, ◌+◌, ◌<◌, ◌≤◌, List, [], ◌∷◌, ◌++◌, length, map, refl, sym, ap, arith, append_assoc}
use Rattle.std.proofs.Common.{length-append}
use Rattle.std.specs.List.{AllByRecursion}
use Rattle.hum_score.specs.declared.records.SpinedKind.{SpinedKind}
use Rattle.hum_score.specs.Spelling.{IsToken, parts}
use Rattle.hum_score.specs.Row.{Row, Spined, tokens_of}
use Rattle.hum_record.specs.Fields.{ends_from, row_in, AreFields}
use Rattle.hum_record.specs.Building.{spelled, tab_between, tokens_in, IsDraft}
use Rattle.hum_record.proofs.Drafts.{draft_more, more_tokens}

-- where tokens end, so many bytes further on
pub shifted : (begin start : ℕ) (ts : List (List ℕ)) → map (λ end. begin + end) (ends_from start ts) ≡ ends_from (begin + start) ts
shifted begin start [] = refl
shifted begin start (t ∷ ts) = grind (arith, nat_tests, shifted begin (start + length t + 1) ts)

-- all of them end within the text
pub ends_within : (begin start most : ℕ) (ts : List (List ℕ)) → begin + (start + length (spelled ts)) < most
    → AllByRecursion (λ end. begin + end < most) (ends_from start ts)
ends_within begin start most (t ∷ u ∷ us) less =
    let size = length-append t (9 ∷ spelled (u ∷ us)) in
    (omega (arith, less, size), ends_within begin (start + length t + 1) most (u ∷ us) (omega (arith, less, size)))
ends_within begin start most ts h = grind (arith, nat_tests)

-- a record in the making of these tokens
pub record IsDraftOf (kind : SpinedKind) (text ends : List ℕ) (tokens : List (List ℕ)) : Type 0 where
  pub draft : IsDraft kind text ends
  pub tokens_are : tokens_in text ends ≡ tokens

tab_behind : (ends : List ℕ) (end : ℕ) → tab_between (ends ++ end ∷ []) ≡ 9 ∷ []
tab_behind = grind (arith, common_steps)

alike : (k : SpinedKind) (text text' ends ends' : List ℕ) (tokens tokens' : List (List ℕ)) → text ≡ text' → ends ≡ ends' → tokens ≡ tokens'
    → IsDraftOf k text ends tokens → IsDraftOf k text' ends' tokens'
alike k text text' ends ends' tokens tokens' e f g h = rw (← e, ← f, ← g) h

-- with one token more, and where it ends
one_more : (k : SpinedKind) (text ends t : List ℕ) → IsDraft k text ends → IsToken k t
    → length text + length (tab_between ends) + length t ≤ 1048576
    → IsDraftOf k (text ++ (tab_between ends ++ t)) (ends ++ (length text + length (tab_between ends) + length t) ∷ []) (tokens_in text ends ++ t ∷ [])
one_more k text ends t draft is fits =
    let all = text ++ (tab_between ends ++ t) in
    let size : length all ≡ length text + length (tab_between ends) + length t =
    omega (arith, length-append text (tab_between ends ++ t), length-append (tab_between ends) t) in
    rw (← size) (record { draft = draft_more k text ends t draft is fits; tokens_are = more_tokens k text ends t (length all) draft is })

-- and with those of a record
pub draft_row : (k : SpinedKind) (text ends t : List ℕ) (ts : List (List ℕ)) → IsDraft k text ends → AllByRecursion (IsToken k) (t ∷ ts)
    → length text + length (tab_between ends) + length (spelled (t ∷ ts)) ≤ 1048576
    → IsDraftOf k (text ++ (tab_between ends ++ spelled (t ∷ ts)))
    (ends ++ ends_from (length text + length (tab_between ends)) (t ∷ ts)) (tokens_in text ends ++ t ∷ ts)
draft_row k text ends t [] draft are fits = one_more k text ends t draft are.0 fits
draft_row k text ends t (u ∷ us) draft are fits =
    let tab = tab_between ends in
    let end = length text + length tab + length t in
    let size = length-append t (9 ∷ spelled (u ∷ us)) in
    let more = one_more k text ends t draft are.0 (omega (arith, fits, size)) in
    let text1 = text ++ (tab ++ t) in
    let ends1 = ends ++ end ∷ [] in
    let tab1 = tab_behind ends end in
    let size1 : length text1 + length (tab_between ends1) ≡ end + 1 =
    omega (arith, length-append text (tab ++ t), length-append tab t, ap length tab1) in
    let rest = draft_row k text1 ends1 u us more.draft are.1
    (omega (arith, fits, size, size1)) in
    alike k _ _ _ _ _ _
    (ap (λ b. text1 ++ (b ++ spelled (u ∷ us))) tab1
    ∙ append_assoc text (tab ++ t) (9 ∷ spelled (u ∷ us)) ∙ ap (λ b. text ++ b) (append_assoc tab t (9 ∷ spelled (u ∷ us))))
    (ap (λ n. ends1 ++ ends_from n (u ∷ us)) size1 ∙ append_assoc ends (end ∷ []) (ends_from (end + 1) (u ∷ us)))
    (ap (λ front. front ++ u ∷ us) more.tokens_are ∙ append_assoc (tokens_in text ends) (t ∷ []) (u ∷ us))
    rest

draft_all : (k : SpinedKind) (text ends : List ℕ) (ts : List (List ℕ)) → ts ≢ [] → IsDraft k text ends → AllByRecursion (IsToken k) ts
    → length text + length (tab_between ends) + length (spelled ts) ≤ 1048576
    → IsDraftOf k (text ++ (tab_between ends ++ spelled ts)) (ends ++ ends_from (length text + length (tab_between ends)) ts) (tokens_in text ends ++ ts)
draft_all k text ends [] filled draft are fits = absurd (filled refl)
draft_all k text ends (t ∷ ts) filled draft are fits = draft_row k text ends t ts draft are fits

-- the text of a record of this kind is cut into its tokens
pub row_parts : (k : SpinedKind) (row : Row) (text ends : List ℕ) → AreFields text ends → row ≡ row_in text → row ≡ Spined k (tokens_of row)
    → parts text ≡ tokens_of row
row_parts = grind (arith, nat_tests)

pub row_cut : (k : SpinedKind) (row : Row) (text ends : List ℕ) → AreFields text ends → row ≡ row_in text → row ≡ Spined k (tokens_of row)
    → ends ≡ ends_from 0 (parts text)
row_cut = grind (arith, nat_tests)

pub row_added : (k : SpinedKind) (row : Row) (text ends more more_ends new new_ends : List ℕ) → IsDraft k text ends → AreFields more more_ends
    → row ≡ row_in more → row ≡ Spined k (tokens_of row) → length text + length (tab_between ends) + length more ≤ 1048576
    → new ≡ text ++ (tab_between ends ++ more)
    → new_ends ≡ ends ++ ends_from (length text + length (tab_between ends)) (parts more)
    → IsDraftOf k new new_ends (tokens_in text ends ++ tokens_of row)
row_added k row text ends more more_ends new new_ends draft fields is spined fits text_is ends_are =
    let text_of_row = rw (← is, spined) at fields.lawful in
    let spelling : more ≡ spelled (tokens_of row) = text_of_row.0 in
    let size = ap length spelling in
    let tokens = row_parts k row more more_ends fields is spined in
    alike k _ _ _ _ _ _ (ap (λ m. text ++ (tab_between ends ++ m)) (sym spelling) ∙ sym text_is)
    (ap (λ ts. ends ++ ends_from (length text + length (tab_between ends)) ts) (sym tokens) ∙ sym ends_are) refl
    (draft_all k text ends (tokens_of row) text_of_row.1 draft text_of_row.2 (omega (arith, fits, size)))
