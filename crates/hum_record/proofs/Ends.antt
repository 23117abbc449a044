-- Where tokens end in their text.
use Rattle.std.proofs.lemmas.Grind.{common_steps}
use Rattle.std.proofs.lemmas.Bool.Decides.{nat_tests}
use Rattle.std.proofs.Common.{◌≡◌, ◌≢◌, ℕ, zero, suc, ◌+◌, ◌-◌, ◌<◌, ◌≤◌, List, []}
use Rattle.std.proofs.Common.{◌∷◌, ◌++◌, length, get_or, refl, sym, ap, ap₂, subst, ◌∙◌, arith, append_assoc}
use Rattle.std.proofs.Common.{length-append}
use Rattle.std.specs.List.{join_with_byte}
use Rattle.std.specs.Prelude.{slice_range}
use Rattle.std.proofs.lemmas.List.Splits.{join_with_byte-slice_split}
use Rattle.hum_score.specs.Row.{Row, Comment, Spined, tokens_of, width_of, token_at}
use Rattle.hum_score.specs.Spelling.{IsTextOf, parts}
use Rattle.hum_record.specs.Fields.{ends_from, begins_at, row_in, AreFields}
use Rattle.hum_record.specs.Coming.{tokens_by, LieIn}

pub length-ends_from : (start : ℕ) (ts : List (List ℕ)) → length (ends_from start ts) ≡ length ts
length-ends_from start [] = refl
length-ends_from start (t ∷ ts) = let ih = length-ends_from (start + length t + 1) ts in omega (arith, ih)

-- where a token lies in its text
pub record Lies (text t : List ℕ) (from to : ℕ) : Type 0 where
  pub order : from ≤ to
  pub within : to ≤ length text
  pub reads : slice_range text from to ≡ t

-- where the token begins, if the first begins at a place
abbrev pub begins_from : ℕ → List ℕ → ℕ → ℕ
begins_from start ends zero = start
begins_from start ends (suc j) = get_or ends j 0 + 1

pub begins_next : (start : ℕ) (t : List ℕ) (ts : List (List ℕ)) (j : ℕ) →
    begins_from start (ends_from start (t ∷ ts)) (suc j) ≡ begins_from (start + length t + 1)
    (ends_from (start + length t + 1) ts) j
begins_next = grind (arith, nat_tests)

pub first_lies : (text front t rest : List ℕ) (start : ℕ) → length front ≡ start → text ≡ front ++ (t ++ rest) → Lies text t start (start + length t)
first_lies = grind (arith, common_steps)

lies_from : (text front : List ℕ) (start : ℕ) (ts : List (List ℕ)) (j : ℕ) → length front ≡ start →
    text ≡ front ++ join_with_byte 9 ts → j < length ts → Lies text (get_or ts j [])
    (begins_from start (ends_from start ts) j) (get_or (ends_from start ts) j 0)
lies_from text front start (t ∷ u ∷ us) (suc j) at e below =
    let next : length (front ++ (t ++ 9 ∷ [])) ≡ start + length t + 1 = omega (arith, at, length-append front (t ++ 9 ∷ []), length-append t (9 ∷ [])) in
    let same : text ≡ (front ++ (t ++ 9 ∷ [])) ++ join_with_byte 9 (u ∷ us) = e ∙ simp append_assoc in
    let ih = lies_from text (front ++ (t ++ 9 ∷ [])) (start + length t + 1) (u ∷ us) j next same (omega arith) in
    subst (λ (from : ℕ). Lies text (get_or (u ∷ us) j []) from
    (get_or (ends_from (start + length t + 1) (u ∷ us)) j 0)) (sym (begins_next start t (u ∷ us) j)) ih
lies_from text front start ts j h k w = grind (arith, common_steps)

pub begins_same : (ends : List ℕ) (j : ℕ) → begins_from 0 ends j ≡ begins_at ends j
begins_same = grind (arith, nat_tests)

-- a token lies from where it begins to where it ends
pub token_lies : (text ends : List ℕ) (ts : List (List ℕ)) (j : ℕ) → text ≡ join_with_byte 9 ts →
    ends ≡ ends_from 0 ts → j < length ts → Lies text (get_or ts j []) (begins_at ends j) (get_or ends j 0)
token_lies text ends ts j e cut below = rw (← begins_same ends j, cut) (lies_from text [] 0 ts j refl e below)

-- there are as many parts as ends
pub parts_count : (text ends : List ℕ) → ends ≡ ends_from 0 (parts text) → length ends ≡ length (parts text)
parts_count text ends cut = ap length cut ∙ length-ends_from 0 (parts text)

-- a part of a text lies in it from where it begins to where it ends
pub part_lies : (text ends : List ℕ) (j : ℕ) → ends ≡ ends_from 0 (parts text) → j < length ends
    → Lies text (get_or (parts text) j []) (begins_at ends j) (get_or ends j 0)
part_lies text ends j cut below =
    let size = parts_count text ends cut in
    token_lies text ends (parts text) j (sym (join_with_byte-slice_split 9 text)) cut (omega (arith, size, below))

-- One token after another

-- what a text's tokens are by their ends
pub record Come (text : List ℕ) (start : ℕ) (ends : List ℕ) (ts : List (List ℕ)) : Type 0 where
  pub within : LieIn text start ends
  pub reads : tokens_by text start ends ≡ ts

come_from : (text front : List ℕ) (start : ℕ) (ts : List (List ℕ)) → length front ≡ start →
    text ≡ front ++ join_with_byte 9 ts → Come text start (ends_from start ts) ts
come_from text front start (t ∷ u ∷ us) at e =
    let lies = first_lies text front t (9 ∷ join_with_byte 9 (u ∷ us)) start at e in
    let next : length (front ++ (t ++ 9 ∷ [])) ≡ start + length t + 1 = omega (arith, at, length-append front (t ++ 9 ∷ []), length-append t (9 ∷ [])) in
    let same : text ≡ (front ++ (t ++ 9 ∷ [])) ++ join_with_byte 9 (u ∷ us) = e ∙ simp append_assoc in
    let ih = come_from text (front ++ (t ++ 9 ∷ [])) (start + length t + 1) (u ∷ us) next same in
    record {
      within = (lies.order, lies.within, ih.within);
      reads = ap₂ (λ (s : List ℕ) (rest : List (List ℕ)). s ∷ rest) lies.reads ih.reads;
    }
come_from text front start ts h k = grind (arith, common_steps)

row_comes : (row : Row) (text ends : List ℕ) → IsTextOf row text → ends ≡ ends_from 0 (tokens_of row) → Come text 0 ends (tokens_of row)
row_comes (Comment comment) text ends h cut = rw cut (record { within = tt; reads = refl })
row_comes (Spined kind tokens) text ends h cut = rw cut (come_from text [] 0 tokens refl h.0)

-- the tokens of a record are those of its text by their ends
pub tokens_come : (text ends : List ℕ) (row : Row) → AreFields text ends → row_in text ≡ row → Come text 0 ends (tokens_of row)
tokens_come text ends row fields is =
    row_comes row text ends (subst (λ (r : Row). IsTextOf r text) is fields.lawful)
    (fields.cut ∙ ap (λ (r : Row). ends_from 0 (tokens_of r)) is)

-- Where one more token ends

joined_cons : (x : List ℕ) (ts : List (List ℕ)) → ts ≢ [] → join_with_byte 9 (x ∷ ts) ≡ x ++ (9 ∷ join_with_byte 9 ts)
joined_cons = grind (arith, nat_tests)

pub ends_push : (start : ℕ) (ts : List (List ℕ)) (t : List ℕ) → ends_from start (ts ++ t ∷ []) ≡ ends_from start
    ts ++ (start + length (join_with_byte 9 (ts ++ t ∷ []))) ∷ []
ends_push start [] t = refl
ends_push start (x ∷ ts) t =
    grind (arith, nat_tests, ends_push (start + length x + 1) ts t, length-append, joined_cons)

-- Records

-- a token of a record lies in its text from where it begins to where it ends
row_lies : (row : Row) (text ends : List ℕ) (j : ℕ) → IsTextOf row text → ends ≡ ends_from 0 (tokens_of row) → j < width_of row
    → Lies text (token_at row j) (begins_at ends j) (get_or ends j 0)
row_lies (Comment comment) text ends j h cut below = absurd (omega (arith, below))
row_lies (Spined kind tokens) text ends j h cut below = token_lies text ends tokens j h.0 cut below

pub piece_lies : (text ends : List ℕ) (row : Row) (j : ℕ) → AreFields text ends → row_in text ≡ row → j < width_of row
    → Lies text (token_at row j) (begins_at ends j) (get_or ends j 0)
piece_lies text ends row j fields is below =
    row_lies row text ends j (subst (λ (r : Row). IsTextOf r text) is fields.lawful)
    (fields.cut ∙ ap (λ (r : Row). ends_from 0 (tokens_of r)) is) below

-- a record has as many tokens as ends
pub width_counts : (text ends : List ℕ) (row : Row) → AreFields text ends → row_in text ≡ row → length ends ≡ width_of row
width_counts text ends row fields is = ap length fields.cut ∙ length-ends_from 0 (tokens_of (row_in text)) ∙ ap width_of is
