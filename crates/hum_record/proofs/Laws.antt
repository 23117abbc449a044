-- What reading accepts is a record's text, and each record's text is read as that record.
use Rattle.std.proofs.lemmas.Grind.{common_steps}
use Rattle.std.proofs.Common.{◌≡◌, ◌≢◌, ℕ, ◌<◌, ◌≤◌, Bool, true, false, ◌&&◌, ◌||◌, not}
use Rattle.std.proofs.Common.{cond, List, [], ◌∷◌, ◌++◌, length, Result, Ok, Err, refl, sym, ap, ◌∙◌, subst}
use Rattle.std.proofs.Common.{arith, ◌⊎◌, inl, inr}
use Rattle.std.specs.List.{list_any, All, AllByRecursion, onto_first, join_with_byte}
use Rattle.std.proofs.lemmas.Bool.Decides.{eqb_tells, nat_tests}
use Rattle.std.proofs.lemmas.Bool.{or_from, or_parts, not-false, and_parts, cond-true, cond-false, ne_eqb, and_right}
use Rattle.std.specs.Prelude.{◌==◌}
use Rattle.std.proofs.lemmas.List.Splits.{join_with_byte-slice_split, slice_split_at, slice_split_none, length-slice_split}
use Rattle.std.proofs.lemmas.List.Elements.{All-from_recursion}
use Rattle.std.proofs.lemmas.List.Folds.{list_any-append}
use Rattle.hum_score.specs.declared.records.SpinedKind.{SpinedKind}
use Rattle.hum_score.specs.declared.records.SpinedKind.TheVariants.{Local}
use Rattle.hum_score.specs.declared.records.RecordFault.{RecordFault}
use Rattle.hum_score.specs.declared.records.RecordFault.TheVariants.{S4, S5, S6, S8, Memory}
use Rattle.hum_score.specs.Row.{Row, Comment, Spined, width_of, token_at, tokens_of, text_of}
use Rattle.hum_score.specs.Spelling.{Breaks, has_byte, is_comment, is_empty, kind_of_token, kind_of_first}
use Rattle.hum_score.specs.Spelling.{same_kind, mixes_kinds, kind_of_tokens, parts, IsToken, IsTokenOf}
use Rattle.hum_score.specs.Spelling.{IsTextOf, spined, reading, Gives, Fails}
use Rattle.std.specs.Prelude.{IfOk, IfErr, MatchResult}
use Rattle.hum_record.specs.Fields.{row_in, AreFields, ends_from}
use Rattle.hum_record.proofs.Parts.{kind_of_parts}

-- which way a choice went
chosen : {A : Type 0} (b : Bool) (x y z : A) → cond b x y ≡ z → ((b ≡ true) × (x ≡ z)) ⊎ ((b ≡ false) × (y ≡ z))
chosen = grind (arith, nat_tests)

same_kind_is : (a b : SpinedKind) → same_kind a b ≡ true → a ≡ b
same_kind_is = grind (arith, nat_tests)

same_kind_refl : (a : SpinedKind) → same_kind a a ≡ true
same_kind_refl = grind (arith, nat_tests)

free_onto : (b x : ℕ) (ts : List (List ℕ)) → (x == b) ≡ false → AllByRecursion (λ t. has_byte b t ≡ false) ts →
    AllByRecursion (λ t. has_byte b t ≡ false) (onto_first x ts)
free_onto = grind (arith, nat_tests)

-- a part has no tab
pub free_of_tabs : (text : List ℕ) → AllByRecursion (λ t. has_byte 9 t ≡ false) (parts text)
free_of_tabs [] = (refl, tt)
free_of_tabs (x ∷ xs) = grind (arith, nat_tests, free_of_tabs xs)

-- a part has no byte that the text hasn't
pub free_of : (b : ℕ) (text : List ℕ) → has_byte b text ≡ false → AllByRecursion (λ t. has_byte b t ≡ false) (parts text)
free_of b [] h = (refl, tt)
free_of b (x ∷ xs) h =
    let both = or_parts (x == b) (has_byte b xs) h in
    elim (eqb_tells x 9) as (λ _. AllByRecursion (λ t. has_byte b t ≡ false) (parts (x ∷ xs))) [
      | inl w ↦ rw w.0 (refl, free_of b xs both.1)
      | inr w ↦ rw w.0 (free_onto b x (parts xs) both.0 (free_of b xs both.1))
    ]

split_test : (a b c : Bool) → (a && (b || c)) ≡ false → ((a && b) ≡ false) × ((a && c) ≡ false)
split_test = grind (arith, nat_tests)

not_comment : (k : SpinedKind) (t : List ℕ) → kind_of_token t ≡ k → (same_kind k Local && is_comment t) ≡ false → is_comment t ≡ false
not_comment = grind (arith, nat_tests)

lawful : (k : SpinedKind) (ts : List (List ℕ)) → list_any is_empty ts ≡ false →
    AllByRecursion (λ t. has_byte 9 t ≡ false) ts → AllByRecursion (λ t. has_byte 13 t ≡ false) ts →
    AllByRecursion (λ t. has_byte 10 t ≡ false) ts → list_any (λ t. not (same_kind (kind_of_token t) k))
    ts ≡ false → (same_kind k Local && list_any is_comment ts) ≡ false → AllByRecursion (IsToken k) ts
lawful k [] filled tabs returns lines kinds comments = tt
lawful k (t ∷ ts) filled tabs returns lines kinds comments =
    let f = or_parts (is_empty t) (list_any is_empty ts) filled in
    let g = or_parts (not (same_kind (kind_of_token t) k)) _ kinds in
    let c = split_test (same_kind k Local) (is_comment t) (list_any is_comment ts) comments in
    let of_kind : kind_of_token t ≡ k = same_kind_is _ _ (not-false _ g.0) in (
      record {
        filled = λ e. let bad : is_empty t ≡ true = rw e refl in cc;
        one_token = tabs.0;
        one_line = returns.0;
        no_line_end = lines.0;
        of_kind = of_kind;
        no_comment = not_comment k t of_kind c.0;
      },
      lawful k ts f.1 tabs.1 returns.1 lines.1 g.1 c.1,
    )

spined_ok : (r : Result SpinedKind RecordFault) (ts : List (List ℕ)) (row : Row) → spined r ts ≡ Ok row → (k : SpinedKind) × (r ≡ Ok k) × (Spined k ts ≡ row)
spined_ok = grind (arith, nat_tests)

kinds_ok : (ts : List (List ℕ)) (k : SpinedKind) → kind_of_tokens ts ≡ Ok k →
    (list_any is_empty ts ≡ false) × (mixes_kinds ts ≡ false) × ((same_kind (kind_of_first ts) Local && list_any
    is_comment ts) ≡ false) × (kind_of_first ts ≡ k)
kinds_ok ts k h = elim (chosen (list_any is_empty ts) _ _ _ h) [
  | inl w ↦ let z = w.1 in cc
  | inr w ↦ elim (chosen (mixes_kinds ts) _ _ _ w.1) [
    | inl v ↦ let z = v.1 in cc
    | inr v ↦ grind (arith, nat_tests, chosen)
  ]
]

-- a text has a part
pub parts_filled : (text : List ℕ) → parts text ≢ []
parts_filled text e = let n = ap length e ∙ refl in let m = length-slice_split (λ b. b == 9) text in omega (arith, n, m)

-- What is read has this text.
pub found : (text : List ℕ) (row : Row) → length text ≤ 1048576 → has_byte 10 text ≡ false → reading text ≡ Ok row → IsTextOf row text
found text row fits line h = elim (chosen (has_byte 13 text) _ _ _ h) [
  | inl w ↦ let z = w.1 in cc
  | inr w ↦ elim (chosen (is_comment text) _ _ _ w.1) [
    | inl v ↦ let same : Comment text ≡ row = (let z = v.1 in cc) in subst (λ (r : Row). IsTextOf r text) same (refl, v.0, w.0, line, fits)
    | inr v ↦
        let s = spined_ok (kind_of_tokens (parts text)) (parts text) row v.1 in
        let k = kinds_ok (parts text) s.0 s.1 in
        subst (λ (r : Row). IsTextOf r text) s.2 (
          sym (join_with_byte-slice_split 9 text),
          parts_filled text,
          lawful s.0 (parts text) k.0
              (free_of_tabs text) (free_of 13 text w.0) (free_of 10 text line) (rw (← k.3) k.1) (rw (← k.3) k.2),
          fits,
        )
  ]
]

-- The other way

no_byte : (b : ℕ) (t : List ℕ) → has_byte b t ≡ false → AllByRecursion (λ x. (x == b) ≡ false) t
no_byte b [] h = tt
no_byte b (x ∷ xs) h = let both = or_parts (x == b) (has_byte b xs) h in (both.0, no_byte b xs both.1)

no_tab : (t : List ℕ) → has_byte 9 t ≡ false → All (λ x. (x == 9) ≡ false) t
no_tab t h = All-from_recursion (λ x. (x == 9) ≡ false) t (no_byte 9 t h)

-- tokens joined are cut again
pub parts_join : (k : SpinedKind) (t : List ℕ) (ts : List (List ℕ)) → AllByRecursion (IsToken k) (t ∷ ts) → parts (join_with_byte 9 (t ∷ ts)) ≡ t ∷ ts
parts_join k t [] h = slice_split_none (λ x. x == 9) t (no_tab t h.0.one_token)
parts_join k t (u ∷ ts) h = grind (arith, nat_tests, parts_join k u ts h.1, slice_split_at, no_tab)

join_free : (k : SpinedKind) (ts : List (List ℕ)) → AllByRecursion (IsToken k) ts → has_byte 13 (join_with_byte 9 ts) ≡ false
join_free k (t ∷ u ∷ ts) h = list_any-append (λ x. x == 13) t (9 ∷ join_with_byte 9 (u ∷ ts)) ∙ or_from _ _ h.0.one_line (join_free k (u ∷ ts) h.1)
join_free k ts h = grind (arith, nat_tests)

no_comment_front : (t rest : List ℕ) → t ≢ [] → is_comment t ≡ false → is_comment (t ++ 9 ∷ rest) ≡ false
no_comment_front = grind (arith, nat_tests)

join_no_comment : (k : SpinedKind) (ts : List (List ℕ)) → AllByRecursion (IsToken k) ts → is_comment (join_with_byte 9 ts) ≡ false
join_no_comment k [] h = refl
join_no_comment k (t ∷ []) h = h.0.no_comment
join_no_comment k (t ∷ u ∷ ts) h = no_comment_front t _ h.0.filled h.0.no_comment

all_filled : (k : SpinedKind) (ts : List (List ℕ)) → AllByRecursion (IsToken k) ts → list_any is_empty ts ≡ false
all_filled k ((b ∷ bs) ∷ ts) h = or_from _ _ (ne_eqb _ 0 (λ e. omega (arith, e))) (all_filled k ts h.1)
all_filled k ts h = grind (arith, nat_tests)

all_kind : (k : SpinedKind) (ts : List (List ℕ)) → AllByRecursion (IsToken k) ts → list_any (λ t. not (same_kind (kind_of_token t) k)) ts ≡ false
all_kind k [] h = refl
all_kind k (t ∷ ts) h = or_from _ _ (rw (h.0.of_kind, same_kind_refl k) refl) (all_kind k ts h.1)

no_comments : (k : SpinedKind) (ts : List (List ℕ)) → AllByRecursion (IsToken k) ts → list_any is_comment ts ≡ false
no_comments k [] h = refl
no_comments k (t ∷ ts) h = or_from _ _ h.0.no_comment (no_comments k ts h.1)

kinds_again : (k : SpinedKind) (t : List ℕ) (ts : List (List ℕ)) → AllByRecursion (IsToken k) (t ∷ ts) → kind_of_tokens (t ∷ ts) ≡ Ok k
kinds_again k t ts h =
    let first : kind_of_token t ≡ k = h.0.of_kind in
    let kinds : mixes_kinds (t ∷ ts) ≡ false = grind (arith, nat_tests, all_kind) in
    let comments : list_any is_comment (t ∷ ts) ≡ false = no_comments k (t ∷ ts) h in
    cond-false _ _ _ (all_filled k (t ∷ ts) h)
    ∙ cond-false _ _ _ kinds
    ∙ cond-false _ _ _ (and_right (same_kind (kind_of_token t) Local) _ comments)
    ∙ ap (λ kind. Ok kind) first

-- A record's text is read as that record.
pub only : (text : List ℕ) (row : Row) → IsTextOf row text → reading text ≡ Ok row
only text (Comment comment) h = rw (h.2, h.1) (ap (λ t. Ok (Comment t)) h.0)
only text (Spined k []) h = absurd (h.1 refl)
only text (Spined k (t ∷ ts)) h =
    ap reading h.0
    ∙ cond-false _ _ _ (join_free k (t ∷ ts) h.2)
    ∙ cond-false _ _ _ (join_no_comment k (t ∷ ts) h.2)
    ∙ rw (parts_join k t ts h.2, kinds_again k t ts h.2) refl

-- What a function that reads keeps and answers

reads : (text : List ℕ) → has_byte 13 text ≡ false → is_comment text ≡ false → reading text ≡ spined (kind_of_tokens (parts text)) (parts text)
reads text line comment = rw (line, comment) refl

pub reads_spined : (text : List ℕ) (k : SpinedKind) → has_byte 13 text ≡ false → is_comment text ≡ false →
    kind_of_tokens (parts text) ≡ Ok k → reading text ≡ Ok (Spined k (parts text))
reads_spined = grind (arith, nat_tests)

-- what a text is read as is the record of it
pub row_read : (text : List ℕ) (row : Row) → reading text ≡ Ok row → row_in text ≡ row
row_read text row h = elim (chosen (has_byte 13 text) _ _ _ h) [
  | inl w ↦ let z = w.1 in cc
  | inr w ↦ elim (chosen (is_comment text) _ _ _ w.1) [
    | inl v ↦ cond-true _ _ _ v.0 ∙ (let z = v.1 in cc)
    | inr v ↦
        let s = spined_ok (kind_of_tokens (parts text)) (parts text) row v.1 in
        let k = kinds_ok (parts text) s.0 s.1 in
        cond-false _ _ _ v.0 ∙ ap (λ kind. Spined kind (parts text)) (kind_of_parts text ∙ k.3) ∙ s.2
  ]
]

-- what it is read as, if it is read as a record
pub reads_row : (text : List ℕ) (row : Row) → reading text ≡ Ok row → reading text ≡ Ok (row_in text)
reads_row text row h = h ∙ ap (λ (r : Row). Ok r) (sym (row_read text row h))

pub read_fields : (text ends : List ℕ) (row : Row) → length text ≤ 1048576 → has_byte 10 text ≡ false →
    reading text ≡ Ok row → ends ≡ ends_from 0 (tokens_of row) → AreFields text ends
read_fields text ends row fits line h e =
    grind (arith, nat_tests, row_read text row h, found text row fits line h)

pub spined_fields : (text ends : List ℕ) (k : SpinedKind) → length text ≤ 1048576 → has_byte 10 text ≡ false →
    has_byte 13 text ≡ false → is_comment text ≡ false → kind_of_tokens (parts text) ≡ Ok k →
    ends ≡ ends_from 0 (parts text) → AreFields text ends
spined_fields text ends k fits line return comment h e = read_fields text ends (Spined k (parts text)) fits line (reads_spined text k return comment h) e

pub gives_found : (r : Result Row RecordFault) (text : List ℕ) → length text ≤ 1048576 →
    has_byte 10 text ≡ false → Gives r (reading text) → IfOk r (λ row. IsTextOf row text)
gives_found = grind (arith, nat_tests, found)

not_fault : (fault : RecordFault) (row : Row) (read : Result Row RecordFault) → read ≡ Ok row → Fails fault read → fault ≡ Memory
not_fault = grind (arith, nat_tests)

pub gives_only : (r : Result Row RecordFault) (text : List ℕ) → Gives r (reading text) → (row : Row) →
    IsTextOf row text → MatchResult r (λ read. read ≡ row) (λ fault. fault ≡ Memory)
gives_only = grind (arith, nat_tests, only, not_fault)

pub text_is : (row : Row) (text : List ℕ) → IsTextOf row text → text ≡ text_of row
text_is = grind (arith, nat_tests)

-- a record's text is read as that record
pub reads_back : (text : List ℕ) (row : Row) → IsTextOf row text → reading (text_of row) ≡ Ok row
reads_back text row h = ap reading (sym (text_is row text h)) ∙ only text row h

-- The faults

kinds_broken : (ts : List (List ℕ)) (fault : RecordFault) → kind_of_tokens ts ≡ Err fault →
    ((fault ≡ S4) × (list_any is_empty ts ≡ true)) ⊎ (((fault ≡ S5) × (mixes_kinds
    ts ≡ true)) ⊎ ((fault ≡ S6) × ((same_kind (kind_of_first ts) Local && list_any is_comment ts) ≡ true)))
kinds_broken ts fault h = elim (chosen (list_any is_empty ts) _ _ _ h) [
  | inl w ↦ inl ((let z = w.1 in cc), w.0)
  | inr w ↦ elim (chosen (mixes_kinds ts) _ _ _ w.1) [
    | inl v ↦ inr (inl ((let z = v.1 in cc), v.0))
    | inr v ↦ elim (chosen (same_kind (kind_of_first ts) Local && list_any is_comment ts) _ _ _ v.1) [
      | inl u ↦ inr (inr ((let z = u.1 in cc), u.0))
      | inr u ↦ let z = u.1 in cc
    ]
  ]
]

spined_err : (r : Result SpinedKind RecordFault) (ts : List (List ℕ)) (fault : RecordFault) → spined r ts ≡ Err fault → r ≡ Err fault
spined_err = grind (arith, nat_tests)

-- a text that is refused breaks the rule of its fault
pub breaks : (text : List ℕ) (fault : RecordFault) → reading text ≡ Err fault → Breaks fault text
breaks text fault h = elim (chosen (has_byte 13 text) _ _ _ h) [
  | inl w ↦ let same : S8 ≡ fault = (let z = w.1 in cc) in subst (λ (f : RecordFault). Breaks f text) same w.0
  | inr w ↦ elim (chosen (is_comment text) _ _ _ w.1) [
    | inl v ↦ let z = v.1 in cc
    | inr v ↦ elim (kinds_broken (parts text) fault (spined_err _ _ _ v.1)) [
      | inl a ↦ subst (λ (f : RecordFault). Breaks f text) (sym a.0) a.1
      | inr a ↦ grind (arith, nat_tests, and_parts, same_kind_is)
    ]
  ]
]

told : (fault : RecordFault) (read : Result Row RecordFault) → Fails fault read → fault ≢ Memory → read ≡ Err fault
told = grind (arith, nat_tests)

pub gives_broken : (r : Result Row RecordFault) (text : List ℕ) → Gives r (reading text) → IfErr r (λ fault. fault ≢ Memory → Breaks fault text)
gives_broken = grind (arith, nat_tests, breaks, told)

-- each token of a record is a token of its kind
pub token_lawful : (row : Row) (text : List ℕ) (j : ℕ) → IsTextOf row text → j < width_of row → IsTokenOf row (token_at row j)
token_lawful = grind (arith, common_steps)

-- What is answered of tokens, by what was found of them.

pub kinds_empty : (ts : List (List ℕ)) → list_any is_empty ts ≡ true → Err S4 ≡ kind_of_tokens ts
kinds_empty ts empty = sym (cond-true _ _ _ empty)

pub kinds_mixed : (ts : List (List ℕ)) → list_any is_empty ts ≡ false → mixes_kinds ts ≡ true → Err S5 ≡ kind_of_tokens ts
kinds_mixed ts empty mixed = sym (cond-false _ _ _ empty ∙ cond-true _ _ _ mixed)

pub kinds_comment : (ts : List (List ℕ)) → list_any is_empty ts ≡ false → mixes_kinds ts ≡ false →
    (same_kind (kind_of_first ts) Local && list_any is_comment ts) ≡ true → Err S6 ≡ kind_of_tokens ts
kinds_comment ts empty mixed comment = sym (cond-false _ _ _ empty ∙ cond-false _ _ _ mixed ∙ cond-true _ _ _ comment)

pub kinds_one : (ts : List (List ℕ)) → list_any is_empty ts ≡ false → mixes_kinds ts ≡ false →
    (same_kind (kind_of_first ts) Local && list_any is_comment ts) ≡ false →
    Ok (kind_of_first ts) ≡ kind_of_tokens ts
kinds_one ts empty mixed comment = sym (cond-false _ _ _ empty ∙ cond-false _ _ _ mixed ∙ cond-false _ _ _ comment)
