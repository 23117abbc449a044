-- What a record's tokens are.
use Rattle.std.proofs.Common.{◌≡◌, ◌∙◌, refl, sym, ap, ℕ, zero, suc, Bool, true, false, not}
use Rattle.std.proofs.Common.{◌||◌, List, [], ◌∷◌, map, inl, inr, ◌⊎◌, cond}
use Rattle.std.proofs.Common.{get_or, nat_eq, ◌+◌, arith, length, length-append, ◌≤◌, ◌≢◌, ◌++◌, append_assoc, append-nil}
use Rattle.std.specs.List.{AllByRecursion, join_with_byte, list_any}
use Rattle.std.proofs.lemmas.Bool.Decides.{nat_tests}
use Rattle.std.proofs.lemmas.List.{length-map}
use Rattle.hum_score.specs.declared.records.SpinedKind.{SpinedKind}
use Rattle.hum_score.specs.declared.records.SpinedKind.TheVariants.{Local, Interpretation, Values}
use Rattle.hum_score.specs.Row.{Row, Comment, Spined, kind_of, text_of, tokens_of, width_of}
use Rattle.hum_score.specs.declared.records.Kind.TheVariants.{Values as AnyValues}
use Rattle.hum_score.specs.Spelling.{IsToken, kind_of_token}
use Rattle.hum_context.specs.declared.heard.Heard.TheVariants.{Passed, Taken}
use Rattle.hum_context.specs.Context.{Choice, is_data, is_collectable, is_last, begins}
use Rattle.hum_context.specs.Heard.{heard_of, heard_under, is_taken, ends}
use Rattle.hum_context.specs.declared.heard.Heard.{Heard}
use Rattle.hum_context.proofs.Growth.{value_goes_on}

-- a token in a column, or none beyond the last
abbrev pub LawfulAt : SpinedKind → List ℕ → Type 0
LawfulAt kind t = (t ≡ []) ⊎ IsToken kind t

pub all_at : (kind : SpinedKind) (tokens : List (List ℕ)) (c : ℕ) → AllByRecursion (IsToken kind) tokens
    → LawfulAt kind (get_or tokens c [])
all_at kind [] c h = inl refl
all_at kind (t ∷ ts) zero h = inr h.0
all_at kind (t ∷ ts) (suc c) h = all_at kind ts c h.1

star_no_data : (t : List ℕ) → kind_of_token t ≡ Interpretation → is_data t ≡ false
star_no_data [] e = refl
star_no_data (b ∷ bs) e = by (nat_eq b 33) (nat_eq b 42) e
  where
    by : (x y : Bool) → cond x Local (cond y Interpretation Values) ≡ Interpretation
        → not (x || y) ≡ false
    by true y k = refl
    by false true k = refl
    by false false k = cc

data_data : (b : ℕ) (bs : List ℕ) → kind_of_token (b ∷ bs) ≡ Values → is_data (b ∷ bs) ≡ true
data_data b bs e = by (nat_eq b 33) (nat_eq b 42) e
  where
    by : (x y : Bool) → cond x Local (cond y Interpretation Values) ≡ Values → not (x || y) ≡ true
    by true y k = cc
    by false true k = cc
    by false false k = refl

pub no_data_last : (t : List ℕ) → LawfulAt Values t → is_last t ≡ false
no_data_last [] h = refl
no_data_last (b ∷ bs) (inl e) = cc
no_data_last (b ∷ bs) (inr h) = value_goes_on (b ∷ bs) (data_data b bs h.of_kind)

pub no_star_data : (t : List ℕ) → LawfulAt Interpretation t → is_data t ≡ false
no_star_data t (inl e) = rw e refl
no_star_data t (inr h) = star_no_data t h.of_kind

pub no_data : (o : Choice) (t : List ℕ) → is_data t ≡ false → is_collectable o t ≡ false
no_data o t e = rw e refl

pub passed_none : (o : Choice) (t : List ℕ) → heard_of o t ≡ Passed → is_collectable o t ≡ false
passed_none o t e = by (is_collectable o t) e
  where
    by : (b : Bool) → cond b (Taken (begins o.extent t) (ends o.extent t)) Passed ≡ Passed
        → b ≡ false
    by true k = cc
    by false k = refl

pub heard_all : (o : Choice) (tokens : List (List ℕ)) (c : ℕ)
    → get_or (map (heard_of o) tokens) c Passed ≡ heard_of o (get_or tokens c [])
heard_all o [] c = refl
heard_all o (t ∷ ts) zero = refl
heard_all o (t ∷ ts) (suc c) = heard_all o ts c

pub taken_is : (o : Choice) (t : List ℕ) (b e : Bool) → heard_of o t ≡ Taken b e
    → (is_collectable o t ≡ true) × (begins o.extent t ≡ b) × (ends o.extent t ≡ e)
taken_is o t b e h = by (is_collectable o t) refl h
  where
    by : (x : Bool) → is_collectable o t ≡ x
        → cond x (Taken (begins o.extent t) (ends o.extent t)) Passed ≡ Taken b e
        → (is_collectable o t ≡ true) × (begins o.extent t ≡ b) × (ends o.extent t ≡ e)
    by true w k = (w, cc, cc)
    by false w k = cc

pub bang_no_data : (t : List ℕ) → kind_of_token t ≡ Local → is_data t ≡ false
bang_no_data [] e = refl
bang_no_data (b ∷ bs) e = by (nat_eq b 33) (nat_eq b 42) e
  where
    by : (x y : Bool) → cond x Local (cond y Interpretation Values) ≡ Local → not (x || y) ≡ false
    by true y k = refl
    by false true k = cc
    by false false k = cc

pub bang_no_last : (t : List ℕ) → kind_of_token t ≡ Local → is_last t ≡ false
bang_no_last [] e = refl
bang_no_last (b ∷ bs) e = let k : nat_eq b 33 ≡ true = by (nat_eq b 33) (nat_eq b 42) e in
    let m : nat_eq b 42 ≡ false = grind (arith, nat_tests, k) in let l : nat_eq 42 b ≡ false =
    grind (arith, nat_tests, m) in rw (m, l) refl
  where
    by : (x y : Bool) → cond x Local (cond y Interpretation Values) ≡ Local → x ≡ true
    by true y k = refl
    by false true k = cc
    by false false k = cc

-- a token is no longer than the text of its record
pub token_short : (row : Row) (c : ℕ) → length (text_of row) ≤ 1048576
    → length (get_or (tokens_of row) c []) + 1 ≤ 1048577
token_short (Comment text) c h = omega arith
token_short (Spined kind tokens) c h = let k = part_short tokens c in omega (arith, k, h)
  where
    part_short : (ts : List (List ℕ)) (c : ℕ)
        → length (get_or ts c []) ≤ length (join_with_byte 9 ts)
    part_short [] c = omega arith
    part_short (t ∷ []) zero = omega arith
    part_short (t ∷ []) (suc c) = omega arith
    part_short (t ∷ u ∷ us) zero = let sum = length-append t (9 ∷ join_with_byte 9 (u ∷ us)) in
        omega (arith, sum)
    part_short (t ∷ u ∷ us) (suc c) =
        let sum = length-append t (9 ∷ join_with_byte 9 (u ∷ us)) in
        let ih = part_short (u ∷ us) c in
        omega (arith, sum, ih)

-- one token more was heard
pub heard_more : (o : Choice) (token : List ℕ) (heard heard' : List Heard) (one : Heard)
    (left rest tokens : List (List ℕ)) → heard' ≡ heard ++ one ∷ [] → one ≡ heard_of o token
    → left ≡ token ∷ rest → heard ++ map (heard_of o) left ≡ map (heard_of o) tokens
    → heard' ++ map (heard_of o) rest ≡ map (heard_of o) tokens
heard_more o token heard heard' one left rest tokens grown is next so_far =
    ap (λ (hs : List Heard). hs ++ map (heard_of o) rest) grown
    ∙ append_assoc heard (one ∷ []) (map (heard_of o) rest)
    ∙ ap (λ (h : Heard). heard ++ h ∷ map (heard_of o) rest) is
    ∙ ap (λ (ts : List (List ℕ)). heard ++ map (heard_of o) ts) (sym next)
    ∙ so_far

pub heard_end : (o : Choice) (heard : List Heard) (left tokens : List (List ℕ)) → left ≡ []
    → heard ++ map (heard_of o) left ≡ map (heard_of o) tokens → heard ≡ map (heard_of o) tokens
heard_end o heard left tokens none so_far =
    sym (append-nil heard) ∙ ap (λ (ts : List (List ℕ)). heard ++ map (heard_of o) ts) (sym none) ∙ so_far

any_push : (hs : List Heard) (h : Heard)
    → list_any is_taken (hs ++ h ∷ []) ≡ (list_any is_taken hs || is_taken h)
any_push [] Passed = refl
any_push [] (Taken b e) = refl
any_push (Passed ∷ hs) h = any_push hs h
any_push (Taken b e ∷ hs) h = refl

-- and one is collected
pub any_more : (hs hs' : List Heard) (h : Heard) → hs' ≡ hs ++ h ∷ [] → h ≢ Passed
    → true ≡ list_any is_taken hs'
any_more hs hs' Passed grown other = absurd (other refl)
any_more hs hs' (Taken b e) grown other =
    rw grown (sym (any_push hs (Taken b e) ∙ or_true (list_any is_taken hs)))
  where
    or_true : (b : Bool) → (b || true) ≡ true
    or_true true = refl
    or_true false = refl

pub not_taken : (h : Heard) → ((b e : Bool) → h ≡ Taken b e → ⊥) → h ≡ Passed
not_taken Passed other = refl
not_taken (Taken b e) other = absurd (other b e refl)

pub none_more : (any : Bool) (hs hs' : List Heard) (h : Heard) → hs' ≡ hs ++ h ∷ [] → h ≡ Passed
    → any ≡ list_any is_taken hs → any ≡ list_any is_taken hs'
none_more any hs hs' h grown passed before =
    rw (grown, passed) (before ∙ sym (any_push hs Passed ∙ or_false (list_any is_taken hs)))
  where
    or_false : (b : Bool) → (b || false) ≡ b
    or_false true = refl
    or_false false = refl

none_taken : (hs : List Heard) (c : ℕ) → list_any is_taken hs ≡ false → get_or hs c Passed ≡ Passed
none_taken [] c e = refl
none_taken (Passed ∷ hs) zero e = refl
none_taken (Passed ∷ hs) (suc c) e = none_taken hs c e
none_taken (Taken b l ∷ hs) c e = cc

-- where none is collected, nothing is heard
pub none_heard : (o : Choice) (row : Row) (heard : List Heard) (c : ℕ) → kind_of row ≡ AnyValues
    → heard ≡ map (heard_of o) (tokens_of row) → list_any is_taken heard ≡ false
    → heard_under o row c ≡ Passed
none_heard o (Comment text) heard c k e n = cc
none_heard o (Spined Local tokens) heard c k e n = cc
none_heard o (Spined Interpretation tokens) heard c k e n = cc
none_heard o (Spined Values tokens) heard c k e n =
    sym (heard_all o tokens c) ∙ (ap (λ (hs : List Heard). get_or hs c Passed) (sym e)
    ∙ none_taken heard c n)

-- where some are, so many are heard
pub all_heard : (o : Choice) (row : Row) (heard : List Heard) (c : ℕ) → kind_of row ≡ AnyValues
    → heard ≡ map (heard_of o) (tokens_of row) → get_or heard c Passed ≡ heard_under o row c
all_heard o (Comment text) heard c k e = cc
all_heard o (Spined Local tokens) heard c k e = cc
all_heard o (Spined Interpretation tokens) heard c k e = cc
all_heard o (Spined Values tokens) heard c k e =
    ap (λ (hs : List Heard). get_or hs c Passed) e ∙ heard_all o tokens c

pub heard_narrow : (o : Choice) (row : Row) (heard : List Heard) → kind_of row ≡ AnyValues
    → heard ≡ map (heard_of o) (tokens_of row) → length heard ≤ width_of row
heard_narrow o (Comment text) heard k e = cc
heard_narrow o (Spined kind tokens) heard k e =
    let same = ap length e ∙ length-map tokens (heard_of o) in omega (arith, same)

-- of another record nothing is heard
pub other_passed : (o : Choice) (row : Row) (c : ℕ) → kind_of row ≢ AnyValues
    → Passed ≡ heard_under o row c
other_passed o (Comment text) c other = refl
other_passed o (Spined Local tokens) c other = refl
other_passed o (Spined Interpretation tokens) c other = refl
other_passed o (Spined Values tokens) c other = absurd (other refl)
