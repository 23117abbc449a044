-- The text of collected tokens, one token more or less.
use Rattle.std.proofs.Common.{◌≡◌, ◌≢◌, ◌∙◌, refl, sym, ap, ℕ, zero, suc, ◌+◌, ◌≤◌, Bool, true, false}
use Rattle.std.proofs.Common.{List, [], ◌∷◌, ◌++◌, length, take, drop, append_assoc, append-nil, arith, length-append}
use Rattle.std.proofs.Common.{◌||◌, ◌<◌, ◌-◌, Option, None, Some, inl, set}
use Rattle.std.specs.List.{list_any, join_with_byte, copy_within}
use Rattle.std.proofs.Math.Seq.{append_snoc, paste, take-length}
use Rattle.std.proofs.lemmas.List.Edits.{take-paste}
use Rattle.std.proofs.lemmas.List.{drop-append-le, drop_all, drop_at, drop-take, length-set, length-drop, length-take, take_more_set}
use Rattle.std.proofs.lemmas.Bool.Decides.{nat_tests}
use Rattle.hum_score.specs.Row.{Row}
use Rattle.hum_score.specs.Spines.{Path}
use Rattle.hum_context.specs.declared.walk.Walk.{Walk}
use Rattle.hum_context.specs.Context.{Choice, Extent, First, Between, is_data, taken}
use Rattle.hum_context.specs.Heard.{wanted_of}
use Rattle.hum_context.specs.Walking.{IsJoined, Says, Stands, collected, spaced}
use Rattle.hum_context.proofs.Passing.{enough_taken}
use Rattle.hum_context.proofs.Queues.{drop_drop}
use Rattle.hum_score.specs.Spelling.{IsToken, has_byte}
use Rattle.hum_score.specs.declared.records.SpinedKind.TheVariants.{Values}
use Rattle.std.specs.Prelude.{IfSome}

spaced_more : (ts : List (List ℕ)) (t : List ℕ) → spaced (ts ++ t ∷ []) ≡ spaced ts ++ 32 ∷ t
spaced_more [] t = ap (λ (xs : List ℕ). 32 ∷ xs) (append-nil t)
spaced_more (x ∷ xs) t = ap (λ (ys : List ℕ). 32 ∷ x ++ ys) (spaced_more xs t)
    ∙ sym (append_assoc (32 ∷ x) (spaced xs) (32 ∷ t))

-- a token more
pub says_more : (missing : ℕ) (old new t : List ℕ) (ts : List (List ℕ))
    → (missing ≤ length ts) × (old ≡ spaced (drop missing ts)) → new ≡ old ++ 32 ∷ t
    → (missing ≤ length (ts ++ t ∷ [])) × (new ≡ spaced (drop missing (ts ++ t ∷ [])))
says_more missing old new t ts h e =
    let most = h.0 in
    let sum = length-append ts (t ∷ []) in (
      omega (arith, most, sum),
      e ∙ (ap (λ (xs : List ℕ). xs ++ 32 ∷ t) h.1 ∙ (sym (spaced_more (drop missing ts) t)
          ∙ ap spaced (sym (drop-append-le missing ts (t ∷ []) most)))),
    )

-- the first of those that are kept is taken away
pub says_less : (missing new old first : ℕ) (text t : List ℕ) (ts : List (List ℕ)) → missing ≤ 0
    → first ≡ length t → drop new text ≡ drop (first + 1) (drop old text)
    → (missing ≤ length (t ∷ ts)) × (drop old text ≡ spaced (drop missing (t ∷ ts)))
    → (missing ≤ length ts) × (drop new text ≡ spaced (drop missing ts))
says_less missing new old first text t ts none size e h =
    let all : missing ≡ 0 = omega (arith, none) in (
      omega (arith, none),
      rw all (e ∙ (ap (drop (first + 1)) (rw all at h.1) ∙ behind)),
    )
  where
    behind : drop (first + 1) (32 ∷ t ++ spaced ts) ≡ spaced ts
    behind = drop_at (32 ∷ t) (spaced ts) (first + 1) (omega (arith, size))

-- or all of it
pub none_left : (bytes : List ℕ) (begin len first : ℕ) → len - begin ≤ first
    → drop len (take len bytes) ≡ drop (first + 1) (drop begin (take len bytes))
none_left bytes begin len first over =
    let long = length-take len bytes in
    let rest = length-drop begin (take len bytes) in
    let most : length (take len bytes) ≤ len = grind (arith, nat_tests, long) in
    drop_all len (take len bytes) most
    ∙ sym (drop_all (first + 1) (drop begin (take len bytes)) (omega (arith, most, rest, over)))

-- what is kept, without the space before it
pub kept_is : (bytes : List ℕ) (begin len : ℕ) → begin < len
    → take (len - (begin + 1)) (drop (begin + 1) bytes) ≡ drop (begin + 1) (take len bytes)
kept_is bytes begin len some =
    let all : begin + 1 + (len - (begin + 1)) ≡ len = omega (arith, some) in
    sym (drop-take (begin + 1) (len - (begin + 1)) bytes) ∙ ap (λ (n : ℕ). drop (begin + 1) (take n bytes)) all

-- a token of data
pub data_is : (token : List ℕ) → is_data token ≡ true → has_byte 9 token ≡ false
    → has_byte 13 token ≡ false → has_byte 10 token ≡ false → IsToken Values token
data_is [] is tab cr lf = cc
data_is (b ∷ bs) is tab cr lf = record {
  filled = λ e. cc;
  one_token = tab;
  one_line = cr;
  no_line_end = lf;
  of_kind = grind (arith, nat_tests, is);
  no_comment = grind (arith, nat_tests, is);
}

pub some_both : {X : Type 0} {P Q R : X → Type 0} (x : Option X) → ((a : X) → P a → Q a → R a)
    → IfSome x P → IfSome x Q → IfSome x R
some_both None f p q = p
some_both (Some a) f p q = f a p q

-- the first space away, they are joined
pub says_all : (missing begin : ℕ) (text : List ℕ) (ts : List (List ℕ)) → missing ≤ 0
    → drop begin text ≡ spaced (drop missing ts) → drop (begin + 1) text ≡ join_with_byte 32 ts
says_all missing begin text ts none h =
    let all : missing ≡ 0 = omega (arith, none) in
    sym (drop_drop begin 1 text) ∙ (ap (drop 1) (rw all at h) ∙ joined ts)
  where
    spaced_is : (t : List ℕ) (ts : List (List ℕ)) → spaced (t ∷ ts) ≡ 32 ∷ join_with_byte 32 (t ∷ ts)
    spaced_is t [] = ap (λ (xs : List ℕ). 32 ∷ xs) (append-nil t)
    spaced_is t (x ∷ xs) = ap (λ (ys : List ℕ). 32 ∷ t ++ ys) (spaced_is x xs)

    joined : (ts : List (List ℕ)) → drop 1 (spaced ts) ≡ join_with_byte 32 ts
    joined [] = refl
    joined (t ∷ ts) = ap (drop 1) (spaced_is t ts)

-- no such byte stands in a part
pub none_behind : (p : ℕ → Bool) (n : ℕ) (xs : List ℕ) → list_any p xs ≡ false
    → list_any p (drop n xs) ≡ false
none_behind p zero xs h = h
none_behind p (suc n) [] h = refl
none_behind p (suc n) (x ∷ xs) h = none_behind p n xs (rest (p x) h)
  where
    rest : (a : Bool) → (a || list_any p xs) ≡ false → list_any p xs ≡ false
    rest true k = cc
    rest false k = k

-- The text of a walk that has enough is that of all tokens that are collected.
pub told_is : (o : Choice) (path : Path) (first : ℕ) (rows : List Row) (j n : ℕ) (walk : Walk)
    (token : List ℕ) (tokens : List (List ℕ)) → Some n ≡ wanted_of o.extent
    → Stands o path first rows j walk → walk.enough ≡ true → token ≢ []
    → ((ts : List (List ℕ)) → Says walk.text ts → token ≡ join_with_byte 32 ts)
    → taken o.extent (collected o path rows j) ≡ Some tokens → IsJoined token tokens
told_is o path first rows j n walk token tokens want s enough some joined e =
    let got = collected o path s.front j in
    let all = enough_taken o path rows s.front s.rest j s.split (rw enough at s.has.enough) in
    let same : got ≡ tokens = (let both = sym all ∙ e in cc) in
    (some, inl (joined got (s.has.text n (first_is o.extent n want)) ∙ ap (join_with_byte 32) same))
  where
    first_is : (x : Extent) (n : ℕ) → Some n ≡ wanted_of x → x ≡ First n
    first_is (First m) n e = let same : m ≡ n = cc in ap First same
    first_is (Between opens closes) n e = cc

-- a token behind the first bytes
pub pasted : (text token : List ℕ) (len : ℕ) → len + 1 + length token ≤ length text
    → take (len + 1 + length token) (paste (set text len 32) (len + 1) token (length token))
    ≡ take len text ++ 32 ∷ token
pasted text token len h =
    let size = length-set text len 32 in
    take-paste (set text len 32) (len + 1) token (length token) (omega (arith, h, size)) (omega arith)
    ∙ (ap (λ (xs : List ℕ). xs ++ take (length token) token) (take_more_set text len 32 (omega (arith, h)))
    ∙ (ap (λ (ys : List ℕ). (take len text ++ 32 ∷ []) ++ ys) (take-length token)
    ∙ append_snoc (take len text) 32 token))

-- a part that is moved to the front
pub moved : (text : List ℕ) (from end : ℕ) → from ≤ end → end ≤ length text
    → take (end - from) (copy_within text from end 0) ≡ drop from (take end text)
moved text from end order within =
    let size = end - from in
    let rest = length-drop from text in
    let all : from + size ≡ end = omega (arith, order) in
    let none : 0 + size ≡ size = omega arith in
    ap (λ (n : ℕ). take n (copy_within text from end 0)) (sym none)
    ∙ (take-paste text 0 (drop from text) size (omega arith) (omega (arith, rest, within, order)))
    ∙ (sym (drop-take from size text) ∙ ap (λ (n : ℕ). drop from (take n text)) all)

-- a token behind a text whose front doesn't count
pub behind_front : (bytes new t : List ℕ) (begin len : ℕ) → begin ≤ len → len ≤ length bytes
    → take (len + 1 + length t) new ≡ take len bytes ++ 32 ∷ t
    → drop begin (take (len + 1 + length t) new) ≡ drop begin (take len bytes) ++ 32 ∷ t
behind_front bytes new t begin len order within e =
    let long = length-take len bytes in
    (ap (drop begin) e ∙ drop-append-le begin (take len bytes) (32 ∷ t) (grind (arith, nat_tests, order, within, long)))
