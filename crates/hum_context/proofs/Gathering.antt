-- Tokens are collected, one record more.
use Rattle.std.proofs.Common.{◌≡◌, ◌≢◌, ◌∙◌, refl, sym, ap, ℕ, ◌+◌, ◌<◌, ◌≤◌, Bool}
use Rattle.std.proofs.Common.{true, false, List, [], ◌∷◌, ◌++◌, cond, filter}
use Rattle.std.proofs.Common.{length, get_or, append_assoc, append-nil, length-append, arith, Option, Some, None, subst, inr}
use Rattle.std.specs.Prelude.{nat_lt}
use Rattle.std.specs.List.{join_with_byte}
use Rattle.std.proofs.lemmas.Bool.Decides.{nat_tests}
use Rattle.hum_score.specs.Row.{Row, token_at}
use Rattle.hum_score.specs.Spines.{Path}
use Rattle.hum_context.specs.declared.heard.Heard.{Heard}
use Rattle.hum_context.specs.declared.heard.Heard.TheVariants.{Passed, Taken}
use Rattle.hum_context.specs.declared.queued.Queued.{Queued}
use Rattle.hum_context.specs.Context.{Choice, Extent, chain, is_collectable, taken}
use Rattle.hum_context.specs.Columns.{column_after}
use Rattle.hum_score.specs.InOrder.{through}
use Rattle.hum_context.specs.Heard.{ends, enough_by, heard_under, wanted_of}
use Rattle.hum_context.specs.Memory.{knows_each}
use Rattle.hum_context.specs.Queue.{Knows, column_in, heard_token}
use Rattle.hum_context.specs.Walking.{IsJoined, add_token, bytes_of, collected}
use Rattle.hum_context.proofs.Growth.{join_push, collected_bytes, is_enough_by, taken_next, HasBytes}
use Rattle.hum_context.proofs.Passing.{bytes_append, chain_more, chain_on, data_goes_on, enough_is, enough_taken, grown}
use Rattle.hum_context.proofs.Passing.{heard_data, taken_longer}
use Rattle.hum_context.proofs.Measured.{bytes_text, text_bytes}
use Rattle.hum_context.proofs.Queues.{At, knows_at}
use Rattle.hum_context.proofs.Tokens.{taken_is}

-- So many records were gone through down to a column. So many tokens are collected, something was made
-- of them, and they are enough or not.
pub record Gathers (o : Choice) (path : Path) (rows : List Row) (j n c count : ℕ)
    (made : List (List ℕ) → Type 0) (enough : Bool) : Type 0 where
  pub front : List Row
  pub rest : List Row
  pub split : rows ≡ front ++ rest
  pub long : length front ≡ n
  pub column : column_after path front j ≡ Some c
  pub count_is : count ≡ length (collected o path front j)
  pub enough_are : taken o.extent (collected o path front j)
      ≡ cond enough (Some (collected o path front j)) None
  pub made_is : made (collected o path front j)

pub gathers_none : (o : Choice) (path : Path) (rows : List Row) (j count : ℕ)
    (made : List (List ℕ) → Type 0) → taken o.extent [] ≡ None → count ≡ 0 → made []
    → Gathers o path rows j 0 j count made false
gathers_none o path rows j count made none zero e = record {
  front = [];
  rest = rows;
  split = refl;
  long = refl;
  column = refl;
  count_is = zero;
  enough_are = none;
  made_is = e;
}

-- the record that is gone through next
next_at : (o : Choice) (path : Path) (rows : List Row) (j n c count : ℕ)
    (made : List (List ℕ) → Type 0) (held : List Queued) (kept : Queued) → Knows o path held rows
    → (h : Gathers o path rows j n c count made false) → n < length held → kept ≡ get_or held n kept
    → At o (through path h.front) h.rest kept
next_at o path rows j n c count made held kept knows h below is =
    let long = h.long in
    knows_at o path held h.front h.rest kept (rw h.split at knows) (omega (arith, long, below))
    (rw (sym long) at is)

longer : (rows front rest behind : List Row) (row : Row) → rows ≡ front ++ rest
    → rest ≡ row ∷ behind → rows ≡ (front ++ row ∷ []) ++ behind
longer rows front rest behind row split next =
    split ∙ (ap (λ (xs : List Row). front ++ xs) next ∙ sym (append_assoc front (row ∷ []) behind))

-- where it is
pub gathers_take : (o : Choice) (path : Path) (rows : List Row) (j n c count : ℕ)
    (made made' : List (List ℕ) → Type 0) (held : List Queued) (kept : Queued) (wanted : Option ℕ)
    (b e : Bool)
    → wanted ≡ wanted_of o.extent → Knows o path held rows
    → Gathers o path rows j n c count made false → n < length held → kept ≡ get_or held n kept
    → get_or kept.heard.items c Passed ≡ Taken b e
    → ((got : List (List ℕ)) → HasBytes got → made got → made' (got ++ token_at kept.row c ∷ []))
    → Gathers o path rows j (n + 1) c (count + 1) made' (enough_by wanted (count + 1) e)
gathers_take o path rows j n c count made made' held kept wanted b e want knows h below is heard grows =
    let here = next_at o path rows j n c count made held kept knows h below is in
    let one : heard_under o here.row c ≡ Taken b e = sym (here.known.heard c) ∙ heard in
    let g = grown o path h.front here.row j c (heard_under o here.row c) h.column (here.known.collected c) in
    let token = token_at here.row c in
    let got = collected o path h.front j in
    let heard_is = taken_is o token b e (heard_data o here.row c b e one) in
    let more : collected o path (h.front ++ here.row ∷ []) j ≡ got ++ token ∷ [] = g.collected
    ∙ ap (λ (x : Heard). got ++ heard_token x token) one in
    let goes = data_goes_on kept c (λ none. let k = sym none ∙ heard in cc) in
    let long = h.long in
    let was = h.count_is in
    let sum = length-append h.front (here.row ∷ []) in
    let counted = length-append got (token ∷ []) in
    let last : enough_by wanted (count + 1) e ≡ is_enough_by o.extent (length got + 1) token =
    ap (λ (w : Option ℕ). enough_by w (count + 1) e) want
    ∙ (ap (λ (m : ℕ). enough_by (wanted_of o.extent) (m + 1) e) was
    ∙ (ap (λ (x : Bool). enough_by (wanted_of o.extent) (length got + 1) x) (sym heard_is.2)
    ∙ enough_is o.extent (length got + 1) token)) in
    record {
      front = h.front ++ here.row ∷ [];
      rest = here.behind;
      split = longer rows h.front h.rest here.behind here.row h.split here.split;
      long = omega (arith, long, sum);
      column = g.column ∙ (sym (here.known.below c) ∙ goes.0);
      count_is = rw more (omega (arith, was, counted));
      enough_are = rw (more, last) (taken_next o.extent got token h.enough_are);
      made_is = subst made' (sym more)
          (subst (λ (r : Row). made' (got ++ token_at r c ∷ [])) here.known.is
          (grows got (collected_bytes o (chain path h.front j)) h.made_is));
    }

-- tokens that are enough have bytes
filled : (x : Extent) (ts : List (List ℕ)) → HasBytes ts → taken x [] ≡ None → taken x ts ≡ Some ts
    → join_with_byte 32 ts ≢ []
filled x [] h none e = let u = sym none ∙ e in cc
filled x ([] ∷ ts) h none e = cc
filled x ((b ∷ bs) ∷ []) h none e = λ k. cc
filled x ((b ∷ bs) ∷ t ∷ ts) h none e = λ k. cc

some_same : (x : Option (List (List ℕ))) (xs ys : List (List ℕ)) → x ≡ Some xs → x ≡ Some ys → xs ≡ ys
some_same x xs ys e k = let u = sym e ∙ k in cc

pub gathers_all : (o : Choice) (path : Path) (rows : List Row) (j n c count : ℕ)
    (made : List (List ℕ) → Type 0) (enough : Bool) (tokens : List (List ℕ))
    → Gathers o path rows j n c count made enough
    → enough ≡ true → taken o.extent [] ≡ None
    → taken o.extent (collected o path rows j) ≡ Some tokens
    → made tokens × (join_with_byte 32 tokens ≢ [])
gathers_all o path rows j n c count made enough tokens h are none e =
    let got = collected o path h.front j in
    let here : taken o.extent got ≡ Some got = rw are at h.enough_are in
    let same : got ≡ tokens = some_same (taken o.extent (collected o path rows j)) got tokens
    (enough_taken o path rows h.front h.rest j h.split here) e in (
      subst made same h.made_is,
      λ k. filled o.extent got (collected_bytes o (chain path h.front j)) none here
          (ap (join_with_byte 32) same ∙ k),
    )

-- where nothing is collected any more, too few stay too few
too_few : (o : Choice) (path : Path) (rows front rest : List Row) (j : ℕ) (tokens : List (List ℕ))
    → rows ≡ front ++ rest → chain_on (through path front) rest (column_after path front j) ≡ []
    → taken o.extent (collected o path front j) ≡ None
    → taken o.extent (collected o path rows j) ≡ Some tokens → ⊥
too_few o path rows front rest j tokens split none few e =
    let same : chain path rows j ≡ chain path front j = ap (λ (xs : List Row). chain path xs j) split
    ∙ (chain_more path front rest j
    ∙ (ap (λ (xs : List (List ℕ)). chain path front j ++ xs) none ∙ append-nil (chain path front j))) in
    let u = sym few
    ∙ (ap (λ (xs : List (List ℕ)). taken o.extent (filter (is_collectable o) xs)) (sym same) ∙ e) in cc

-- its column ends at the next record
pub gathers_stop : (o : Choice) (path : Path) (rows : List Row) (j n c count : ℕ)
    (made : List (List ℕ) → Type 0) (held : List Queued) (kept : Queued) (tokens : List (List ℕ)) → Knows o path held rows
    → Gathers o path rows j n c count made false → n < length held → kept ≡ get_or held n kept
    → get_or kept.heard.items c Passed ≡ Passed → column_in kept.row kept.below c ≡ None
    → taken o.extent (collected o path rows j) ≡ Some tokens → ⊥
gathers_stop o path rows j n c count made held kept tokens knows h below is heard ends e =
    let here = next_at o path rows j n c count made held kept knows h below is in
    let none : heard_under o here.row c ≡ Passed = sym (here.known.heard c) ∙ heard in
    let g = grown o path h.front here.row j c (heard_under o here.row c) h.column (here.known.collected c) in
    let got = collected o path h.front j in
    let front = h.front ++ here.row ∷ [] in
    let same : collected o path (h.front ++ here.row ∷ []) j ≡ got = g.collected
    ∙ (ap (λ (x : Heard). got ++ heard_token x (token_at here.row c)) none ∙ append-nil got) in
    let stops : column_after path (h.front ++ here.row ∷ []) j ≡ None =
    g.column ∙ (sym (here.known.below c) ∙ ends) in
    too_few o path rows (h.front ++ here.row ∷ []) here.behind j tokens
    (longer rows h.front h.rest here.behind here.row h.split here.split)
    (ap (chain_on (through path (h.front ++ here.row ∷ [])) here.behind) stops)
    (rw same h.enough_are) e

none_left : (rows front rest : List Row) → rows ≡ front ++ rest → length rows ≤ length front
    → rest ≡ []
none_left rows front [] e h = refl
none_left rows front (row ∷ rest) e h =
    let long = ap length e in
    let sum = length-append front (row ∷ rest) in
    absurd (omega (arith, long, sum, h))

-- all of the records that wait were gone through
pub gathers_end : (o : Choice) (path : Path) (rows : List Row) (j n c count : ℕ)
    (made : List (List ℕ) → Type 0) (held : List Queued) (tokens : List (List ℕ)) → Knows o path held rows
    → Gathers o path rows j n c count made false → length held ≤ n
    → taken o.extent (collected o path rows j) ≡ Some tokens → ⊥
gathers_end o path rows j n c count made held tokens knows h over e =
    let each = knows_each o path held rows knows in
    let long = h.long in
    let left = none_left rows h.front h.rest h.split (omega (arith, over, each, long)) in
    too_few o path rows h.front h.rest j tokens h.split
    (ap (λ (xs : List Row). chain_on (through path h.front) xs (column_after path h.front j)) left
    ∙ ap (chain_on (through path h.front) []) h.column)
    h.enough_are e

-- Their text grows by one,
pub text_grows : (text text' token : List ℕ) → text' ≡ add_token text token → (got : List (List ℕ))
    → HasBytes got → text ≡ join_with_byte 32 got → text' ≡ join_with_byte 32 (got ++ token ∷ [])
text_grows text text' token added got h e =
    added ∙ (ap (λ (t : List ℕ). add_token t token) e ∙ sym (join_push got token h))

-- and so does how long they are.
pub size_grows : (size size' : ℕ) (token : List ℕ) → size' ≡ size + (length token + 1)
    → (got : List (List ℕ)) → HasBytes got → size ≡ bytes_of got → size' ≡ bytes_of (got ++ token ∷ [])
size_grows size size' token added got h e =
    let sum = bytes_append got (token ∷ []) in omega (arith, sum, added, e)

-- a text that no record holds, before they are enough
pub gathers_long : (o : Choice) (path : Path) (rows : List Row) (j n c count : ℕ) (text : List ℕ)
    (enough : Bool) (tokens : List (List ℕ))
    → Gathers o path rows j n c count (λ ts. text ≡ join_with_byte 32 ts) enough → enough ≡ false
    → nat_lt 1048576 (length text) ≡ true → taken o.extent (collected o path rows j) ≡ Some tokens
    → IsJoined text tokens
gathers_long o path rows j n c count text enough tokens h are over e =
    let got = collected o path h.front j in
    let few : taken o.extent got ≡ None = rw are at h.enough_are in
    let most : 1048576 < length text = grind (arith, nat_tests, over) in
    let same = ap length h.made_is in
    let here = text_bytes got (omega (arith, most, same)) in
    let more = taken_longer o path rows h.front h.rest j tokens h.split few e in
    let there = bytes_text tokens (omega (arith, most, same, here, more)) in (
      λ k. let none = ap length k in absurd (omega (arith, none, most)),
      inr (most, omega (arith, most, same, here, more, there)),
    )
