-- A walk goes through one record more.
use Rattle.std.proofs.Common.{◌≡◌, ◌≢◌, ◌∙◌, refl, sym, ap, ℕ, ◌+◌, Bool, true, false}
use Rattle.std.proofs.Common.{◌||◌, List, [], ◌∷◌, ◌++◌, length, filter, append-nil, length-append, ◌≤◌}
use Rattle.std.proofs.Common.{arith, cond, get_or, Option, Some, None, inl, inr, ◌⊎◌, subst}
use Rattle.std.specs.Option.{option_and_then}
use Rattle.std.specs.List.{list_any, join_with_byte}
use Rattle.std.proofs.lemmas.List.Elements.{filter-append}
use Rattle.std.proofs.lemmas.List.Folds.{list_any-append}
use lib.Chars.{codes}
use Rattle.hum_score.specs.declared.records.SpinedKind.TheVariants.{Local, Interpretation, Values}
use Rattle.hum_score.specs.declared.records.Kind.TheVariants.{Values as AnyValues}
use Rattle.hum_score.specs.Row.{Row, Comment, Spined, kind_of, token_at}
use Rattle.hum_score.specs.Spines.{Path, after}
use Rattle.hum_path.specs.Chains.{below_at, future}
use Rattle.hum_context.specs.declared.heard.Heard.{Heard}
use Rattle.hum_context.specs.declared.heard.Heard.TheVariants.{Passed, Taken}
use Rattle.hum_context.specs.declared.queued.Queued.{Queued}
use Rattle.hum_context.specs.declared.walk.Walk.{Walk}
use Rattle.hum_context.specs.Context.{Choice, Extent, First, Between, is_collectable, is_last, taken}
use Rattle.hum_context.specs.Context.{to_last, chain, begins, token_or_null, new_token}
use Rattle.hum_context.specs.Columns.{place_after, column_below, column_after, under}
use Rattle.hum_score.specs.InOrder.{through}
use Rattle.hum_context.specs.Heard.{heard_of, heard_under, ends, enough_by, wanted_of}
use Rattle.hum_context.specs.Queue.{Known, column_in, is_last_in, heard_token}
use Rattle.hum_context.specs.Walking.{Becomes, Has, Halts, Says, Stands, collected, bytes_of}
use Rattle.hum_context.specs.declared.becoming.Becoming.{Becoming}
use Rattle.hum_context.specs.declared.becoming.Becoming.TheVariants.{Collects}
use Rattle.hum_context.proofs.Growth.{chain_step, chain_push, column_push, ended_none, taken_next}
use Rattle.hum_context.proofs.Growth.{taken_stays, is_enough_by}
use Rattle.hum_context.proofs.Measured.{longer_taken}
use Rattle.hum_context.proofs.Tokens.{taken_is}

pub bytes_append : (xs ys : List (List ℕ)) → bytes_of (xs ++ ys) ≡ bytes_of xs + bytes_of ys
bytes_append [] ys = omega arith
bytes_append (x ∷ xs) ys = let ih = bytes_append xs ys in omega (arith, ih)

-- the chain behind one that leads to a column
abbrev pub chain_on : Path → List Row → Option ℕ → List (List ℕ)
chain_on path rows None = []
chain_on path rows (Some c) = chain path rows c

below_more : (path : Path) (front rest : List Row) (last : Bool) (below : Option ℕ)
    → ((c : ℕ) → chain path (front ++ rest) c ≡ chain path front c ++ chain_on
    (through path front) rest (column_after path front c))
    → cond last [] (to_last (below_at (future path (front ++ rest)) below)) ≡ cond last []
    (to_last (below_at (future path front) below)) ++ chain_on (through path front) rest
    (option_and_then (column_after path front) (cond last None below))
below_more path front rest true below h = refl
below_more path front rest false None h = refl
below_more path front rest false (Some c) h = h c

pub chain_more : (path : Path) (front rest : List Row) (c : ℕ)
    → chain path (front ++ rest) c ≡ chain path front c ++ chain_on (through path front) rest
    (column_after path front c)
chain_more path [] rest c = refl
chain_more path (Comment text ∷ front) rest c = chain_more path front rest c
chain_more path (Spined kind tokens ∷ front) rest c =
    chain_step path kind tokens (front ++ rest) c
    ∙ (ap (λ (ts : List (List ℕ)). get_or tokens c [] ∷ ts)
    (below_more (after path (Spined kind tokens)) front rest (is_last (get_or tokens c []))
    (place_after path kind tokens c) (chain_more (after path (Spined kind tokens)) front rest))
    ∙ sym (ap (λ (ts : List (List ℕ)). ts ++ chain_on
    (through path (Spined kind tokens ∷ front)) rest
    (column_after path (Spined kind tokens ∷ front) c)) (chain_step path kind tokens front c)))

-- where a column goes on, its future isn't ended
pub open_end : (path : Path) (rows : List Row) (j c : ℕ) → column_after path rows j ≡ Some c
    → list_any is_last (chain path rows j) ≡ false
open_end path rows j c e = by (list_any is_last (chain path rows j)) refl
  where
    by : (b : Bool) → list_any is_last (chain path rows j) ≡ b → b ≡ false
    by true w = let n = sym e ∙ ended_none path rows j w in cc
    by false w = refl

-- one record more, on which a walk stands
pub record Grown (o : Choice) (path : Path) (rows : List Row) (row : Row) (j c : ℕ)
    (heard : Heard) : Type 0 where
  pub column : column_after path (rows ++ row ∷ []) j ≡ column_below (through path rows) row c
  pub ended : list_any is_last (chain path (rows ++ row ∷ []) j)
      ≡ list_any is_last (under row (Some c))
  pub collected : collected o path (rows ++ row ∷ []) j
      ≡ collected o path rows j ++ heard_token heard (token_at row c)

pub grown : (o : Choice) (path : Path) (rows : List Row) (row : Row) (j c : ℕ) (heard : Heard)
    → column_after path rows j ≡ Some c
    → filter (is_collectable o) (under row (Some c)) ≡ heard_token heard (token_at row c)
    → Grown o path rows row j c heard
grown o path rows row j c heard at is =
    let longer : chain path (rows ++ row ∷ []) j ≡ chain path rows j ++ under row (Some c) =
    chain_push path rows row j ∙ ap (λ (x : Option ℕ). chain path rows j ++ under row x) at in
    record {
      column = column_push path rows row j
          ∙ ap (λ (x : Option ℕ). option_and_then (column_below (through path rows) row) x) at;
      ended = ap (list_any is_last) longer
          ∙ (list_any-append is_last (chain path rows j) (under row (Some c))
          ∙ ap (λ (b : Bool). b || list_any is_last (under row (Some c)))
          (open_end path rows j c at));
      collected = ap (filter (is_collectable o)) longer
          ∙ (filter-append (is_collectable o) (chain path rows j) (under row (Some c))
          ∙ ap (λ (ts : List (List ℕ)). collected o path rows j ++ ts) is);
    }

pub grown_by : (o : Choice) (path : Path) (rows : List Row) (row : Row) (j c : ℕ) (kept : Queued)
    (walk : Walk) → Known o (through path rows) row kept → walk.column ≡ Some c
    → Has o path rows j walk → Grown o path rows row j c (heard_under o row c)
grown_by o path rows row j c kept walk known at h =
    grown o path rows row j c (heard_under o row c) (sym h.column ∙ at) (known.collected c)

-- where its token isn't collected
pub pass_none : (o : Choice) (path : Path) (rows : List Row) (row : Row) (j c : ℕ) (kept : Queued)
    (walk new : Walk) → Known o (through path rows) row kept → walk.column ≡ Some c
    → walk.enough ≡ false → Has o path rows j walk
    → get_or kept.heard.items c Passed ≡ Passed → new.column ≡ column_in kept.row kept.below c
    → new.ended ≡ is_last_in kept.row c → new.count ≡ walk.count → new.text ≡ walk.text
    → new.enough ≡ false → Has o path (rows ++ row ∷ []) j new
pass_none o path rows row j c kept walk new known at short h heard column ended count text enough =
    let none : heard_under o row c ≡ Passed = sym (known.heard c) ∙ heard in
    let g = grown_by o path rows row j c kept walk known at h in
    let same : collected o path (rows ++ row ∷ []) j ≡ collected o path rows j = g.collected
    ∙ (ap (λ (x : Heard). collected o path rows j ++ heard_token x (token_at row c)) none
    ∙ append-nil (collected o path rows j)) in
    record {
      column = column ∙ (known.below c ∙ sym g.column);
      ended = ended ∙ (known.last c ∙ sym g.ended);
      count = λ n is. count ∙ (h.count n is ∙ ap length (sym same));
      text = λ n is. rw (text, same) (h.text n is);
      enough = rw (same, enough) (rw short at h.enough);
    }

-- A count is asked only where so many are wanted.
count_is : (x : Extent) (a b : ℕ) (e : Bool) → ((n : ℕ) → x ≡ First n → a ≡ b)
    → enough_by (wanted_of x) (a + 1) e ≡ enough_by (wanted_of x) (b + 1) e
count_is (First n) a b e h = ap (λ (m : ℕ). enough_by (Some n) (m + 1) e) (h n refl)
count_is (Between opens closes) a b e h = refl

pub enough_is : (x : Extent) (count : ℕ) (t : List ℕ)
    → enough_by (wanted_of x) count (ends x t) ≡ is_enough_by x count t
enough_is (First n) count t = refl
enough_is (Between opens closes) count t = refl

pub heard_data : (o : Choice) (row : Row) (c : ℕ) (b e : Bool) → heard_under o row c ≡ Taken b e
    → heard_of o (token_at row c) ≡ Taken b e
heard_data o (Comment text) c b e h = cc
heard_data o (Spined Local tokens) c b e h = cc
heard_data o (Spined Interpretation tokens) c b e h = cc
heard_data o (Spined Values tokens) c b e h = h

-- where it is
pub pass_one : (o : Choice) (path : Path) (rows : List Row) (row : Row) (j c : ℕ) (kept : Queued)
    (walk new : Walk) (wanted : Option ℕ) (b e : Bool) → wanted ≡ wanted_of o.extent
    → Known o (through path rows) row kept → walk.column ≡ Some c
    → walk.enough ≡ false → Has o path rows j walk
    → get_or kept.heard.items c Passed ≡ Taken b e → new.column ≡ column_in kept.row kept.below c
    → new.ended ≡ is_last_in kept.row c → new.count ≡ walk.count + 1
    → new.enough ≡ enough_by wanted (walk.count + 1) e
    → ((n : ℕ) → wanted ≡ Some n → (tokens : List (List ℕ)) → walk.count ≡ length tokens
    → Says walk.text tokens → Says new.text (tokens ++ token_at kept.row c ∷ []))
    → Has o path (rows ++ row ∷ []) j new
pass_one o path rows row j c kept walk new wanted b e want known at short h heard column ended count
    enough says =
    let one : heard_under o row c ≡ Taken b e = sym (known.heard c) ∙ heard in
    let token = token_at row c in
    let got = collected o path rows j in
    let g = grown_by o path rows row j c kept walk known at h in
    let is = taken_is o token b e (heard_data o row c b e one) in
    let more : collected o path (rows ++ row ∷ []) j ≡ got ++ token ∷ [] = g.collected
    ∙ ap (λ (x : Heard). got ++ heard_token x token) one in
    let sum = length-append got (token ∷ []) in
    let last : new.enough ≡ is_enough_by o.extent (length got + 1) token = enough
    ∙ (ap (λ (w : Option ℕ). enough_by w (walk.count + 1) e) want
    ∙ (count_is o.extent walk.count (length got) e h.count
    ∙ (ap (λ (x : Bool). enough_by (wanted_of o.extent) (length got + 1) x) (sym is.2)
    ∙ enough_is o.extent (length got + 1) token))) in
    record {
      column = column ∙ (known.below c ∙ sym g.column);
      ended = ended ∙ (known.last c ∙ sym g.ended);
      count = λ n first. let was = h.count n first in rw more (omega (arith, count, was, sum));
      text = λ n first. rw (more, ← known.is)
          (says n (want ∙ ap wanted_of first) got (h.count n first) (h.text n first));
      enough = rw (more, last) (taken_next o.extent got token (rw short at h.enough));
    }

-- those that are enough stay enough
pub enough_taken : (o : Choice) (path : Path) (rows front rest : List Row) (j : ℕ)
    → rows ≡ front ++ rest → taken o.extent (collected o path front j) ≡ Some (collected o path front j)
    → taken o.extent (collected o path rows j) ≡ Some (collected o path front j)
enough_taken o path rows front rest j split e =
    let more = chain_on (through path front) rest (column_after path front j) in
    let got : collected o path rows j ≡ collected o path front j ++ filter (is_collectable o) more =
    ap (λ (xs : List Row). collected o path xs j) split
    ∙ (ap (filter (is_collectable o)) (chain_more path front rest j)
    ∙ filter-append (is_collectable o) (chain path front j) more) in
    ap (taken o.extent) got ∙ taken_stays o.extent (collected o path front j)
    (filter (is_collectable o) more) (collected o path front j) e

-- those that aren't enough are a part of them
pub taken_longer : (o : Choice) (path : Path) (rows front rest : List Row) (j : ℕ)
    (tokens : List (List ℕ)) → rows ≡ front ++ rest → taken o.extent (collected o path front j) ≡ None
    → taken o.extent (collected o path rows j) ≡ Some tokens
    → bytes_of (collected o path front j) ≤ bytes_of tokens
taken_longer o path rows front rest j tokens split few e =
    let more = chain_on (through path front) rest (column_after path front j) in
    let got : collected o path rows j ≡ collected o path front j ++ filter (is_collectable o) more =
    ap (λ (xs : List Row). collected o path xs j) split
    ∙ (ap (filter (is_collectable o)) (chain_more path front rest j)
    ∙ filter-append (is_collectable o) (chain path front j) more) in
    longer_taken o.extent (collected o path front j) (filter (is_collectable o) more) tokens few
    (sym (ap (taken o.extent) got) ∙ e)

-- A walk that halts without enough tokens has gone through the whole chain.
pub whole : (o : Choice) (path : Path) (first : ℕ) (rows : List Row) (j : ℕ) (walk : Walk)
    → (h : Halts o path first rows j walk) → walk.enough ≡ false
    → chain path rows j ≡ chain path h.stands.front j
whole o path first rows j walk h short = ap (λ (xs : List Row). chain path xs j) h.stands.split
    ∙ (chain_more path front h.stands.rest j
    ∙ (ap (λ (xs : List (List ℕ)). chain path front j ++ xs) (none h.halts)
    ∙ append-nil (chain path front j)))
  where
    front : List Row
    front = h.stands.front

    nothing : (c : Option ℕ) → chain_on (through path front) [] c ≡ []
    nothing None = refl
    nothing (Some c) = refl

    none : (walk.enough ≡ true) ⊎ ((walk.column ≡ None) ⊎ (h.stands.rest ≡ []))
        → chain_on (through path front) h.stands.rest (column_after path front j) ≡ []
    none (inl e) = let u = sym short ∙ e in cc
    none (inr (inl e)) = ap (chain_on (through path front) h.stands.rest)
        (sym h.stands.has.column ∙ e)
    none (inr (inr e)) = ap (λ (xs : List Row). chain_on (through path front) xs
        (column_after path front j)) e ∙ nothing (column_after path front j)

pub too_few : (o : Choice) (path : Path) (first : ℕ) (rows : List Row) (j : ℕ) (walk : Walk)
    → Halts o path first rows j walk → walk.enough ≡ false
    → taken o.extent (collected o path rows j) ≡ None
too_few o path first rows j walk h short =
    rw (whole o path first rows j walk h short) (rw short at h.stands.has.enough)

-- What is decided at the end of a walk.
pub decided : (o : Choice) (path : Path) (first : ℕ) (rows : List Row) (j : ℕ) (walk : Walk)
    → (h : Halts o path first rows j walk)
    → token_or_null (list_any is_last (chain path rows j)) (taken o.extent (collected o path rows j))
    ≡ cond walk.enough (Some (join_with_byte 32 (collected o path h.stands.front j)))
    (cond walk.ended (Some (codes ".")) None)
decided o path first rows j walk h = by walk.enough refl
  where
    front : List Row
    front = h.stands.front

    ending : (b : Bool) → token_or_null b None ≡ cond b (Some (codes ".")) None
    ending true = refl
    ending false = refl

    by : (b : Bool) → walk.enough ≡ b
        → token_or_null (list_any is_last (chain path rows j))
        (taken o.extent (collected o path rows j))
        ≡ cond b (Some (join_with_byte 32 (collected o path front j)))
        (cond walk.ended (Some (codes ".")) None)
    by true w = rw (enough_taken o path rows front h.stands.rest j h.stands.split
        (rw w at h.stands.has.enough)) refl
    by false w = rw (
      too_few o path first rows j walk h w,
      whole o path first rows j walk h w,
      ← h.stands.has.ended,
    ) (ending walk.ended)

-- what becomes of a token from which others are collected
token_is : (o : Choice) (token : List ℕ) (chain : List (List ℕ)) → is_collectable o token ≡ true
    → begins o.extent token ≡ true
    → new_token o token chain ≡ token_or_null (list_any is_last chain)
    (taken o.extent (filter (is_collectable o) chain))
token_is o token chain a b = rw (a, b) refl

pub new_by : (o : Choice) (path : Path) (first : ℕ) (rows : List Row) (j : ℕ) (walk : Walk)
    (token : List ℕ) → (h : Halts o path first rows j walk) → is_collectable o token ≡ true
    → begins o.extent token ≡ true
    → new_token o token (chain path rows j)
    ≡ cond walk.enough (Some (join_with_byte 32 (collected o path h.stands.front j)))
    (cond walk.ended (Some (codes ".")) None)
new_by o path first rows j walk token h a b =
    token_is o token (chain path rows j) a b ∙ decided o path first rows j walk h

pub new_enough : (o : Choice) (path : Path) (first : ℕ) (rows : List Row) (j : ℕ) (walk : Walk)
    (token : List ℕ) → taken o.extent [] ≡ None → Halts o path first rows j walk
    → is_collectable o token ≡ true
    → begins o.extent token ≡ true → walk.enough ≡ true
    → (tokens : List (List ℕ)) × (taken o.extent (collected o path rows j) ≡ Some tokens)
    × (new_token o token (chain path rows j) ≡ Some (join_with_byte 32 tokens))
new_enough o path first rows j walk token none h a b e =
    let front = h.stands.front in
    let got = collected o path front j in
    let here = rw e at h.stands.has.enough in (
      got,
      enough_taken o path rows front h.stands.rest j h.stands.split here,
      rw e at (new_by o path first rows j walk token h a b),
    )

-- the same by a walk that has gone through some of the records
pub enough_becomes : (o : Choice) (path : Path) (first : ℕ) (rows : List Row) (j : ℕ) (walk : Walk)
    (becoming : Becoming) (token : List ℕ) → taken o.extent [] ≡ None → Stands o path first rows j walk
    → walk.enough ≡ true → ◌≡◌ {A = Option Becoming} (Some Collects) (Some becoming)
    → is_collectable o token ≡ true → begins o.extent token ≡ true
    → Becomes o token (chain path rows j) (Some becoming)
enough_becomes o path first rows j walk becoming token none h enough is a b =
    let same : Collects ≡ becoming = cc in
    subst (λ (x : Becoming). Becomes o token (chain path rows j) (Some x)) same
    (new_enough o path first rows j walk token none (record { stands = h; halts = inl enough }) a b enough)

-- under data each column goes on
pub data_goes_on : (kept : Queued) (c : ℕ) → get_or kept.heard.items c Passed ≢ Passed
    → (column_in kept.row kept.below c ≡ Some c) × (is_last_in kept.row c ≡ false)
data_goes_on kept c taken = by kept.row (kept.valued (some_heard kept.heard.items taken))
  where
    some_heard : (heard : List Heard) → get_or heard c Passed ≢ Passed → heard ≢ []
    some_heard [] h e = h refl
    some_heard (x ∷ heard) h e = cc

    by : (row : Row) → kind_of row ≡ AnyValues
        → (column_in row kept.below c ≡ Some c) × (is_last_in row c ≡ false)
    by (Comment text) e = (refl, refl)
    by (Spined Local tokens) e = (refl, refl)
    by (Spined Values tokens) e = (refl, refl)
    by (Spined Interpretation tokens) e = cc
