-- A walk from a cell is a walk from the cell below.
use Rattle.std.proofs.Common.{◌≡◌, ◌∙◌, refl, sym, ap, ℕ, zero, suc, ◌+◌, ◌<◌, ◌≤◌, Bool, true, false, ◌||◌}
use Rattle.std.proofs.Common.{List, [], ◌∷◌, ◌++◌, length, filter, take, arith, cond, get_or, set}
use Rattle.std.proofs.Math.Nat.{eq-or-lt_of_le}
use Rattle.std.proofs.Common.{Option, Some, None, inl, inr, ◌⊎◌}
use Rattle.std.specs.Prelude.{nat_le, slice_get}
use Rattle.std.specs.Option.{option_and_then, option_map}
use Rattle.std.specs.List.{list_any}
use Rattle.std.proofs.lemmas.Bool.Decides.{nat_tests}
use Rattle.std.proofs.lemmas.List.{length-take-le}
use Rattle.std.proofs.lemmas.List.Elements.{filter-append}
use Rattle.std.proofs.lemmas.List.Folds.{list_any-append}
use Rattle.hum_score.specs.Row.{Row, token_at}
use Rattle.hum_score.specs.Spines.{Path, after}
use Rattle.hum_context.specs.declared.heard.Heard.{Heard}
use Rattle.hum_context.specs.declared.heard.Heard.TheVariants.{Passed, Taken}
use Rattle.hum_context.specs.declared.queued.Queued.{Queued}
use Rattle.hum_context.specs.declared.walk.Walk.{Walk}
use Rattle.hum_context.specs.Context.{Choice, Extent, First, Between, is_collectable, is_last, taken}
use Rattle.hum_context.specs.Context.{chain, through}
use Rattle.hum_context.specs.Columns.{column_below, column_after, under}
use Rattle.hum_context.specs.Heard.{heard_under, ends, wanted_of}
use Rattle.hum_context.specs.Queue.{IsStill, Known, column_in, heard_token}
use Rattle.hum_context.specs.Walking.{AllStand, Has, IsWithout, Says, Shortens, Stands, collected}
use Rattle.hum_context.proofs.Growth.{chain_push}
use Rattle.hum_context.proofs.Leading.{same_head}
use Rattle.hum_context.proofs.Passing.{chain_more, chain_on, open_end, heard_data}
use Rattle.hum_context.proofs.Tokens.{taken_is}

-- the chain of a cell, by that of the cell below
pub record Split (o : Choice) (path : Path) (row : Row) (front : List Row) (j i : ℕ) (heard : Heard)
    : Type 0 where
  pub column : column_after path (row ∷ front) j ≡ column_after (after path row) front i
  pub ended : list_any is_last (chain path (row ∷ front) j)
      ≡ list_any is_last (chain (after path row) front i)
  pub collected : collected o path (row ∷ front) j
      ≡ heard_token heard (token_at row j) ++ collected o (after path row) front i

pub split_at : (o : Choice) (path : Path) (row : Row) (front : List Row) (j i : ℕ) (heard : Heard)
    → column_below path row j ≡ Some i
    → filter (is_collectable o) (under row (Some j)) ≡ heard_token heard (token_at row j)
    → Split o path row front j i heard
split_at o path row front j i heard below is =
    let here : column_after path (row ∷ []) j ≡ Some i =
    ap (λ (x : Option ℕ). option_and_then (column_after (after path row) []) x) below in
    let one : chain path (row ∷ []) j ≡ under row (Some j) = chain_push path [] row j in
    let whole : chain path (row ∷ front) j
    ≡ chain path (row ∷ []) j ++ chain (after path row) front i =
    chain_more path (row ∷ []) front j
    ∙ ap (λ (x : Option ℕ). chain path (row ∷ []) j ++ chain_on (after path row) front x) here in
    record {
      column = ap (λ (x : Option ℕ). option_and_then (column_after (after path row) front) x) below;
      ended = ap (list_any is_last) whole
          ∙ (list_any-append is_last (chain path (row ∷ []) j) (chain (after path row) front i)
          ∙ ap (λ (b : Bool). b || list_any is_last (chain (after path row) front i))
          (open_end path (row ∷ []) j i here));
      collected = ap (filter (is_collectable o)) whole
          ∙ (filter-append (is_collectable o) (chain path (row ∷ []) j)
          (chain (after path row) front i)
          ∙ ap (λ (ts : List (List ℕ)). ts ++ collected o (after path row) front i)
          (ap (filter (is_collectable o)) one ∙ is));
    }

-- where its token isn't collected
pub shorter_none : (o : Choice) (path : Path) (row : Row) (front : List Row) (j i : ℕ)
    (kept : Queued) (walk : Walk) → Known o path row kept → column_below path row j ≡ Some i
    → get_or kept.heard.items j Passed ≡ Passed → Has o path (row ∷ front) j walk
    → Has o (after path row) front i walk
shorter_none o path row front j i kept walk known below heard h =
    let s = split_at o path row front j i Passed below (known.collected j
    ∙ ap (λ (x : Heard). heard_token x (token_at row j)) (sym (known.heard j) ∙ heard)) in
    record {
      column = h.column ∙ s.column;
      ended = h.ended ∙ s.ended;
      count = λ n is. h.count n is ∙ ap length s.collected;
      text = λ n is. rw s.collected at h.text n is;
      enough = rw s.collected at h.enough;
    }

some_same : {X : Type 0} (x y : X) → ◌≡◌ {A = Option X} (Some x) (Some y) → x ≡ y
some_same x y e = cc

-- so many tokens, and one less
count_less : (n : ℕ) (t : List ℕ) (ts : List (List ℕ)) (b enough : Bool)
    → nat_le n (suc (length ts)) ≡ b
    → cond b (Some (take n (t ∷ ts))) None ≡ cond enough (Some (t ∷ ts)) None
    → nat_le n (length ts) ≡ false
count_less n t ts true true w e =
    let same = some_same (take n (t ∷ ts)) (t ∷ ts) e in
    let long = ap length same in
    let most = length-take-le n (t ∷ ts) in
    grind (arith, nat_tests, long, most)
count_less n t ts true false w e = cc
count_less n t ts false true w e = cc
count_less n t ts false false w e = grind (arith, nat_tests, w)

first_less : (n : ℕ) (t : List ℕ) (ts : List (List ℕ)) (enough : Bool)
    → taken (First n) (t ∷ ts) ≡ cond enough (Some (t ∷ ts)) None
    → taken (First n) ts ≡ None
first_less n t ts enough e =
    rw (count_less n t ts (nat_le n (suc (length ts))) enough refl e) refl

-- those through the last of a group, without the first
map_less : (t : List ℕ) (ts : List (List ℕ)) (enough : Bool) (x : Option (List (List ℕ)))
    → option_map (λ more. t ∷ more) x ≡ cond enough (Some (t ∷ ts)) None
    → x ≡ cond enough (Some ts) None
map_less t ts true None e = cc
map_less t ts true (Some xs) e = let same : t ∷ xs ≡ t ∷ ts = cc in
    ap (λ (ys : List (List ℕ)). Some ys) (let rest : xs ≡ ts = cc in rest)
map_less t ts false None e = refl
map_less t ts false (Some xs) e = cc

through_less : (closes : List ℕ → Bool) (t : List ℕ) (ts : List (List ℕ)) (enough : Bool)
    → closes t ≡ false → through closes (t ∷ ts) ≡ cond enough (Some (t ∷ ts)) None
    → through closes ts ≡ cond enough (Some ts) None
through_less closes t ts enough w e = map_less t ts enough (through closes ts) (rw w at e)

enough_less : (x : Extent) (wanted : Option ℕ) (e : Bool) (t : List ℕ)
    (ts : List (List ℕ)) (walk new : Walk) → wanted ≡ wanted_of x → ends x t ≡ e
    → Shortens wanted e walk new → 0 < new.at
    → taken x (t ∷ ts) ≡ cond walk.enough (Some (t ∷ ts)) None
    → (b : Bool) × (taken x ts ≡ cond new.enough (Some ts) None) × IsWithout b walk new
enough_less (First n) (Some m) e t ts walk new want is short at h =
    (false, rw short.enough_is (first_less n t ts walk.enough h), short)
enough_less (First n) None e t ts walk new want is short at h = cc
enough_less (Between opens closes) (Some m) e t ts walk new want is short at h = cc
enough_less (Between opens closes) None true t ts walk new want is short at h =
    absurd (omega (arith, short, at))
enough_less (Between opens closes) None false t ts walk new want is short at h =
    (walk.enough, rw short.enough_is (through_less closes t ts walk.enough is h), short)

-- where it is
pub shorter_one : (o : Choice) (path : Path) (row : Row) (front : List Row) (j i : ℕ)
    (kept : Queued) (walk new : Walk) (wanted : Option ℕ) (b e : Bool)
    → wanted ≡ wanted_of o.extent → Known o path row kept → column_below path row j ≡ Some i
    → get_or kept.heard.items j Passed ≡ Taken b e
    → Has o path (row ∷ front) j walk → Shortens wanted e walk new
    → ((n : ℕ) → wanted ≡ Some n → (tokens : List (List ℕ))
    → Says walk.text (token_at row j ∷ tokens) → Says new.text tokens) → 0 < new.at
    → Has o (after path row) front i new
shorter_one o path row front j i kept walk new wanted b e want known below heard h short says at =
    let one : heard_under o row j ≡ Taken b e = sym (known.heard j) ∙ heard in
    let token = token_at row j in
    let got = collected o (after path row) front i in
    let s = split_at o path row front j i (Taken b e) below (known.collected j
    ∙ ap (λ (x : Heard). heard_token x token) one) in
    let is = taken_is o token b e (heard_data o row j b e one) in
    let less = enough_less o.extent wanted e token got walk new want is.2 short at
    (rw s.collected at h.enough) in
    let w = less.2 in
    let count = w.count in
    record {
      column = w.column ∙ (h.column ∙ s.column);
      ended = w.ended ∙ (h.ended ∙ s.ended);
      count = λ n first. let was = h.count n first ∙ ap length s.collected in omega (arith, count, was);
      text = λ n first. says n (want ∙ ap wanted_of first) got (rw s.collected at h.text n first);
      enough = less.1;
    }

-- the walk from the cell below stands among the records that are left
pub stands_below : (o : Choice) (path : Path) (first : ℕ) (row : Row) (rows : List Row) (j i : ℕ)
    (walk new : Walk) → Stands o path first (row ∷ rows) j walk
    → new.at ≡ walk.at → first + 1 < new.at
    → ((front : List Row) → Has o path (row ∷ front) j walk → Has o (after path row) front i new)
    → Stands o (after path row) (first + 1) rows i new
stands_below o path first row rows j i walk new h same beyond below =
    by h.front h.split h.at h.has
  where
    by : (front : List Row) → row ∷ rows ≡ front ++ h.rest → walk.at ≡ first + length front
        → Has o path front j walk → Stands o (after path row) (first + 1) rows i new
    by [] split at has = absurd (omega (arith, same, at, beyond))
    by (r ∷ front) split at has =
        let k = same_head row r rows (front ++ h.rest) split in
        record {
          front = front;
          rest = h.rest;
          split = k.1;
          at = omega (arith, same, at);
          has = below front (rw (sym k.0) at has);
        }

-- under a record that nothing is collected of, and that moves no spine
pub still_stand : (o : Choice) (path : Path) (first : ℕ) (row : Row) (rows : List Row)
    (kept : Queued) (walks : List Walk) → Known o path row kept → IsStill kept
    → AllStand o path first (row ∷ rows) walks → AllStand o (after path row) (first + 1) rows walks
still_stand o path first row rows kept walks known still h j walk at beyond =
    stands_below o path first row rows j j walk walk (h j walk at (omega (arith, beyond))) refl beyond
    (λ front has. shorter_none o path row front j j kept walk known
    (sym (known.below j) ∙ still.stays j) (rw still.quiet refl) has)

-- the walk from the cell below
pub shared_stand : (o : Choice) (path : Path) (first : ℕ) (row : Row) (rows : List Row) (j i : ℕ)
    (kept : Queued) (walk new : Walk) → Known o path row kept
    → column_in kept.row kept.below j ≡ Some i
    → (first < walk.at → Stands o path first (row ∷ rows) j walk)
    → (new.at ≡ walk.at) ⊎ (new.at ≡ 0)
    → ((front : List Row) → column_below path row j ≡ Some i → Has o path (row ∷ front) j walk
    → 0 < new.at → Has o (after path row) front i new)
    → first + 1 < new.at → Stands o (after path row) (first + 1) rows i new
shared_stand o path first row rows j i kept walk new known below s (inl same) has beyond =
    stands_below o path first row rows j i walk new (s (omega (arith, same, beyond))) same beyond
    (λ front h. has front (sym (known.below j) ∙ below) h (omega (arith, beyond)))
shared_stand o path first row rows j i kept walk new known below s (inr none) has beyond =
    absurd (omega (arith, none, beyond))

get_below : {X : Type 0} (xs : List X) (j : ℕ) (x : X) → slice_get xs j ≡ Some x → j < length xs
get_below {X = X} [] j x h = absurd (nothing j h)
  where
    nothing : (j : ℕ) → ◌≡◌ {A = Option X} (slice_get [] j) (Some x) → ⊥
    nothing j k = cc
get_below (y ∷ ys) zero x h = omega arith
get_below (y ∷ ys) (suc j) x h = let k = get_below ys j x h in omega (arith, k)

less : (j n : ℕ) → j < n + 1 → (j ≡ n → ⊥) → j < n
less j n h other = let most : j ≤ n = omega (arith, h) in by (eq-or-lt_of_le most)
  where
    by : (j ≡ n) ⊎ (j < n) → j < n
    by (inl same) = absurd (other same)
    by (inr below) = below

-- a place of a list with a new element: it is another place, or the new one
get_place : {X : Type 0} (xs : List X) (n : ℕ) (y : X) (j : ℕ) (x : X)
    → slice_get (set xs n y) j ≡ Some x
    → ((j ≡ n → ⊥) × (slice_get xs j ≡ Some x)) ⊎ ((j ≡ n) × (x ≡ y))
get_place {X = X} [] n y j x h = absurd (nothing j h)
  where
    nothing : (j : ℕ) → ◌≡◌ {A = Option X} (slice_get [] j) (Some x) → ⊥
    nothing j k = cc
get_place (z ∷ zs) zero y zero x h = inr (refl, let e : y ≡ x = cc in sym e)
get_place (z ∷ zs) zero y (suc j) x h = inl (λ e. absurd (omega (arith, e)), h)
get_place (z ∷ zs) (suc n) y zero x h = inl (λ e. absurd (omega (arith, e)), h)
get_place {X = X} (z ∷ zs) (suc n) y (suc j) x h = by (get_place zs n y j x h)
  where
    by : ((j ≡ n → ⊥) × (slice_get zs j ≡ Some x)) ⊎ ((j ≡ n) × (x ≡ y))
        → ((suc j ≡ suc n → ⊥) × (slice_get zs j ≡ Some x)) ⊎ ((suc j ≡ suc n) × (x ≡ y))
    by (inl e) = inl (λ k. e.0 (omega (arith, k)), e.1)
    by (inr e) = inr (ap suc e.0, e.1)

-- The walks before place n are those from the cells below, the others those from the cells.
pub record ShortTo (o : Choice) (path : Path) (first : ℕ) (row : Row) (rows : List Row) (n : ℕ)
    (walks : List Walk) : Type 0 where
  pub short : (j : ℕ) (walk : Walk) → slice_get walks j ≡ Some walk → j < n → first + 1 < walk.at
      → Stands o (after path row) (first + 1) rows j walk
  pub long : (j : ℕ) (walk : Walk) → slice_get walks j ≡ Some walk → n ≤ j → first < walk.at
      → Stands o path first (row ∷ rows) j walk

pub short_none : (o : Choice) (path : Path) (first : ℕ) (row : Row) (rows : List Row)
    (walks : List Walk) → AllStand o path first (row ∷ rows) walks
    → ShortTo o path first row rows 0 walks
short_none o path first row rows walks h = record {
  short = λ j walk at below beyond. absurd (omega (arith, below));
  long = λ j walk at over beyond. h j walk at beyond;
}

pub short_more : (o : Choice) (path : Path) (first : ℕ) (row : Row) (rows : List Row) (n : ℕ)
    (walks : List Walk) (new : Walk) → ShortTo o path first row rows n walks
    → (first + 1 < new.at → Stands o (after path row) (first + 1) rows n new)
    → ShortTo o path first row rows (n + 1) (set walks n new)
short_more o path first row rows n walks new h s = record {
  short = λ j walk at below beyond. near j walk beyond below (get_place walks n new j walk at);
  long = λ j walk at over beyond. far j walk beyond over (get_place walks n new j walk at);
}
  where
    near : (j : ℕ) (walk : Walk) → first + 1 < walk.at → j < n + 1
        → ((j ≡ n → ⊥) × (slice_get walks j ≡ Some walk)) ⊎ ((j ≡ n) × (walk ≡ new))
        → Stands o (after path row) (first + 1) rows j walk
    near j walk beyond below (inl w) = h.short j walk w.1 (less j n below w.0) beyond
    near j walk beyond below (inr w) = rw (w.0, w.1) (s (rw w.1 at beyond))

    far : (j : ℕ) (walk : Walk) → first < walk.at → n + 1 ≤ j
        → ((j ≡ n → ⊥) × (slice_get walks j ≡ Some walk)) ⊎ ((j ≡ n) × (walk ≡ new))
        → Stands o path first (row ∷ rows) j walk
    far j walk beyond over (inl w) = h.long j walk w.1 (omega (arith, over)) beyond
    far j walk beyond over (inr w) = let same = w.0 in absurd (omega (arith, same, over))

pub short_all : (o : Choice) (path : Path) (first : ℕ) (row : Row) (rows : List Row) (n : ℕ)
    (walks : List Walk) → ShortTo o path first row rows n walks → length walks ≤ n
    → AllStand o (after path row) (first + 1) rows walks
short_all o path first row rows n walks h all j walk at beyond =
    let below = get_below walks j walk at in h.short j walk at (omega (arith, below, all)) beyond
