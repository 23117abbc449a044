-- Ways down a spine, put together and cut.
use Rattle.std.proofs.Common.{◌≡◌, ◌∙◌, refl, sym, ap, ℕ, ◌+◌, ◌-◌, ◌≤◌, Bool, true, false}
use Rattle.std.proofs.Common.{◌&&◌, List, [], ◌∷◌, ◌++◌, length, filter, get_or}
use Rattle.std.proofs.Common.{append_assoc, length-append, arith, cond, Option, Some, None}
use Rattle.std.specs.Option.{option_and_then}
use Rattle.std.proofs.lemmas.List.Elements.{filter-append}
use Rattle.hum_score.specs.declared.records.SpinedKind.TheVariants.{Local, Interpretation, Values}
use Rattle.hum_score.specs.Row.{Row, Comment, Spined}
use Rattle.hum_score.specs.Spines.{Path, after}
use Rattle.hum_score.specs.InOrder.{through}
use Rattle.hum_context.specs.declared.heard.Heard.TheVariants.{Passed, Taken}
use Rattle.hum_context.specs.declared.links.Link.{Link}
use Rattle.hum_context.specs.declared.links.Links.{Links}
use Rattle.hum_context.specs.declared.links.Sought.{Sought}
use Rattle.hum_context.specs.declared.links.Sought.TheVariants.{Any, Last}
use Rattle.hum_context.specs.declared.queued.Queued.{Queued}
use Rattle.hum_context.specs.Context.{Choice, is_collectable, begins, chain}
use Rattle.hum_context.specs.Columns.{column_after, column_below, under}
use Rattle.hum_context.specs.Heard.{ends, heard_of}
use Rattle.hum_context.specs.Leads.{Leads, Linked, is_found, is_sought, link_in, no_link}
use Rattle.hum_context.specs.Queue.{Known, column_in}
use Rattle.hum_context.proofs.Growth.{chain_push}
use Rattle.hum_context.proofs.Passing.{chain_more, chain_on}

-- a way, when there are more rows
leads_more : (o : Choice) (sought : Sought) (path : Path) (rows : List Row) (c over to : ℕ) (next : Row)
    → Leads o sought path rows c over to → Leads o sought path (rows ++ next ∷ []) c over to
leads_more o sought path rows c over to next h = record {
  front = h.front;
  rest = h.rest ++ next ∷ [];
  split = ap (λ (xs : List Row). xs ++ next ∷ []) h.split ∙ append_assoc h.front h.rest (next ∷ []);
  long = h.long;
  column = h.column;
  none = h.none;
}

pub linked_more : (o : Choice) (path : Path) (rows : List Row) (links : Links) (next : Row)
    → Linked o path rows links → Linked o path (rows ++ next ∷ []) links
linked_more o path rows links next h sought c some =
    leads_more o sought path rows c _ _ next (h sought c some)

pub linked_none : (o : Choice) (path : Path) (rows : List Row) (links : Links)
    → ((sought : Sought) (c : ℕ) → link_in links sought c ≡ no_link) → Linked o path rows links
linked_none o path rows links h sought c some =
    let none = ap (λ (l : Link). l.over) (h sought c) in absurd (omega (arith, some, none))

-- the column behind two lists of rows
column_on : (path : Path) (front mid : List Row) (below : Option ℕ)
    → ((c : ℕ) → column_after path (front ++ mid) c
    ≡ option_and_then (column_after (through path front) mid) (column_after path front c))
    → option_and_then (column_after path (front ++ mid)) below
    ≡ option_and_then (column_after (through path front) mid) (option_and_then (column_after path front) below)
column_on path front mid None h = refl
column_on path front mid (Some c) h = h c

pub column_more : (path : Path) (front mid : List Row) (c : ℕ)
    → column_after path (front ++ mid) c
    ≡ option_and_then (column_after (through path front) mid) (column_after path front c)
column_more path [] mid c = refl
column_more path (row ∷ front) mid c =
    column_on (after path row) front mid (column_below path row c) (column_more (after path row) front mid)

-- what is found behind two lists of rows
pub found_more : (o : Choice) (sought : Sought) (path : Path) (front mid : List Row) (c b : ℕ)
    → column_after path front c ≡ Some b
    → filter (is_sought o sought) (chain path (front ++ mid) c)
    ≡ filter (is_sought o sought) (chain path front c)
    ++ filter (is_sought o sought) (chain (through path front) mid b)
found_more o sought path front mid c b at =
    ap (filter (is_sought o sought)) (chain_more path front mid c
    ∙ ap (λ (x : Option ℕ). chain path front c ++ chain_on (through path front) mid x) at)
    ∙ filter-append (is_sought o sought) (chain path front c) (chain (through path front) mid b)

-- One way leads on to another.
pub leads_on : (o : Choice) (sought : Sought) (path : Path) (rows : List Row) (c m b d to : ℕ)
    → (h : Leads o sought path rows c m b) → Leads o sought (through path h.front) h.rest b d to
    → Leads o sought path rows c (m + d) to
leads_on o sought path rows c m b d to h k =
    let long = h.long in
    let more = k.long in
    let sum = length-append h.front k.front in
    record {
      front = h.front ++ k.front;
      rest = k.rest;
      split = h.split ∙ (ap (λ (xs : List Row). h.front ++ xs) k.split
          ∙ sym (append_assoc h.front k.front k.rest));
      long = omega (arith, long, more, sum);
      column = column_more path h.front k.front c
          ∙ (ap (option_and_then (column_after (through path h.front) k.front)) h.column ∙ k.column);
      none = found_more o sought path h.front k.front c b h.column
          ∙ (ap (λ (ts : List (List ℕ)). ts ++ filter (is_sought o sought)
          (chain (through path h.front) k.front b)) h.none ∙ k.none);
    }

pub same_head : (x y : Row) (xs ys : List Row) → x ∷ xs ≡ y ∷ ys → (x ≡ y) × (xs ≡ ys)
same_head x y xs ys e = (cc, cc)

-- two ways to cut a list
pub record Cut (xs ys us vs : List Row) : Type 0 where
  pub mid : List Row
  pub longer : xs ≡ us ++ mid
  pub behind : vs ≡ mid ++ ys

pub cut : (xs ys us vs : List Row) → xs ++ ys ≡ us ++ vs → length us ≤ length xs → Cut xs ys us vs
cut xs ys [] vs e h = record { mid = xs; longer = refl; behind = sym e }
cut [] ys (u ∷ us) vs e h = absurd (omega (arith, h))
cut (x ∷ xs) ys (u ∷ us) vs e h =
    let same = same_head x u (xs ++ ys) (us ++ vs) e in
    let k = cut xs ys us vs same.1 (omega (arith, h)) in
    record {
      mid = k.mid;
      longer = ap (λ (zs : List Row). x ∷ zs) k.longer
          ∙ ap (λ (z : Row). z ∷ us ++ k.mid) same.0;
      behind = k.behind;
    }

no_right : {X : Type 0} (xs ys : List X) → xs ++ ys ≡ [] → ys ≡ []
no_right [] ys e = e
no_right (x ∷ xs) ys e = cc

-- The rest of a way, from a cell that it leads through.
pub leads_rest : (o : Choice) (sought : Sought) (path : Path) (rows front rest : List Row)
    (c b over to : ℕ) → Leads o sought path rows c over to → rows ≡ front ++ rest
    → length front ≤ over → column_after path front c ≡ Some b
    → Leads o sought (through path front) rest b (over - length front) to
leads_rest o sought path rows front rest c b over to h split within at =
    let long = h.long in
    let k = cut h.front h.rest front rest (sym h.split ∙ split) (omega (arith, long, within)) in
    let sum = ap length k.longer ∙ length-append front k.mid in
    record {
      front = k.mid;
      rest = h.rest;
      split = k.behind;
      long = omega (arith, long, sum);
      column = sym (ap (option_and_then (column_after (through path front) k.mid)) at)
          ∙ (sym (column_more path front k.mid c)
          ∙ (sym (ap (λ (xs : List Row). column_after path xs c) k.longer) ∙ h.column));
      none = no_right (filter (is_sought o sought) (chain path front c)) _
          (sym (found_more o sought path front k.mid c b at)
          ∙ (sym (ap (λ (xs : List Row). filter (is_sought o sought) (chain path xs c)) k.longer) ∙ h.none));
    }

-- what is found is what is sought
found_of : (o : Choice) (sought : Sought) (t : List ℕ)
    → is_found sought (heard_of o t) ≡ is_sought o sought t
found_of o Any t = by (is_collectable o t)
  where
    by : (b : Bool) → is_found Any (cond b (Taken (begins o.extent t) (ends o.extent t)) Passed) ≡ b
    by true = refl
    by false = refl
found_of o Last t = by (is_collectable o t)
  where
    by : (b : Bool) → is_found Last (cond b (Taken (begins o.extent t) (ends o.extent t)) Passed)
        ≡ (b && ends o.extent t)
    by true = refl
    by false = refl

-- what isn't collected isn't sought
not_sought : (o : Choice) (sought : Sought) (t : List ℕ) → filter (is_collectable o) (t ∷ []) ≡ []
    → is_sought o sought t ≡ false
not_sought o Any t h = by (is_collectable o t) h
  where
    by : (b : Bool) → cond b (t ∷ []) [] ≡ [] → b ≡ false
    by true e = cc
    by false e = refl
not_sought o Last t h = by (is_collectable o t) h
  where
    by : (b : Bool) → cond b (t ∷ []) [] ≡ [] → (b && ends o.extent t) ≡ false
    by true e = cc
    by false e = refl

one_none : (o : Choice) (sought : Sought) (t : List ℕ) → is_sought o sought t ≡ false
    → filter (is_sought o sought) (t ∷ []) ≡ []
one_none o sought t e = rw e refl

none_one : (o : Choice) (sought : Sought) (t : List ℕ) → filter (is_sought o sought) (t ∷ []) ≡ []
    → is_sought o sought t ≡ false
none_one o sought t h = by (is_sought o sought t) h
  where
    by : (b : Bool) → cond b (t ∷ []) [] ≡ [] → b ≡ false
    by true e = cc
    by false e = refl

-- Where nothing is found of what was heard, nothing is sought under the record,
pub none_under : (o : Choice) (sought : Sought) (path : Path) (row : Row) (kept : Queued) (c : ℕ)
    → Known o path row kept → is_found sought (get_or kept.heard.items c Passed) ≡ false
    → filter (is_sought o sought) (under row (Some c)) ≡ []
none_under o sought path (Comment text) kept c known h = refl
none_under o sought path (Spined Local tokens) kept c known h =
    one_none o sought (get_or tokens c []) (not_sought o sought (get_or tokens c []) (known.collected c))
none_under o sought path (Spined Interpretation tokens) kept c known h =
    one_none o sought (get_or tokens c []) (not_sought o sought (get_or tokens c []) (known.collected c))
none_under o sought path (Spined Values tokens) kept c known h =
    one_none o sought (get_or tokens c [])
    (sym (found_of o sought (get_or tokens c [])) ∙ (sym (ap (is_found sought) (known.heard c)) ∙ h))

-- and the other way round.
pub none_found : (o : Choice) (sought : Sought) (path : Path) (row : Row) (kept : Queued) (c : ℕ)
    → Known o path row kept → filter (is_sought o sought) (under row (Some c)) ≡ []
    → is_found sought (get_or kept.heard.items c Passed) ≡ false
none_found o sought path (Comment text) kept c known h = ap (is_found sought) (known.heard c)
none_found o sought path (Spined Local tokens) kept c known h = ap (is_found sought) (known.heard c)
none_found o sought path (Spined Interpretation tokens) kept c known h =
    ap (is_found sought) (known.heard c)
none_found o sought path (Spined Values tokens) kept c known h = ap (is_found sought) (known.heard c)
    ∙ (found_of o sought (get_or tokens c []) ∙ none_one o sought (get_or tokens c []) h)

-- The next cell.
pub leads_row : (o : Choice) (sought : Sought) (path : Path) (row : Row) (rows : List Row)
    (kept : Queued) (c b : ℕ) → Known o path row kept
    → is_found sought (get_or kept.heard.items c Passed) ≡ false
    → column_in kept.row kept.below c ≡ Some b → Leads o sought path (row ∷ rows) c 1 b
leads_row o sought path row rows kept c b known none at = record {
  front = row ∷ [];
  rest = rows;
  split = refl;
  long = refl;
  column = ap (option_and_then (column_after (after path row) [])) (sym (known.below c) ∙ at);
  none = ap (filter (is_sought o sought)) (chain_push path [] row c)
      ∙ none_under o sought path row kept c known none;
}
