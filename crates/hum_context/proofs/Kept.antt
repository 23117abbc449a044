-- Ways that are kept.
use Rattle.std.proofs.Common.{◌≡◌, ◌∙◌, refl, sym, ap, ℕ, zero, suc, ◌+◌, ◌-◌, ◌≤◌, ◌<◌, true, false}
use Rattle.std.proofs.Common.{List, [], ◌∷◌, ◌++◌, length, filter, get_or, drop, set, subst, ◌⊎◌, inl, inr}
use Rattle.std.proofs.Common.{append_assoc, length-append, arith, Some, None}
use Rattle.std.specs.Prelude.{slice_get}
use Rattle.std.proofs.lemmas.List.Elements.{filter-append}
use Rattle.hum_score.specs.Row.{Row}
use Rattle.hum_score.specs.Spines.{Path, after}
use Rattle.hum_score.specs.InOrder.{through}
use Rattle.hum_stage.proofs.Scores.{through-append}
use Rattle.hum_context.specs.declared.links.Link.{Link}
use Rattle.hum_context.specs.declared.links.Links.{Links}
use Rattle.hum_context.specs.declared.links.Sought.{Sought}
use Rattle.hum_context.specs.declared.queued.Queued.{Queued}
use Rattle.hum_context.specs.declared.walk.Walk.{Walk}
use Rattle.hum_context.specs.declared.heard.Heard.TheVariants.{Passed}
use Rattle.hum_context.specs.Context.{Choice, chain}
use Rattle.hum_context.specs.Columns.{column_after, under}
use Rattle.hum_context.specs.Leads.{IsPut, Leads, LeadsFrom, Linked, is_found, is_sought, link_in}
use Rattle.hum_context.specs.Queue.{FirstIsData, Known, Knows}
use Rattle.hum_context.specs.Walking.{AllStand, Halts, Stands}
use Rattle.hum_context.proofs.Growth.{chain_push}
use Rattle.hum_context.proofs.Leading.{leads_rest, none_found, same_head}
use Rattle.hum_context.proofs.Passing.{chain_more, chain_on}
use Rattle.hum_context.proofs.Queues.{At, knows_at}
use Rattle.hum_context.proofs.Standing.{stand_in}
use Rattle.hum_context.proofs.Ways.{Steps}

-- those that wait, from one on
pub record Behind (o : Choice) (path : Path) (held : List Queued) (rows : List Row) (n : ℕ) : Type 0 where
  pub before : List Row
  pub behind : List Row
  pub split : rows ≡ before ++ behind
  pub long : length before ≡ n
  pub knows : Knows o (through path before) (drop n held) behind

pub knows_behind : (o : Choice) (path : Path) (held : List Queued) (rows : List Row) (n : ℕ)
    → Knows o path held rows → n ≤ length held → Behind o path held rows n
knows_behind o path held rows zero h within =
    record { before = []; behind = rows; split = refl; long = refl; knows = h }
knows_behind o path [] rows (suc n) h within = absurd (omega (arith, within))
knows_behind o path (q ∷ qs) [] (suc n) h within = absurd h
knows_behind o path (q ∷ qs) (row ∷ rows) (suc n) h within =
    let k = knows_behind o (after path row) qs rows n h.1 (omega (arith, within)) in
    record {
      before = row ∷ k.before;
      behind = k.behind;
      split = ap (λ (xs : List Row). row ∷ xs) k.split;
      long = ap suc k.long;
      knows = k.knows;
    }

-- A way from one of those that wait, whatever stands before it.
abbrev pub Goes : Choice → Sought → List Queued → ℕ → ℕ → ℕ → ℕ → Type 0
Goes o sought held n c m to = (path : Path) (rows : List Row) → Knows o path (drop n held) rows
    → Leads o sought path rows c (m - n) to

pub goes_from : (o : Choice) (sought : Sought) (path : Path) (held : List Queued) (rows : List Row)
    (n c m to : ℕ) → Knows o path held rows → n ≤ length held → Goes o sought held n c m to
    → LeadsFrom o sought path rows n c m to
goes_from o sought path held rows n c m to h within goes =
    let k = knows_behind o path held rows n h within in
    record {
      before = k.before;
      behind = k.behind;
      split = k.split;
      long = k.long;
      leads = goes (through path k.before) k.behind k.knows;
    }

-- the record from which it leads
pub from_at : (o : Choice) (sought : Sought) (path : Path) (held : List Queued) (rows : List Row)
    (n c m to : ℕ) (kept : Queued) → Knows o path held rows → n < length held
    → kept ≡ get_or held n kept → (h : LeadsFrom o sought path rows n c m to)
    → At o (through path h.before) h.behind kept
from_at o sought path held rows n c m to kept knows within is h =
    let long = h.long in
    knows_at o path held h.before h.behind kept (rw h.split at knows) (omega (arith, long, within))
    (rw (sym long) at is)

no_left : {X : Type 0} (xs ys : List X) → xs ++ ys ≡ [] → xs ≡ []
no_left [] ys e = refl
no_left (x ∷ xs) ys e = cc

-- In its first record nothing is found.
first_none : (o : Choice) (sought : Sought) (path : Path) (row : Row) (rows front rest : List Row) (c over : ℕ)
    → row ∷ rows ≡ front ++ rest → length front ≡ over → 0 < over
    → filter (is_sought o sought) (chain path front c) ≡ []
    → filter (is_sought o sought) (under row (Some c)) ≡ []
first_none o sought path row rows [] rest c over split long some none = absurd (omega (arith, long, some))
first_none o sought path row rows (r ∷ front) rest c over split long some none =
    rw (same_head row r rows (front ++ rest) split).0 (sym (ap (filter (is_sought o sought)) (chain_push path [] r c))
    ∙ no_left (filter (is_sought o sought) (chain path (r ∷ []) c))
    (filter (is_sought o sought) (chain_on (after path r) front (column_after path (r ∷ []) c)))
    (sym (ap (filter (is_sought o sought)) (chain_more path (r ∷ []) front c)
    ∙ filter-append (is_sought o sought) (chain path (r ∷ []) c)
    (chain_on (after path r) front (column_after path (r ∷ []) c))) ∙ none))

pub from_none : (o : Choice) (sought : Sought) (path : Path) (rows : List Row) (n c m to : ℕ)
    (kept : Queued) (h : LeadsFrom o sought path rows n c m to) → n < m
    → (a : At o (through path h.before) h.behind kept)
    → is_found sought (get_or kept.heard.items c Passed) ≡ false
from_none o sought path rows n c m to kept h some a =
    none_found o sought (through path h.before) a.row kept c a.known
    (first_none o sought (through path h.before) a.row a.behind h.leads.front h.leads.rest c (m - n)
    (sym a.split ∙ h.leads.split) h.leads.long (omega (arith, some)) h.leads.none)

-- From a cell that it leads through the rest is a way.
pub from_rest : (o : Choice) (sought : Sought) (path : Path) (rows : List Row) (n c m to d b : ℕ)
    (h : LeadsFrom o sought path rows n c m to) → d ≤ m - n → n < m
    → Leads o sought (through path h.before) h.behind c d b
    → LeadsFrom o sought path rows (n + d) b m to
from_rest o sought path rows n c m to d b h within some l =
    let long = h.long in
    let far = l.long in
    let sum = length-append h.before l.front in
    let left : (m - n) - length l.front ≡ m - (n + d) = omega (arith, far, within, some) in
    let rest = leads_rest o sought (through path h.before) h.behind l.front l.rest c b (m - n) to h.leads
    l.split (omega (arith, far, within)) l.column in
    record {
      before = h.before ++ l.front;
      behind = l.rest;
      split = h.split ∙ (ap (λ (xs : List Row). h.before ++ xs) l.split
          ∙ sym (append_assoc h.before l.front l.rest));
      long = omega (arith, long, far, sum);
      leads = subst (λ (q : Path). Leads o sought q l.rest b (m - (n + d)) to)
          (sym (through-append path h.before l.front)) (rw left at rest);
    }

-- It goes on to the next cell.
pub from_step : (o : Choice) (sought : Sought) (path : Path) (held : List Queued) (rows : List Row)
    (n c m to d b : ℕ) (kept : Queued) → Knows o path held rows → n < length held → n < m → d ≤ m - n
    → kept ≡ get_or held n kept → Steps o sought kept c d b → LeadsFrom o sought path rows n c m to
    → LeadsFrom o sought path rows (n + d) b m to
from_step o sought path held rows n c m to d b kept knows within some far is steps h =
    let a = from_at o sought path held rows n c m to kept knows within is h in
    from_rest o sought path rows n c m to d b h far some
    (rw a.split (steps (through path h.before) a.row a.behind a.known a.linked
    (from_none o sought path rows n c m to kept h some a)))

-- What is known once a way more is.
pub linked_put : (o : Choice) (path : Path) (rows : List Row) (old new : Links) (sought : Sought)
    (c : ℕ) (link : Link)
    → ((s : Sought) (i : ℕ) → IsPut old sought c link s i (link_in new s i))
    → Linked o path rows old → Leads o sought path rows c link.over link.column
    → Linked o path rows new
linked_put o path rows old new sought c link put h l s i some = by (link_in new s i) (put s i) some
  where
    by : (x : Link) → IsPut old sought c link s i x → 0 < x.over → Leads o s path rows i x.over x.column
    by x (inl e) some = rw e (h s i (rw e at some))
    by x (inr e) some = rw (e.0, e.1, e.2) l

known_links : (o : Choice) (path : Path) (row : Row) (kept : Queued) (links : Links)
    → Known o path row kept → Known o path row (record kept { links = links })
known_links o path row kept links h = record {
  is = h.is;
  short = h.short;
  heard = h.heard;
  collected = h.collected;
  below = h.below;
  last = h.last;
}

pub knows_set : (o : Choice) (path : Path) (held : List Queued) (rows : List Row) (n : ℕ)
    (kept new : Queued) → Knows o path held rows → n < length held → kept ≡ get_or held n kept
    → new ≡ record kept { links = new.links }
    → ((before behind : List Row) → rows ≡ before ++ behind → length before ≡ n
    → Linked o (through path before) behind kept.links
    → Linked o (through path before) behind new.links)
    → Knows o path (set held n new) rows
knows_set o path [] rows n kept new h within is e put = absurd (omega (arith, within))
knows_set o path (q ∷ qs) [] n kept new h within is e put = absurd h
knows_set o path (q ∷ qs) (row ∷ rows) zero kept new h within is e put = (
  subst (λ (x : Queued). Known o path row x) (sym e)
      (known_links o path row kept new.links (rw is h.0)),
  h.1,
  put [] (row ∷ rows) refl refl (rw is h.2),
)
knows_set o path (q ∷ qs) (row ∷ rows) (suc n) kept new h within is e put = (
  h.0,
  knows_set o (after path row) qs rows n kept new h.1 (omega (arith, within)) is e
      (λ before behind split long linked. put (row ∷ before) behind
      (ap (λ (xs : List Row). row ∷ xs) split) (ap suc long) linked),
  h.2,
)

-- a way that is kept, from one of those that wait
pub knows_put : (o : Choice) (sought : Sought) (path : Path) (held : List Queued) (rows : List Row)
    (n c m to : ℕ) (kept new : Queued) (link : Link) → LeadsFrom o sought path rows n c m to
    → Knows o path held rows → n < length held → kept ≡ get_or held n kept
    → new ≡ record kept { links = new.links }
    → ((s : Sought) (i : ℕ) → IsPut kept.links sought c link s i (link_in new.links s i))
    → link.over ≡ m - n → link.column ≡ to
    → Knows o path (set held n new) rows
knows_put o sought path held rows n c m to kept new link h knows within is e put over column =
    knows_set o path held rows n kept new knows within is e
    (λ before behind split long linked. linked_put o (through path before) behind kept.links new.links
    sought c link put linked
    (let here = same_cut h.before before h.behind behind (sym h.split ∙ split) (h.long ∙ sym long) in
    rw (← here.0, ← here.1, over, column) h.leads))
  where
    same_cut : (xs us ys vs : List Row) → xs ++ ys ≡ us ++ vs → length xs ≡ length us
        → (xs ≡ us) × (ys ≡ vs)
    same_cut [] [] ys vs e h = (refl, e)
    same_cut [] (u ∷ us) ys vs e h = absurd (omega (arith, h))
    same_cut (x ∷ xs) [] ys vs e h = absurd (omega (arith, h))
    same_cut (x ∷ xs) (u ∷ us) ys vs e h =
        let same = same_head x u (xs ++ ys) (us ++ vs) e in
        let k = same_cut xs us ys vs same.1 (omega (arith, h)) in (
          ap (λ (zs : List Row). x ∷ zs) k.0 ∙ ap (λ (z : Row). z ∷ us) same.0,
          k.1,
        )

-- A walk of which nothing else is changed stands where it stood.
pub record SameWalk (walk new : Walk) : Type 0 where
  pub at : new.at ≡ walk.at
  pub column : new.column ≡ walk.column
  pub count : new.count ≡ walk.count
  pub text : new.text ≡ walk.text
  pub enough : new.enough ≡ walk.enough
  pub ended : new.ended ≡ walk.ended

same_stands : (o : Choice) (path : Path) (first : ℕ) (rows : List Row) (j : ℕ) (walk new : Walk)
    → SameWalk walk new → Stands o path first rows j walk → Stands o path first rows j new
same_stands o path first rows j walk new e s = record {
  front = s.front;
  rest = s.rest;
  split = s.split;
  at = e.at ∙ s.at;
  has = record {
    column = e.column ∙ s.has.column;
    ended = e.ended ∙ s.has.ended;
    count = λ n first. e.count ∙ s.has.count n first;
    text = λ n first. rw e.text (s.has.text n first);
    enough = rw e.enough s.has.enough;
  };
}

pub same_stand : (o : Choice) (path : Path) (first : ℕ) (rows : List Row) (walks : List Walk) (j : ℕ)
    (walk new : Walk) → AllStand o path first rows walks → slice_get walks j ≡ Some walk
    → SameWalk walk new → AllStand o path first rows (set walks j new)
same_stand o path first rows walks j walk new h is e =
    stand_in o path first rows walks j new h
    (λ beyond. same_stands o path first rows j walk new e (h j walk is (rw e.at at beyond)))
