-- Past records in which nothing is found.
use Rattle.std.proofs.Common.{◌≡◌, ◌∙◌, refl, sym, ap, ℕ, ◌+◌, ◌-◌, ◌≤◌, ◌<◌, Bool, true, false}
use Rattle.std.proofs.Common.{List, [], ◌∷◌, ◌++◌, length, filter, drop, append-nil}
use Rattle.std.proofs.Common.{append_assoc, length-append, arith, cond, Option, Some, None, subst}
use Rattle.std.specs.Option.{option_and_then, option_map}
use Rattle.std.proofs.lemmas.List.Elements.{filter-append}
use Rattle.hum_score.specs.Row.{Row}
use Rattle.hum_score.specs.Spines.{Path}
use Rattle.hum_score.specs.InOrder.{through as path_through}
use Rattle.hum_context.specs.declared.links.Sought.{Sought}
use Rattle.hum_context.specs.declared.links.Sought.TheVariants.{Any, Last}
use Rattle.hum_context.specs.declared.queued.Queued.{Queued}
use Rattle.hum_context.specs.declared.walk.Walk.{Walk}
use Rattle.hum_context.specs.Context.{Choice, Extent, First, Between, is_collectable, taken}
use Rattle.hum_context.specs.Context.{chain, through}
use Rattle.hum_context.specs.Columns.{column_after}
use Rattle.hum_context.specs.Heard.{wanted_of}
use Rattle.hum_context.specs.Leads.{Leads, is_sought, sought_of}
use Rattle.hum_context.specs.Queue.{Knows}
use Rattle.hum_context.specs.Walking.{Has, Stands, collected}
use Rattle.hum_context.proofs.Gathering.{Gathers}
use Rattle.hum_context.proofs.Growth.{more_none}
use Rattle.hum_context.proofs.Leading.{column_more}
use Rattle.hum_context.proofs.Passing.{chain_more, chain_on, open_end}
use Rattle.hum_context.proofs.Queues.{knows_drop, drop_drop}

-- tokens of a chain that leads on
pub collected_more : (o : Choice) (path : Path) (front mid : List Row) (j c : ℕ)
    → column_after path front j ≡ Some c
    → collected o path (front ++ mid) j
    ≡ collected o path front j ++ filter (is_collectable o) (chain (path_through path front) mid c)
collected_more o path front mid j c at =
    ap (filter (is_collectable o)) (chain_more path front mid j
    ∙ ap (λ (x : Option ℕ). chain path front j ++ chain_on (path_through path front) mid x) at)
    ∙ filter-append (is_collectable o) (chain path front j) (chain (path_through path front) mid c)

-- where none of them ends a group, too few stay too few
no_first : (o : Choice) (opens closes : List ℕ → Bool) (t : List ℕ) (ts : List (List ℕ)) (b : Bool)
    → o.extent ≡ Between opens closes → is_collectable o t ≡ b
    → filter (is_sought o Last) (t ∷ ts) ≡ []
    → (cond b (closes t) false ≡ false) × (filter (is_sought o Last) ts ≡ [])
no_first o opens closes t ts true is w h = by (closes t) (rw (w, is) at h)
  where
    by : (e : Bool) → cond e (t ∷ filter (is_sought o Last) ts) (filter (is_sought o Last) ts) ≡ []
        → (e ≡ false) × (filter (is_sought o Last) ts ≡ [])
    by true k = cc
    by false k = (refl, k)
no_first o opens closes t ts false is w h = (refl, rw w at h)

through_none : (o : Choice) (opens closes : List ℕ → Bool) (ts : List (List ℕ))
    → o.extent ≡ Between opens closes → filter (is_sought o Last) ts ≡ []
    → through closes (filter (is_collectable o) ts) ≡ None
through_none o opens closes [] is h = refl
through_none o opens closes (t ∷ ts) is h =
    by (is_collectable o t) refl (λ k. through_none o opens closes ts is k)
  where
    by : (b : Bool) → is_collectable o t ≡ b
        → (filter (is_sought o Last) ts ≡ [] → through closes (filter (is_collectable o) ts) ≡ None)
        → through closes (cond b (t ∷ filter (is_collectable o) ts) (filter (is_collectable o) ts)) ≡ None
    by true w ih =
        let n = no_first o opens closes t ts true is w h in
        rw (n.0, ih n.1) refl
    by false w ih = ih (no_first o opens closes t ts false is w h).1

through_both : (closes : List ℕ → Bool) (xs ys : List (List ℕ)) → through closes xs ≡ None
    → through closes ys ≡ None → through closes (xs ++ ys) ≡ None
through_both closes [] ys h k = k
through_both closes (x ∷ xs) ys h k = by (closes x) h (λ e. through_both closes xs ys e k)
  where
    by : (b : Bool) → cond b (Some (x ∷ [])) (option_map (λ more. x ∷ more) (through closes xs)) ≡ None
        → (through closes xs ≡ None → through closes (xs ++ ys) ≡ None)
        → cond b (Some (x ∷ [])) (option_map (λ more. x ∷ more) (through closes (xs ++ ys))) ≡ None
    by true e ih = cc
    by false e ih = rw (ih (more_none x (through closes xs) e)) refl

-- what is known of tokens that are collected past them
record Past (o : Choice) (got more : List (List ℕ)) : Type 0 where
  pub few : taken o.extent (got ++ more) ≡ None
  pub same : (n : ℕ) → o.extent ≡ First n → more ≡ []

past : (o : Choice) (x : Extent) (sought : Sought) (ts got : List (List ℕ)) → o.extent ≡ x
    → sought ≡ sought_of (wanted_of o.extent) → filter (is_sought o sought) ts ≡ []
    → taken o.extent got ≡ None → Past o got (filter (is_collectable o) ts)
past o (First n) sought ts got is want none few =
    let any : sought ≡ Any = rw is at want in
    let nothing : filter (is_collectable o) ts ≡ [] = rw any at none in
    record {
      few = rw nothing (rw (append-nil got) few);
      same = λ m first. nothing;
    }
past o (Between opens closes) sought ts got is want none few =
    let last : sought ≡ Last = rw is at want in
    record {
      few = rw is (through_both closes got (filter (is_collectable o) ts) (rw is at few)
          (through_none o opens closes ts is (rw last at none)));
      same = λ m first. let u = sym is ∙ first in cc;
    }

-- A walk goes on past them.
pub has_past : (o : Choice) (path : Path) (front mid : List Row) (j c to : ℕ) (sought : Sought)
    (walk new : Walk) → sought ≡ sought_of (wanted_of o.extent) → Has o path front j walk
    → walk.column ≡ Some c → walk.enough ≡ false
    → column_after (path_through path front) mid c ≡ Some to
    → filter (is_sought o sought) (chain (path_through path front) mid c) ≡ []
    → new.column ≡ Some to → new.ended ≡ walk.ended → new.count ≡ walk.count
    → new.text ≡ walk.text → new.enough ≡ false → Has o path (front ++ mid) j new
has_past o path front mid j c to sought walk new want h at short goes none column ended count text enough =
    let here : column_after path front j ≡ Some c = sym h.column ∙ at in
    let there : column_after path (front ++ mid) j ≡ Some to = column_more path front mid j
    ∙ (ap (option_and_then (column_after (path_through path front) mid)) here ∙ goes) in
    let got = collected o path front j in
    let ts = chain (path_through path front) mid c in
    let all = collected_more o path front mid j c here in
    let p = past o o.extent sought ts got refl want none (rw short at h.enough) in
    record {
      column = column ∙ sym there;
      ended = ended ∙ (h.ended ∙ (open_end path front j c here ∙ sym (open_end path (front ++ mid) j to there)));
      count = λ n is. count ∙ (h.count n is ∙ ap length (sym (all
          ∙ (ap (λ (xs : List (List ℕ)). got ++ xs) (p.same n is) ∙ append-nil got))));
      text = λ n is. rw (text, all ∙ (ap (λ (xs : List (List ℕ)). got ++ xs) (p.same n is) ∙ append-nil got))
          (h.text n is);
      enough = rw (all, enough) p.few;
    }

pub stands_past : (o : Choice) (path : Path) (gone k : ℕ) (rows : List Row) (j n c m to : ℕ)
    (held : List Queued) (sought : Sought) (walk new : Walk)
    → sought ≡ sought_of (wanted_of o.extent) → Knows o path (drop k held) rows
    → Stands o path (gone + k) rows j walk → walk.at ≡ gone + n → new.at ≡ gone + m → n < m
    → walk.column ≡ Some c → walk.enough ≡ false
    → ((q : Path) (rest : List Row) → Knows o q (drop n held) rest → Leads o sought q rest c (m - n) to)
    → new.column ≡ Some to → new.ended ≡ walk.ended → new.count ≡ walk.count
    → new.text ≡ walk.text → new.enough ≡ false → Stands o path (gone + k) rows j new
stands_past o path gone k rows j n c m to held sought walk new want knows h at next more col short leads
    column ended count text enough =
    let there = h.at in
    let long : k + length h.front ≡ n = omega (arith, there, at) in
    let behind : Knows o (path_through path h.front) (drop n held) h.rest =
    subst (λ (xs : List Queued). Knows o (path_through path h.front) xs h.rest)
    (drop_drop k (length h.front) held ∙ ap (λ (i : ℕ). drop i held) long)
    (knows_drop o path (drop k held) h.front h.rest (rw h.split at knows)) in
    let l = leads (path_through path h.front) h.rest behind in
    let far = l.long in
    let sum = length-append h.front l.front in
    record {
      front = h.front ++ l.front;
      rest = l.rest;
      split = h.split ∙ (ap (λ (xs : List Row). h.front ++ xs) l.split
          ∙ sym (append_assoc h.front l.front l.rest));
      at = omega (arith, next, there, at, far, sum, more);
      has = has_past o path h.front l.front j c to sought walk new want h.has col short l.column l.none
          column ended count text enough;
    }

-- Tokens that are gathered go on past them,
pub gathers_past : (o : Choice) (path : Path) (rows : List Row) (j n c d to count : ℕ)
    (made : List (List ℕ) → Type 0) → (h : Gathers o path rows j n c count made false)
    → Leads o Any (path_through path h.front) h.rest c d to
    → Gathers o path rows j (n + d) to count made false
gathers_past o path rows j n c d to count made h l =
    let long = h.long in
    let far = l.long in
    let sum = length-append h.front l.front in
    let got = collected o path h.front j in
    let same : collected o path (h.front ++ l.front) j ≡ got =
    collected_more o path h.front l.front j c h.column
    ∙ (ap (λ (xs : List (List ℕ)). got ++ xs) l.none ∙ append-nil got) in
    record {
      front = h.front ++ l.front;
      rest = l.rest;
      split = h.split ∙ (ap (λ (xs : List Row). h.front ++ xs) l.split
          ∙ sym (append_assoc h.front l.front l.rest));
      long = omega (arith, long, far, sum);
      column = column_more path h.front l.front j
          ∙ (ap (option_and_then (column_after (path_through path h.front) l.front)) h.column ∙ l.column);
      count_is = h.count_is ∙ ap length (sym same);
      enough_are = rw same h.enough_are;
      made_is = subst made (sym same) h.made_is;
    }

-- to where those lead that wait.
pub gathers_skip : (o : Choice) (path : Path) (rows : List Row) (j n c m to count : ℕ)
    (made : List (List ℕ) → Type 0) (held : List Queued) → Knows o path held rows
    → Gathers o path rows j n c count made false → n < m
    → ((q : Path) (rest : List Row) → Knows o q (drop n held) rest → Leads o Any q rest c (m - n) to)
    → Gathers o path rows j m to count made false
gathers_skip o path rows j n c m to count made held knows h more leads =
    let far : n + (m - n) ≡ m = omega (arith, more) in
    rw (← far) (gathers_past o path rows j n c (m - n) to count made h
    (leads (path_through path h.front) h.rest
    (rw h.long at (knows_drop o path held h.front h.rest (rw h.split at knows)))))

pub skip_behind : (o : Choice) (k n m c to : ℕ) (held : List Queued) → k ≤ n → n < m
    → ((q : Path) (rest : List Row) → Knows o q (drop n held) rest → Leads o Any q rest c (m - n) to)
    → (q : Path) (rest : List Row) → Knows o q (drop (n - k) (drop k held)) rest
    → Leads o Any q rest c ((m - k) - (n - k)) to
skip_behind o k n m c to held over more leads q rest knows =
    let all : k + (n - k) ≡ n = omega (arith, over) in
    let far : m - n ≡ (m - k) - (n - k) = omega (arith, over, more) in
    rw (← far) (leads q rest
    (subst (λ (xs : List Queued). Knows o q xs rest)
    (drop_drop k (n - k) held ∙ ap (λ (i : ℕ). drop i held) all) knows))
