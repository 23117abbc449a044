-- A way, from cell to cell.
use Rattle.std.proofs.Common.{◌≡◌, ◌∙◌, sym, ℕ, zero, suc, ◌+◌, ◌-◌, ◌<◌, false}
use Rattle.std.proofs.Common.{List, [], ◌∷◌, length, get_or, drop, arith, subst}
use Rattle.hum_score.specs.Row.{Row}
use Rattle.hum_score.specs.Spines.{Path}
use Rattle.hum_score.specs.InOrder.{through}
use Rattle.hum_context.specs.declared.heard.Heard.TheVariants.{Passed}
use Rattle.hum_context.specs.declared.links.Sought.{Sought}
use Rattle.hum_context.specs.declared.queued.Queued.{Queued}
use Rattle.hum_context.specs.Context.{Choice}
use Rattle.hum_context.specs.Leads.{Leads, Linked, is_found}
use Rattle.hum_context.specs.Queue.{Known, Knows}
use Rattle.hum_context.proofs.Leading.{leads_on}
use Rattle.hum_context.proofs.Queues.{knows_at, drop_below, drop_get}

pub same_at : {X : Type 0} (xs : List X) (n : ℕ) (x y : X) → n < length xs → x ≡ get_or xs n x
    → y ≡ get_or xs n y → x ≡ y
same_at [] n x y h a b = absurd (omega (arith, h))
same_at (z ∷ zs) zero x y h a b = a ∙ sym b
same_at (z ∷ zs) (suc n) x y h a b = same_at zs n x y (omega (arith, h)) a b

-- what a record tells of the next cell on the way from one of its own
abbrev pub Steps : Choice → Sought → Queued → ℕ → ℕ → ℕ → Type 0
Steps o sought kept c d to = (path : Path) (row : Row) (rows : List Row) → Known o path row kept
    → Linked o path (row ∷ rows) kept.links
    → is_found sought (get_or kept.heard.items c Passed) ≡ false
    → Leads o sought path (row ∷ rows) c d to

-- the first cell below one
pub skips_first : (o : Choice) (sought : Sought) (path : Path) (held : List Queued) (rows : List Row)
    (n c d to : ℕ) (kept index : Queued) → Knows o path (drop n held) rows → n < length held
    → kept ≡ get_or held n kept → index ≡ get_or held n index
    → is_found sought (get_or kept.heard.items c Passed) ≡ false → Steps o sought index c d to
    → Leads o sought path rows c ((n + d) - n) to
skips_first o sought path held rows n c d to kept index knows within is at none steps =
    let zero_more : n + 0 ≡ n = omega arith in
    let a = knows_at o path (drop n held) [] rows index knows
    (drop_below n 0 held (omega (arith, within)))
    (rw (drop_get n held 0 index, zero_more) at) in
    let same = same_at held n kept index within is at in
    let all : (n + d) - n ≡ d = omega arith in
    rw (all, a.split) (steps path a.row a.behind a.known a.linked
    (subst (λ (q : Queued). is_found sought (get_or q.heard.items c Passed) ≡ false) same none))

-- the same, whatever stands before it
pub skips_here : (o : Choice) (sought : Sought) (held : List Queued) (n c d to : ℕ) (kept : Queued)
    → n < length held → kept ≡ get_or held n kept
    → is_found sought (get_or kept.heard.items c Passed) ≡ false → Steps o sought kept c d to
    → (path : Path) (rows : List Row) → Knows o path (drop n held) rows
    → Leads o sought path rows c ((n + d) - n) to
skips_here o sought held n c d to kept within is none steps path rows knows =
    skips_first o sought path held rows n c d to kept kept knows within is is none steps

-- and one below another
pub skips_next : (o : Choice) (sought : Sought) (path : Path) (held : List Queued) (rows : List Row)
    (n c m b d to : ℕ) (index : Queued) → Knows o path (drop n held) rows → n < m → m < length held
    → Leads o sought path rows c (m - n) b → index ≡ get_or held m index
    → is_found sought (get_or index.heard.items b Passed) ≡ false → Steps o sought index b d to
    → Leads o sought path rows c ((m + d) - n) to
skips_next o sought path held rows n c m b d to index knows some within h at none steps =
    let long = h.long in
    let here : n + length h.front ≡ m = omega (arith, long, some) in
    let a = knows_at o path (drop n held) h.front h.rest index (rw h.split at knows)
    (drop_below n (length h.front) held (omega (arith, here, within)))
    (rw (drop_get n held (length h.front) index, here) at) in
    let all : (m - n) + d ≡ (m + d) - n = omega (arith, some) in
    rw (← all) (leads_on o sought path rows c (m - n) b d to h
    (rw a.split (steps (through path h.front) a.row a.behind a.known a.linked none)))
