-- A record whose new tokens are written, one by one.
use Rattle.std.proofs.Common.{◌≡◌, ◌≢◌, ◌∙◌, refl, ℕ, ◌+◌, ◌<◌, ◌≤◌, Bool, true, false, List, [], ◌∷◌, ◌++◌}
use Rattle.std.proofs.Common.{length, length-append, get_or, arith, inl, inr, ◌⊎◌, subst, ap, sym, Some}
use Rattle.hum_record.specs.Building.{Draft, spelled}
use Rattle.hum_record.specs.RecordDraft.{Holds}
use Rattle.hum_score.specs.declared.records.SpinedKind.TheVariants.{Local, Interpretation, Values}
use Rattle.hum_score.specs.declared.records.Kind.TheVariants.{Values as AnyValues}
use Rattle.hum_score.specs.Row.{Row, Comment, Spined, kind_of, text_of, token_at, width_of}
use Rattle.hum_score.specs.Spelling.{IsTextOf, IsToken, IsTokenOf}
use Rattle.hum_score.specs.Spines.{Path}
use Rattle.hum_context.specs.declared.queued.Queued.{Queued}
use Rattle.hum_context.specs.declared.becoming.Becoming.TheVariants.{Stays}
use Rattle.hum_context.specs.Context.{Choice, chain}
use Rattle.hum_context.specs.Queue.{HasToken, FirstIsData, Knows}
use Rattle.hum_context.specs.Walking.{Becomes, Writes}
use Rattle.hum_context.proofs.Weighing.{Sofar, sofar_none, sofar_more}

-- so many new tokens were written
pub record Written (o : Choice) (path : Path) (tokens : List (List ℕ)) (rows : List Row) (j : ℕ)
    (draft : Draft) (long : Bool) : Type 0 where
  pub made : List (List ℕ)
  pub sofar : Sofar o path (Spined Values tokens) rows tokens j made
  pub holds : Holds Values draft long made
  pub many : length made ≡ j

pub written_none : (o : Choice) (path : Path) (tokens : List (List ℕ)) (rows : List Row)
    (draft : Draft) (long : Bool) → Holds Values draft long []
    → Written o path tokens rows 0 draft long
written_none o path tokens rows draft long h = record {
  made = [];
  sofar = sofar_none o path (Spined Values tokens) rows tokens;
  holds = h;
  many = omega arith;
}

pub written_more : (o : Choice) (path : Path) (tokens : List (List ℕ)) (rows : List Row) (j : ℕ)
    (draft draft' : Draft) (long long' : Bool) → Written o path tokens rows j draft long
    → j < length tokens
    → Writes o (get_or tokens j []) (chain path (Spined Values tokens ∷ rows) j)
    (Holds Values draft long) (Holds Values draft' long')
    → Written o path tokens rows (j + 1) draft' long'
written_more o path tokens rows j draft draft' long long' h below x =
    let many = h.many in
    let sum = length-append h.made (x.new ∷ []) in
    record {
      made = h.made ++ x.new ∷ [];
      sofar = sofar_more o path (Spined Values tokens) rows tokens j h.made x.new h.sofar below x.is;
      holds = x.added h.made h.holds;
      many = omega (arith, many, sum);
    }

pub first_token : (held : List Queued) (kept : Queued) (j : ℕ) → kept ≡ get_or held 0 kept
    → FirstIsData held → j < width_of kept.row → HasToken held j
first_token [] kept j e h below = absurd h
first_token (q ∷ held) kept j e h below = (h, rw e at below)

pub held_width : (held : List Queued) (kept : Queued) (j : ℕ) → kept ≡ get_or held 0 kept
    → HasToken held j → j < width_of kept.row
held_width [] kept j e h = absurd h
held_width (q ∷ held) kept j e h = rw e h.1

values_token : (row : Row) (token : List ℕ) → kind_of row ≡ AnyValues → IsTokenOf row token
    → IsToken Values token
values_token (Comment text) token e h = absurd h
values_token (Spined Local tokens) token e h = cc
values_token (Spined Interpretation tokens) token e h = cc
values_token (Spined Values tokens) token e h = h

pub held_token : (held : List Queued) (kept : Queued) (j : ℕ) (token : List ℕ)
    → kept ≡ get_or held 0 kept → HasToken held j → IsTokenOf kept.row token → IsToken Values token
held_token [] kept j token e h lawful = absurd h
held_token (q ∷ held) kept j token e h lawful = values_token q.row token h.0 (rw e at lawful)

-- its token at place j was written as it is
pub stays_written : (o : Choice) (path : Path) (tokens : List (List ℕ)) (rows : List Row) (j : ℕ)
    (held : List Queued) (kept : Queued) (token : List ℕ) (before after : List (List ℕ) → Type 0)
    → kept ≡ get_or held 0 kept → Knows o path held (Spined Values tokens ∷ rows)
    → token ≡ token_at kept.row j
    → Becomes o (token_at (Spined Values tokens) j) (chain path (Spined Values tokens ∷ rows) j)
    (Some Stays) → ((made : List (List ℕ)) → before made → after (made ++ token ∷ []))
    → Writes o (token_at (Spined Values tokens) j) (chain path (Spined Values tokens ∷ rows) j)
    before after
stays_written o path tokens rows j [] kept token before after e knows is becomes added = absurd knows
stays_written o path tokens rows j (q ∷ held) kept token before after e knows is becomes added =
    let row : kept.row ≡ Spined Values tokens = ap (λ (k : Queued). k.row) e ∙ knows.0.is in
    let same : token ≡ token_at (Spined Values tokens) j = is ∙ ap (λ (r : Row). token_at r j) row in
    record { new = token; is = becomes ∙ ap (λ (t : List ℕ). Some t) (sym same); added = added }

-- the kind of the first
pub first_kind : (held : List Queued) (kept : Queued) → kept ≡ get_or held 0 kept → FirstIsData held
    → kind_of kept.row ≡ AnyValues
first_kind [] kept e h = absurd h
first_kind (q ∷ held) kept e h = rw e h

-- data has a token
pub data_width : (row : Row) → kind_of row ≡ AnyValues → IsTextOf row (text_of row)
    → 0 < width_of row
data_width (Comment text) e h = cc
data_width (Spined kind []) e h = absurd (h.1 refl)
data_width (Spined kind (t ∷ tokens)) e h = omega arith

pub some_made : (made : List (List ℕ)) → 0 < length made → made ≢ []
some_made [] h = absurd (omega (arith, h))
some_made (m ∷ made) h = λ k. cc

-- A token is no longer than the text of its record.
last_long : (made : List (List ℕ)) (t : List ℕ) → length t ≤ length (spelled (made ++ t ∷ []))
last_long [] t = omega arith
last_long (m ∷ []) t = let sum = length-append m (9 ∷ t) in omega (arith, sum)
last_long (m ∷ u ∷ us) t =
    let sum = length-append m (9 ∷ spelled ((u ∷ us) ++ t ∷ [])) in
    let ih = last_long (u ∷ us) t in
    omega (arith, sum, ih)

-- where a token alone is too long, another such serves
holds_long : (draft : Draft) (long : Bool) (made : List (List ℕ)) (token new : List ℕ)
    → 1048576 < length token → 1048576 < length new → Holds Values draft long (made ++ token ∷ [])
    → Holds Values draft long (made ++ new ∷ [])
holds_long draft true made token new a b h = record {
  of_kind = h.of_kind;
  sound = λ e. cc;
  held = λ e. cc;
  fits = λ e. cc;
  over = λ e. let more = last_long made new in omega (arith, more, b);
}
holds_long draft false made token new a b h =
    let fits = h.fits refl in
    let more = last_long made token in
    absurd (omega (arith, fits, more, a))

-- a text that was joined, or the front of one that is too long
pub joined_added : (draft : Draft) (long : Bool) (made : List (List ℕ)) (text token new : List ℕ)
    → (text ≡ new) ⊎ ((1048576 < length text) × (1048576 < length new)) → token ≡ text
    → Holds Values draft long (made ++ token ∷ []) → Holds Values draft long (made ++ new ∷ [])
joined_added draft long made text token new (inl same) e h =
    subst (λ (t : List ℕ). Holds Values draft long (made ++ t ∷ [])) (e ∙ same) h
joined_added draft long made text token new (inr over) e h =
    holds_long draft long made text new over.0 over.1
    (subst (λ (t : List ℕ). Holds Values draft long (made ++ t ∷ [])) e h)
