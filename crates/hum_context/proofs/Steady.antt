-- What context decides stays.
use Rattle.std.proofs.Common.{◌≡◌, refl, sym, ap, ℕ, ◌+◌, ◌≤◌, Bool, true, false, List}
use Rattle.std.proofs.Common.{[], ◌∷◌, ◌++◌, length, arith, cond, filter, append-nil, Option, Some, None}
use Rattle.std.specs.Prelude.{nat_le, Result, Ok, Err}
use Rattle.std.specs.List.{list_any}
use Rattle.std.proofs.lemmas.List.Elements.{filter-append}
use lib.Chars.{codes}
use Rattle.hum_score.specs.declared.records.SpinedKind.TheVariants.{Local, Interpretation, Values}
use Rattle.hum_score.specs.Row.{Row, Comment, Spined, text_of}
use Rattle.hum_score.specs.Spines.{Path}
use Rattle.hum_score.specs.Score.{IsClosed, path_after, passed}
use Rattle.hum_stage.specs.declared.faults.Rule.{Rule}
use Rattle.hum_stage.specs.declared.faults.Rule.TheVariants.{L1}
use Rattle.hum_stage.specs.Look.{IsSteady}
use Rattle.hum_context.specs.Context.{Choice, context, all_some, push_front, data_of}
use Rattle.hum_stage.specs.Limits.{if_fits}
use Rattle.hum_context.specs.Context.{is_collectable, is_last, begins, taken, chain, token_or_null}
use Rattle.hum_context.specs.Context.{new_token, new_tokens}
use Rattle.hum_context.specs.Columns.{column_after, under}
use Rattle.hum_context.proofs.Growth.{chain_push, ended_none, taken_stays}

-- Where a chain is ended nothing comes behind it; else what is taken stays.
taken_on : (o : Choice) (tokens more : List (List ℕ)) (ended : Bool)
    (found : Option (List (List ℕ))) (new : List ℕ) → list_any is_last tokens ≡ ended
    → taken o.extent (filter (is_collectable o) tokens) ≡ found → (ended ≡ true → more ≡ [])
    → token_or_null ended found ≡ Some new
    → token_or_null (list_any is_last (tokens ++ more))
    (taken o.extent (filter (is_collectable o) (tokens ++ more))) ≡ Some new
taken_on o tokens more ended (Some ts) new is found none e =
    rw (
      filter-append (is_collectable o) tokens more,
      taken_stays o.extent (filter (is_collectable o) tokens) (filter (is_collectable o) more) ts found,
    ) e
taken_on o tokens more true None new is found none e = rw (none refl, append-nil tokens, is, found) e
taken_on o tokens more false None new is found none e = cc

new_stays : (o : Choice) (token : List ℕ) (tokens more : List (List ℕ)) (new : List ℕ)
    → (list_any is_last tokens ≡ true → more ≡ [])
    → new_token o token tokens ≡ Some new → new_token o token (tokens ++ more) ≡ Some new
new_stays o token tokens more new none e = by_cases (is_collectable o token) (begins o.extent token) e
  where
    by_cases : (a b : Bool)
        → cond a (cond b (token_or_null (list_any is_last tokens)
        (taken o.extent (filter (is_collectable o) tokens))) (Some (codes "."))) (Some token) ≡ Some new
        → cond a (cond b (token_or_null (list_any is_last (tokens ++ more))
        (taken o.extent (filter (is_collectable o) (tokens ++ more)))) (Some (codes "."))) (Some token)
        ≡ Some new
    by_cases true true k = taken_on o tokens more (list_any is_last tokens)
        (taken o.extent (filter (is_collectable o) tokens)) new refl refl none k
    by_cases true false k = k
    by_cases false b k = k

-- nothing stands below the end of a column
none_under : (row : Row) (column : Option ℕ) → column ≡ None → under row column ≡ []
none_under row None e = refl
none_under row (Some c) e = cc

token_stays : (o : Choice) (path : Path) (row : Row) (rows : List Row) (next : Row) (j : ℕ)
    (token new : List ℕ) → new_token o token (chain path (row ∷ rows) j) ≡ Some new
    → new_token o token (chain path (row ∷ (rows ++ next ∷ [])) j) ≡ Some new
token_stays o path row rows next j token new e =
    let column = column_after path (row ∷ rows) j in
    rw (chain_push path (row ∷ rows) next j) (new_stays o token (chain path (row ∷ rows) j)
    (under next column) new (λ k. none_under next column (ended_none path (row ∷ rows) j k)) e)

parts : {X : Type 0} (x : Option X) (xs : Option (List X)) (ys : List X)
    → push_front x xs ≡ Some ys
    → (z : X) × (zs : List X) × (x ≡ Some z) × (xs ≡ Some zs) × (ys ≡ z ∷ zs)
parts None xs ys e = cc
parts (Some z) None ys e = cc
parts (Some z) (Some zs) ys e = (z, zs, refl, refl, cc)

-- the new tokens from place j on
tokens_stay : (o : Choice) (path : Path) (row : Row) (rows : List Row) (next : Row) (j : ℕ)
    (tokens new : List (List ℕ)) → all_some (new_tokens o path row rows j tokens) ≡ Some new
    → all_some (new_tokens o path row (rows ++ next ∷ []) j tokens) ≡ Some new
tokens_stay o path row rows next j [] new e = e
tokens_stay o path row rows next j (t ∷ ts) new e =
    let p = parts (new_token o t (chain path (row ∷ rows) j))
    (all_some (new_tokens o path row rows (j + 1) ts)) new e in
    rw (
      token_stays o path row rows next j t p.0 p.2,
      tokens_stay o path row rows next (j + 1) ts p.1 p.3,
    ) (ap (λ (xs : List (List ℕ)). Some xs) (sym p.4))

are_there : (new : Option (List (List ℕ))) (d : Result (List Row) Rule) → data_of new ≡ Some d
    → (tokens : List (List ℕ)) × (new ≡ Some tokens)
are_there None d e = cc
are_there (Some tokens) d e = (tokens, refl)

stays : (o : Choice) (past : List Row) (row : Row) (rows : List Row) (next : Row)
    (d : Result (List Row) Rule) → context o past row rows ≡ Some d
    → context o past row (rows ++ next ∷ []) ≡ Some d
stays o past (Comment text) rows next d e = e
stays o past (Spined Local tokens) rows next d e = e
stays o past (Spined Interpretation tokens) rows next d e = e
stays o past (Spined Values tokens) rows next d e =
    let row = Spined Values tokens in
    let new = are_there (all_some (new_tokens o (path_after past) row rows 0 tokens)) d e in
    rw (tokens_stay o (path_after past) row rows next 0 tokens new.0 new.1) (rw new.1 at e)

pub one_row : (row : Row) (new : List Row)
    → ◌≡◌ {A = Option (Result (List Row) Rule)} (Some (Ok (row ∷ []))) (Some (Ok new))
    → row ∷ [] ≡ new
one_row row new e = cc

one_long : (row : Row) (b : Bool) (new : List Row)
    → ◌≡◌ {A = Result (List Row) Rule} (cond b (Ok (row ∷ [])) (Err L1)) (Ok new) → row ∷ [] ≡ new
one_long row true new e = cc
one_long row false new e = cc

-- a data record becomes one
pub data_one : (ts : Option (List (List ℕ))) (new : List Row) → data_of ts ≡ Some (Ok new)
    → (tokens : List (List ℕ)) × (ts ≡ Some tokens) × (Spined Values tokens ∷ [] ≡ new)
data_one None new e = cc
data_one (Some ts) new e = (
  ts,
  refl,
  one_long (Spined Values ts) (nat_le (length (text_of (Spined Values ts))) 1048576)
      new (let k : if_fits (Spined Values ts) ≡ Ok new = cc in k),
)

single : (row : Row) (new : List Row) → row ∷ [] ≡ new → length new ≤ 1
single row new e = rw (← e) (omega arith)

one : (o : Choice) (past : List Row) (row : Row) (rows new : List Row)
    → context o past row rows ≡ Some (Ok new) → length new ≤ 1
one o past (Comment text) rows new e = single (Comment text) new (one_row (Comment text) new e)
one o past (Spined Local tokens) rows new e = single (Spined Local tokens) new
    (one_row (Spined Local tokens) new e)
one o past (Spined Interpretation tokens) rows new e = single (Spined Interpretation tokens) new
    (one_row (Spined Interpretation tokens) new e)
one o past (Spined Values tokens) rows new e =
    let k = data_one (all_some (new_tokens o (path_after past) (Spined Values tokens) rows 0
    tokens)) new e in
    single (Spined Values k.0) new k.2

pub steady_if : (o : Choice)
    → ((past : List Row) (row : Row) (rows : List Row) → IsClosed (passed (row ∷ past) rows)
    → context o past row rows ≡ None → ⊥) → IsSteady (context o)
steady_if o decides = record {
  stays = λ past row rows next d score e. stays o past row rows next d e;
  one = λ past row rows new e. one o past row rows new e;
  decides = decides;
}
