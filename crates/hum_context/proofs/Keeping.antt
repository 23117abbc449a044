-- Scores stay scores.
use Rattle.std.proofs.Common.{◌≡◌, ◌∙◌, refl, sym, ap, ℕ, suc, ◌+◌, ◌≤◌, ◌<◌, Bool, true}
use Rattle.std.proofs.Common.{false, not, ◌||◌, List, [], ◌∷◌, map, length, filter}
use Rattle.std.proofs.Common.{Option, Some, None, arith, cond, get_or}
use Rattle.std.specs.Prelude.{◌==◌, Ok}
use Rattle.std.specs.List.{list_any, position, position_or_len, find, join_with_byte}
use Rattle.std.proofs.lemmas.Bool.Decides.{nat_tests}
use Rattle.std.proofs.lemmas.List.{length-map}
use lib.Chars.{codes}
use Rattle.hum_score.specs.declared.records.SpinedKind.TheVariants.{Interpretation, Values}
use Rattle.hum_score.specs.Row.{Row, Comment, Spined}
use Rattle.hum_score.specs.declared.spines.Move.{Move}
use Rattle.hum_score.specs.Sign.{sign_of}
use Rattle.hum_score.specs.Spines.{Path, Unopened, Spines, moves_under, names_after, renamed}
use Rattle.hum_score.specs.Rules.{breaks_as_text, in_order, is_unfinished}
use Rattle.hum_score.specs.Score.{IsOpen, path_after, passed}
use Rattle.hum_path.specs.Chains.{goes_on, future, below_at}
use Rattle.hum_path.proofs.Kept.{text_alike}
use Rattle.hum_path.proofs.Widths.{text_width}
use Rattle.hum_score.specs.InOrder.{through, Follow}
use Rattle.hum_stage.specs.Meaning.{KeepsScore}
use Rattle.hum_stage.specs.Look.{IsSteady, outcomes_from}
use Rattle.hum_stage.proofs.Scores.{path_passed}
use Rattle.hum_stage.proofs.LookKeeping.{looking_keeps}
use Rattle.hum_context.specs.Context.{Choice, is_collectable, is_last, begins, taken, token_or_null}
use Rattle.hum_context.specs.Context.{new_token, new_tokens, to_last, chain, all_some, push_front}
use Rattle.hum_context.specs.Context.{data_of, context}
use Rattle.hum_context.proofs.Growth.{chain_step}
use Rattle.hum_context.proofs.Steady.{data_one, one_row, steady_if}
use Rattle.hum_context.proofs.Ending.{goes_below}

first_below : {X : Type 0} (p : X → Bool) (xs : List X) → list_any p xs ≡ true
    → position_or_len p xs < length xs
first_below p [] e = cc
first_below p (x ∷ xs) e = by (λ k. first_below p xs k) (p x) refl e
  where
    by : (list_any p xs ≡ true → position_or_len p xs < length xs) → (b : Bool) → p x ≡ b
        → (b || list_any p xs) ≡ true → position_or_len p (x ∷ xs) < suc (length xs)
    by more true w k = rw w (omega arith)
    by more false w k = let m = more k in rw w (omega (arith, m))

place_some : {X : Type 0} (p : X → Bool) (xs : List X) → list_any p xs ≡ true
    → position p xs ≡ Some (position_or_len p xs)
place_some p xs e = grind (arith, nat_tests, first_below p xs e)

-- a chain that reaches to the end of a closed score is ended
ends : (names : List (List ℕ)) (rows : List Row) (c : ℕ) → c < length names
    → Follow (Spines names) rows → is_unfinished (through (Spines names) rows) ≡ false
    → list_any is_last (chain (Spines names) rows c) ≡ true
ends names [] c h follow end = absurd (let none : length names ≡ 0 = closed_none (length names) end
    in omega (arith, h, none))
  where
    closed_none : (n : ℕ) → not (n == 0) ≡ false → n ≡ 0
    closed_none n e = grind (arith, nat_tests, e)
ends names (Comment text ∷ rows) c h follow end = ends names rows c h follow.1 end
ends names (Spined Interpretation tokens ∷ rows) c h follow end =
    ap (list_any is_last) (chain_step (Spines names) Interpretation tokens rows c)
    ∙ by (is_last (get_or tokens c [])) refl (λ d below. ends (names_after (Spines names) tokens)
    rows d below follow.1 end)
  where
    moves : List Move
    moves = moves_under (map sign_of tokens)

    wide : length (names_after (Spines names) tokens) ≡ length moves
    wide = length-map moves (renamed names tokens)

    by : (b : Bool) → is_last (get_or tokens c []) ≡ b
        → ((d : ℕ) → d < length (names_after (Spines names) tokens)
        → list_any is_last (chain (Spines (names_after (Spines names) tokens)) rows d) ≡ true)
        → (b || list_any is_last
        (cond b [] (to_last (below_at (future (Spines (names_after (Spines names) tokens)) rows)
        (position (goes_on c) moves))))) ≡ true
    by true w more = refl
    by false w more =
        let goes = goes_below names tokens c follow.0 h w in
        let below = first_below (goes_on c) moves goes in
        rw (place_some (goes_on c) moves goes) (more (position_or_len (goes_on c) moves)
        (omega (arith, below, wide)))
ends names (Spined kind tokens ∷ rows) c h follow end =
    ap (list_any is_last) (chain_step (Spines names) kind tokens rows c)
    ∙ by (is_last (get_or tokens c [])) (ends names rows c h follow.1 end)
  where
    by : (b : Bool) → list_any is_last (chain (Spines names) rows c) ≡ true
        → (b || list_any is_last (cond b [] (chain (Spines names) rows c))) ≡ true
    by true e = refl
    by false e = e

-- so its new token is there
token_there : (o : Choice) (token : List ℕ) (chain : List (List ℕ)) → list_any is_last chain ≡ true
    → (new : List ℕ) × (new_token o token chain ≡ Some new)
token_there o token chain e = by (is_collectable o token) (begins o.extent token)
    (taken o.extent (filter (is_collectable o) chain))
  where
    ended : (found : Option (List (List ℕ)))
        → (new : List ℕ) × (token_or_null (list_any is_last chain) found ≡ Some new)
    ended (Some tokens) = (join_with_byte 32 tokens, refl)
    ended None = rw e (codes ".", refl)

    by : (a b : Bool) (found : Option (List (List ℕ)))
        → (new : List ℕ) × (cond a (cond b (token_or_null (list_any is_last chain) found)
        (Some (codes "."))) (Some token) ≡ Some new)
    by true true found = ended found
    by true false found = (codes ".", refl)
    by false b found = (token, refl)

tokens_there : (o : Choice) (names : List (List ℕ)) (row : Row) (rows : List Row) (j : ℕ) (tokens :
    List (List ℕ)) → ((c : ℕ) → c < length names
    → list_any is_last (chain (Spines names) (row ∷ rows) c) ≡ true)
    → j + length tokens ≤ length names
    → (new : List (List ℕ)) × (all_some (new_tokens o (Spines names) row rows j tokens) ≡ Some new)
    × (length new ≡ length tokens)
tokens_there o names row rows j [] h wide = ([], refl, refl)
tokens_there o names row rows j (t ∷ ts) h wide =
    let first = token_there o t (chain (Spines names) (row ∷ rows) j) (h j (omega (arith, wide))) in
    let more = tokens_there o names row rows (j + 1) ts h (omega (arith, wide)) in
    (first.0 ∷ more.0, rw (first.1, more.1) refl, ap suc more.2)

-- data is as wide as the spines
pub record Wide (path : Path) (tokens : List (List ℕ)) : Type 0 where
  pub names : List (List ℕ)
  pub is : path ≡ Spines names
  pub wide : length tokens ≡ length names

wide_text : (path : Path) (tokens : List (List ℕ))
    → find (breaks_as_text path tokens) in_order ≡ None → Wide path tokens
wide_text Unopened tokens h = cc
wide_text (Spines names) tokens h = record { names = names; is = refl; wide = text_width (Spines names) tokens h }

new_length : (o : Choice) (path : Path) (row : Row) (rows : List Row) (j : ℕ) (tokens new :
    List (List ℕ)) → all_some (new_tokens o path row rows j tokens) ≡ Some new
    → length new ≡ length tokens
new_length o path row rows j [] new e = let k : [] ≡ new = cc in rw (← k) refl
new_length o path row rows j (t ∷ ts) new e =
    by (new_token o t (chain path (row ∷ rows) j))
    (all_some (new_tokens o path row rows (j + 1) ts)) refl e (λ ys w. new_length o path row
    rows (j + 1) ts ys w)
  where
    by : (x : Option (List ℕ)) (xs : Option (List (List ℕ)))
        → all_some (new_tokens o path row rows (j + 1) ts) ≡ xs → push_front x xs ≡ Some new
        → ((ys : List (List ℕ)) → all_some (new_tokens o path row rows (j + 1) ts) ≡ Some ys
        → length ys ≡ length ts) → length new ≡ suc (length ts)
    by None xs w k more = cc
    by (Some x) None w k more = cc
    by (Some x) (Some ys) w k more = let same : x ∷ ys ≡ new = cc in
        rw (← same) (ap suc (more ys w))

decided : (o : Choice) (past : List Row) (row : Row) (rows : List Row) → IsOpen (row ∷ past)
    → Follow (path_after (row ∷ past)) rows
    → is_unfinished (through (path_after (row ∷ past)) rows) ≡ false
    → context o past row rows ≡ None → ⊥
decided o past (Spined Values tokens) rows sound follow end e =
    let w = wide_text (path_after past) tokens sound.1 in
    by w.names w.is w.wide
  where
    by : (names : List (List ℕ)) → path_after past ≡ Spines names → length tokens ≡ length names → ⊥
    by names is wide =
        let all : (c : ℕ) → c < length names
        → list_any is_last (chain (Spines names) (Spined Values tokens ∷ rows) c) ≡ true =
        λ c h. ends names (Spined Values tokens ∷ rows) c h (rw is at sound.1, rw is at follow)
        (rw is at end) in
        let there = tokens_there o names (Spined Values tokens) rows 0 tokens all
        (omega (arith, wide)) in
        let k : data_of (Some there.0) ≡ None = sym (ap data_of there.1) ∙ rw is at e in
        cc
decided o past row rows sound follow end e = cc

-- a score goes on from each of its records
goes_on_from : (past rows : List Row) → IsOpen (passed past rows)
    → IsOpen past × Follow (path_after past) rows
goes_on_from past [] score = (score, tt)
goes_on_from past (row ∷ rows) score =
    let more = goes_on_from (row ∷ past) rows score in (more.0.0, (more.0.1, more.1))

pub context_steady : (o : Choice) → IsSteady (context o)
context_steady o = steady_if o (λ past row rows closed e.
    let score = goes_on_from (row ∷ past) rows closed.0 in
    decided o past row rows score.0 score.1 (rw (path_passed (row ∷ past) rows) at closed.1) e)

next_step : (o : Choice) (past : List Row) (row : Row) (behind : List Row) (given : Path)
    (rows : List Row) → IsOpen (row ∷ past) → given ≡ path_after past
    → context o past row behind ≡ Some (Ok rows)
    → Follow given rows × (through given rows ≡ path_after (row ∷ past))
next_step o past (Spined Values tokens) behind given rows sound leads e =
    let one = data_one (all_some (new_tokens o (path_after past) (Spined Values tokens) behind 0
    tokens)) rows e in
    let wide = new_length o (path_after past) (Spined Values tokens) behind 0 tokens one.0 one.1 in
    rw (← one.2, leads) ((text_alike (path_after past) tokens one.0 wide ∙ sound.1, tt), refl)
next_step o past row behind given rows sound leads e = grind (arith, nat_tests, one_row)

pub context_keeps : (room : ℕ) (o : Choice) → KeepsScore (outcomes_from room (context o) [])
context_keeps room o = looking_keeps room (context o) (λ past given. given ≡ path_after past)
    (record {
      opening = refl;
      next = λ past row behind given rows sound leads e. next_step o past row behind given rows sound
          leads e;
      closing = λ past given sound end leads. rw leads end;
      decided = λ past row rows sound follow end e. decided o past row rows sound follow end e;
    })
