-- What ditto has filled, it doesn't fill again.
use Rattle.std.proofs.lemmas.Bool.Decides.{nat_tests}
use Rattle.std.proofs.Common.{arith}
use Rattle.std.proofs.Common.{◌≡◌, ◌∙◌, refl, sym, ap, ℕ, suc, Bool, true, false, not, ◌⊎◌, inl, inr, List, [], ◌∷◌, length, map, cond, get_or}
use Rattle.std.specs.Prelude.{nat_le, Option, None, Some, Ok}
use Rattle.std.specs.List.{find}
use Rattle.std.proofs.lemmas.Bool.{and_parts}
use Rattle.hum_score.specs.declared.records.SpinedKind.TheVariants.{Local, Interpretation, Values}
use Rattle.hum_score.specs.Row.{Row, Comment, Spined, text_of}
use Rattle.hum_record.specs.Contents.{is_null}
use Rattle.hum_score.specs.declared.spines.Move.{Move}
use Rattle.hum_score.specs.Sign.{sign_of, is_exclusive}
use Rattle.hum_score.specs.Spines.{Path, after, moves_at}
use Rattle.hum_score.specs.Score.{path_after, passed}
use Rattle.hum_path.specs.Chains.{chain_of, columns, longer, reach}
use Rattle.hum_score.proofs.Cases.{by_bool}
use Rattle.hum_path.proofs.Plain.{find_head}
use Rattle.hum_words.specs.declared.commands.Command.TheVariants.{Ditto}
use Rattle.hum_stage.specs.declared.faults.End.TheVariants.{Closed}
use Rattle.hum_score.specs.InOrder.{IsScore}
use Rattle.hum_stage.specs.Meaning.{KeepsScore}
use Rattle.hum_choices.specs.declared.ditto.DittoOptions.{DittoOptions}
use Rattle.hum_ditto.specs.Ditto.{may_repeat, repeated, written, filled, all_filled, ditto, meaning}
use Rattle.hum_stage.specs.Limits.{if_fits}
use Rattle.hum_laws.specs.declared.given.Given.{Given}
use Rattle.hum_laws.specs.Piped.{IsAlone, IsPiped}
use Rattle.hum_laws.proofs.Runs.{out, comes_to, fine_settled, alone_runs, piped_runs}

-- a token that isn't null stays
filled_stays : (p : Bool) (source : Option (List ℕ)) (token : List ℕ) → is_null token ≡ false → filled p source token ≡ token
filled_stays = grind (arith, nat_tests)

-- each cell of a chain is as it was, or was filled
abbrev Filled : Bool → Option (List ℕ) → List (List ℕ) → List (List ℕ) → Type 0
Filled p skip [] [] = Unit {0}
Filled p skip (t ∷ c) (u ∷ d) = ((u ≡ t) ⊎ (u ≡ filled p (repeated skip c) t)) × Filled p skip c d
Filled p skip _ _ = ⊥

find_none : {X : Type 0} (f : X → Bool) (x : X) (xs : List X) → f x ≡ false → find f xs ≡ None → find f (x ∷ xs) ≡ None
find_none f x xs h k = rw h k

-- where nothing could be repeated, nothing can be
none_again : (p : Bool) (skip : Option (List ℕ)) (c d : List (List ℕ)) → Filled p skip c d → repeated skip c ≡ None → repeated skip d ≡ None
none_again p skip (t ∷ c) (u ∷ d) h e =
    let parts = find_head (may_repeat skip) t (cond (is_exclusive (sign_of t)) [] (reach c)) e in
    let same : u ≡ t = elim h.0 as (λ _. u ≡ t) [ inl w ↦ w | inr w ↦ w ∙ unchanged parts.1 ] in
    rw same (find_none (may_repeat skip) t (cond (is_exclusive (sign_of t)) [] (reach d)) parts.0 (rest parts.1 (none_again p skip c d h.1)))
  where
    unchanged : find (may_repeat skip) (cond (is_exclusive (sign_of t)) [] (reach c)) ≡ None → filled p (repeated skip c) t ≡ t
    unchanged = grind (arith, nat_tests)

    rest : find (may_repeat skip) (cond (is_exclusive (sign_of t)) [] (reach c)) ≡ None → (repeated skip c ≡ None → repeated skip d ≡ None)
        → find (may_repeat skip) (cond (is_exclusive (sign_of t)) [] (reach d)) ≡ None
    rest none more = by_bool (is_exclusive (sign_of t)) (λ w. rw w refl) (λ w. rw w (more (rw w at none)))
none_again p skip c d h k = grind (arith, nat_tests)

found_passes : {X : Type 0} (f : X → Bool) (xs : List X) (x : X) → find f xs ≡ Some x → f x ≡ true
found_passes f [] x e = cc
found_passes f (y ∷ ys) x e = by_bool (f y) (λ w. at_once w (rw w at e)) (λ w. found_passes f ys x (rw w at e))
  where
    at_once : f y ≡ true → Some y ≡ Some x → f x ≡ true
    at_once w is = let same : y ≡ x = cc in rw (← same) w

written_filled : (p : Bool) (token : List ℕ) → is_null token ≡ false → is_null (written p token) ≡ false
written_filled = grind (arith, nat_tests)

not_true : (b : Bool) → not b ≡ true → b ≡ false
not_true = grind (arith, nat_tests)

-- one token is filled once
filled_once : (p : Bool) (skip : Option (List ℕ)) (c d : List (List ℕ)) (token : List ℕ) → Filled p skip c d
    → filled p (repeated skip d) (filled p (repeated skip c) token) ≡ filled p (repeated skip c) token
filled_once =
    grind (arith, nat_tests, none_again, filled_stays, written_filled, found_passes, not_true, and_parts)

abbrev AllFilled : Bool → Option (List ℕ) → List (List (List ℕ)) → List (List (List ℕ)) → Type 0
AllFilled p skip [] [] = Unit {0}
AllFilled p skip (c ∷ cs) (d ∷ ds) = Filled p skip c d × AllFilled p skip cs ds
AllFilled p skip _ _ = ⊥

all_once : (p : Bool) (skip : Option (List ℕ)) (cs ds : List (List (List ℕ))) (tokens : List (List ℕ)) → AllFilled p skip cs ds
    → all_filled p (map (repeated skip) ds) (all_filled p (map (repeated skip) cs) tokens) ≡ all_filled p (map (repeated skip) cs) tokens
all_once p skip (c ∷ cs) (d ∷ ds) (t ∷ ts) h =
    grind (arith, nat_tests, all_once p skip cs ds ts h.1, filled_once)
all_once p skip cs ds tokens h = grind (arith, nat_tests)

-- one record more
longer_filled : (p : Bool) (skip : Option (List ℕ)) (cs ds : List (List (List ℕ))) (tokens : List (List ℕ)) → AllFilled p skip cs ds
    → AllFilled p skip (longer tokens cs) (longer (all_filled p (map (repeated skip) cs) tokens) ds)
longer_filled p skip [] [] [] h = tt
longer_filled p skip [] [] (t ∷ ts) h = tt
longer_filled p skip [] (d ∷ ds) tokens h = absurd h
longer_filled p skip (c ∷ cs) [] tokens h = absurd h
longer_filled p skip (c ∷ cs) (d ∷ ds) [] h = h
longer_filled p skip (c ∷ cs) (d ∷ ds) (t ∷ ts) h = ((inr refl, h.0), longer_filled p skip cs ds ts h.1)

longer_same : (p : Bool) (skip : Option (List ℕ)) (cs ds : List (List (List ℕ))) (tokens : List (List ℕ)) → AllFilled p skip cs ds
    → AllFilled p skip (longer tokens cs) (longer tokens ds)
longer_same p skip [] [] [] h = tt
longer_same p skip [] [] (t ∷ ts) h = tt
longer_same p skip [] (d ∷ ds) tokens h = absurd h
longer_same p skip (c ∷ cs) [] tokens h = absurd h
longer_same p skip (c ∷ cs) (d ∷ ds) [] h = h
longer_same p skip (c ∷ cs) (d ∷ ds) (t ∷ ts) h = ((inl refl, h.0), longer_same p skip cs ds ts h.1)

at_filled : (p : Bool) (skip : Option (List ℕ)) (cs ds : List (List (List ℕ))) (j : ℕ) →
    AllFilled p skip cs ds → Filled p skip (get_or cs j []) (get_or ds j [])
at_filled p skip (c ∷ cs) (d ∷ ds) (suc j) h = at_filled p skip cs ds j h.1
at_filled p skip cs ds j h = grind (arith, nat_tests)

chain_filled : (p : Bool) (skip : Option (List ℕ)) (cs ds : List (List (List ℕ))) (tokens : List (List ℕ)) (m : Move) → AllFilled p skip cs ds
    → Filled p skip (chain_of tokens cs m) (chain_of tokens ds m)
chain_filled = grind (arith, nat_tests, at_filled)

moved_filled : (p : Bool) (skip : Option (List ℕ)) (cs ds : List (List (List ℕ))) (tokens : List (List ℕ)) (ms : List Move) → AllFilled p skip cs ds
    → AllFilled p skip (map (chain_of tokens cs) ms) (map (chain_of tokens ds) ms)
moved_filled p skip cs ds tokens [] h = tt
moved_filled p skip cs ds tokens (m ∷ ms) h = (chain_filled p skip cs ds tokens m h, moved_filled p skip cs ds tokens ms h)

record Behind (options : DittoOptions) (past behind : List Row) : Type 0 where
  path : path_after behind ≡ path_after past
  cells : AllFilled options.parentheses options.skip (columns past) (columns behind)

fits_only : (row : Row) (made : List Row) → if_fits row ≡ Ok made → (row ∷ [] ≡ made) × (nat_le (length (text_of row)) 1048576 ≡ true)
fits_only = grind (arith, nat_tests)

abbrev Step : DittoOptions → List Row → List Row → List Row → Row → Type 0
Step options past behind made row = (out (ditto options) behind made ≡ made) × Behind options (row ∷ past) (passed behind made)

values_step : (options : DittoOptions) (past behind made : List Row) (tokens : List (List ℕ)) → Behind options past behind
    → ditto options past (Spined Values tokens) ≡ Ok made → Step options past behind made (Spined Values tokens)
values_step = grind (arith, nat_tests, fits_only, all_once, longer_filled)

step : (options : DittoOptions) (past behind made : List Row) (row : Row) → Behind options past behind →
    ditto options past row ≡ Ok made → Step options past behind made row
step options past behind made (Comment text) h e = let is : Comment text ∷ [] ≡ made = cc in rw (← is) (refl, record { path = h.path; cells = h.cells })
step options past behind made (Spined Local tokens) h e = grind (arith, nat_tests, longer_same)
step options past behind made (Spined Interpretation tokens) h e =
    let is : Spined Interpretation tokens ∷ [] ≡ made = cc in
    rw (← is) (
      refl,
      record {
        path = ap (λ (p : Path). after p (Spined Interpretation tokens)) h.path;
        cells = rw h.path (moved_filled options.parentheses options.skip (columns past) (columns behind) tokens (moves_at (path_after past) tokens) h.cells);
      },
    )
step options past behind made (Spined Values tokens) h e = values_step options past behind made tokens h e

-- What ditto gives twice is what it gives once.
pub filled_twice : (options : DittoOptions) (p : List Row) (once twice : Given) →
    IsAlone (meaning 1 options) p once → IsPiped (meaning 1 options) (meaning 2 options) p twice
    → KeepsScore (meaning 1 options).outcomes → IsScore p → once.end ≡ Closed → twice.end ≡ Closed → twice.records.items ≡ once.records.items
filled_twice options p once twice h k keeps score one two =
    let alone = alone_runs 1 Ditto (ditto options) p once h one in
    comes_to (ditto options) (ditto options) (ditto options) (Behind options)
    (record {
      opening = record { path = refl; cells = tt };
      step = λ past behind made row right sound holds e goes fine.
          let s = step options past behind made row holds e in
          (e ∙ ap (λ (x : List Row). Ok x) (sym s.0), s.1);
    }) p twice.records.items score (piped_runs 1 2 Ditto Ditto (ditto options) (ditto options) p twice k keeps score two)
    ∙ fine_settled (ditto options) [] p alone.fine
    ∙ sym alone.gives
