-- Columns that have another name than **kern, which no command on notes changes.
use Rattle.std.proofs.lemmas.Grind.{common_steps}
use Rattle.std.proofs.lemmas.Bool.Decides.{nat_tests}
use Rattle.std.proofs.Common.{◌≡◌, ◌∙◌, refl, sym, ap, ℕ, false, List, [], ◌∷◌, map, get_or, arith}
use Rattle.std.specs.Prelude.{Ok}
use Rattle.std.specs.List.{list_any}
use Rattle.std.proofs.lemmas.Bool.{or_parts, or_from}
use Rattle.hum_score.specs.declared.records.SpinedKind.TheVariants.{Local, Interpretation, Values}
use Rattle.hum_score.specs.Row.{Row, Comment, Spined}
use Rattle.hum_score.specs.declared.spines.Move.{Move}
use Rattle.hum_score.specs.declared.spines.Move.TheVariants.{Same, Left, Right, Join as Joined, Added}
use Rattle.hum_score.specs.Sign.{sign_of}
use Rattle.hum_score.specs.Spines.{Path, Unopened, Spines, names_after, exclusives, renamed, moves_under}
use Rattle.hum_score.specs.Score.{path_after, passed}
use Rattle.hum_score.proofs.Cases.{by_bool}
use Rattle.hum_score.specs.InOrder.{IsScore}
use Rattle.hum_cells.specs.Rewriting.{Heading, Renamed, Followed, Rewriting, is_kern, all_rewritten, headed, with_heading, rewrite}
use Rattle.hum_laws.proofs.Runs.{out, Fine, RunsBehind, RunsTo, comes_to, fine_settled}
use Rattle.hum_laws.proofs.Marks.{Becomes, fit_only, fits_as}

abbrev pub no_kern : List (List ℕ) → Type 0
no_kern names = list_any is_kern names ≡ false

untold : (becomes : Becomes) (names : List (List ℕ)) (aboves : List (List (List ℕ))) (tokens : List (List ℕ)) → no_kern names
    → all_rewritten becomes (map is_kern names) aboves tokens ≡ Ok tokens
untold becomes (n ∷ ns) (x ∷ xs) (t ∷ ts) h =
    let both = or_parts (is_kern n) (list_any is_kern ns) h in
    rw (both.0, untold becomes ns xs ts both.1) refl
untold becomes names aboves tokens h = grind (arith, nat_tests)

no_kern_named : (name : List ℕ) (tokens : List (List ℕ)) → is_kern name ≡ false → no_kern (map (headed (Renamed name)) tokens)
no_kern_named name [] h = refl
no_kern_named name (t ∷ ts) h = by_bool (is_kern t) (λ w. rw (w, h) (no_kern_named name ts h)) (λ w. rw (w, w) (no_kern_named name ts h))

stay_named : (name : List ℕ) (tokens : List (List ℕ)) → no_kern tokens → map (headed (Renamed name)) tokens ≡ tokens
stay_named name [] h = refl
stay_named name (t ∷ ts) h =
    let both = or_parts (is_kern t) (list_any is_kern ts) h in
    rw (both.0, stay_named name ts both.1) refl

same_rows : (heading : Heading) (tokens : List (List ℕ)) → no_kern tokens → with_heading heading tokens ≡ Spined Interpretation tokens ∷ []
same_rows (Renamed name) tokens h = ap (λ (x : List (List ℕ)). Spined Interpretation x ∷ []) (stay_named name tokens h)
same_rows (Followed sign) tokens h = rw h refl

no_kern_at : (names : List (List ℕ)) (j : ℕ) → no_kern names → is_kern (get_or names j []) ≡ false
no_kern_at = grind (arith, common_steps)

no_kern_moved : (names tokens : List (List ℕ)) (m : Move) → no_kern names → no_kern tokens → is_kern (renamed names tokens m) ≡ false
no_kern_moved names tokens (Added j) h k = refl
no_kern_moved names tokens (Left j) h k = no_kern_at names j h
no_kern_moved names tokens (Right j) h k = no_kern_at names j h
no_kern_moved names tokens (Joined first last) h k = no_kern_at names first h
no_kern_moved names tokens (Same j) h k = grind (arith, nat_tests, get_or, no_kern_at)

no_kern_all : (names tokens : List (List ℕ)) (ms : List Move) → no_kern names → no_kern tokens → no_kern (map (renamed names tokens) ms)
no_kern_all names tokens [] h k = refl
no_kern_all names tokens (m ∷ ms) h k =
    grind (arith, nat_tests, no_kern_all names tokens ms h k, or_from, no_kern_moved)

no_kern_after : (path : Path) (tokens : List (List ℕ)) → no_kern (exclusives path) → no_kern tokens → no_kern (names_after path tokens)
no_kern_after Unopened tokens h k = k
no_kern_after (Spines names) tokens h k = no_kern_all names tokens (moves_under (map sign_of tokens)) h k

abbrev Holds : List Row → List Row → Type 0
Holds past behind = no_kern (exclusives (path_after behind))

abbrev naming : List ℕ → Becomes → Rewriting
naming name becomes = record { heading = Renamed name; becomes = becomes }

abbrev Step : Rewriting → List Row → List Row → Row → Type 0
Step second behind made row = (out (rewrite second) behind made ≡ made) × no_kern (exclusives (path_after (passed behind made)))

values_step : (name : List ℕ) (first : Becomes) (second : Rewriting) (past behind made : List Row)
    (tokens : List (List ℕ)) → no_kern (exclusives (path_after behind))
    → rewrite (naming name first) past (Spined Values tokens) ≡ Ok made → Fine (rewrite second) behind made → Step second behind made (Spined Values tokens)
values_step = grind (arith, nat_tests, untold, fits_as, fit_only)

steering_step : (name : List ℕ) (first : Becomes) (second : Rewriting) (past behind made : List Row) (tokens : List (List ℕ)) → is_kern name ≡ false
    → no_kern (exclusives (path_after behind)) → rewrite (naming name first) past (Spined Interpretation tokens) ≡ Ok made → Fine (rewrite second) behind made
    → Step second behind made (Spined Interpretation tokens)
steering_step = grind (arith, nat_tests, no_kern_named, fit_only, same_rows, fits_as, no_kern_after)

step : (name : List ℕ) (first : Becomes) (second : Rewriting) (past behind made : List Row) (row : Row) → is_kern name ≡ false
    → no_kern (exclusives (path_after behind)) → rewrite (naming name first) past row ≡ Ok made → Fine (rewrite second) behind made → Step second behind made row
step name first second past behind made (Comment text) other holds e fine = let is : Comment text ∷ [] ≡ made = cc in rw (← is) (refl, holds)
step name first second past behind made (Spined Local tokens) other holds e fine = let is : Spined Local tokens ∷ [] ≡ made = cc in rw (← is) (refl, holds)
step name first second past behind made (Spined Interpretation tokens) other holds e fine =
    steering_step name first second past behind made tokens other holds e fine
step name first second past behind made (Spined Values tokens) other holds e fine = values_step name first second past behind made tokens holds e fine

-- What the first gives is what both give.
pub left_alone : (name : List ℕ) (first : Becomes) (second : Rewriting) (p once twice : List Row) → is_kern name ≡ false → IsScore p
    → RunsTo (rewrite (naming name first)) p once → RunsBehind (rewrite (naming name first)) (rewrite second) p twice → twice ≡ once
left_alone name first second p once twice other score alone both =
    comes_to (rewrite (naming name first)) (rewrite second) (rewrite (naming name first)) Holds
    (record {
      opening = refl;
      step = λ past behind made row right sound holds e goes fine.
          let s = step name first second past behind made row other holds e fine in
          (e ∙ ap (λ (x : List Row). Ok x) (sym s.0), s.1);
    }) p twice score both
    ∙ fine_settled (rewrite (naming name first)) [] p alone.fine
    ∙ sym alone.gives
