-- Two commands on notes, of which the first puts records behind **kern.
use Rattle.std.proofs.lemmas.Bool.Decides.{nat_tests}
use Rattle.std.proofs.Common.{◌≡◌, ◌∙◌, refl, sym, ap, ℕ, Bool, true, false, List, [], ◌∷◌, ◌++◌, length, map, arith}
use Rattle.std.specs.Prelude.{None, Some, Result, Ok, Err}
use Rattle.std.specs.List.{list_any}
use Rattle.std.proofs.lemmas.Bool.{and_from}
use Rattle.std.proofs.lemmas.List.{length-map}
use Rattle.hum_score.specs.declared.records.SpinedKind.TheVariants.{Local, Interpretation, Values}
use Rattle.hum_score.specs.Row.{Row, Comment, Spined}
use Rattle.hum_score.specs.Sign.{sign_of, is_plain, all_plain}
use Rattle.hum_score.specs.Spines.{Path, Spines, after, names_after, exclusives, width}
use Rattle.hum_score.specs.Score.{IsOpen, path_after, passed}
use Rattle.hum_path.specs.Chains.{columns}
use Rattle.hum_score.proofs.Cases.{by_bool}
use Rattle.hum_path.proofs.Plain.{plain_stays, sound_width}
use Rattle.hum_path.proofs.Widths.{columns_width}
use Rattle.hum_stage.specs.declared.faults.Rule.{Rule}
use Rattle.hum_score.specs.InOrder.{Follow, IsScore}
use Rattle.hum_stage.specs.Outcome.{settled}
use Rattle.hum_stage.specs.Decided.{decisions}
use Rattle.hum_cells.specs.Rewriting.{Heading, Renamed, Followed, Rewriting, is_kern, kern_columns, has_content}
use Rattle.hum_cells.specs.Rewriting.{rewritten, beside, all_rewritten, headed, with_heading, if_fit}
use Rattle.hum_cells.specs.Rewriting.{data_record, rewrite}
use Rattle.hum_laws.specs.Marked.{Marking, with_values, marked, all_marked}
use Rattle.hum_laws.proofs.Runs.{Taken, made_by, out, Fine, RunsBehind, RunsTo, comes_to}

-- what a command makes of a token, by the cells above it
abbrev pub Becomes : Type 0
Becomes = List (List ℕ) → List ℕ → Result (List ℕ) Rule

-- a token that the first has told anew is told anew by the second, and both come to what the last does
abbrev pub Agree : Becomes → (List ℕ → Result (List ℕ) Rule) → Becomes → Type 0
Agree first second both = (above : List (List ℕ)) (token text : List ℕ) → has_content token ≡ true → first above token ≡ Ok text
    → (has_content text ≡ true) × (both above token ≡ second text)

pub all_tokens : (first : Becomes) (second : List ℕ → Result (List ℕ) Rule) (both : Becomes) → Agree first second both
    → (kerns : List Bool) (aboves others : List (List (List ℕ))) (tokens texts : List (List ℕ)) → length aboves ≡ length kerns → length others ≡ length kerns
    → all_rewritten first kerns aboves tokens ≡ Ok texts → all_rewritten both kerns aboves tokens ≡ all_rewritten (λ _. second) kerns others texts
all_tokens first second both h (k ∷ ks) (x ∷ xs) (y ∷ ys) (t ∷ ts) texts wide as_wide e =
    go (rewritten first k x t) refl (all_rewritten first ks xs ts)
    (λ rest is. all_tokens first second both h ks xs ys ts rest (omega (arith, wide))
    (omega (arith, as_wide)) is) e
  where
    go : (r : Result (List ℕ) Rule) → rewritten first k x t ≡ r → (q : Result (List (List ℕ)) Rule)
        → ((rest : List (List ℕ)) → q ≡ Ok rest → all_rewritten both ks xs ts ≡ all_rewritten (λ _. second) ks ys rest)
        → beside r q ≡ Ok texts → beside (rewritten both k x t) (all_rewritten both ks xs ts) ≡ all_rewritten (λ _. second) (k ∷ ks) (y ∷ ys) texts
    go (Err rule) f q more e = cc
    go (Ok text) f (Err rule) more e = cc
    go (Ok text) f (Ok rest) more e = grind (arith, nat_tests)
all_tokens first second both h kerns aboves others tokens texts k w e = grind (arith, nat_tests)

pub fit_only : (rows made : List Row) → if_fit rows ≡ Ok made → rows ≡ made
fit_only = grind (arith, nat_tests)

pub fits_as : (rows : List Row) → Taken (if_fit rows) → if_fit rows ≡ Ok rows
fits_as = grind (arith, nat_tests)

-- the records with signs
pub below_plain : (sign : List ℕ) (tokens : List (List ℕ)) → is_plain (sign_of sign) ≡ true → all_plain (map (headed (Followed sign)) tokens) ≡ true
below_plain sign [] h = refl
below_plain sign (t ∷ ts) h = and_from _ _ (by_bool (is_kern t) (λ w. rw w h) (λ w. rw w refl)) (below_plain sign ts h)

pub no_kern_below : (sign : List ℕ) (tokens : List (List ℕ)) → is_kern sign ≡ false → list_any is_kern (map (headed (Followed sign)) tokens) ≡ false
no_kern_below sign [] h = refl
no_kern_below sign (t ∷ ts) h = by_bool (is_kern t) (λ w. rw (w, h) (no_kern_below sign ts h)) (λ w. rw w (no_kern_below sign ts h))

name_below : (name sign : List ℕ) (tokens : List (List ℕ)) → is_kern sign ≡ false
    → map (headed (Renamed name)) (map (headed (Followed sign)) tokens) ≡ map (headed (Followed sign)) tokens
name_below name sign [] h = refl
name_below name sign (t ∷ ts) h = grind (arith, nat_tests, name_below name sign ts h)

-- how the second command marks, behind a first one with a sign
abbrev pub marking_of : Heading → List ℕ → Becomes → Marking
marking_of (Renamed name) sign both = record { name = Some name; signs = sign ∷ []; becomes = both }
marking_of (Followed other) sign both = record { name = None; signs = other ∷ sign ∷ []; becomes = both }

pub record Signs (sign : List ℕ) (first : Becomes) (second : List ℕ → Result (List ℕ) Rule) (both : Becomes) : Type 0 where
  pub agree : Agree first second both
  pub plain : is_plain (sign_of sign) ≡ true
  pub no_kern : is_kern sign ≡ false

abbrev Behind : List Row → List Row → Type 0
Behind past behind = path_after behind ≡ path_after past

abbrev following : List ℕ → Becomes → Rewriting
following sign first = record { heading = Followed sign; becomes = first }

abbrev second_is : Heading → (List ℕ → Result (List ℕ) Rule) → Rewriting
second_is heading second = record { heading = heading; becomes = λ _. second }

abbrev Step : Heading → List ℕ → Becomes → (List ℕ → Result (List ℕ) Rule) → Becomes → List Row → List Row → List Row → Row → Type 0
Step heading sign first second both past behind made row =
    (marked (marking_of heading sign both) past row ≡ Ok (out (rewrite (second_is heading second)) behind made)) × Behind (row ∷ past) (passed behind made)

values_step : (heading : Heading) (sign : List ℕ) (first : Becomes) (second : List ℕ → Result (List ℕ) Rule) (both : Becomes) → Signs sign first second both
    → (past behind made : List Row) (tokens : List (List ℕ)) → IsOpen past → IsOpen behind → Behind past behind
    → rewrite (following sign first) past (Spined Values tokens) ≡ Ok made → Fine (rewrite (second_is heading second)) behind made
    → Step heading sign first second both past behind made (Spined Values tokens)
values_step heading sign first second both h past behind made tokens right sound holds e fine =
    go (all_rewritten first (kern_columns past) (columns past) tokens) refl e
  where
    wide : length (columns past) ≡ length (kern_columns past)
    wide = columns_width past right ∙ sym (length-map (exclusives (path_after past)) is_kern)

    as_wide : length (columns behind) ≡ length (kern_columns past)
    as_wide = columns_width behind sound ∙ ap width holds ∙ sym (length-map (exclusives (path_after past)) is_kern)

    both_is : marked (marking_of heading sign both) past (Spined Values tokens) ≡ with_values (all_rewritten both (kern_columns past) (columns past) tokens)
    both_is = grind (arith, nat_tests)

    second_row : (q : Result (List (List ℕ)) Rule) → Taken (data_record q) → with_values q ≡ Ok (made_by (data_record q) ++ [])
    second_row = grind (arith, nat_tests)

    one : (texts : List (List ℕ)) → all_rewritten first (kern_columns past) (columns past) tokens ≡ Ok texts → Spined Values texts ∷ [] ≡ made
        → Step heading sign first second both past behind made (Spined Values tokens)
    one texts is row =
        let same : all_rewritten both (kern_columns past) (columns past) tokens ≡ all_rewritten (λ _. second) (kern_columns behind) (columns behind) texts =
        all_tokens first second both h.agree (kern_columns past) (columns past) (columns behind) tokens texts wide as_wide is
        ∙ ap (λ (p : Path). all_rewritten (λ _. second) (map is_kern (exclusives p)) (columns behind) texts) (sym holds) in
        let took : Taken (data_record (all_rewritten (λ _. second) (kern_columns behind) (columns behind) texts)) = (rw (← row) at fine).0 in
        rw (← row) (both_is ∙ ap with_values same ∙ second_row (all_rewritten (λ _. second) (kern_columns behind) (columns behind) texts) took, holds)

    go : (r : Result (List (List ℕ)) Rule) → all_rewritten first (kern_columns past) (columns past) tokens ≡ r → data_record r ≡ Ok made
        → Step heading sign first second both past behind made (Spined Values tokens)
    go = grind (arith, nat_tests, one, fit_only)

-- what the second makes of an interpretation with **kern and of the record with the sign behind it
two_rows : (heading : Heading) (sign : List ℕ) (second : List ℕ → Result (List ℕ) Rule) (both : Becomes) (past behind : List Row) (tokens : List (List ℕ))
    → is_kern sign ≡ false → list_any is_kern tokens ≡ true
    → Fine (rewrite (second_is heading second)) behind (Spined Interpretation tokens ∷ Spined Interpretation (map (headed (Followed sign)) tokens) ∷ [])
    → marked (marking_of heading sign both) past (Spined Interpretation tokens)
    ≡ Ok (out (rewrite (second_is heading second)) behind (Spined Interpretation tokens ∷ Spined Interpretation (map (headed (Followed sign)) tokens) ∷ []))
two_rows = grind (arith, nat_tests, fits_as, name_below, no_kern_below)

steering_step : (heading : Heading) (sign : List ℕ) (first : Becomes) (second : List ℕ → Result (List ℕ) Rule) (both : Becomes) → Signs sign first second both
    → (past behind made : List Row) (tokens : List (List ℕ)) → Behind past behind
    → rewrite (following sign first) past (Spined Interpretation tokens) ≡ Ok made →
    Follow (path_after behind) made → Fine (rewrite (second_is heading second)) behind made
    → Step heading sign first second both past behind made (Spined Interpretation tokens)
steering_step heading sign first second both h past behind made tokens holds e goes fine =
    by_bool (list_any is_kern tokens) (λ some. two some (fit_only _ made e)) (λ none. one none (fit_only _ made e))
  where
    below : List (List ℕ)
    below = map (headed (Followed sign)) tokens

    names : List (List ℕ)
    names = names_after (path_after behind) tokens

    two : list_any is_kern tokens ≡ true → with_heading (Followed sign) tokens ≡ made →
        Step heading sign first second both past behind made (Spined Interpretation tokens)
    two some is =
        let rows : Spined Interpretation tokens ∷ Spined Interpretation below ∷ [] ≡ made = rw some at is in
        let follow = rw (← rows) at goes in
        let stays = plain_stays names below (below_plain sign tokens h.plain) (sound_width names below follow.1.0) in
        rw (← rows) (
          two_rows heading sign second both past behind tokens h.no_kern some (rw (← rows) at fine),
          ap Spines stays ∙ ap (λ (p : Path). after p (Spined Interpretation tokens)) holds,
        )

    one : list_any is_kern tokens ≡ false → with_heading (Followed sign) tokens ≡ made →
        Step heading sign first second both past behind made (Spined Interpretation tokens)
    one = grind (arith, nat_tests)

step : (heading : Heading) (sign : List ℕ) (first : Becomes) (second : List ℕ → Result (List ℕ) Rule) (both : Becomes) → Signs sign first second both
    → (past behind made : List Row) (row : Row) → IsOpen (row ∷ past) → IsOpen behind → Behind past behind
    → rewrite (following sign first) past row ≡ Ok made → Follow (path_after behind) made → Fine (rewrite (second_is heading second)) behind made
    → Step heading sign first second both past behind made row
step (Renamed name) sign first second both h past behind made (Comment text) right sound holds e goes fine =
    let is : Comment text ∷ [] ≡ made = cc in rw (← is) (refl, holds)
step (Followed other) sign first second both h past behind made (Comment text) right sound holds e goes fine =
    let is : Comment text ∷ [] ≡ made = cc in rw (← is) (refl, holds)
step (Renamed name) sign first second both h past behind made (Spined Local tokens) right sound holds e goes
    fine = let is : Spined Local tokens ∷ [] ≡ made = cc in rw (← is) (refl, holds)
step (Followed other) sign first second both h past behind made (Spined Local tokens) right sound holds e goes
    fine = let is : Spined Local tokens ∷ [] ≡ made = cc in rw (← is) (refl, holds)
step heading sign first second both h past behind made (Spined Interpretation tokens) right sound holds e goes fine =
    steering_step heading sign first second both h past behind made tokens holds e goes fine
step heading sign first second both h past behind made (Spined Values tokens) right sound holds e goes fine =
    values_step heading sign first second both h past behind made tokens right.0 sound holds e fine

-- Two commands, the first with a sign, come to the marking.
pub marks : (heading : Heading) (sign : List ℕ) (first : Becomes) (second : List ℕ → Result (List ℕ) Rule) (both : Becomes) → Signs sign first second both
    → (p rows : List Row) → IsScore p → RunsBehind (rewrite (following sign first)) (rewrite (second_is heading second)) p rows
    → rows ≡ all_marked (marking_of heading sign both) p
marks heading sign first second both h p rows score runs =
    comes_to (rewrite (following sign first)) (rewrite (second_is heading second)) (marked (marking_of heading sign both)) Behind
    (record { opening = refl; step = step heading sign first second both h }) p rows score runs

-- One command, as a marking.
abbrev pub alone_marking : Heading → Becomes → Marking
alone_marking (Renamed name) becomes = record { name = Some name; signs = []; becomes = becomes }
alone_marking (Followed sign) becomes = record { name = None; signs = sign ∷ []; becomes = becomes }

alone_from : (heading : Heading) (becomes : Becomes) (past p : List Row) → Fine (rewrite (record { heading = heading; becomes = becomes })) past p
    → settled (decisions (marked (alone_marking heading becomes)) past p) ≡ out (rewrite (record { heading = heading; becomes = becomes })) past p
alone_from heading becomes past [] fine = refl
alone_from heading becomes past (row ∷ p) fine =
    grind (arith, nat_tests, alone_from heading becomes (row ∷ past) p fine.1)

pub alone_marks : (heading : Heading) (becomes : Becomes) (p rows : List Row) → RunsTo (rewrite (record { heading = heading; becomes = becomes })) p rows
    → rows ≡ all_marked (alone_marking heading becomes) p
alone_marks heading becomes p rows runs = runs.gives ∙ sym (alone_from heading becomes [] p runs.fine)
