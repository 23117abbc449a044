-- Scores stay scores.
use Rattle.std.proofs.Common.{◌≡◌, ◌∙◌, refl, sym, ap, ℕ, suc, Bool, true, false}
use Rattle.std.proofs.Common.{List, [], ◌∷◌, length, map, arith}
use Rattle.std.specs.Prelude.{None, Result, Ok, Err}
use Rattle.std.specs.List.{list_any, find}
use Rattle.std.specs.Str.{bytes_eq}
use Rattle.std.proofs.lemmas.Bool.{and_from}
use Rattle.std.proofs.lemmas.Bool.Decides.{nat_tests}
use Rattle.std.proofs.lemmas.Slice.Eq.{bytes_eq-Decides}
use Rattle.std.proofs.lemmas.List.{length-map}
use lib.Chars.{codes}
use Rattle.hum_score.specs.declared.records.SpinedKind.TheVariants.{Local, Interpretation, Values}
use Rattle.hum_score.specs.Row.{Row, Comment, Spined}
use Rattle.hum_score.specs.Spelling.{is_empty}
use Rattle.hum_score.specs.declared.spines.Sign.{Sign}
use Rattle.hum_score.specs.declared.spines.Sign.TheVariants.{Exclusive}
use Rattle.hum_score.specs.Sign.{sign_of, is_exclusive, is_plain, all_plain}
use Rattle.hum_score.specs.Spines.{Path, Unopened, Spines, names_after}
use Rattle.hum_score.specs.Rules.{breaks, breaks_as_text, in_order, is_unfinished}
use Rattle.hum_score.specs.Score.{IsOpen, path_after}
use Rattle.hum_path.specs.Chains.{columns}
use Rattle.hum_score.proofs.Cases.{by_bool}
use Rattle.hum_path.proofs.Changed.{KeepsToken, changed_path, changed_empty, changed_names, changed_sound}
use Rattle.hum_path.proofs.Kept.{text_alike, text_fills, text_sound, exclusive_filled, plain_behind}
use Rattle.hum_stage.specs.declared.faults.Rule.{Rule}
use Rattle.hum_score.specs.InOrder.{through, Follow}
use Rattle.hum_stage.specs.Meaning.{KeepsScore}
use Rattle.hum_stage.specs.Decided.{decisions, limit}
use Rattle.hum_stage.proofs.Keeping.{at_once_keeps}
use Rattle.hum_cells.specs.Rewriting.{Heading, Renamed, Followed, Rewriting, is_kern, kern_columns}
use Rattle.hum_cells.specs.Rewriting.{if_fit, data_record, headed, with_heading, beside, rewritten, all_rewritten}
use Rattle.hum_cells.specs.Rewriting.{rewrite, IsHeading}

-- the spines of the records that are given
abbrev pub led : Heading → Path → Path
led (Renamed name) path = changed_path (headed (Renamed name)) path
led (Followed tandem) path = path

-- Records break no rule on a path, and lead to another.
abbrev pub Reach : Path → List Row → Path → Type 0
Reach path rows end = Follow path rows × (through path rows ≡ end)

exclusive_is : (s : Sign) → is_exclusive s ≡ true → s ≡ Exclusive
exclusive_is = grind (arith, nat_tests)

kern_is : (t : List ℕ) → is_kern t ≡ true → codes "**kern" ≡ t
kern_is t h = (bytes_eq-Decides (codes "**kern") t).0 h

-- a token under a new name
renamed_keeps : (name : List ℕ) → is_exclusive (sign_of name) ≡ true → bytes_eq (codes "**") name ≡ false → KeepsToken (headed (Renamed name))
renamed_keeps name exclusive named = record {
  nothing = refl;
  sign = λ t. by_bool (is_kern t)
      (λ w. rw w (exclusive_is (sign_of name) exclusive ∙ ap sign_of (kern_is t w)))
      (λ w. rw w refl);
  empty = λ t. by_bool (is_kern t)
      (λ w. rw w (exclusive_filled name exclusive ∙ ap is_empty (kern_is t w)))
      (λ w. rw w refl);
  bare = λ t h. by_bool (is_kern t) (λ w. rw w named) (λ w. rw w h);
}

text_led : (heading : Heading) (path : Path) (old tokens : List (List ℕ)) → IsHeading heading → find (breaks_as_text path old) in_order ≡ None
    → length tokens ≡ length old → find (breaks_as_text (led heading path) tokens) in_order ≡ None
text_led (Followed tandem) path old tokens lawful h e = text_alike path old tokens e ∙ h
text_led (Renamed name) Unopened old tokens lawful h e = cc
text_led (Renamed name) (Spines names) old tokens lawful h e =
    let new = headed (Renamed name) in
    let fills = text_fills names old h in
    let size = length-map names new in
    text_sound (map new names) tokens (record {
      some = rw size fills.some;
      wide = e ∙ fills.wide ∙ sym size;
      named = changed_empty new (renamed_keeps name lawful.1 lawful.2) names ∙ fills.named;
    })

-- the record that goes behind

kern_exclusive : (tokens : List (List ℕ)) → list_any is_kern tokens ≡ true → list_any is_exclusive (map sign_of tokens) ≡ true
kern_exclusive [] h = h
kern_exclusive (t ∷ ts) h = grind (arith, nat_tests, bytes_eq-Decides, kern_exclusive ts)

behind_plain : (tandem : List ℕ) (tokens : List (List ℕ)) → is_plain (sign_of tandem) ≡ true → all_plain (map (headed (Followed tandem)) tokens) ≡ true
behind_plain tandem [] h = refl
behind_plain tandem (t ∷ ts) h =
    and_from _ _ (by_bool (is_kern t) (λ w. rw w h) (λ w. rw w refl)) (behind_plain tandem ts h)

-- an interpretation
heading_next : (heading : Heading) (path : Path) (tokens : List (List ℕ)) → IsHeading heading → find (breaks path tokens) in_order ≡ None
    → Reach (led heading path) (with_heading heading tokens) (led heading (Spines (names_after path tokens)))
heading_next (Renamed name) path tokens lawful h =
    let new = headed (Renamed name) in
    let keeps = renamed_keeps name lawful.1 lawful.2 in
    ((changed_sound new keeps path tokens h, tt), ap Spines (changed_names new keeps path tokens))
heading_next (Followed tandem) path tokens lawful h = by_bool (list_any is_kern tokens)
    (λ some.
    let below = map (headed (Followed tandem)) tokens in
    let size = length-map tokens (headed (Followed tandem)) in
    let more = plain_behind path tokens below (kern_exclusive tokens some) h (behind_plain tandem tokens lawful.1) size in
    rw some ((h, (more.0, tt)), ap Spines more.1))
    (λ none. rw none ((h, tt), refl))

fit_only : (rows out : List Row) → if_fit rows ≡ Ok out → rows ≡ out
fit_only = grind (arith, nat_tests)

-- as many tokens as before
beside_size : (first : Result (List ℕ) Rule) (rest : Result (List (List ℕ)) Rule) (n : ℕ) (out : List (List ℕ))
    → ((ts : List (List ℕ)) → rest ≡ Ok ts → length ts ≡ n) → beside first rest ≡ Ok out → length out ≡ suc n
beside_size = grind (arith, nat_tests)

told_size : (becomes : List (List ℕ) → List ℕ → Result (List ℕ) Rule) (kerns : List Bool) (columns : List (List (List ℕ))) (tokens out : List (List ℕ))
    → all_rewritten becomes kerns columns tokens ≡ Ok out → length out ≡ length tokens
told_size becomes (k ∷ ks) (c ∷ cs) (t ∷ ts) out e =
    beside_size (rewritten becomes k c t) (all_rewritten becomes ks cs ts) (length ts) out (λ more is. told_size becomes ks cs ts more is) e
told_size becomes kerns columns tokens out e = grind (arith, nat_tests)

data_next : (heading : Heading) (path : Path) (tokens : List (List ℕ)) (told : Result (List (List ℕ)) Rule) (rows : List Row) → IsHeading heading
    → find (breaks_as_text path tokens) in_order ≡ None → ((out : List (List ℕ)) → told ≡ Ok out → length out ≡ length tokens)
    → data_record told ≡ Ok rows → Reach (led heading path) rows (led heading path)
data_next heading path tokens (Ok out) rows lawful h size e = grind (arith, nat_tests, fit_only, text_led)
data_next heading path tokens (Err rule) rows lawful h size e = cc

rewrite_next : (rewriting : Rewriting) (past : List Row) (row : Row) (given : Path) (rows : List Row) → IsHeading rewriting.heading → IsOpen (row ∷ past)
    → given ≡ led rewriting.heading (path_after past) → rewrite rewriting past row ≡ Ok rows
    → Reach given rows (led rewriting.heading (path_after (row ∷ past)))
rewrite_next rewriting past (Comment text) given rows lawful sound leads e = grind (arith, nat_tests)
rewrite_next rewriting past (Spined Local tokens) given rows lawful sound leads e =
    grind (arith, nat_tests, text_led)
rewrite_next rewriting past (Spined Interpretation tokens) given rows lawful sound leads e =
    rw (← fit_only (with_heading rewriting.heading tokens) rows e, leads)
    (heading_next rewriting.heading (path_after past) tokens lawful sound.1)
rewrite_next rewriting past (Spined Values tokens) given rows lawful sound leads e =
    rw leads (data_next rewriting.heading (path_after past) tokens (all_rewritten rewriting.becomes (kern_columns past) (columns past) tokens) rows lawful sound.1
    (λ out is. told_size rewriting.becomes (kern_columns past) (columns past) tokens out is) e)

led_closed : (heading : Heading) (path : Path) → is_unfinished path ≡ false → is_unfinished (led heading path) ≡ false
led_closed = grind (arith, nat_tests, length-map)

led_unopened : (heading : Heading) → Unopened ≡ led heading Unopened
led_unopened = grind (arith, nat_tests)

pub rewrite_keeps : (rewriting : Rewriting) → IsHeading rewriting.heading → KeepsScore (λ p. limit 4294967295 (decisions (rewrite rewriting) [] p))
rewrite_keeps rewriting lawful = at_once_keeps (rewrite rewriting) (λ past given. given ≡ led rewriting.heading (path_after past)) (record {
  opening = led_unopened rewriting.heading;
  next = λ past row given rows sound leads e. rewrite_next rewriting past row given rows lawful sound leads e;
  closing = λ past given sound end leads. rw leads (led_closed rewriting.heading (path_after past) end);
})
