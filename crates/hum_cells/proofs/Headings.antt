-- Records with **kern, by their heading.
use Rattle.std.proofs.Common.{◌≡◌, refl, ℕ, ◌≤◌, Bool, true, false, List, [], ◌∷◌, length, map, cond, arith}
use Rattle.std.specs.Prelude.{Ok}
use Rattle.std.specs.List.{list_any}
use Rattle.std.proofs.lemmas.Bool.{or_parts}
use Rattle.std.proofs.lemmas.Bool.Decides.{nat_tests}
use lib.Chars.{codes}
use Rattle.hum_score.specs.declared.records.Kind.TheVariants.{Global, Interpretation as AnyInterpretation}
use Rattle.hum_score.specs.declared.records.SpinedKind.TheVariants.{Interpretation}
use Rattle.hum_score.specs.Row.{Row, Spined, kind_of, tokens_of, text_of}
use Rattle.hum_score.specs.Spelling.{IsToken, IsTokenOf}
use Rattle.hum_record.specs.Building.{spelled}
use Rattle.hum_cells.specs.Rewriting.{Heading, Renamed, Followed, Rewriting, is_kern, headed, with_heading, is_long, if_fit, rewrite, IsHeading}

comment_no_sign : Global ≡ AnyInterpretation → ⊥
comment_no_sign e = cc

-- each token of an interpretation is one
pub token_of_sign : (row : Row) (token : List ℕ) → kind_of row ≡ AnyInterpretation → IsTokenOf row token → IsToken Interpretation token
token_of_sign = grind (arith, nat_tests)

star : IsToken Interpretation (codes "*")
star = record { filled = λ e. cc; one_token = refl; one_line = refl; no_line_end = refl; of_kind = refl; no_comment = refl }

-- and so is what stands in its place
pub headed_lawful : (heading : Heading) (token : List ℕ) → IsHeading heading → IsToken Interpretation token → IsToken Interpretation (headed heading token)
headed_lawful (Renamed name) token h is = by (is_kern token)
  where
    by : (b : Bool) → IsToken Interpretation (cond b name token)
    by true = h.0
    by false = is
headed_lawful (Followed tandem) token h is = by (is_kern token)
  where
    by : (b : Bool) → IsToken Interpretation (cond b tandem (codes "*"))
    by true = h.0
    by false = star

short : (tokens : List (List ℕ)) → length (spelled tokens) ≤ 1048576 → is_long (Spined Interpretation tokens) ≡ false
short tokens within = grind (arith, nat_tests, within)

none_renamed : (name : List ℕ) (tokens : List (List ℕ)) → list_any is_kern tokens ≡ false → map (headed (Renamed name)) tokens ≡ tokens
none_renamed name [] h = refl
none_renamed name (t ∷ ts) h =
    let both = or_parts (is_kern t) (list_any is_kern ts) h in rw (both.0, none_renamed name ts both.1) refl

-- without **kern a record stays
same : (heading : Heading) (tokens : List (List ℕ)) → list_any is_kern tokens ≡ false → length (spelled tokens) ≤ 1048576
    → if_fit (with_heading heading tokens) ≡ Ok (Spined Interpretation tokens ∷ [])
same (Renamed name) tokens none within = rw (none_renamed name tokens none, short tokens within) refl
same (Followed tandem) tokens none within = rw (none, short tokens within) refl

pub sign_same : (rewriting : Rewriting) (past : List Row) (row : Row) → kind_of row ≡ AnyInterpretation → list_any is_kern (tokens_of row) ≡ false
    → length (text_of row) ≤ 1048576 → rewrite rewriting past row ≡ Ok (row ∷ [])
sign_same = grind (arith, nat_tests, comment_no_sign, same)
