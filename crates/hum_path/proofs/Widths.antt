-- There are as many chains as spines.
use Rattle.std.proofs.Common.{◌≡◌, ◌∙◌, refl, sym, ap, ℕ, suc, List, [], ◌∷◌, length, arith, None}
use Rattle.std.specs.List.{find}
use Rattle.std.proofs.lemmas.List.{length-map}
use Rattle.std.proofs.lemmas.Bool.Decides.{nat_tests}
use Rattle.hum_score.specs.declared.records.SpinedKind.TheVariants.{Interpretation}
use Rattle.hum_score.specs.Row.{Row, Comment, Spined}
use Rattle.hum_score.specs.Spines.{Path, width, moves_at, names_after}
use Rattle.hum_score.specs.Rules.{breaks_as_text, in_order}
use Rattle.hum_score.specs.Score.{IsOpen, path_after}
use Rattle.hum_path.specs.Chains.{columns, longer, origins}
use Rattle.hum_path.proofs.Steady.{same_upto_length}

-- as wide as the spines
pub text_width : (path : Path) (tokens : List (List ℕ)) → find (breaks_as_text path tokens) in_order ≡ None
    → length tokens ≡ width path
text_width = grind (arith, nat_tests)

-- as many moves as spines after
pub moves_width : (path : Path) (tokens : List (List ℕ))
    → length (moves_at path tokens) ≡ length (names_after path tokens)
moves_width = grind (arith, nat_tests, same_upto_length, length-map)

longer_length : (tokens : List (List ℕ)) (above : List (List (List ℕ))) → length tokens ≡ length above
    → length (longer tokens above) ≡ length above
longer_length (t ∷ ts) (chain ∷ above) h = ap suc (longer_length ts above (omega (arith, h)))
longer_length tokens above h = grind (arith, nat_tests)

pub columns_width : (past : List Row) → IsOpen past → length (columns past) ≡ width (path_after past)
columns_width [] h = refl
columns_width (Comment text ∷ past) h = columns_width past h.0
columns_width (Spined Interpretation tokens ∷ past) h = grind (arith, nat_tests, length-map, moves_width)
columns_width (Spined kind tokens ∷ past) h =
    let ih = columns_width past h.0 in longer_length tokens (columns past) (text_width (path_after past) tokens h.1 ∙ sym ih) ∙ ih

pub origins_width : (past : List Row) → IsOpen past → length (origins past) ≡ width (path_after past)
origins_width [] h = refl
origins_width (Comment text ∷ past) h = origins_width past h.0
origins_width (Spined Interpretation tokens ∷ past) h = grind (arith, nat_tests, length-map, moves_width)
origins_width (Spined kind tokens ∷ past) h = origins_width past h.0
