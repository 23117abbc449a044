-- The rules on what the tokens of an interpretation ask of the spines.
use Rattle.std.specs.Prelude.{◌≡◌, ◌≤◌, ℕ, List, [], ◌∷◌, length, Option, None, Result, Ok, Err}
use Rattle.hum_score.specs.declared.spines.PathFault.{PathFault}
use Rattle.hum_score.specs.declared.spines.PathFault.TheVariants.{P3, P4, P5, P6, P10, P11}
use Rattle.hum_path.specs.declared.steering.NextSpines.{NextSpines}
use Rattle.hum_score.specs.Spines.{Path, moves_at, names_after}
use Rattle.hum_score.specs.Texts.{texts}
use Rattle.hum_score.specs.Rules.{Refuses}

-- their order, where an interpretation is as wide as the spines
abbrev pub on_signs : List PathFault
on_signs = P6 ∷ P10 ∷ P11 ∷ P3 ∷ P4 ∷ P5 ∷ []

-- where no rule is broken, the moves and the exclusive interpretations after an interpretation; else
-- the first rule that is
abbrev pub IsStepBy : Option PathFault → Path → List (List ℕ) → Result NextSpines PathFault → Type 0
IsStepBy broken path tokens (Ok next) =
    (broken ≡ None)
    × (next.moves.items ≡ moves_at path tokens)
    × (texts next.names.items ≡ names_after path tokens)
    × (length next.names.items ≤ 4096)
IsStepBy broken path tokens (Err fault) = Refuses fault broken
