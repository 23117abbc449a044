-- Tokens that are told by what their parts give.
use Rattle.std.proofs.lemmas.Bool.Decides.{nat_tests}
use Rattle.std.proofs.Common.{◌≡◌, ℕ, List, arith}
use Rattle.hum_score.specs.declared.records.SpinedKind.TheVariants.{Values}
use Rattle.hum_score.specs.Spelling.{IsToken}
use Rattle.std.specs.Prelude.{None, Some, Result, Ok, Err}
use Rattle.hum_stage.specs.declared.faults.Rule.{Rule}
use Rattle.hum_stage.specs.declared.faults.Refusal.{Refusal}
use Rattle.hum_stage.specs.Refusals.{IfTold}
use Rattle.hum_cells.specs.Rewriting.{Heading}
use Rattle.hum_cells.specs.Rewriter.{Pushes, HasRewritten}
use Rattle.hum_tones.specs.declared.part_rule.PartRule.{PartRule}
use Rattle.hum_tones.specs.PartRule.{given}
use Rattle.hum_tones.specs.Subtokens.{IsRewritten}
use Rattle.hum_tones.specs.Commands.{GivesUnder}

-- what a token became, or the rule by which it is refused, is told so
pub told_so : (becomes : Result (List ℕ) Rule) (text : List ℕ) → IsRewritten becomes text None → (becomes ≡ Ok text) × IsToken Values text
told_so = grind (arith, nat_tests)

pub refused_so : (becomes : Result (List ℕ) Rule) (text : List ℕ) (rule : Rule) → IsRewritten becomes text (Some rule) → becomes ≡ Err rule
refused_so = grind (arith, nat_tests)

-- a token is rewritten by what its parts give
pub rewritten_given : {A : Type 0} (heading : Heading) (giving : PartRule) (j : ℕ) (token : List ℕ) (made making : List (List ℕ) → Type 0)
    (r : Result A Refusal) → IfTold r (Pushes (given giving token) made making)
    → IfTold r (HasRewritten (λ rewriting above. GivesUnder heading giving rewriting) (λ rewriting above. GivesUnder heading giving rewriting)
    j token made making)
rewritten_given = grind (arith, nat_tests)
