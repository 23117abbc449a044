-- A node of what a command means fits a stage of a plan that says so.
use Rattle.std.proofs.Common.{◌≡◌, refl, sym, subst, ℕ, ◌+◌, List, map}
use Rattle.std.specs.Prelude.{pred}
use Rattle.hum_stage.specs.Meaning.{IsLawful, KeepsScore}
use Rattle.hum_commands.specs.Meaning.{meaning, MakesScores}
use Rattle.hum_choices.specs.declared.CommandOptions.{CommandOptions}
use Rattle.hum_choices.specs.declared.CommandOptions.TheVariants as told
use Rattle.hum_stage.specs.declared.contract.Stage.{Ghosts as Commands}
use Rattle.hum_nodes.specs.declared.node.Node.{Node}
use Rattle.hum_nodes.specs.Nodes.{StandsAs}
use Rattle.hum_nodes.specs.At.{fresh}
use Rattle.hum_nodes.specs.Trees.{kind_of}
use Rattle.hum_nodes.specs.Single.{single}
use Rattle.hum_nodes.specs.Merging.{merging}
use Rattle.hum_choices.specs.Options.{options_of}
use Rattle.hum_plan.specs.Stages as plan
use Rattle.hum_plan.specs.Seen.{options_of as said_by}
use Rattle.hum_plan.specs.declared.stages.Options.{Options}
use Rattle.hum_plan.specs.declared.stages.Options.TheVariants as said
use Rattle.hum_plan.specs.declared.stages.PlanStage.{PlanStage}
use Rattle.hum_valid.specs.Records.{KeepsRecords}
use Rattle.hum_net.specs.Parts.{IsSoundBy, first_of, part_by}
use Rattle.hum_net.specs.Nodes.{Fits}

numbered : (n : ℕ) (options : CommandOptions) → (meaning n options).stage ≡ n
numbered n (told.Rid options) = refl
numbered n _ = refl

is_sound : (n : ℕ) (options : CommandOptions) → IsLawful (meaning n options)
    → (MakesScores options → KeepsScore (meaning n options).outcomes) → KeepsRecords (meaning n options).outcomes
    → IsSoundBy n (plan.Takes (options_of options))
is_sound n options lawful keeps records = (lawful, numbered n options, keeps, records)

-- what fits a stage of these sources and options
abbrev FitsBy : {S R : Type 0} → Commands S → ℕ → List ℕ → plan.Options → Node S R → Type 0
FitsBy commands k sources options node =
    ((bytes : List ℕ)
    → StandsAs commands.stands node bytes (fresh (kind_of (k + 1) (part_by k bytes sources options))))
    × IsSoundBy (k + 1) options

module _ {S R : Type 0} (commands : Commands S) (k number : ℕ) (stage : PlanStage) where
  by_parts : (sources : List ℕ) (options : Options) (node : Node S R) → stage.options ≡ options
      → stage.sources.items ≡ sources → FitsBy commands k sources (said_by options) node → Fits commands k stage node
  by_parts sources options node told at fits =
      subst (λ (o : Options). FitsBy commands k stage.sources.items (said_by o) node) (sym told)
      (subst (λ (l : List ℕ). FitsBy commands k l (said_by options) node) (sym at) fits)

  -- of a command, whose node has a copy of what the stage is told
  pub command_fits : (options copy : CommandOptions) (source : ℕ) (node : Node S R)
      → stage.options ≡ said.Command options → options_of copy ≡ options_of options
      → source ≡ first_of stage.sources.items
      → ((rest : List ℕ) → StandsAs commands.stands node rest (fresh (single source (meaning number copy))))
      → IsLawful (meaning number copy)
      → (MakesScores copy → KeepsScore (meaning number copy).outcomes)
      → KeepsRecords (meaning number copy).outcomes → number ≡ k + 1 → Fits commands k stage node
  command_fits options copy source node told same first fits lawful keeps records is =
      let At : ℕ → List ℕ → ℕ → Type 0 = λ s rest n.
      StandsAs commands.stands node rest (fresh (single s (meaning n copy))) in
      by_parts stage.sources.items (said.Command options) node told refl
      (subst (λ o. FitsBy commands k stage.sources.items (plan.Takes o) node) same (
        λ bytes. subst (λ s. At s bytes (k + 1)) first (subst (At source bytes) is (fits bytes)),
        subst (λ n. IsSoundBy n (plan.Takes (options_of copy))) is (is_sound number copy lawful keeps records),
      ))

  -- of assemble
  pub assemble_fits : (sources : List ℕ) (node : Node S R) → stage.options ≡ said.Assemble
      → sources ≡ map pred stage.sources.items
      → ((rest : List ℕ) → StandsAs commands.stands node rest (fresh (merging number sources))) → number ≡ k + 1
      → Fits commands k stage node
  assemble_fits sources node told at fits is =
      let At : List ℕ → ℕ → List ℕ → Type 0 = λ rest n from.
      StandsAs commands.stands node rest (fresh (merging n from)) in
      by_parts stage.sources.items said.Assemble node told refl
      (λ bytes. subst (At bytes (k + 1)) at (subst (λ n. At bytes n sources) is (fits bytes)), tt)
