-- What the net of a plan stands for.
use Rattle.std.specs.Prelude.{◌≡◌, ℕ, true, List, [], length, Option, None}
use Rattle.hum_text.specs.declared.calls.Sink.{Ghosts as Sink}
use Rattle.hum_score.specs.Row.{Row}
use Rattle.hum_stage.specs.declared.contract.Stage.{Ghosts as Commands}
use Rattle.hum_turns.specs.Links.{fresh}
use Rattle.hum_turns.specs.Failures.{Now, is_ready}
use Rattle.hum_nodes.specs.Trees.{kind_at}
use Rattle.hum_commands.specs.declared.stages.CommandStage.{CommandStage}
use Rattle.hum_commands.specs.contracts.stages.CommandStageStage.TheImpl as stage
use Rattle.hum_engine.specs.declared.net.Net.{Net}
use Rattle.hum_engine.specs.Scene.{Scene, plan_of}
use Rattle.hum_engine.specs.Nets.{NetAt}
use Rattle.hum_plan.specs.Stages.{Stage}
use Rattle.hum_net.specs.Parts.{parts_of}

-- The stages of a plan over these bytes, of which each source has these still to read, with links of
-- this size.
abbrev pub scene_of : (bytes rests : ℕ → List ℕ) → List Stage → ℕ → Scene
scene_of bytes rests stages size = record {
  rests = rests;
  count = length (parts_of bytes stages);
  kinds = kind_at (parts_of bytes stages);
  size = size;
  links = λ k. fresh;
}

-- what the stages of commands stand for
abbrev pub commands : Commands CommandStage
commands = stage.ghosts

-- nothing has moved yet
abbrev pub first_now : Now Row
first_now = record { links = λ k. fresh; part = []; failure = None }

-- Whatever moment a net stands for, this actor is ready at it.
abbrev pub IsReadyNow : {S R W : Type 0} → Commands S → Sink W → ℕ → Net S R W → Type 0
IsReadyNow commands writer k net =
    (start : Option (List ℕ)) (s : Scene) (now : Now Row)
    → NetAt commands writer start s net now → is_ready (plan_of s) s.size now k ≡ true
