-- What contracts see of a plan's stages.
use Rattle.std.specs.Prelude.{List, map, string_bytes}
use Rattle.hum_choices.specs.Options as told
use Rattle.hum_plan.specs.declared.stages.Options.{Options as WrittenOptions}
use Rattle.hum_plan.specs.declared.stages.Options.TheVariants as options
use Rattle.hum_plan.specs.declared.stages.PlanStage.{PlanStage}
use Rattle.hum_plan.specs.Stages.{Stage, Options, Read, Assemble, Takes}

-- options, wherever their texts lie
abbrev pub options_of : WrittenOptions → Options
options_of (options.Read name) = Read (string_bytes name)
options_of options.Assemble = Assemble
options_of (options.Command command) = Takes (told.options_of command)

abbrev pub stage_of : PlanStage → Stage
stage_of stage = record {
  command = stage.command;
  sources = stage.sources.items;
  options = options_of stage.options;
}

abbrev pub stages_of : List PlanStage → List Stage
stages_of = map stage_of
