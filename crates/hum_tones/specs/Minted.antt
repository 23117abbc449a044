-- What a cell becomes, as it is kept: a short text, or by what its text is made of.
use Rattle.std.specs.Prelude.{ℕ, List, Option, None, Some, option_map, Result, Ok}
use Rattle.hum_pitch.specs.Given.{spelled}
use Rattle.hum_stage.specs.declared.faults.Rule.{Rule}
use Rattle.hum_tones.specs.declared.interval_names.ShortName.{ShortName}
use Rattle.hum_tones.specs.declared.minting.Approach.{Approach}
use Rattle.hum_tones.specs.IntervalNames.{text_at}
use Rattle.hum_tones.specs.Hearing.{heard_by}
use Rattle.hum_tones.specs.Memory.{told_as}

abbrev pub told_by : Option ShortName → Approach → Result (List ℕ) Rule
told_by (Some name) approach = Ok (text_at name.place)
told_by None approach =
    told_as approach.naming.signless approach.naming.sizeonly (option_map spelled approach.before)
    (heard_by approach.heard)
