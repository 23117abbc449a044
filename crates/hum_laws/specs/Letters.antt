-- The letters of the command rid, put together.
use Rattle.std.specs.Prelude.{◌||◌}
use Rattle.hum_choices.specs.declared.rid.RidOptions.{RidOptions}

-- the letters of both
abbrev pub joint : RidOptions → RidOptions → RidOptions
joint some more = record {
  global_comments = some.global_comments || more.global_comments;
  empty_global_comments = some.empty_global_comments || more.empty_global_comments;
  local_comments = some.local_comments || more.local_comments;
  null_local_comments = some.null_local_comments || more.null_local_comments;
  interpretations = some.interpretations || more.interpretations;
  null_interpretations = some.null_interpretations || more.null_interpretations;
  tandems = some.tandems || more.tandems;
  values = some.values || more.values;
  null_values = some.null_values || more.null_values;
}
