-- All fields of a score.
use Rattle.std.specs.Prelude.{[], ◌∷◌}
use Rattle.hum_choices.specs.Extract.{Choice, Fields, Number, Last}

-- 1-$
abbrev pub every_field : Choice
every_field = Fields (record { first = Number 1; last = Last } ∷ [])
