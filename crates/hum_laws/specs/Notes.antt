-- Commands on the notes of kern columns.
use Rattle.hum_choices.specs.declared.CommandOptions.{CommandOptions}
use Rattle.hum_choices.specs.declared.CommandOptions.TheVariants.{Trans, Semits, Mint, Recip}

-- one that gives kern columns another name
abbrev pub NamesColumns : CommandOptions → Type 0
NamesColumns (Semits options) = Unit {0}
NamesColumns (Mint options) = Unit {0}
NamesColumns (Recip options) = Unit {0}
NamesColumns _ = ⊥

-- any one
abbrev pub IsOnNotes : CommandOptions → Type 0
IsOnNotes (Trans options) = Unit {0}
IsOnNotes (Semits options) = Unit {0}
IsOnNotes (Mint options) = Unit {0}
IsOnNotes (Recip options) = Unit {0}
IsOnNotes _ = ⊥
