-- What the command recip makes of a token: the durations of its parts as they are written.
use Rattle.std.specs.Prelude.{ℕ, ◌-◌, List, [], ◌++◌, take, drop, if◌then◌else◌}
use Rattle.std.specs.Prelude.{Option, None, Some, Result, Ok, Err}
use lib.Chars.{codes}
use Rattle.hum_frac.specs.Ratio.{Ratio}
use Rattle.hum_kern.specs.declared.KernFault.{KernFault}
use Rattle.hum_kern.specs.declared.Length.{Length}
use Rattle.hum_kern.specs.Duration.{duration}
use Rattle.hum_kern.specs.Note.{is_rest}
use Rattle.hum_stage.specs.declared.faults.Rule.{Rule}
use Rattle.hum_tones.specs.Faults.{rule_of}

-- r behind the duration of a rest
abbrev pub rest_sign : List ℕ → List ℕ
rest_sign part = if is_rest part then codes "r" else []

-- the duration's text
abbrev pub written : Length → List ℕ → List ℕ
written found part = take (found.end - found.start) (drop found.start part)

-- what a part gives: its duration as it is written, and r for a rest
abbrev pub by_value : Option Ratio → Length → List ℕ → Option (List ℕ)
by_value (Some value) found part = Some (written found part ++ rest_sign part)
by_value None found part = if is_rest part then Some (codes "r") else None

abbrev pub by_length : Result Length KernFault → List ℕ → Result (Option (List ℕ)) Rule
by_length (Ok found) part = Ok (by_value found.value found part)
by_length (Err fault) part = Err (rule_of fault)

abbrev pub recip_of : List ℕ → Result (Option (List ℕ)) Rule
recip_of part = by_length (duration part) part
