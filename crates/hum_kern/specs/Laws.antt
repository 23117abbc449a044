-- What holds of durations: a plain number is read in decimal, and what is read is read again.
use Rattle.std.specs.Prelude.{◌≡◌, ℕ, ◌-◌, ◌<◌, ◌≤◌, ◌↔◌, List, length, take}
use Rattle.std.specs.Prelude.{drop, Some, Ok, decimal}
use Rattle.hum_frac.specs.Ratio.{Ratio, reduced}
use Rattle.hum_kern.specs.declared.Length.{Length}
use Rattle.hum_kern.specs.Value.{part_of}
use Rattle.hum_kern.specs.Duration.{duration, recip}

-- digits that stand for a part of a whole note, or for a number of a quotient: those that a number
-- from 1 to 4,096 is written with
abbrev pub IsPartInDecimal : List ℕ → ℕ → Type 0
IsPartInDecimal digits n =
    (part_of digits ≡ Some n) ↔ ((digits ≡ decimal n) × (0 < n) × (n ≤ 4096))

-- A number from 1 to 4,096 is that part of a whole note.
abbrev pub IsPartOfAWholeNote : ℕ → Type 0
IsPartOfAWholeNote n =
    0 < n → n ≤ 4096 → recip (decimal n) ≡ Ok (reduced (record { top = 1; bottom = n }))

-- where a duration is read in a text, the bytes between its start and its end are that duration,
-- and nothing else
abbrev pub IsReadAgain : List ℕ → Length → Ratio → Type 0
IsReadAgain bytes found value =
    duration bytes ≡ Ok found → found.value ≡ Some value
    → recip (take (found.end - found.start) (drop found.start bytes)) ≡ Ok value

-- four digits on each side of a percent sign, and six dots
abbrev pub IsShort : List ℕ → Ratio → Type 0
IsShort bytes value = recip bytes ≡ Ok value → length bytes ≤ 15
