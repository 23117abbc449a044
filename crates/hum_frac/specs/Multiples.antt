-- Multiples of a fraction that is above 0.
use Rattle.std.specs.Prelude.{ℕ, ◌+◌, ◌-◌, ◌*◌, ◌/◌, ◌%◌, ◌<◌, ◌≤◌, ◌↔◌}
use Rattle.std.specs.Prelude.{◌==◌, Bool}
use Rattle.hum_frac.specs.Ratio.{Ratio, IsSame, IsBefore}

-- k times t
abbrev pub times : ℕ → Ratio → Ratio
times k t = record { top = k * t.top; bottom = t.bottom }

-- a is some number of times t
abbrev pub IsMultiple : Ratio → Ratio → Type 0
IsMultiple a t = (k : ℕ) × IsSame (times k t) a

abbrev pub is_multiple : Ratio → Ratio → Bool
is_multiple a t = (a.top * t.bottom) % (a.bottom * t.top) == 0

-- The multiples of t that are greater than a and less than b are those of so many numbers, one
-- after another.
abbrev pub AreBetween : Ratio → Ratio → Ratio → ℕ → Type 0
AreBetween a b t count = (first : ℕ) × ((k : ℕ)
    → (IsBefore a (times k t) × IsBefore (times k t) b) ↔ ((first ≤ k) × (k < first + count)))

-- the number of the first multiple of t that is greater than a
abbrev pub first_after : Ratio → Ratio → ℕ
first_after a t = (a.top * t.bottom) / (a.bottom * t.top) + 1

-- the number of the first that isn't less
abbrev pub first_from : Ratio → Ratio → ℕ
first_from a t = (a.top * t.bottom + (a.bottom * t.top - 1)) / (a.bottom * t.top)

-- how many multiples of t are greater than a and less than b
abbrev pub multiples_between : Ratio → Ratio → Ratio → ℕ
multiples_between a b t = first_from b t - first_after a t
