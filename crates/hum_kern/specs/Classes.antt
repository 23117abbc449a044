-- The bytes that notes and durations are read by.
use Rattle.std.specs.Prelude.{ℕ, ◌==◌, nat_le, Bool, ◌&&◌, ◌||◌, not}
use Rattle.hum_kern.specs.declared.runs.Class.{Class}
use Rattle.hum_kern.specs.declared.runs.Class.TheVariants.{Digit, Other, Dot}
use Rattle.hum_kern.specs.declared.runs.Class.TheVariants.{NoLetter, Repeat, Sign, Plain}

abbrev pub is_digit : ℕ → Bool
is_digit b = nat_le 48 b && nat_le b 57

abbrev pub is_dot : ℕ → Bool
is_dot b = b == 46

-- q and Q, the signs of a grace note
abbrev pub is_grace_sign : ℕ → Bool
is_grace_sign b = b == 113 || b == 81

-- what makes a token more than one plain subtoken: a space, or the sign of a grace note
abbrev pub is_divider : ℕ → Bool
is_divider b = b == 32 || is_grace_sign b

-- r, the sign of a rest
abbrev pub is_rest_sign : ℕ → Bool
is_rest_sign b = b == 114

-- _ and ], the signs of a tie that goes on and of one that ends
abbrev pub is_continued_sign : ℕ → Bool
is_continued_sign b = b == 95 || b == 93

abbrev pub is_mark : ℕ → Bool
is_mark b = is_rest_sign b || (is_grace_sign b || is_continued_sign b)

-- a to g
abbrev pub is_small : ℕ → Bool
is_small b = nat_le 97 b && nat_le b 103

-- A to G
abbrev pub is_capital : ℕ → Bool
is_capital b = nat_le 65 b && nat_le b 71

-- the letters of pitches
abbrev pub is_letter : ℕ → Bool
is_letter b = is_small b || is_capital b

-- #, - and n, the signs of accidentals
abbrev pub is_sign : ℕ → Bool
is_sign b = b == 35 || (b == 45 || b == 110)

abbrev pub is_natural_sign : ℕ → Bool
is_natural_sign b = b == 110

-- what parts subtokens
abbrev pub is_space : ℕ → Bool
is_space b = b == 32

-- what says nothing of a note: neither a letter nor a sign nor a mark, nor what parts notes
abbrev pub is_plain : ℕ → Bool
is_plain b = not (is_letter b || (is_sign b || (is_mark b || is_space b)))

abbrev pub is_in : Class → ℕ → Bool
is_in Digit b = is_digit b
is_in Other b = not (is_digit b)
is_in Dot b = is_dot b
is_in NoLetter b = not (is_letter b)
is_in (Repeat letter) b = b == letter
is_in Sign b = is_sign b
is_in Plain b = is_plain b
