-- Names of branches.
use Rattle.std.specs.Prelude.{ℕ, ◌-◌, Bool, false, ◌&&◌, ◌||◌, ◌==◌, nat_le}
use Rattle.std.specs.Prelude.{if◌then◌else◌, List, [], ◌∷◌, length, take, slice_index}
use Rattle.std.specs.Prelude.{Option, None, Some}
use Rattle.std.specs.List.{list_all}

-- `a` to `z`
abbrev pub is_letter : ℕ → Bool
is_letter b = nat_le 97 b && nat_le b 122

-- a letter, a digit or `_`
abbrev pub is_name_byte : ℕ → Bool
is_name_byte b = is_letter b || (nat_le 48 b && nat_le b 57) || b == 95

-- a letter and up to 31 letters, digits and `_`
abbrev pub is_name : List ℕ → Bool
is_name [] = false
is_name (b ∷ bs) = is_letter b && nat_le (length bs) 31 && list_all is_name_byte bs

-- what stands before the last byte
abbrev pub front_of : List ℕ → List ℕ
front_of word = take (length word - 1) word

-- the name in a word that is a name and a colon
abbrev pub name_in : List ℕ → Option (List ℕ)
name_in word =
    if slice_index word (length word - 1) == 58 && is_name (front_of word) then Some (front_of word)
    else None
