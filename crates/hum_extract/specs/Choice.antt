-- Which opening spines are chosen, and which columns come of them.
use Rattle.std.specs.Prelude.{ℕ, ◌+◌, nat_lt, nat_le, Bool, false, not, ◌&&◌, ◌||◌}
use Rattle.std.specs.Prelude.{List, [], ◌∷◌, length}
use Rattle.std.specs.List.{list_any}
use Rattle.std.specs.Str.{bytes_eq}
use Rattle.hum_choices.specs.Extract.{Field, Number, Last, Range, Choice, Fields, Names}

-- the number of a field of an opening record of this width
abbrev pub number : ℕ → Field → ℕ
number width (Number n) = n
number width Last = width

abbrev pub holds : ℕ → ℕ → Range → Bool
holds width n range = nat_le (number width range.first) n && nat_le n (number width range.last)

-- whether the opening spine of this number and name is chosen
abbrev pub is_chosen : Choice → ℕ → ℕ → List ℕ → Bool
is_chosen (Fields ranges) width n name = list_any (holds width n) ranges
is_chosen (Names names) width n name = list_any (bytes_eq name) names

-- the same for each opening spine from place j on
abbrev pub each_chosen : Choice → ℕ → ℕ → List (List ℕ) → List Bool
each_chosen choice width j [] = []
each_chosen choice width j (name ∷ names) =
    is_chosen choice width (j + 1) name ∷ each_chosen choice width (j + 1) names

abbrev pub opening_flags : Choice → List (List ℕ) → List Bool
opening_flags choice names = each_chosen choice (length names) 0 names

-- whether a field beyond the width is named
abbrev pub is_beyond : ℕ → Range → Bool
is_beyond width range =
    nat_lt width (number width range.first) || nat_lt width (number width range.last)

abbrev pub names_beyond : Choice → ℕ → Bool
names_beyond (Fields ranges) width = list_any (is_beyond width) ranges
names_beyond (Names names) width = false

-- a field beyond the width is named, or no opening spine is chosen
abbrev pub misses : Choice → List (List ℕ) → Bool
misses choice names =
    names_beyond choice (length names) || not (list_any (λ b. b) (opening_flags choice names))
