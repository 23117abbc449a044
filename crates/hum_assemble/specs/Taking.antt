-- Which records a record is given of.
use Rattle.std.specs.Prelude.{◌≡◌, ◌⊎◌, ◌≤◌, ℕ, ◌+◌, ◌==◌, nat_le, Bool, true, false, not, ◌||◌}
use Rattle.std.specs.Prelude.{List, [], ◌∷◌, Option, None, Some, if◌then◌else◌}
use Rattle.std.specs.List.{list_any, AllByRecursion}
use Rattle.hum_score.specs.Row.{Row}
use Rattle.hum_score.specs.Spines.{width}
use Rattle.hum_assemble.specs.declared.places.Place.{Place}
use Rattle.hum_assemble.specs.declared.places.Place.TheVariants.{Note}
use Rattle.hum_assemble.specs.Source.{Source}
use Rattle.hum_assemble.specs.Head.{first_of}
use Rattle.hum_assemble.specs.Places.{rank, is_over, kind_at}
use Rattle.hum_assemble.specs.Round.{place_at, takes, still_free}
use Rattle.hum_assemble.specs.Merge.{part_given, all_moved, spines}
use Rattle.hum_assemble.specs.Sizes.{tokens_len}

abbrev pub later : Option Row → Option Row → Option Row
later o None = o
later o (Some row) = Some row

-- the record that is taken last
abbrev pub row_taken : Option Row → Bool → Bool → Place → List Source → Option Row
row_taken o free going p [] = o
row_taken o free going p (s ∷ ss) =
    row_taken (later o (if takes free going p s then first_of s.coming else None))
    (still_free free going p s) going p ss

-- how many bytes the tokens of the record have, with a tab for each
abbrev pub bytes_given : Bool → Bool → Place → List Source → ℕ
bytes_given free going p [] = 0
bytes_given free going p (s ∷ ss) =
    tokens_len (part_given (takes free going p s) p s)
    + bytes_given (still_free free going p s) going p ss

-- how many sources have a part in the record: a token of theirs, or a spine to be filled
abbrev pub has_part : Bool → Bool → Place → Source → Bool
has_part free going p s = takes free going p s || not (width s.path == 0)

abbrev pub parts_given : Bool → Bool → Place → List Source → ℕ
parts_given free going p [] = 0
parts_given free going p (s ∷ ss) =
    (if has_part free going p s then 1 else 0) + parts_given (still_free free going p s) going p ss

-- a record stands at this place
abbrev pub is_at : Bool → Place → Source → Bool
is_at going p s = rank p == rank (place_at going s)

pub record IsGiving (going : Bool) (p : Place) (ss : List Source) : Type 0 where
  pub some : is_over p ≡ false
  pub at : list_any (is_at going p) ss ≡ true

-- a global comment, or the tokens of one source without null tokens
abbrev pub IsAlone : Bool → Place → List Source → Type 0
IsAlone going p ss = (kind_at p ≡ None) ⊎ (nat_le (parts_given true going p ss) 1 ≡ true)

-- Each source's next record is one of data, and so many spines and bytes are enough for all of them.
pub record AreNotes (most_spines most_bytes : ℕ) (ss : List Source) : Type 0 where
  pub all : AllByRecursion (λ s. place_at false s ≡ Note) ss
  pub few : spines (all_moved true false Note ss) ≤ most_spines
  pub short : bytes_given true false Note ss ≤ most_bytes
