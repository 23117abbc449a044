-- The clock of timebase, by the notes that live at each cell.
use Rattle.std.specs.Prelude.{◌≡◌, ◌≢◌, ℕ, ◌<◌, ◌≤◌, ◌⊎◌, ◌↔◌, true, List, [], ◌∷◌, length, map}
use Rattle.std.specs.Prelude.{slice_index_or, Option, None, Some}
use Rattle.std.specs.List.{Contains}
use lib.Chars.{codes}
use Rattle.hum_score.specs.declared.records.SpinedKind.TheVariants.{Local, Interpretation, Values}
use Rattle.hum_score.specs.Row.{Row, Comment, Spined}
use Rattle.hum_path.specs.Places.{token_at, IsJoin, IsExchange}
use Rattle.hum_score.specs.Spines.{exclusives, width}
use Rattle.hum_score.specs.Score.{path_after}
use Rattle.hum_frac.specs.Ratio.{Ratio, IsBefore, whole}
use Rattle.hum_timebase.specs.Notes.{is_timed, own_name, note_of, timed_in, notes_of}
use Rattle.hum_timebase.specs.Ends.{Note, end_of, latest, living_before}
use Rattle.hum_timebase.specs.Clock.{clock_after, time_of}
use Rattle.hum_places.specs.Heirs.{place_below, IsRun}

-- The cell below the one at place j of an interpretation is that of the spine at place i behind it:
-- of a split the left one, of joined ones the one that they become, of an exchanged one that below
-- the other `*x`. Below `*-` there is none.
pub data IsBelow (tokens : List (List ℕ)) : ℕ → ℕ → Type 0 where
  own : {j : ℕ} → j < length tokens → ¬ IsJoin tokens j → ¬ IsExchange tokens j
      → token_at tokens j ≢ codes "*-" → IsBelow tokens j (place_below tokens j)
  joined : {j first last : ℕ} → IsRun tokens first last → first ≤ j → j ≤ last
      → IsBelow tokens j (place_below tokens first)
  exchanged : {j other : ℕ} → IsExchange tokens j → IsExchange tokens other → j ≢ other
      → IsBelow tokens j (place_below tokens other)

-- the exclusive interpretation of the spine at place i
abbrev pub name_at : List Row → ℕ → List ℕ
name_at past i = slice_index_or (exclusives (path_after past)) i []

-- its column is timed
abbrev pub IsTimed : List Row → ℕ → Type 0
IsTimed past i = is_timed (name_at past i) ≡ true

-- so is it at an interpretation, which may be an exclusive one
abbrev pub IsTimedAt : List Row → List (List ℕ) → ℕ → Type 0
IsTimedAt past tokens j = is_timed (own_name (name_at past j) (token_at tokens j)) ≡ true

-- the note of a cell of data
abbrev pub note_at : List Row → List (List ℕ) → ℕ → Option Ratio
note_at past tokens i = note_of (is_timed (name_at past i)) (token_at tokens i)

-- some cell has one
abbrev pub HasNote : List Row → List (List ℕ) → Type 0
HasNote past tokens = (i : ℕ) × (lasting : Ratio) × (note_at past tokens i ≡ Some lasting)

-- the time of a record of data behind others, if it has one
abbrev pub time_at : List Row → List (List ℕ) → Option Ratio
time_at past tokens =
    let clock = clock_after past in
    let timed = timed_in (path_after past) in
    time_of clock.last (notes_of timed tokens) (map latest (living_before timed clock.leading))

-- A note that is struck at a cell: of the record's time, and the cell's duration.
pub record IsStruck (past : List Row) (tokens : List (List ℕ)) (i : ℕ) (note : Note) : Type 0 where
  pub lasting : note_at past tokens i ≡ Some note.lasting
  pub onset : time_at past tokens ≡ Some note.onset

-- no note is struck there
abbrev pub IsUnstruck : List Row → List (List ℕ) → ℕ → Type 0
IsUnstruck past tokens i = (note_at past tokens i ≡ None) ⊎ (time_at past tokens ≡ None)

-- A note leads to the next cell of the spine at place i behind records, the newest first: going up
-- from there, each cell above is in a timed column, and the first that strikes a note strikes it.
abbrev pub Leads : List Row → ℕ → Note → Type 0
Leads [] i note = ⊥
Leads (Comment text ∷ past) i note = Leads past i note
Leads (Spined Local tokens ∷ past) i note = IsTimed past i × Leads past i note
Leads (Spined Interpretation tokens ∷ past) i note =
    (j : ℕ) × IsBelow tokens j i × IsTimedAt past tokens j × Leads past j note
Leads (Spined Values tokens ∷ past) i note =
    IsStruck past tokens i note
    ⊎ (IsUnstruck past tokens i × IsTimed past i × Leads past i note)

-- it lives before that cell, if the cell's column is timed
abbrev pub Lives : List Row → ℕ → Note → Type 0
Lives past i note = IsTimed past i × Leads past i note

-- where the notes end that live before a cell: where the last of them does
pub record IsEnd (past : List Row) (i : ℕ) (end : Ratio) : Type 0 where
  pub note : Note
  pub lives : Lives past i note
  pub ends : end_of note ≡ end
  pub last : (other : Note) → Lives past i other → ¬ IsBefore end (end_of other)

-- the least of such ends, of all cells of a record, that is after a time
pub record IsNextEnd (past : List Row) (time end : Ratio) : Type 0 where
  pub place : ℕ
  pub one : IsEnd past place end
  pub after : IsBefore time end
  pub first : (i : ℕ) (other : Ratio) → IsEnd past i other → IsBefore time other
      → ¬ IsBefore other end

-- that, if there is one
abbrev pub IsNext : List Row → Ratio → Option Ratio → Type 0
IsNext past time None = (i : ℕ) (end : Ratio) → IsEnd past i end → ¬ IsBefore time end
IsNext past time (Some end) = IsNextEnd past time end

-- The time of a record of data: 0 of the first with a note, and of a later one the least end, of what
-- lives before its cells, that is after the time of the last one. Without a note it has none.
pub record TimeIsByPlace (past : List Row) (tokens : List (List ℕ)) : Type 0 where
  pub silent : ¬ HasNote past tokens → time_at past tokens ≡ None
  pub first : HasNote past tokens → (clock_after past).last ≡ None
      → time_at past tokens ≡ Some (whole 0)
  pub later : HasNote past tokens → (last : Ratio) → (clock_after past).last ≡ Some last
      → IsNext past last (time_at past tokens)

-- the time of the last record that has one
abbrev pub LastIsKept : List Row → Row → Type 0
LastIsKept past (Comment text) = (clock_after (Comment text ∷ past)).last ≡ (clock_after past).last
LastIsKept past (Spined Values tokens) =
    ((time : Ratio) → time_at past tokens ≡ Some time
    → (clock_after (Spined Values tokens ∷ past)).last ≡ Some time)
    × (time_at past tokens ≡ None
    → (clock_after (Spined Values tokens ∷ past)).last ≡ (clock_after past).last)
LastIsKept past (Spined kind tokens) =
    (clock_after (Spined kind tokens ∷ past)).last ≡ (clock_after past).last

-- What the clock has leading to a spine's next cell are the notes that lead there.
abbrev pub LeadsByPlace : List Row → Type 0
LeadsByPlace past =
    (i : ℕ) (note : Note) → i < width (path_after past)
    → Contains (slice_index_or (clock_after past).leading i []) note ↔ Leads past i note
