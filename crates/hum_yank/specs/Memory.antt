-- What the state stands for.
use Rattle.std.specs.Prelude.{◌≡◌, ℕ, Bool, true, false, not, List, [], ◌∷◌, if◌then◌else◌}
use Rattle.std.specs.Prelude.{Option, Some, None, Result, Ok}
use Rattle.std.proofs.Common.{refl, ap, suc, length}
use Rattle.std.specs.Option.{option_to_list}
use Rattle.std.specs.List.{list_any}
use Rattle.hum_score.specs.declared.records.SpinedKind.TheVariants.{Local, Interpretation, Values}
use Rattle.hum_score.specs.Row.{Row, Comment, Spined}
use Rattle.hum_score.specs.Spines.{Path}
use Rattle.hum_score.specs.Rules.{is_closed}
use Rattle.hum_score.specs.Score.{path_after, passed}
use Rattle.hum_stage.specs.declared.faults.Rule.{Rule}
use Rattle.hum_stage.specs.Look.{Look}
use Rattle.hum_choices.specs.declared.yank.YankOptions.{YankOptions}
use Rattle.hum_choices.specs.declared.yank.YankRange.{YankRange}
use Rattle.hum_yank.specs.declared.passages.Passages.{Passages}
use Rattle.hum_yank.specs.declared.held.Held.{Held}
use Rattle.hum_yank.specs.declared.held.Held.TheVariants.{Stays, Goes, Waits}
use Rattle.hum_yank.specs.Yank.{Choice, yank, chooses_early, is_chosen, last_at}
use Rattle.hum_yank.specs.Options.{form_of, choice_of}
use Rattle.hum_yank.specs.Marks.{passages_of}

-- what is kept of a record of a passage with this number, or without one
abbrev pub numbered_held : List YankRange → Bool → Row → Option ℕ → Held
numbered_held ranges within row None = Goes
numbered_held ranges within row (Some x) =
    if list_any (chooses_early x) ranges then Stays row
    else if within then Waits row x
    else Goes

-- what is kept of a record; ranges from the end choose none but within the spines
abbrev pub held_of : List YankRange → Bool → Row → Option ℕ → Held
held_of ranges within (Spined Interpretation tokens) number = Stays (Spined Interpretation tokens)
held_of ranges within (Spined Local tokens) number =
    numbered_held ranges within (Spined Local tokens) number
held_of ranges within (Spined Values tokens) number =
    numbered_held ranges within (Spined Values tokens) number
held_of ranges within (Comment text) number = numbered_held ranges within (Comment text) number

-- whether the last number counts a record, given whether no spine was open before it
abbrev pub adds : Bool → Row → Bool
adds closed (Comment text) = not closed
adds closed (Spined kind tokens) = true

-- whether a record that is kept stays, given whether the last spine has ended and the last number
abbrev pub decided_of : List YankRange → Bool → ℕ → Held → Option Bool
decided_of ranges closed last (Stays row) = Some true
decided_of ranges closed last Goes = Some false
decided_of ranges closed last (Waits row x) = is_chosen ranges closed last x

abbrev pub given : Held → Bool → Option Row
given (Stays row) stays = Some row
given Goes stays = None
given (Waits row x) stays = if stays then Some row else None

abbrev pub answer : Held → Option Bool → Option (Result (List Row) Rule)
answer held None = None
answer held (Some stays) = Some (Ok (option_to_list (given held stays)))

-- what is kept of a record, by all records so far
abbrev pub told : Choice → List Row → Held → Option (Result (List Row) Rule)
told o seen held =
    answer held (decided_of o.ranges (is_closed (path_after seen)) (last_at o.form seen) held)

-- What is kept of a record tells what is decided of it, whatever follows.
abbrev pub Tells : Choice → List Row → Row → Held → Type 0
Tells o past row held =
    (rows : List Row) → yank o past row rows ≡ told o (passed (row ∷ past) rows) held

-- the same of each that waits
abbrev pub AllTell : Choice → List Row → List Row → List Held → Type 0
AllTell o past [] [] = Unit {0}
AllTell o past [] (h ∷ held) = ⊥
AllTell o past (row ∷ rows) [] = ⊥
AllTell o past (row ∷ rows) (h ∷ held) = Tells o past row h × AllTell o (row ∷ past) rows held

-- what is kept of a record is that record, or nothing
abbrev pub IsOf : Row → Held → Type 0
IsOf row (Stays kept) = kept ≡ row
IsOf row Goes = Unit {0}
IsOf row (Waits kept x) = kept ≡ row

-- the same of each that waits
abbrev pub AllAreOf : List Row → List Held → Type 0
AllAreOf [] [] = Unit {0}
AllAreOf [] (h ∷ held) = ⊥
AllAreOf (row ∷ rows) [] = ⊥
AllAreOf (row ∷ rows) (h ∷ held) = IsOf row h × AllAreOf rows held

-- something is kept of each
pub tell_each : (o : Choice) (past rows : List Row) (held : List Held)
    → AllTell o past rows held → length held ≡ length rows
tell_each o past [] [] all = refl
tell_each o past [] (k ∷ held) all = absurd all
tell_each o past (q ∷ rows) [] all = absurd all
tell_each o past (q ∷ rows) (k ∷ held) all = ap suc (tell_each o (q ∷ past) rows held all.1)

pub record Follows (options : YankOptions) (path : Path) (marks : Passages) (greatest : ℕ)
    (held : List Held) (look : Look) (past rows : List Row) : Type 0 where
  pub command : look ≡ yank (choice_of options)
  pub spines : path ≡ path_after (passed past rows)
  pub at_hand : marks ≡ passages_of (form_of options.markers) (passed past rows)
  pub last : greatest ≡ last_at (form_of options.markers) (passed past rows)
  pub tell : AllTell (choice_of options) past rows held
  pub kept : AllAreOf rows held
