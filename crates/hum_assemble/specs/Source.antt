-- A source, and where its next record stands in it.
use Rattle.std.specs.Prelude.{Bool, true, false, List, [], ◌∷◌, map, Option, if◌then◌else◌}
use Rattle.std.specs.List.{list_any, list_all}
use Rattle.hum_score.specs.declared.records.SpinedKind.TheVariants.{Local, Interpretation, Values}
use Rattle.hum_score.specs.Row.{Row, Comment, Spined}
use Rattle.hum_score.specs.Spelling.{is_empty}
use Rattle.hum_score.specs.declared.spines.Sign.{Sign}
use Rattle.hum_score.specs.declared.spines.Sign.TheVariants.{End}
use Rattle.hum_score.specs.Sign.{sign_of, is_plain}
use Rattle.hum_score.specs.Spines.{Path, Unopened, Spines, exclusives}
use Rattle.hum_stage.specs.declared.faults.End as end
use Rattle.hum_assemble.specs.declared.places.Place.{Place}
use Rattle.hum_assemble.specs.declared.places.Place.TheVariants.{Aside, Begins, Front, Opening}
use Rattle.hum_assemble.specs.declared.places.Place.TheVariants.{Remark, Local as LocalPlace}
use Rattle.hum_assemble.specs.declared.places.Place.TheVariants.{Tandem, Change, Note, Closing}
use Rattle.hum_assemble.specs.declared.places.Place.TheVariants.{Tail}

-- A source of which some records were given: its spines there, whether it takes part in the round
-- that goes on, the records that are still to be given, and how it ends, once that is known.
pub record Source : Type 0 where
  pub path : Path
  pub due : Bool
  pub coming : List Row
  pub ended : Option end.End

-- of a new source nothing was put
abbrev pub untouched : Option end.End → List Row → Source
untouched ended coming =
    record { path = Unopened; due = false; coming = coming; ended = ended }

abbrev pub is_end : Sign → Bool
is_end End = true
is_end _ = false

-- inside a unit: a spine was added, and its exclusive interpretation is still to come
abbrev pub is_inside : Path → Bool
is_inside path = list_any is_empty (exclusives path)

-- an interpretation that ends all spines closes; one that asks nothing of them is tandem
abbrev pub interpretation_place : List Sign → Place
interpretation_place signs =
    if list_all is_end signs then Closing
    else if list_all is_plain signs then Tandem
    else Change

-- where a record that is a unit, or begins one, stands in its round
abbrev pub unit_place : Row → Place
unit_place (Comment text) = Remark
unit_place (Spined Local tokens) = LocalPlace
unit_place (Spined Values tokens) = Note
unit_place (Spined Interpretation tokens) = interpretation_place (map sign_of tokens)

-- one place for a global comment, another for any other record
abbrev pub by_comment : Row → Place → Place → Place
by_comment (Comment text) comment other = comment
by_comment (Spined kind tokens) comment other = other

-- within a unit of several records
abbrev pub inside_place : Row → Place
inside_place row = by_comment row Aside Begins

-- before any spine
abbrev pub front_place : Row → Place
front_place row = by_comment row Front Opening

-- Where a record stands in its source, after records that lead to these spines.
abbrev pub place : Path → Row → Place
place Unopened row = front_place row
place (Spines []) row = Tail
place (Spines (name ∷ names)) row =
    if is_inside (Spines (name ∷ names)) then inside_place row else unit_place row
