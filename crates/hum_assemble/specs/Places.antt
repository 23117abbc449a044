-- The places of records, in the order in which records are given.
use Rattle.std.specs.Prelude.{ℕ, ◌==◌, nat_le, Bool, true, false, List, [], if◌then◌else◌}
use Rattle.std.specs.Prelude.{Option, None, Some}
use Rattle.hum_score.specs.declared.records.SpinedKind.{SpinedKind}
use Rattle.hum_record.specs.Nulls.{null_of}
use Rattle.hum_score.specs.declared.records.SpinedKind.TheVariants.{Local, Interpretation, Values}
use Rattle.hum_assemble.specs.declared.places.Place.{Place}
use Rattle.hum_assemble.specs.declared.places.Place.TheVariants.{Aside, Begins, Front, Opening}
use Rattle.hum_assemble.specs.declared.places.Place.TheVariants.{Remark, Local as LocalPlace}
use Rattle.hum_assemble.specs.declared.places.Place.TheVariants.{Tandem, Change, Note, Closing}
use Rattle.hum_assemble.specs.declared.places.Place.TheVariants.{Tail, Over}

-- What comes first is given first: what goes on inside a unit, the front, the opening record, the
-- global comments of a group and then its other units, the data, the closing record, the tail.
abbrev pub rank : Place → ℕ
rank Aside = 0
rank Begins = 1
rank Front = 2
rank Opening = 3
rank Remark = 4
rank LocalPlace = 5
rank Tandem = 6
rank Change = 7
rank Note = 8
rank Closing = 9
rank Tail = 10
rank Over = 11

-- The units of a group are one step of a score; each other place is a step of its own.
abbrev pub step : Place → ℕ
step LocalPlace = 4
step Tandem = 4
step Change = 4
step place = rank place

-- records of several sources at this place are given as one
abbrev pub is_shared : Place → Bool
is_shared Opening = true
is_shared LocalPlace = true
is_shared Tandem = true
is_shared Note = true
is_shared Closing = true
is_shared _ = false

-- the kind of the records there; a global comment has none
abbrev pub kind_at : Place → Option SpinedKind
kind_at Begins = Some Interpretation
kind_at Opening = Some Interpretation
kind_at LocalPlace = Some Local
kind_at Tandem = Some Interpretation
kind_at Change = Some Interpretation
kind_at Note = Some Values
kind_at Closing = Some Interpretation
kind_at _ = None

-- the null token of the records there
abbrev pub null_at : Option SpinedKind → List ℕ
null_at None = []
null_at (Some kind) = null_of kind

abbrev pub earlier : Place → Place → Place
earlier p q = if nat_le (rank p) (rank q) then p else q

-- there is no record any more
abbrev pub is_over : Place → Bool
is_over p = rank p == 11
