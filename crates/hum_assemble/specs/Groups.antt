-- What several scores give side by side, as a musician says it. Each score is cut: global comments
-- in front, the opening record, groups of units with a data record behind each but the last, the
-- closing record, and a tail of global comments. The fronts are given round by round, then the
-- opening records side by side, group after group round by round with the data records in step, the
-- closing records, and the tails.
use Rattle.std.specs.Prelude.{◌≡◌, ℕ, zero, suc, ◌+◌, nat_le, nat_lt, Bool, true, false, not, ◌||◌}
use Rattle.std.specs.Prelude.{List, [], ◌∷◌, ◌++◌, map, length, replicate, if◌then◌else◌}
use Rattle.std.specs.Prelude.{Option, None, Some, is_some, is_none, slice_get}
use Rattle.std.specs.List.{list_any, list_all}
use Rattle.hum_score.specs.declared.records.SpinedKind.{SpinedKind}
use Rattle.hum_score.specs.declared.records.SpinedKind.TheVariants.{Local, Interpretation, Values}
use Rattle.hum_score.specs.Row.{Row, Comment, Spined, text_of, tokens_of}
use Rattle.hum_score.specs.declared.spines.Sign.{Sign}
use Rattle.hum_score.specs.declared.spines.Sign.TheVariants.{Add}
use Rattle.hum_score.specs.Sign.{sign_of, all_plain}
use Rattle.hum_score.specs.Spines.{Path, Unopened, width, after}
use Rattle.hum_stage.specs.declared.faults.Rule.{Rule}
use Rattle.hum_stage.specs.declared.faults.Fault.{Fault}
use Rattle.hum_words.specs.declared.commands.Command.TheVariants.{Assemble}
use Rattle.hum_stage.specs.declared.faults.End as end
use Rattle.hum_stage.specs.declared.faults.End.TheVariants.{Closed, Broken}
use Rattle.hum_stage.specs.declared.faults.State as state
use Rattle.hum_stage.specs.declared.faults.State.TheVariants.{Gives}
use Rattle.hum_stage.specs.Meaning.{fault_at, resting_state}
use Rattle.hum_assemble.specs.Change.{Input}
use Rattle.hum_assemble.specs.Source.{is_end}
use Rattle.hum_assemble.specs.Head.{first_of}
use Rattle.hum_record.specs.Nulls.{null_of}
use Rattle.hum_assemble.specs.Merge.{rule_broken}
use Rattle.hum_assemble.specs.Meaning.{output, own_fault, AreScores, Moment, state_of, inputs_end}
use Rattle.hum_assemble.specs.Meaning.{ends}

-- A source, cut.

-- a global comment
abbrev pub is_comment : Row → Bool
is_comment (Comment text) = true
is_comment (Spined kind tokens) = false

-- `*+`
abbrev pub is_add : Sign → Bool
is_add Add = true
is_add _ = false

-- a record with `*+`, which adds a spine
abbrev pub adds : Row → Bool
adds (Spined Interpretation tokens) = list_any is_add (map sign_of tokens)
adds _ = false

-- What a record is behind the opening one: the closing one, data, the first of a unit of several
-- records, or a unit by itself.
pub data Sort : Type 0 where
  Closes : Sort
  IsData : Sort
  Adds : Sort
  Single : Sort

-- An interpretation closes where it ends all spines.
abbrev pub sort_signs : List Sign → Sort
sort_signs signs =
    if list_all is_end signs then Closes else if list_any is_add signs then Adds else Single

-- Comments are units, and so are interpretations that don't close.
abbrev pub sort_of : Row → Sort
sort_of (Comment text) = Single
sort_of (Spined Local tokens) = Single
sort_of (Spined Values tokens) = IsData
sort_of (Spined Interpretation tokens) = sort_signs (map sign_of tokens)

-- A data record, and the units of the group behind it.
pub record Further : Type 0 where
  pub row : Row
  pub units : List (List Row)

-- What comes behind the opening record: the units of the first group, the data records with the
-- groups behind them, the closing record and the tail; and whether that is the whole source. What
-- is left of a unit that began above stands apart.
pub record Body : Type 0 where
  pub pending : List Row
  pub units : List (List Row)
  pub further : List Further
  pub closing : Option Row
  pub tail : List Row
  pub whole : Bool

-- No record comes.
abbrev pub nothing : Bool → Body
nothing whole = record {
  pending = [];
  units = [];
  further = [];
  closing = None;
  tail = [];
  whole = whole;
}

-- One record in front of what comes behind it: the closing record with all behind it as its tail; a
-- data record, which ends a group; a record with `*+` with the rest of its unit; a unit by itself.
abbrev pub with_row : Sort → Row → List Row → Body → Body
with_row Closes row rows b = record (nothing b.whole) { closing = Some row; tail = rows }
with_row IsData row rows b =
    record b { units = []; further = record { row = row; units = b.units } ∷ b.further }
with_row Adds row rows b = record b { pending = []; units = (row ∷ b.pending) ∷ b.units }
with_row Single row rows b = record b { units = (row ∷ []) ∷ b.units }

-- What comes behind the opening record, cut. A unit with `*+` goes on through the record that
-- begins its spines.
abbrev pub body : Bool → Bool → List Row → Body
body whole inside [] = nothing whole
body whole true (row ∷ rows) =
    let b = body whole (is_comment row) rows in record b { pending = row ∷ b.pending }
body whole false (row ∷ rows) = with_row (sort_of row) row rows (body whole (adds row) rows)

-- Behind an opening record. One without tokens, which no score that is read has, opens no spine,
-- and only a tail can follow.
abbrev pub opened : List (List ℕ) → Bool → List Row → Body
opened [] whole rows = record (nothing whole) { tail = rows }
opened (token ∷ tokens) whole rows = body whole false rows

-- The global comments before the opening record, that record, and what comes behind it.
pub record Cut : Type 0 where
  pub front : List Row
  pub opening : Option Row
  pub body : Body

-- a source, cut
abbrev pub cut : Bool → List Row → Cut
cut whole [] = record { front = []; opening = None; body = nothing whole }
cut whole (Comment text ∷ rows) =
    let c = cut whole rows in record c { front = Comment text ∷ c.front }
cut whole (Spined kind tokens ∷ rows) = record {
  front = [];
  opening = Some (Spined kind tokens);
  body = opened tokens whole rows;
}

-- Only a closed end shows that no record comes any more.
abbrev pub is_closed_end : Option end.End → Bool
is_closed_end None = false
is_closed_end (Some Closed) = true
is_closed_end (Some (Broken f)) = false

-- an input, cut
abbrev pub cut_of : Input → Cut
cut_of x = cut (is_closed_end x.ended) x.put

-- Records of several sources, one after another, each by what every source has in it; and whether
-- they go on.
pub record Steps : Type 0 where
  pub parts : List (List (Option Row))
  pub goes : Bool

-- these records, and then it goes on
abbrev pub steps : List (List (Option Row)) → Steps
steps parts = record { parts = parts; goes = true }

-- one after the other, if the first goes on
abbrev pub then_on : Steps → Steps → Steps
then_on a b = record {
  parts = if a.goes then a.parts ++ b.parts else a.parts;
  goes = if a.goes then b.goes else false;
}

-- Nothing goes on where it isn't known of a source what it has.
abbrev pub where_known : Bool → Steps → Steps
where_known known s = if known then s else record { parts = []; goes = false }

-- What no source has any more gives no record.
abbrev pub where_any : Bool → Steps → Steps
where_any some s = if some then s else steps []

-- one record of all that have one
abbrev pub together : List (Option Row) → Steps
together os = where_any (list_any is_some os) (steps (os ∷ []))

-- a record with `*+` is followed by one that begins its spines
abbrev pub is_whole : List Row → Bool
is_whole [] = true
is_whole (row ∷ rows) = not (adds row) || list_any (λ r. not (is_comment r)) rows

-- a record of one source, with so many sources to its left and to its right
abbrev pub alone : ℕ → ℕ → Row → List (Option Row)
alone before behind row = replicate before None ++ Some row ∷ replicate behind None

-- The records of a unit, one after another; where it is cut short nothing follows.
abbrev pub unit_alone : ℕ → ℕ → List Row → Steps
unit_alone before behind unit =
    record { parts = map (alone before behind) unit; goes = is_whole unit }

-- each alone, from left to right
abbrev pub each_alone : ℕ → List (Option (List Row)) → Steps
each_alone before [] = steps []
each_alone before (None ∷ us) = each_alone (before + 1) us
each_alone before (Some unit ∷ us) =
    then_on (unit_alone before (length us) unit) (each_alone (before + 1) us)

-- there is one
abbrev pub has_some : {X : Type 0} → List X → Bool
has_some [] = false
has_some (x ∷ xs) = true

-- all but the first
abbrev pub behind_first : {X : Type 0} → List X → List X
behind_first [] = []
behind_first (x ∷ xs) = xs

-- the greatest number
abbrev pub most : List ℕ → ℕ
most [] = 0
most (n ∷ ns) = if nat_le n (most ns) then most ns else n

-- Global comments, and whether it is known that no further ones come.
pub record Comments : Type 0 where
  pub rows : List Row
  pub whole : Bool

-- it is known which comes next, or that none does
abbrev pub shows_comment : Comments → Bool
shows_comment c = has_some c.rows || c.whole

-- the next one, as a unit of one record
abbrev pub next_comment : Comments → Option (List Row)
next_comment c = elim c.rows [ [] ↦ None | row ∷ rows ↦ Some (row ∷ []) ]

-- those behind the next one
abbrev pub behind_comment : Comments → Comments
behind_comment c = record c { rows = behind_first c.rows }

-- Round after round each source gives its next global comment, as long as one has any.
abbrev pub comment_rounds : ℕ → List Comments → Steps
comment_rounds zero cs = steps []
comment_rounds (suc n) cs =
    where_known (list_all shows_comment cs)
    (where_any (list_any is_some (map next_comment cs))
    (then_on (each_alone 0 (map next_comment cs)) (comment_rounds n (map behind_comment cs))))

-- all rounds: one more than the longest list has
abbrev pub all_comments : List Comments → Steps
all_comments cs = comment_rounds (most (map (λ c. length c.rows) cs) + 1) cs

-- Front and opening records.

-- the front; an opening record shows that it is whole
abbrev pub front_of : Cut → Comments
front_of c = record { rows = c.front; whole = is_some c.opening || c.body.whole }

-- it is known what the opening record is, or that there is none
abbrev pub shows_opening : Cut → Bool
shows_opening c = is_some c.opening || c.body.whole

-- the opening records side by side
abbrev pub openings : List Cut → Steps
openings cs = where_known (list_all shows_opening cs) (together (map (λ c. c.opening) cs))

-- Units and groups.

-- The next unit of a source, if its first record is such.
abbrev pub unit_if : (Row → Bool) → Body → Option (List Row)
unit_if test b = elim b.units [
  | [] ↦ None
  | unit ∷ units ↦ elim unit [
    | [] ↦ None
    | row ∷ rows ↦ if test row then Some (row ∷ rows) else None
  ]
]

-- the first record of that unit
abbrev pub row_if : (Row → Bool) → Body → Option Row
row_if test b = elim (unit_if test b) [ None ↦ None | Some unit ↦ first_of unit ]

-- local comments
abbrev pub is_local : Row → Bool
is_local (Spined Local tokens) = true
is_local _ = false

-- an interpretation without path indicator and exclusive interpretation
abbrev pub is_tandem : Row → Bool
is_tandem (Spined Interpretation tokens) = all_plain tokens
is_tandem _ = false

-- any other record
abbrev pub is_other : Row → Bool
is_other row = not (is_comment row || (is_local row || is_tandem row))

-- A round: of each source that has one its next unit. Global comments, each alone; one record of
-- the local comments; one of the tandem interpretations; the other units, each alone.
abbrev pub unit_round : List Body → Steps
unit_round bs =
    then_on (each_alone 0 (map (unit_if is_comment) bs))
    (then_on (together (map (row_if is_local) bs))
    (then_on (together (map (row_if is_tandem) bs))
    (each_alone 0 (map (unit_if is_other) bs))))

-- What stands further down shows that nothing else comes before it: it is known what the next
-- record of the tail is, or that there is none;
abbrev pub shows_tail : Body → Bool
shows_tail b = has_some b.tail || b.whole

-- the same of the closing record,
abbrev pub shows_closing : Body → Bool
shows_closing b = is_some b.closing || shows_tail b

-- of the next data record,
abbrev pub shows_data : Body → Bool
shows_data b = has_some b.further || shows_closing b

-- and of the next unit of the group.
abbrev pub shows_unit : Body → Bool
shows_unit b = has_some b.units || shows_data b

-- what comes behind the next unit of the group
abbrev pub behind_unit : Body → Body
behind_unit b = record b { units = behind_first b.units }

-- The rounds of a group, as long as a source has a unit in it.
abbrev pub rounds : ℕ → List Body → Steps
rounds zero bs = steps []
rounds (suc n) bs =
    where_known (list_all shows_unit bs)
    (where_any (list_any (λ b. has_some b.units) bs)
    (then_on (unit_round bs) (rounds n (map behind_unit bs))))

-- the data record behind the group
abbrev pub next_data : Body → Option Row
next_data b = elim b.further [ [] ↦ None | f ∷ fs ↦ Some f.row ]

-- the group behind that data record
abbrev pub next_group : Body → Body
next_group b = record b {
  units = elim b.further [ [] ↦ [] | f ∷ fs ↦ f.units ];
  further = behind_first b.further;
}

-- Group after group, as long as a source has a data record: the group's rounds, then one record of
-- the data records behind it.
abbrev pub groups : ℕ → List Body → Steps
groups zero bs = steps []
groups (suc n) bs =
    then_on (rounds (most (map (λ b. length b.units) bs) + 1) bs)
    (where_known (list_all shows_data bs)
    (where_any (list_any is_some (map next_data bs))
    (then_on (together (map next_data bs)) (groups n (map next_group bs)))))

-- Closing records and tails.

-- the closing records side by side
abbrev pub closings : List Body → Steps
closings bs = where_known (list_all shows_closing bs) (together (map (λ b. b.closing) bs))

-- the tail, whole where the source has ended closed
abbrev pub tail_of : Body → Comments
tail_of b = record { rows = b.tail; whole = b.whole }

-- all behind the opening records
abbrev pub behind_openings : List Body → Steps
behind_openings bs =
    then_on (groups (most (map (λ b. length b.further) bs) + 1) bs)
    (then_on (closings bs) (all_comments (map tail_of bs)))

-- Front, opening records, groups each with its data records, closing records, tails.
abbrev pub merged : List Cut → Steps
merged cs =
    then_on (all_comments (map front_of cs))
    (then_on (openings cs) (behind_openings (map (λ c. c.body) cs)))

-- The records, filled, up to the first that breaks a rule.

-- what a source has in a record: its tokens, or a null token at each current spine
abbrev pub part : SpinedKind → Path → Option Row → List (List ℕ)
part kind path None = replicate (width path) (null_of kind)
part kind path (Some row) = tokens_of row

-- the tokens of all sources, from left to right
abbrev pub side_by_side : SpinedKind → List Path → List (Option Row) → List (List ℕ)
side_by_side kind (path ∷ paths) (o ∷ os) = part kind path o ++ side_by_side kind paths os
side_by_side kind _ _ = []

-- global comments aren't filled
abbrev pub row_like : Row → List Path → List (Option Row) → Row
row_like (Comment text) paths os = Comment text
row_like (Spined kind tokens) paths os = Spined kind (side_by_side kind paths os)

-- the record that some sources have a part in, like the leftmost part
abbrev pub row_of : List Path → List (Option Row) → List (Option Row) → Row
row_of paths all [] = Comment []
row_of paths all (None ∷ os) = row_of paths all os
row_of paths all (Some row ∷ os) = row_like row paths all

-- a source's spines after a record, if it has a part in it
abbrev pub path_on : Path → Option Row → Path
path_on path None = path
path_on path (Some row) = after path row

-- the same of all sources
abbrev pub paths_on : List Path → List (Option Row) → List Path
paths_on (path ∷ paths) (o ∷ os) = path_on path o ∷ paths_on paths os
paths_on paths _ = paths

-- how many spines stand side by side
abbrev pub widths : List Path → ℕ
widths [] = 0
widths (path ∷ paths) = width path + widths paths

-- the rule that a record would break, after so many records
abbrev pub rule_at : ℕ → List Path → List (Option Row) → Option Rule
rule_at n paths os =
    rule_broken (widths (paths_on paths os)) (length (text_of (row_of paths os os))) n

-- the records that are given, after so many
abbrev pub written : ℕ → List Path → List (List (Option Row)) → List Row
written n paths [] = []
written n paths (os ∷ parts) =
    if is_none (rule_at n paths os)
    then row_of paths os os ∷ written (n + 1) (paths_on paths os) parts
    else []

-- the number of the record at which writing stops, and the rule that it would break
abbrev pub stops_at : ℕ → List Path → List (List (Option Row)) → Option (ℕ × Rule)
stops_at n paths [] = None
stops_at n paths (os ∷ parts) = elim (rule_at n paths os) [
  | None ↦ stops_at (n + 1) (paths_on paths os) parts
  | Some rule ↦ Some (n + 1, rule)
]

-- at the beginning no spine is open
abbrev pub unopened : List Input → List Path
unopened xs = map (λ x. Unopened) xs

-- all records, each by what every source has in it
abbrev pub all_parts : List Input → List (List (Option Row))
all_parts xs = (merged (map cut_of xs)).parts

-- What is given for the inputs so far, by groups, units and rounds.
abbrev pub by_groups : List Input → List Row
by_groups xs = written 0 (unopened xs) (all_parts xs)

-- The own fault: the rule that the first record breaks at which writing stops.
abbrev pub fault_by_groups : ℕ → List Input → Option Fault
fault_by_groups stage xs = fault_at stage Assemble (stops_at 0 (unopened xs) (all_parts xs))

-- It gives until all of that was given, then wants until every source has ended. It is done then,
-- with the lowest-numbered fault of a source, else its own.
abbrev pub state_by_groups : ℕ → List Input → ℕ → state.State
state_by_groups stage xs given =
    if nat_lt given (length (by_groups xs)) then Gives
    else resting_state (fault_by_groups stage xs) (inputs_end (ends xs))

-- Of scores, whether they go on, have ended or are broken, what is given is just that.
pub record IsByGroups (stage : ℕ) (xs : List Input) : Type 0 where
  pub rows : output xs ≡ by_groups xs
  pub fault : own_fault stage xs ≡ fault_by_groups stage xs
  pub state : (given : ℕ) → state_of (record { stage = stage; inputs = xs; given = given })
      ≡ state_by_groups stage xs given

-- The law, for all scores so far.
abbrev pub GivesByGroups : Type 0
GivesByGroups = (stage : ℕ) (xs : List Input) → AreScores xs → IsByGroups stage xs

-- The record that is taken is the next of those that the groups give.
abbrev pub IsTakenByGroups : (Moment → Type 0) → Option Row → Type 0
IsTakenByGroups before taken =
    (t : Moment) → before t → AreScores t.inputs
    → taken ≡ slice_get (by_groups t.inputs) t.given
