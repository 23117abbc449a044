-- What an assembler stands for.
use Rattle.std.specs.Prelude.{◌≡◌, ◌⊎◌, ℕ, zero, suc, ◌+◌, ◌≤◌, Bool, true, false}
use Rattle.std.specs.Prelude.{List, map, length, Option, None, Some, is_none}
use Rattle.std.specs.List.{AllByRecursion, position_from}
use Rattle.hum_words.specs.declared.commands.Command.TheVariants.{Assemble}
use Rattle.hum_stage.specs.declared.faults.End as end
use Rattle.hum_stage.specs.declared.faults.State as state
use Rattle.hum_stage.specs.declared.faults.State.TheVariants.{Wants, Gives as GivesNow}
use Rattle.hum_stage.specs.Meaning.{fault_at, resting_state}
use Rattle.hum_assemble.specs.declared.places.Place.{Place}
use Rattle.hum_assemble.specs.declared.places.Next as next
use Rattle.hum_assemble.specs.declared.places.Next.TheVariants.{Gives, Refused, Wants as WantsOf}
use Rattle.hum_assemble.specs.declared.places.Next.TheVariants.{Over}
use Rattle.hum_assemble.specs.Source.{Source}
use Rattle.hum_assemble.specs.Head.{AllLawful}
use Rattle.hum_assemble.specs.Round.{any_due}
use Rattle.hum_assemble.specs.Merge.{Merge, ahead, given_on}
use Rattle.hum_assemble.specs.Meaning.{Moment, opening, is_stopped, inputs_end}
use Rattle.hum_stage.specs.declared.TheConstants.{MOST_RECORDS}

-- So many records can be given, and then the merge is this.
abbrev pub Reaches : ℕ → Merge → Merge → Type 0
Reaches zero m s = m ≡ s
Reaches (suc n) m s = (p : Place) × (ahead m ≡ Gives p) × Reaches n (given_on p m) s

-- Nothing more can be given. What comes still is dropped.
pub record AreStopped (kept s : Merge) : Type 0 where
  pub stopped : is_stopped (ahead s) ≡ true
  pub same : ahead kept ≡ ahead s
  pub ended : map (λ x. x.ended) kept.sources ≡ map (λ x. x.ended) s.sources
  pub given : kept.given ≡ s.given

-- What is kept is the merge after the records given, or nothing more can be given.
pub record Standing (stage : ℕ) (kept : Merge) (spent : Bool) (t : Moment) : Type 0 where
  pub stage_is : t.stage ≡ stage
  pub alive : spent ≡ false
  pub at : Merge
  pub reached : Reaches t.given (opening t.inputs) at
  pub keeps : (kept ≡ at) ⊎ AreStopped kept at

-- An assembler: the number of its stage, the merge that it keeps, and whether memory ran out.
pub record Assembler : Type 0 where
  pub stage : ℕ
  pub merge : Merge
  pub spent : Bool

abbrev pub Stands : Assembler → Moment → Type 0
Stands a t = Standing a.stage a.merge a.spent t

abbrev pub ends_in : Merge → List (Option end.End)
ends_in m = map (λ s. s.ended) m.sources

-- The state and what is wanted, by the merge that is kept.
abbrev pub state_by : ℕ → Merge → next.Next → state.State
state_by stage m (Gives p) = GivesNow
state_by stage m (WantsOf j) = Wants
state_by stage m (Refused rule) =
    resting_state (fault_at stage Assemble (Some (m.given + 1, rule))) (inputs_end (ends_in m))
state_by stage m Over = resting_state None (inputs_end (ends_in m))

abbrev pub wants_by : Merge → next.Next → Option ℕ
wants_by m (Gives p) = None
wants_by m (WantsOf j) = Some j
wants_by m (Refused rule) = position_from is_none 0 (ends_in m)
wants_by m Over = position_from is_none 0 (ends_in m)

-- What is kept with an assembler is right, unless memory ran out: whether a round goes on, what can
-- be done next, and that the records that wait are lawful.
pub record IsToldAt (sources : List Source) (given : ℕ) (going : Bool) (told : next.Next)
    : Type 0 where
  pub due : going ≡ any_due sources
  pub next : told ≡ ahead (record { sources = sources; given = given })
  pub lawful : AllLawful sources

pub record IsTold (sources : List Source) (given : ℕ) (going : Bool) (told : next.Next)
    (spent : Bool) : Type 0 where
  pub at_most : given ≤ MOST_RECORDS
  pub alive : spent ≡ false → IsToldAt sources given going told

-- of each source one record at most waits
abbrev pub HoldOneEach : List Source → Type 0
HoldOneEach = AllByRecursion (λ s. length s.coming ≤ 1)
