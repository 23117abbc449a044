-- What the fields of a stage whose records wait stand for.
use Rattle.std.specs.Prelude.{◌≡◌, ℕ, ◌≤◌, Bool, false}
use Rattle.std.specs.Prelude.{List, [], ◌∷◌, ◌++◌, map, length}
use Rattle.std.specs.Prelude.{Option, Some, None}
use Rattle.std.specs.Option.{option_to_list}
use Rattle.hum_score.specs.Row.{Row}
use Rattle.hum_score.specs.Score.{passed}
use Rattle.hum_words.specs.declared.commands.Command.{Command}
use Rattle.hum_stage.specs.declared.faults.Fault.{Fault}
use Rattle.hum_stage.specs.declared.faults.End.{End}
use Rattle.hum_stage.specs.Outcome.{Outcome, Becomes, Refused, Undecided, refusal}
use Rattle.hum_stage.specs.Meaning.{Moment, fault_at}
use Rattle.hum_stage.specs.Look.{Look, outcomes_from, looking, IsSteady}

-- a record that is given, or dropped
abbrev pub becomes : Option Row → Outcome
becomes o = Becomes (option_to_list o)

abbrev pub flat : List (Option Row) → List Row
flat [] = []
flat (o ∷ outs) = option_to_list o ++ flat outs

-- what is due, as a list of records that were decided
abbrev pub listed : Option Row → List (Option Row)
listed None = []
listed (Some row) = Some row ∷ []

-- none is left, or the first is undecided or refused
abbrev pub Stops : List Outcome → Type 0
Stops [] = Unit {0}
Stops (Becomes rows ∷ os) = ⊥
Stops (Refused rule ∷ os) = Unit {0}
Stops (Undecided ∷ os) = Unit {0}

pub record Lagged : Type 0 where
  pub stage : ℕ
  pub command : Command
  pub line : ℕ
  -- the next that is given
  pub due : Option Row
  pub fault : Option Fault

-- The records that were put: those that went, of which there are so many, and those that wait.
pub record Ahead (room : ℕ) (look : Look) (follows : List Row → List Row
    → Type 0) (put : List Row) (count : ℕ) (rest : List Outcome) : Type 0 where
  pub front : List Row
  pub waits : List Row
  pub split : put ≡ front ++ waits
  pub counted : length front ≡ count
  pub memory : follows (passed [] front) waits
  pub few : length waits ≤ room
  pub outcomes : rest ≡ outcomes_from room look (passed [] front) waits

-- Those behind the one that is due are looked at once it is taken. Where none is due, all that is
-- settled was given.
pub record LagsAt (room : ℕ) (look : Look) (follows : List Row → List Row
    → Type 0) (x : Lagged) (put : List Row) (given : ℕ) : Type 0 where
  pub line : x.line ≡ length put
  pub gone : List (Option Row)
  pub rest : List Outcome
  pub outcomes : outcomes_from room look [] put ≡ map becomes (gone ++ listed x.due) ++ rest
  pub counted : given ≡ length (flat gone)
  pub stopped : x.due ≡ None → Stops rest
  pub fault : x.due ≡ None
      → x.fault ≡ fault_at x.stage x.command (refusal 1 (outcomes_from room look [] put))
  pub faultless : (row : Row) → x.due ≡ Some row → x.fault ≡ None
  pub ahead : x.fault ≡ None → Ahead room look follows put (length (gone ++ listed x.due)) rest

pub record Lags (room : ℕ) (follows : Look → List Row → List Row
    → Type 0) (x : Lagged) (ended : Option End) (spent : Bool) (t : Moment) : Type 0 where
  pub look : Look
  pub steady : IsSteady look
  pub meaning : t.meaning ≡ looking room x.stage x.command look
  pub alive : spent ≡ false
  pub ending : ended ≡ t.ended
  -- an end comes where none is due
  pub rests : (end : End) → ended ≡ Some end → x.due ≡ None
  pub at : LagsAt room look (follows look) x t.put t.given
