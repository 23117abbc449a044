-- What a node stands for.
use Rattle.std.specs.Prelude.{◌≡◌, ℕ, Bool, true, false, List, Option, None, Some, is_some, Result, slice_index}
use Rattle.hum_score.specs.Row.{Row}
use Rattle.hum_stage.specs.declared.faults.End.{End}
use Rattle.hum_stage.specs.declared.faults.Readiness.{Readiness}
use Rattle.hum_stage.specs.declared.faults.Readiness.TheVariants.{Gives, Wants, Done}
use Rattle.hum_stage.specs.Meaning.{Moment}
use Rattle.hum_assemble.specs.Standing.{Stands}
use Rattle.hum_read.specs.declared.ReadError.{ReadError}
use Rattle.hum_nodes.specs.declared.node.Node.{Node}
use Rattle.hum_nodes.specs.declared.node.Work.{Work}
use Rattle.hum_nodes.specs.declared.node.Work.TheVariants.{Read, Command, Assemble}
use Rattle.hum_nodes.specs.Doing.{Doing}
use Rattle.hum_nodes.specs.Doing as does
use Rattle.hum_nodes.specs.At.{At, doing_of, readiness_of, sources_of}
use Rattle.hum_nodes.specs.Reading.{IsReading}
use Rattle.hum_nodes.specs.Single.{IsAhead}
use Rattle.hum_nodes.specs.Merging.{IsMerging}

abbrev pub reads : {S R : Type 0} → Work S R → Bool
reads (Read reader) = true
reads (Command stage) = false
reads (Assemble stage sources) = false

abbrev pub is_source : {S R : Type 0} → Node S R → Bool
is_source node = reads node.work

abbrev pub commands : {S R : Type 0} → Work S R → Bool
commands (Read reader) = false
commands (Command stage) = true
commands (Assemble stage sources) = false

-- With a record ahead it gives; behind that it is ready for this.
abbrev pub readiness_in : Option Row → Readiness → Readiness
readiness_in None behind = behind
readiness_in (Some row) behind = Gives

-- whether it gives next
abbrev pub gives_by : Readiness → Bool
gives_by Gives = true
gives_by Wants = false
gives_by Done = false

abbrev pub gives_next : {S R : Type 0} → Node S R → Bool
gives_next node = gives_by (readiness_in node.ahead node.behind)

-- whether the record that it gives next was taken ahead
abbrev pub gives_ahead : {S R : Type 0} → Node S R → Bool
gives_ahead node = is_some node.ahead

-- A source gives, or reads on; another stage does what it is about to do.
abbrev pub readiness_at : Bool → Doing → Readiness
readiness_at true doing = Gives
readiness_at false doing = readiness_of doing

-- what a stage of a plan stands for, with a record ahead or none, where these bytes are still to come
abbrev pub WorksAs : {S R : Type 0} → (S → Moment → Type 0) → Work S R → ℕ → Option Row → Readiness
    → List ℕ → At → Type 0
WorksAs stands (Read reader) from ahead behind rest t = IsReading reader rest t
WorksAs stands (Command stage) from ahead behind rest t = IsAhead (stands stage) from ahead behind t
WorksAs stands (Assemble stage sources) from ahead behind rest t = IsMerging (Stands stage) sources.items t

-- Where it wants, this is the stage that it takes from.
abbrev pub KnowsSource : ℕ → At → Type 0
KnowsSource from t = (place : ℕ) → doing_of t ≡ does.Wants place → from ≡ slice_index (sources_of t) place

-- It stands for that, and knows what it does next and which stage it takes from. Nothing but a command has a
-- record ahead.
pub record StandsAs {S R : Type 0} (stands : S → Moment → Type 0) (node : Node S R)
    (rest : List ℕ) (t : At) : Type 0 where
  pub works : WorksAs stands node.work node.from node.ahead node.behind rest t
  pub alone : commands node.work ≡ false → node.ahead ≡ None
  pub knows : readiness_in node.ahead node.behind ≡ readiness_at (reads node.work) (doing_of t)
  pub takes : reads node.work ≡ false → KnowsSource node.from t

-- What a source shows of its reader: the bytes that its reads will give, where they are known; whether
-- their end was read; how many calls were made on it, and whether one failed; and why the source has
-- stopped, once it has.

abbrev pub remaining_by : {S R : Type 0} → (R → Option (List ℕ)) → Work S R → Option (List ℕ)
remaining_by tells (Read reader) = tells reader.lines.source
remaining_by tells (Command stage) = None
remaining_by tells (Assemble stage sources) = None

abbrev pub remaining_of : {S R : Type 0} → (R → Option (List ℕ)) → Node S R → Option (List ℕ)
remaining_of tells node = remaining_by tells node.work

abbrev pub ended_by : {S R : Type 0} → Work S R → Bool
ended_by (Read reader) = reader.lines.ended
ended_by (Command stage) = false
ended_by (Assemble stage sources) = false

abbrev pub ended_of : {S R : Type 0} → Node S R → Bool
ended_of node = ended_by node.work

abbrev pub calls_by : {S R : Type 0} → (R → ℕ) → Work S R → ℕ
calls_by calls (Read reader) = calls reader.lines.source
calls_by calls (Command stage) = 0
calls_by calls (Assemble stage sources) = 0

abbrev pub calls_of : {S R : Type 0} → (R → ℕ) → Node S R → ℕ
calls_of calls node = calls_by calls node.work

abbrev pub failed_by : {S R : Type 0} → (R → Bool) → Work S R → Bool
failed_by failed (Read reader) = failed reader.lines.source
failed_by failed (Command stage) = false
failed_by failed (Assemble stage sources) = false

abbrev pub failed_of : {S R : Type 0} → (R → Bool) → Node S R → Bool
failed_of failed node = failed_by failed node.work

abbrev pub stopped_by : {S R : Type 0} → Work S R → Option (Result End ReadError)
stopped_by (Read reader) = reader.stopped
stopped_by (Command stage) = None
stopped_by (Assemble stage sources) = None

abbrev pub stopped_of : {S R : Type 0} → Node S R → Option (Result End ReadError)
stopped_of node = stopped_by node.work
