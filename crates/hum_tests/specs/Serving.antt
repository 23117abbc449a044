-- One source of assemble that is served.
use Rattle.std.specs.Prelude.{◌≡◌, ℕ, List, ◌∷◌, ◌++◌, length, ◌≤◌, Some}
use Rattle.hum_score.specs.Row.{Row}
use Rattle.hum_stage.specs.declared.faults.End.{End}
use Rattle.hum_stage.specs.declared.faults.End.TheVariants.{Closed}
use Rattle.hum_score.specs.InOrder.{IsScore, IsClosed}
use Rattle.hum_assemble.specs.Change.{Change, More, Ends}
use Rattle.hum_assemble.specs.Meaning.{Moment, after, put_of, wants_of}
use Rattle.hum_stage.specs.declared.TheConstants.{MOST_RECORDS}

-- It is wanted, and what was put with what is still to come is a score, a closed one where it ends so.
pub record MayServe (stands : Moment → Type 0) (j : ℕ) (coming : List Row) (end : End) : Type 0 where
  pub at : Moment
  pub stand : stands at
  pub wants : wants_of at ≡ Some j
  pub score : IsScore (put_of j at.inputs ++ coming)
  pub closed : end ≡ Closed → IsClosed (put_of j at.inputs ++ coming)
  pub few : length (put_of j at.inputs ++ coming) ≤ MOST_RECORDS

-- the first of what was to come was put, or there was none, and the end was told
abbrev pub Goes : Change → List Row → List Row → Type 0
Goes (More row) old new = old ≡ row ∷ new
Goes (Ends end) old new = old ≡ new

pub record IsServed (stands : Moment → Type 0) (j : ℕ) (t : Moment) (old new : List Row) : Type 0 where
  pub change : Change
  pub stand : stands (after j change t)
  pub goes : Goes change old new
