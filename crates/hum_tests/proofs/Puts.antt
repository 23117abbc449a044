-- A stage that is put a list of records, one after the other, and gives all that is settled.
use Rattle.std.proofs.Common.{◌≡◌, ap, ℕ, ◌<◌, ◌≤◌, None, List, [], ◌∷◌, ◌++◌, length, append_assoc, length-append, arith}
use Rattle.hum_score.specs.Row.{Row}
use Rattle.hum_score.specs.Spines.{Unopened}
use Rattle.hum_score.specs.InOrder.{IsScore}
use Rattle.hum_stage.specs.Meaning.{Meaning, Moment, opening, settled_moment, state_of}
use Rattle.hum_stage.specs.declared.faults.State.TheVariants.{Wants}
use Rattle.hum_stage.proofs.Growth.{Follow-front}

-- the records put so far, and those that are still to come
pub record PutsAt (now : Moment → Type 0) (records rest : List Row) (m : Meaning) : Type 0 where
  pub put : List Row
  pub all : put ++ rest ≡ records
  pub stand : now (settled_moment m put)

pub record Puts (start now : Moment → Type 0) (records rest : List Row) : Type 0 where
  pub at : (m : Meaning) → start (opening m) → PutsAt now records rest m

-- the record at hand and those before it are a score
pub score_so_far : (p rest items records : List Row) (r : Row) → items ≡ r ∷ rest → p ++ items ≡ records
    → IsScore records → IsScore (p ++ r ∷ [])
score_so_far p rest items records r i e h =
    Follow-front Unopened (p ++ r ∷ []) rest (rw (append_assoc p (r ∷ []) rest, ← i, e) h)

pub few_so_far : (p rest items records : List Row) (r : Row) → items ≡ r ∷ rest → p ++ items ≡ records
    → length records ≤ 4294967295 → length p < 4294967295
few_so_far p rest items records r i e h =
    let k = simp length-append at (ap length e) in
    let j = ap length i in
    omega (arith, k, j)

-- the records put so far, after which the stage wants more, and those that are still to come
pub record WantsAt (now : Moment → Type 0) (records rest : List Row) (m : Meaning) : Type 0 where
  pub put : List Row
  pub given : ℕ
  pub all : put ++ rest ≡ records
  pub stand : now (record { meaning = m; put = put; given = given; ended = None })
  pub wants : state_of (record { meaning = m; put = put; given = given; ended = None }) ≡ Wants

pub record Wanting (start now : Moment → Type 0) (records rest : List Row) : Type 0 where
  pub at : (m : Meaning) → start (opening m) → WantsAt now records rest m
