-- Two sources of assemble that are served.
use Rattle.std.proofs.Common.{◌≡◌, ◌∙◌, ℕ, zero, suc, List, [], ◌∷◌, ◌++◌, refl, sym, ap, append_assoc, Option, Some, None, ◌+◌}
use Rattle.std.specs.Prelude.{MatchOption}
use Rattle.hum_score.specs.Row.{Row}
use Rattle.hum_assemble.specs.Change.{Input, Change, More, Ends, had, IsOpenInput}
use Rattle.hum_assemble.specs.Meaning.{Moment}
use Rattle.hum_tests.specs.Serving.{Goes}

-- What was put into both, with what is still to come of each, is these records.
pub record Serves (stands : Moment → Type 0) (first second left right : List Row) : Type 0 where
  pub x : Input
  pub y : Input
  pub given : ℕ
  pub stand : stands (record { stage = 3; inputs = x ∷ y ∷ []; given = given })
  pub firsts : x.put ++ left ≡ first
  pub seconds : y.put ++ right ≡ second

-- it goes on by the next of these, or ends
pub goes_on : (x : Input) (change : Change) (old new all : List Row) → Goes change old new → x.put ++ old ≡ all
    → (had change x).put ++ new ≡ all
goes_on x (More row) old new all goes h =
    append_assoc x.put (row ∷ []) new ∙ ap (λ (l : List Row). x.put ++ l) (sym goes) ∙ h
goes_on x (Ends end) old new all goes h = ap (λ (l : List Row). x.put ++ l) (sym goes) ∙ h

-- there are two of them
pub the_other : (j : ℕ) (x y : Input) → IsOpenInput j (x ∷ y ∷ []) → (j ≡ 0 → ⊥) → j ≡ 1
the_other zero x y open_ other = absurd (other refl)
the_other (suc zero) x y open_ other = refl
the_other (suc (suc j)) x y open_ other = absurd open_

-- one record more was taken, or there was none
pub taken_on : (stands : Moment → Type 0) (taken : Option Row) (t : Moment) (n : ℕ)
    → MatchOption taken (stands (record t { given = n })) (λ row. stands (record t { given = n + 1 }))
    → (m : ℕ) × stands (record t { given = m })
taken_on stands None t n h = (n, h)
taken_on stands (Some row) t n h = (n + 1, h)
