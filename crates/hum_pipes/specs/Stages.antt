-- The stages of two plans as those of one.
use Rattle.std.specs.Prelude.{◌≡◌, ℕ, pred, ◌+◌, ◌-◌, ◌<◌, nat_lt, if◌then◌else◌}
use Rattle.std.specs.Prelude.{List, ◌∷◌, ◌++◌, map, length}
use Rattle.hum_plan.specs.Stages.{Stage, IsTree}
use Rattle.hum_net.specs.Parts.{parts_of, parts_from}
use Rattle.hum_pipes.specs.Piped.{one_plan}

-- a stage that is n places further down
abbrev pub moved_stage : ℕ → Stage → Stage
moved_stage n stage = record stage { sources = map (λ s. s + n) stage.sources }

-- The stages of the first, and behind them those that come behind the second's `read`.
abbrev pub one_list : List Stage → List Stage → List Stage
one_list first rest = first ++ map (moved_stage (pred (length first))) rest

-- what they read: each what it read in its own plan
abbrev pub one_reading : ℕ → (first second : ℕ → List ℕ) → ℕ → List ℕ
one_reading count first second k =
    if nat_lt k count then first k else second (k - pred count)

-- By their parts that is the one plan: a stage means the same wherever it stands.
abbrev pub PlansAreJoined : Type 0
PlansAreJoined = (first rest : List Stage) (read : Stage) (bytes other : ℕ → List ℕ) → 0 < length first
    → IsTree (read ∷ rest)
    → parts_of (one_reading (length first) bytes other) (one_list first rest)
    ≡ one_plan (parts_of bytes first) (parts_from 1 other rest)
