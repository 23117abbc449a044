-- One record more, or the end, of one source.
use Rattle.std.specs.Prelude.{◌≡◌, ℕ, zero, suc, List, [], ◌∷◌, ◌++◌, Option, None, Some}
use Rattle.hum_score.specs.Row.{Row}
use Rattle.hum_stage.specs.declared.faults.End as end
use Rattle.hum_assemble.specs.Source.{Source}

-- What was put into one source, and its end once it came.
pub record Input : Type 0 where
  pub put : List Row
  pub ended : Option end.End

pub data Change : Type 0 where
  More : Row → Change
  Ends : end.End → Change

-- an input after a change
abbrev pub had : Change → Input → Input
had (More row) x = record { put = x.put ++ row ∷ []; ended = x.ended }
had (Ends e) x = record { put = x.put; ended = Some e }

-- the inputs after a change of one of them
abbrev pub had_at : ℕ → Change → List Input → List Input
had_at j change [] = []
had_at zero change (x ∷ xs) = had change x ∷ xs
had_at (suc j) change (x ∷ xs) = x ∷ had_at j change xs

-- the same of sources of which some records were given
abbrev pub changed : Change → Source → Source
changed (More row) s = record s { coming = s.coming ++ row ∷ [] }
changed (Ends e) s = record s { ended = Some e }

abbrev pub changed_at : ℕ → Change → List Source → List Source
changed_at j change [] = []
changed_at zero change (s ∷ ss) = changed change s ∷ ss
changed_at (suc j) change (s ∷ ss) = s ∷ changed_at j change ss

-- a source that hasn't ended
abbrev pub IsOpenAt : ℕ → List Source → Type 0
IsOpenAt j [] = ⊥
IsOpenAt zero (s ∷ ss) = s.ended ≡ None
IsOpenAt (suc j) (s ∷ ss) = IsOpenAt j ss

-- an input that hasn't ended
abbrev pub IsOpenInput : ℕ → List Input → Type 0
IsOpenInput j [] = ⊥
IsOpenInput zero (x ∷ xs) = x.ended ≡ None
IsOpenInput (suc j) (x ∷ xs) = IsOpenInput j xs
