use Rattle.std.proofs.Common.{◌≡◌, drop, map, Bool}
use Rattle.std.specs.List.{list_any}
use Rattle.hum_score.specs.Row.{tokens_of, chosen}
use Rattle.hum_score.specs.declared.spines.Sign.{Sign}
use Rattle.hum_score.specs.Sign.{sign_of}
use Rattle.hum_cleave.proofs.merging.any_cleaved.Given as goal

abbrev pub invariant-loop-j : goal.invariant-loop-j
invariant-loop-j g l = (p : Sign → Bool) → ((sign : Sign) (passes : Bool) → g.F.Fn.post l.fn.test (sign, tt) passes → passes ≡ p sign)
    → list_any p (chosen (drop l.j l.marks) (map sign_of (drop l.j (tokens_of l.row))))
    ≡ list_any p (chosen l.marks (map sign_of (tokens_of l.row)))
