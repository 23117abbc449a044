use Rattle.std.proofs.Common.{inl, inr}
use Rattle.hum_assemble.proofs.Calls.{has_grown}
use Rattle.hum_assemble.proofs.assemble.Assemble.put.Goals as goal

pub returns-clause-ok : goal.returns-clause-ok
returns-clause-ok c = λ t h w. elim c.requires [
  | inl spent ↦ let alive = h.alive in absurd cc
  | inr may ↦ c.in_ok-put_with.ensures.ok c.args._source may t h w
]

pub returns-clause-grows : goal.returns-clause-grows
returns-clause-grows c = λ t h w. has_grown _ _ _ _ _ t h w
