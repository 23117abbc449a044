use Rattle.std.proofs.Common.{◌≡◌, ◌++◌, take}
use Rattle.hum_score.specs.Row.{tokens_of}
use Rattle.hum_assemble.proofs.source_head.push_tokens.Given as goal

abbrev pub invariant-loop-j : goal.invariant-loop-j
invariant-loop-j l = l.builder ≡ record l.initial.builder { tokens = l.initial.builder.tokens ++ take l.j (tokens_of l.row) }
