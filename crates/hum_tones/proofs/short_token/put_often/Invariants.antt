use Rattle.std.proofs.Common.{◌≡◌, ◌+◌, ◌++◌, length}
use Rattle.std.specs.Prelude.{replicate}
use Rattle.hum_tones.proofs.short_token.put_often.Given as goal

abbrev pub invariant-loop-left : goal.invariant-loop-left
invariant-loop-left l = record {
  all : l.text.items ++ replicate l.left l.byte ≡ l.initial.text.items ++ replicate l.count l.byte;
  len : length l.text.items + l.left ≡ length l.initial.text.items + l.count;
}

abbrev pub decreases-loop-left : goal.decreases-loop-left
decreases-loop-left l = l.left
