use Rattle.std.proofs.Common.{◌≡◌, take}
use Rattle.std.specs.List.{list_any}
use Rattle.hum_kern.specs.Classes.{is_rest_sign, is_grace_sign, is_continued_sign}
use Rattle.hum_kern.proofs.notes.marks.Given as goal

abbrev pub invariant-loop-b : goal.invariant-loop-b
invariant-loop-b l = record {
  rest : l.rest ≡ list_any is_rest_sign (take l.b-index l.bytes);
  grace : l.grace ≡ list_any is_grace_sign (take l.b-index l.bytes);
  continued : l.continued ≡ list_any is_continued_sign (take l.b-index l.bytes);
}
