use Rattle.std.proofs.Common.{◌≡◌, drop}
use Rattle.std.specs.List.{list_any}
use Rattle.hum_timebase.proofs.Placed.{long_of, sounded}
use Rattle.hum_timebase.proofs.ends.sound.Given as goal

abbrev pub invariant-loop-note : goal.invariant-loop-note
invariant-loop-note l = record {
  ends : sounded l.time (drop l.note-index l.notes) l.ends ≡ sounded l.time l.notes l.initial.ends;
  long : list_any (long_of l.time) (drop l.note-index l.notes) ≡ list_any (long_of l.time) l.notes;
}
