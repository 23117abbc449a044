use Rattle.std.proofs.Common.{◌≡◌, ◌++◌, take, drop, false}
use Rattle.hum_timebase.specs.Kept.{ends_before}
use Rattle.hum_timebase.proofs.ends.drop_untimed.Given as goal

abbrev pub invariant-loop-j : goal.invariant-loop-j
invariant-loop-j l = record {
  ends : take l.j l.ends ++ ends_before (drop l.j l.timed) (drop l.j l.ends) ≡ ends_before l.timed l.initial.ends;
  kept : l.dropped ≡ false → l.ends ≡ l.initial.ends;
}
