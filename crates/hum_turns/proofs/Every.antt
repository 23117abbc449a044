-- What holds at each moment that a run reaches.
use Rattle.std.proofs.lemmas.Grind.{common_steps}
use Rattle.std.proofs.lemmas.Bool.Decides.{nat_tests}
use Rattle.std.proofs.Common.{◌≡◌, ℕ, ◌-◌, List, length, arith}
use Rattle.hum_turns.specs.Plan.{Plan, IsPlan}
use Rattle.hum_turns.specs.Links.{Link, linked, Moment, IsOpening}
use Rattle.hum_turns.specs.Turns.{Run}
use Rattle.hum_turns.specs.Holds.{EveryOrder}
use Rattle.hum_turns.proofs.Keeping.{Inv, opening_good, run_keeps}
use Rattle.hum_turns.proofs.Against.{front, at_the_end, agrees_good, agrees_self}
use Rattle.hum_turns.proofs.Progress.{progress, goes}
use Rattle.hum_turns.proofs.Counting.{bounded, each_turns, all_turns}

pub linked_is : {R : Type 0} (l : Link R) → linked l ≡ length l.waiting
linked_is = grind (arith, common_steps)

pub reached : {R : Type 0} (plan : Plan R) (size : ℕ) (turns : List ℕ) (first m : Moment R)
    → IsPlan plan → IsOpening first → Run plan size first turns m → Inv plan size m
reached plan size turns first m ok start run =
    run_keeps plan size ok turns first m (opening_good plan size first start) run

pub every_order : {R : Type 0} → EveryOrder R
every_order plan size ok some turns first m start run =
    let inv = reached plan size turns first m ok start run in
    let b = bounded plan ok size m inv in
    let n = all_turns plan ok size m inv turns first start run in
    record {
      front = λ k less. (front plan ok size m k inv less).0;
      any_rest = λ other oko agree k less.
          let same = agree.count in
          (front other oko size m k (agrees_good plan other size m agree inv) (omega arith)).0;
      agrees = agrees_self plan size m inv;
      links = grind (arith, nat_tests, linked_is);
      progress = progress plan ok size some m;
      goes = λ k within h. goes plan size m k ok within h;
      each = each_turns plan ok size m inv turns first start run;
      all = n;
      bounded = omega arith;
      whole = at_the_end plan ok size m inv;
    }
