use Rattle.std.proofs.lemmas.Bool.Decides.{nat_tests}
use Rattle.std.proofs.Common.{◌≤◌, length, drop, refl, arith, length-drop}
use lib.Count.{count_trailing_zeros}
use Rattle.hum_record.proofs.Short.{first_stop, tabs_at, ends_at, ends_fit}
use Rattle.hum_record.proofs.near.line_end.Goals as goal

pub lf_behind-requires-clause-near : goal.lf_behind-requires-clause-near
lf_behind-requires-clause-near = grind (arith, nat_tests, first_stop)

pub overflow_add-ends : goal.overflow_add-ends
overflow_add-ends g c =
    let held = drop c.args.at c.args.held.now in
    let stop = first_stop c.args.held.now c.args.at g.row.N c.args.stops c.requires.few c.requires.within c.requires.stops c.requires.some in
    let near = stop.near in
    let room : g.row.N ≤ length held = omega (arith, c.requires.within, length-drop c.args.at c.args.held.now) in
    let rest = count_trailing_zeros 64 c.args.stops in
    let tabs = tabs_at held g.row.N rest c.bits_at.result (omega (arith, near)) (omega (arith, near, c.requires.few)) room c.bits_at.ensures in
    let fits = ends_fit held rest _ (omega (arith, near, c.requires.few)) (omega (arith, near, room)) tabs in
    omega (arith, fits)

pub returns-clause-near : goal.returns-clause-near
returns-clause-near g c =
    let stop = first_stop c.args.held.now c.args.at g.row.N c.args.stops c.requires.few c.requires.within c.requires.stops c.requires.some in
    omega (arith, stop.near)

pub returns-clause-ends : goal.returns-clause-ends
returns-clause-ends g c =
    let held = drop c.args.at c.args.held.now in
    let stop = first_stop c.args.held.now c.args.at g.row.N c.args.stops c.requires.few c.requires.within c.requires.stops c.requires.some in
    let near = stop.near in
    let room : g.row.N ≤ length held = omega (arith, c.requires.within, length-drop c.args.at c.args.held.now) in
    let rest = count_trailing_zeros 64 c.args.stops in
    let tabs = tabs_at held g.row.N rest c.bits_at.result (omega (arith, near)) (omega (arith, near, c.requires.few)) room c.bits_at.ensures in
    record {
      rest = rest;
      lf = c.in_ok-lf.lf;
      place = refl;
      behind = c.in_ok-lf.ensures;
      whole = refl;
      free = stop.free;
      bits = ends_at held rest _ (omega (arith, near, c.requires.few)) (omega (arith, near, room)) tabs;
      apart = c.is_apart.ensures c.if-not-is_apart.false;
    }
