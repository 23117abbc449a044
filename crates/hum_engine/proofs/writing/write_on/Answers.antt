use Rattle.std.proofs.Common.{sym}
use Rattle.std.proofs.lemmas.Bool.{eqb-true}
use Rattle.hum_engine.proofs.Appending.{all_written, begun, gives_up, keeps_appends, writes_on}
use Rattle.hum_engine.proofs.writing.write_on.Goals as goal

pub loop-rest-init : goal.loop-rest-init
loop-rest-init g c = begun c.args.sink.now c.args.text.now

pub loop-rest-preserved : goal.loop-rest-preserved
loop-rest-preserved g c =
    let e = c.in-Ok.ensures in
    writes_on c.loop-rest.invariant c.in-Ok.n c.in-Ok.n-test.1 e.bound e.bytes e.calls e.failed e.flushes

pub returns-in-Ok-eq0 : goal.returns-in-Ok-eq0
returns-in-Ok-eq0 g c =
    let e = c.in-Ok-eq0.ensures in
    gives_up c.loop-rest.invariant c.loop-rest-test.ensures
    (rw c.in-Ok-eq0.field-0-test at e.bytes) e.calls (rw c.in-Ok-eq0.field-0-test at e.failed) e.flushes

pub returns-in-Err : goal.returns-in-Err
returns-in-Err g c =
    let e = c.in-Err.ensures in
    gives_up c.loop-rest.invariant c.loop-rest-test.ensures
    (keeps_appends _ _ e.bytes) e.calls e.failed e.flushes

pub returns : goal.returns
returns g c = all_written c.loop-rest.invariant (eqb-true _ 0 (sym c.loop-rest-test.ensures))
