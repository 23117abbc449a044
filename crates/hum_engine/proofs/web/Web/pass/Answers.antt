use Rattle.std.proofs.Common.{◌∙◌, refl, sym, ap, arith}
use Rattle.std.specs.Vec.{with_item}
use Rattle.hum_nodes.specs.At.{with_record, with_end}
use Rattle.hum_engine.specs.Links.{is_some_of}
use Rattle.hum_engine.proofs.Acting.{keeps}
use Rattle.hum_engine.proofs.Answered.{told_out, told_taken}
use Rattle.hum_engine.proofs.Nexts.{next_within, trying_able, trying_may, wanting}
use Rattle.hum_engine.proofs.Tried.{record_left, end_left, with_back, web_back}
use Rattle.hum_engine.proofs.web.Web.pass.Goals as goal

pub index_mut-requires : goal.index_mut-requires
index_mut-requires g c =
    let w = wanting c.requires.about.1.holds c.requires.stage c.index_mut-node.ensures.value c.source-source.ensures in
    omega (arith, next_within w c.requires.about.1.holds.actor, c.args.self.now.links.ok.0)

pub put-requires-clause-may : goal.put-requires-clause-may
put-requires-clause-may g c =
    trying_may (wanting c.requires.about.1.holds c.requires.stage c.index_mut-node.ensures.value c.source-source.ensures)
    c.index_mut.ensures.value c.take.ensures.taken c.requires.about.1.holds.actor c.index_mut-node.ensures.value
    (ap is_some_of c.in-Record.is) (λ s here. record_left c.take.ensures.taken s _ here c.in-Record.is)

pub stop-requires-clause-may : goal.stop-requires-clause-may
stop-requires-clause-may g c =
    trying_may (wanting c.requires.about.1.holds c.requires.stage c.index_mut-node.ensures.value c.source-source.ensures)
    c.index_mut.ensures.value c.take.ensures.taken c.requires.about.1.holds.actor c.index_mut-node.ensures.value
    (ap is_some_of c.in-End.is) (λ s here. end_left c.take.ensures.taken s _ here c.in-End.is)

pub returns-in-Ok : goal.returns-in-Ok
returns-in-Ok g c =
    let w = wanting c.requires.about.1.holds c.requires.stage c.index_mut-node.ensures.value c.source-source.ensures in
    let t = told_taken (with_record c.in-Record.row) c.put.new.self c.take.new.self w
    c.index_mut.ensures.value c.take.ensures.taken c.requires.about.1.holds.actor c.index_mut-node.ensures.value
    (ap is_some_of c.in-Record.is) (λ s here. record_left c.take.ensures.taken s _ here c.in-Record.is) c.put.ensures.kind
    c.in-Ok.ensures.put (c.take.ensures.popped (ap is_some_of c.in-Record.is)) refl refl in (
      record {
        was_ready = λ s h. sym (trying_able w c.index_mut.ensures.value c.take.ensures.taken h) ∙ ap is_some_of c.in-Record.is;
        tells = t.0;
      },
      t.1,
      t.2 (c.take.ensures.room c.in-Record.row c.in-Record.is),
    )

pub returns-in-Err : goal.returns-in-Err
returns-in-Err g c =
    let w = wanting c.requires.about.1.holds c.requires.stage c.index_mut-node.ensures.value c.source-source.ensures in
    record {
      was_ready = λ s h. sym (trying_able w c.index_mut.ensures.value c.take.ensures.taken h) ∙ ap is_some_of c.in-Record.is;
      tells = told_out c.requires.stage (keeps c.put.new.self c.put.ensures.kind refl);
    }

pub returns-in-End : goal.returns-in-End
returns-in-End g c =
    let w = wanting c.requires.about.1.holds c.requires.stage c.index_mut-node.ensures.value c.source-source.ensures in
    let t = told_taken (with_end c.in-End.end) c.stop.new.self c.take.new.self w
    c.index_mut.ensures.value c.take.ensures.taken c.requires.about.1.holds.actor c.index_mut-node.ensures.value
    (ap is_some_of c.in-End.is) (λ s here. end_left c.take.ensures.taken s _ here c.in-End.is) c.stop.ensures.kind
    c.stop.ensures.stopped (c.take.ensures.popped (ap is_some_of c.in-End.is)) refl refl in (
      record {
        was_ready = λ s h. sym (trying_able w c.index_mut.ensures.value c.take.ensures.taken h) ∙ ap is_some_of c.in-End.is;
        tells = t.0;
      },
      t.1,
    )

pub returns-in-Nothing : goal.returns-in-Nothing
returns-in-Nothing g c =
    let w = wanting c.requires.about.1.holds c.requires.stage c.index_mut-node.ensures.value c.source-source.ensures in
    record {
      idle = λ s h. sym (trying_able w c.index_mut.ensures.value c.take.ensures.taken h) ∙ ap is_some_of c.in-Nothing.is;
      same = web_back (with_back c.args.self.now.nodes c.args.k c.index_mut-node.ensures.value)
          (ap (λ l. with_item c.args.self.now.links c.source-source.result l) (c.take.ensures.same c.in-Nothing.is)
          ∙ with_back c.args.self.now.links c.source-source.result c.index_mut.ensures.value);
    }
