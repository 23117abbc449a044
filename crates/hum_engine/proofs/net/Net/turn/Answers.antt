use Rattle.std.proofs.Common.{◌∙◌, sym}
use Rattle.std.proofs.lemmas.Bool.{false≢true}
use Rattle.hum_engine.proofs.Netting.{ready_result}
use Rattle.hum_engine.proofs.net.Net.turn.Goals as goal

pub act-requires : goal.act-requires
act-requires g c =
    let m = c.requires in
    record {
      running = record { start = m.start; scene = m.scene; now = m.now; at = m.at };
      going = ready_result m.at c.args.k m.ready;
      within = m.within;
    }

pub unreachable-requires : goal.unreachable-requires
unreachable-requires g c =
    let m = c.requires in
    false≢true (sym (c.in-Waits.ensures.idle m.start m.scene m.now m.at (ready_result m.at c.args.k m.ready) m.within)
    ∙ m.ready)
