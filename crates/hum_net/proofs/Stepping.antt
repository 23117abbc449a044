-- What a net that lasts may be asked, and that it lasts.
use Rattle.std.proofs.Common.{refl, ℕ, ◌<◌, ◌≤◌, [], length, Bool, arith}
use Rattle.hum_text.specs.declared.calls.Source.{Ghosts as Source}
use Rattle.hum_text.specs.declared.calls.Sink.{Ghosts as Sink}
use Rattle.hum_stage.specs.declared.contract.Stage.{Ghosts as Commands}
use Rattle.hum_turns.specs.declared.result.RunResult.{RunResult}
use Rattle.hum_turns.specs.Orders.{Order}
use Rattle.hum_engine.specs.declared.net.Net.{Net}
use Rattle.hum_engine.specs.Scene.{before_all}
use Rattle.hum_engine.specs.Nets.{IsNet, IsRunning, IsAmong, MayGo, HasTurned, HasRun}
use Rattle.hum_engine.proofs.Lasting.{lasts}
use Rattle.hum_net.specs.Scenes.{IsReadyNow}

module _ {S R W : Type 0} {commands : Commands S} {writer : Sink W} where
  -- it stands for a moment, as where nothing more is to come
  pub is_running : (net : Net S R W) → IsNet commands writer net → IsRunning commands writer net
  is_running net r = record {
    start = r.start;
    scene = r.scene (λ i. []);
    now = r.now (λ i. []);
    at = r.at (λ i. []) (λ i e. refl);
  }

  pub is_among : (k : ℕ) (net : Net S R W) → IsNet commands writer net → k < length net.actors.items
      → IsAmong commands writer k net
  is_among k net r less =
      let m = is_running net r in
      let count = m.at.actors in
      record { running = m; within = omega (arith, less, count) }

  pub may_go : (k : ℕ) (net : Net S R W) → IsNet commands writer net → k < length net.actors.items
      → IsReadyNow commands writer k net → MayGo commands writer k net
  may_go k net r less ready =
      let m = is_running net r in
      let count = m.at.actors in
      record {
        start = m.start;
        scene = m.scene;
        now = m.now;
        at = m.at;
        within = omega (arith, less, count);
        ready = ready m.start m.scene m.now m.at;
      }

  pub turned_lasts : {reader : Source R} (k : ℕ) (old new : Net S R W) (is_over : Bool) → IsNet commands writer old
      → k < length old.actors.items → IsReadyNow commands writer k old
      → HasTurned commands reader writer k old new is_over → IsNet commands writer new
  turned_lasts {reader} k old new is_over r less ready h = lasts commands reader writer old new r (record {
    reads = h.reads;
    read = h.read;
    goes = λ start s now over at.
        let count = at.actors in
        let within : k ≤ s.count = omega (arith, less, count) in
        let to = h.turns start s now over at within (ready start (before_all h.reads s) now at) in
        (to.to, to.at);
  })

  pub ran_lasts : {O : Type 0} {reader : Source R} (order : Order O) (o p : O) (old new : Net S R W) (by : RunResult)
      → IsNet commands writer old → HasRun commands reader writer order o p old new by
      → IsNet commands writer new
  ran_lasts {O} {reader} order o p old new by r h = lasts commands reader writer old new r (record {
    reads = h.reads;
    read = h.read;
    goes = λ start s now over at.
        let ran = h.runs start s now over at in
        (ran.leads.to, ran.leads.at);
  })
