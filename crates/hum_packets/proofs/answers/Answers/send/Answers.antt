use Rattle.std.proofs.Common.{take, sym, ap, subst, ◌∙◌, ◌||◌, true}
use Rattle.std.specs.Io.KnownBytes.{Appends}
use Rattle.hum_packets.proofs.Feeding.{handed}
use Rattle.hum_packets.proofs.answers.Answers.send.Goals as goal

pub returns-then-is_err-clause-serves : goal.returns-then-is_err-clause-serves
returns-then-is_err-clause-serves g c =
    let s = c.self.inside.sink in
    let t = c.hand_on-written.new.sink in
    let n = c.hand_on-written.result.0 in
    let waiting = c.self.inside.waiting.items in
    let wrote = subst (λ xs. Appends (g.W.Sink.contents s) (g.W.Sink.contents t) (take n xs)) c.deref.ensures.value c.hand_on-written.ensures.bytes in
    rw (← c.self.view_is, c.forget.ensures) (handed g.W.Sink s t waiting n true wrote
    (c.hand_on-written.ensures.failed ∙ ap (λ b. g.W.Sink.failed s || b) (sym c.is_err.ensures.value ∙ c.if-is_err.true)))
