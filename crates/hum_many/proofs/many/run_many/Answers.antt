use Rattle.std.proofs.Common.{sym, subst}
use Rattle.hum_many.specs.Many.{ManyCome}
use Rattle.hum_many.proofs.Talking.{close-come, closed-unread}
use Rattle.hum_many.proofs.many.run_many.Goals as goal

pub returns-clause-come : goal.returns-clause-come
returns-clause-come g c =
    subst (λ w. ManyCome (g.R.Source.remaining c.args.input) (g.W.Sink.contents c.args.output) (g.W.Sink.contents w) c.close-end.result)
    (sym c.into_sink-2.ensures) (close-come g.R.Source g.W.Sink c.in-Ok.packets c.args.input c.new-answers.result c.answer_to_end-end.new.answers
    c.close-end.new.answers c.args.output c.answer_to_end-end.result c.close-end.result c.in-Ok.ensures c.new-answers.ensures
    c.answer_to_end-end.ensures.come c.answer_to_end-end.ensures.hands c.close-end.ensures.closed)

pub returns-clause-unread : goal.returns-clause-unread
returns-clause-unread g c =
    closed-unread g.R.Source g.W.Sink c.answer_to_end-end.new.answers c.close-end.new.answers c.answer_to_end-end.result c.close-end.result
    c.close-end.ensures.closed c.answer_to_end-end.ensures.failed
