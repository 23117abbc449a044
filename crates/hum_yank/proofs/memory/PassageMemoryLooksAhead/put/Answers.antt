use Rattle.std.proofs.Common.{ap}
use Rattle.hum_yank.proofs.Going.{few, goes_on}
use Rattle.hum_yank.proofs.memory.PassageMemoryLooksAhead.put.Goals as goal

pub step-number-requires : goal.step-number-requires
step-number-requires c = record {
  few = few _ _ _ _ _ _ _ _ 4294967295 c.requires.memory c.requires.few;
}

pub returns : goal.returns
returns c = λ look past rows h score.
    let ends = rw (c.is_closed-closed.ensures, c.step-number.ensures.kept) at
    c.last_after-self.ensures in
    let keeps = rw (c.deref.ensures.value, c.is_closed-closed.ensures, c.step-number.ensures.number)
    at c.of-kept.ensures in
    rw c.step-number.ensures.kept (goes_on _ _ _ _ _ _ _ _ _ _ look past rows c.args.next h
    (ap (λ p. p.path) c.in_ok-_moves.ensures.after) c.step-number.ensures.after ends keeps
    c.in_ok-push_back.ensures.items)
