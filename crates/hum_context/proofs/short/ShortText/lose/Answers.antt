use Rattle.std.proofs.Common.{◌+◌, sym, take}
use Rattle.hum_context.proofs.Queues.{drop_drop}
use Rattle.hum_context.proofs.Told.{none_left, says_less}
use Rattle.hum_context.proofs.short.ShortText.lose.Goals as goal

pub returns-then-first-self : goal.returns-then-first-self
returns-then-first-self c token tokens size says =
    let text = c.args.self.now in
    says_less text.missing text.len text.begin c.args.first (take text.len text.bytes) token tokens
    c.if-self-gt0.false size (none_left text.bytes text.begin text.len c.args.first c.if-first-self.true) says

pub returns : goal.returns
returns c token tokens size says =
    let text = c.args.self.now in
    says_less text.missing (text.begin + (c.args.first + 1)) text.begin c.args.first
    (take text.len text.bytes) token tokens c.if-self-gt0.false size
    (sym (drop_drop text.begin (c.args.first + 1) (take text.len text.bytes))) says
