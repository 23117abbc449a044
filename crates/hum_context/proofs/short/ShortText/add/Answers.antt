use Rattle.std.proofs.Common.{◌≡◌, ◌∙◌, ◌+◌, ap, arith, length, drop, take, ℕ}
use Rattle.hum_context.proofs.Told.{says_more}
use Rattle.hum_context.proofs.short.ShortText.add.Goals as goal

pub returns : goal.returns
returns c tokens count says =
    let text = c.make_room.new.self in
    let token = c.args.token.now in
    let size : text.len + (length token + 1) ≡ text.len + 1 + length token = omega arith in
    says_more text.missing (drop text.begin (take text.len text.bytes)) _ token tokens
    (c.make_room.ensures.says tokens says)
    (ap (λ (n : ℕ). drop text.begin (take n c.put_behind.new.text)) size
    ∙ c.put_behind.ensures.behind text.begin text.order)
