use Rattle.std.proofs.Common.{◌∙◌, sym, refl, arith}
use Rattle.hum_assemble.proofs.Asking.{found_below, first_behind}
use Rattle.hum_assemble.proofs.round.ahead_behind.Goals as goal

pub overflow_add-result : goal.overflow_add-result
overflow_add-result c =
    let found = found_below c.args.going 0 c.in-Some.j c.split_at.result.1.now
    (sym c.first_missing.ensures ∙ c.in-Some.is) in
    let rest = c.split_at.ensures.back_len in
    omega (arith, found, rest)

pub returns-in-Some : goal.returns-in-Some
returns-in-Some c =
    let first = first_behind c.args.going c.args.known c.args.sources.now c.first_missing.result c.requires.known
    (rw c.split_at.ensures.back at c.first_missing.ensures) in
    rw (first, c.in-Some.is) refl

pub returns-in-None : goal.returns-in-None
returns-in-None c =
    let first = first_behind c.args.going c.args.known c.args.sources.now c.first_missing.result c.requires.known
    (rw c.split_at.ensures.back at c.first_missing.ensures) in
    rw (first, c.in-None.is) c.ahead_known.ensures
