use Rattle.std.proofs.Common.{arith, rules, None, Some}
use Rattle.std.proofs.lemmas.Str.Pattern.{split_parts}
use Rattle.hum_words.proofs.Spelled.{quoted_begins, quoted_joins, never_closed}
use Rattle.hum_words.proofs.cutting.quoted_word.Goals as goal

pub returns-in_err-word-clause-wrong : goal.returns-in_err-word-clause-wrong
returns-in_err-word-clause-wrong c =
    rw c.from_residual.ensures (never_closed c.args.line.now (split_parts 39 c.args.line.now None c.in_err-word.ensures.cases (omega arith)))

pub returns-then-is_apart-clause-found : goal.returns-then-is_apart-clause-found
returns-then-is_apart-clause-found c =
    let parts = split_parts 39 c.args.line.now (Some (c.in_ok-word.word, c.in_ok-word.rest)) c.in_ok-word.ensures.cases (omega arith) in
    quoted_begins c.args.line.now _ _ parts.0 parts.1 (search rules)

pub returns-else-is_apart-clause-wrong : goal.returns-else-is_apart-clause-wrong
returns-else-is_apart-clause-wrong c =
    let parts = split_parts 39 c.args.line.now (Some (c.in_ok-word.word, c.in_ok-word.rest)) c.in_ok-word.ensures.cases (omega arith) in
    quoted_joins c.args.line.now _ _ parts.0 parts.1 (search rules)
