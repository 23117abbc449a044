use Rattle.std.proofs.lemmas.Bool.Decides.{nat_tests}
use Rattle.std.proofs.Common.{◌≡◌, true, false, rules, arith}
use Rattle.hum_words.specs.Characters.{begins_apart}
use Rattle.hum_words.proofs.Fronts.{cut_behind_word}
use Rattle.hum_words.proofs.Spelled.{plain_begins, plain_breaks}
use Rattle.hum_words.proofs.cutting.plain_word.Goals as goal

pub split_at-requires : goal.split_at-requires
split_at-requires = grind (arith, nat_tests, cut_behind_word)

pub returns-then-is_apart-clause-found : goal.returns-then-is_apart-clause-found
returns-then-is_apart-clause-found c =
    let apart : begins_apart c.split_at.result.1.now ≡ true = search rules in
    let here
    = rw (c.split_at.ensures.back, c.bare_len.ensures, c.as_bytes.ensures.value) at apart in
    rw (
      c.split_at.ensures.front,
      c.split_at.ensures.back,
      c.bare_len.ensures,
      c.as_bytes.ensures.value,
    )
    (plain_begins c.args.line.now c.requires here)

pub returns-else-is_apart-clause-wrong : goal.returns-else-is_apart-clause-wrong
returns-else-is_apart-clause-wrong c =
    let joined : begins_apart c.split_at.result.1.now ≡ false = search rules in
    let here
    = rw (c.split_at.ensures.back, c.bare_len.ensures, c.as_bytes.ensures.value) at joined in
    plain_breaks c.args.line.now c.requires here
