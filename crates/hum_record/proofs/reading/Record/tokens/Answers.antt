use Rattle.std.proofs.lemmas.Bool.Decides.{nat_tests}
use Rattle.std.proofs.Common.{◌∙◌, arith}
use Rattle.hum_record.proofs.Ends.{tokens_come}
use Rattle.hum_record.proofs.reading.Record.tokens.Goals as goal

pub all-requires : goal.all-requires
all-requires = grind (arith, nat_tests, tokens_come)

pub returns : goal.returns
returns c =
    let body = c.self.inside.body.value in
    let come = tokens_come body.text body.ends c.args.self.now c.self.invariant c.self.view_is in
    rw (c.text.ensures, c.deref.ensures, c.ends.ensures, c.deref-2.ensures) at c.all.ensures ∙ come.reads
