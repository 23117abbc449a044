use Rattle.std.proofs.lemmas.Bool.Decides.{nat_tests}
use Rattle.std.proofs.Common.{◌∙◌, arith}
use Rattle.hum_record.proofs.Laws.{token_lawful}
use Rattle.hum_record.proofs.Ends.{piece_lies, width_counts}
use Rattle.hum_record.proofs.reading.Record.token.Goals as goal

pub token_at_end-requires : goal.token_at_end-requires
token_at_end-requires c =
    let inside = c.self.inside in
    let lies = piece_lies inside.body.value.text inside.body.value.ends c.args.self.now c.args.j c.self.invariant c.self.view_is c.requires in
    let count = width_counts inside.body.value.text inside.body.value.ends c.args.self.now c.self.invariant c.self.view_is in
    rw (c.text.ensures, c.deref.ensures, c.ends.ensures, c.deref-2.ensures)
    (record { counted = omega (arith, count); order = lies.order; within = lies.within })

pub returns-clause-token : goal.returns-clause-token
returns-clause-token = grind (arith, nat_tests, piece_lies)

pub returns-clause-lawful : goal.returns-clause-lawful
returns-clause-lawful c =
    let inside = c.self.inside in
    let lies = piece_lies inside.body.value.text inside.body.value.ends c.args.self.now c.args.j c.self.invariant c.self.view_is c.requires in
    let same = rw (c.text.ensures, c.deref.ensures, c.ends.ensures, c.deref-2.ensures) at c.token_at_end.ensures ∙ lies.reads in
    rw same (token_lawful c.args.self.now _ c.args.j (rw c.self.view_is at c.self.invariant.lawful) c.requires)
