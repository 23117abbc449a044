use Rattle.std.proofs.Common.{◌≡◌, true, false, rules}
use Rattle.std.proofs.lemmas.Result.{err_from_is_err_and}
use Rattle.hum_packets.proofs.Feeding.{serves-trans}
use Rattle.hum_many.proofs.Reading.{ahead-lost, case-lost, case-took, ends-here, some-here}
use Rattle.hum_many.proofs.cases.read_case.Goals as goal

pub returns-in_err-is_at_end-clause-lost : goal.returns-in_err-is_at_end-clause-lost
returns-in_err-is_at_end-clause-lost g c =
    let p = err_from_is_err_and c.from_residual.result c.from_residual.ensures.1 in
    rw (p.1, p.2) (ahead-lost g.R.Source c.args.packets.now c.in_err-is_at_end.field-0.0 c.in_err-is_at_end.ensures.lost)

pub returns-in_err-read_scores-clause-lost : goal.returns-in_err-read_scores-clause-lost
returns-in_err-read_scores-clause-lost g c =
    let p = err_from_is_err_and c.from_residual-in_err-read_scores.result c.from_residual-in_err-read_scores.ensures.1 in
    let is : c.in_ok-is_at_end.field-0 ≡ false = search rules in
    rw (p.1, p.2) (case-lost g.R.Source c.args.packets.now c.is_at_end.new.self c.in_err-read_scores.field-0.0 c.in_ok-is_at_end.ensures.fed
    (some-here g.R.Source c.is_at_end.new.self c.in_ok-is_at_end.field-0 is c.in_ok-is_at_end.ensures.end) c.in_err-read_scores.ensures.lost)

pub returns-in_err-read_scores-clause-serves : goal.returns-in_err-read_scores-clause-serves
returns-in_err-read_scores-clause-serves g c =
    let p = err_from_is_err_and c.from_residual-in_err-read_scores.result c.from_residual-in_err-read_scores.ensures.1 in
    rw (p.1, p.2) (serves-trans c.in_ok-is_at_end.ensures.serves c.in_err-read_scores.ensures.serves)

pub returns-then-branch-clause-took : goal.returns-then-branch-clause-took
returns-then-branch-clause-took g c =
    let is : c.in_ok-is_at_end.field-0 ≡ true = search rules in
    ends-here g.R.Source c.args.packets.now c.is_at_end.new.self c.in_ok-is_at_end.field-0 c.in_ok-is_at_end.ensures.fed is
    c.in_ok-is_at_end.ensures.end

pub returns-clause-took : goal.returns-clause-took
returns-clause-took g c = case-took g.R.Source c.in_ok-is_at_end.ensures.fed c.in_ok-read_scores.ensures.took

pub returns-clause-serves : goal.returns-clause-serves
returns-clause-serves g c = serves-trans c.in_ok-is_at_end.ensures.serves c.in_ok-read_scores.ensures.serves
