use Rattle.std.proofs.Common.{◌≡◌, [], ◌∷◌, ◌++◌, true, false, rules}
use Rattle.std.proofs.lemmas.Result.{err_from_is_err_and}
use Rattle.hum_packets.specs.Lists.{IsPacket, IsEnd}
use Rattle.hum_packets.specs.Streams.{Took}
use Rattle.hum_packets.proofs.Feeding.{serves-refl, serves-trans}
use Rattle.hum_packets.proofs.Stepping.{took-chain, took-then, took-true, took-false}
use Rattle.hum_many.specs.Cases.{Named, IsScore}
use Rattle.hum_many.proofs.Reading.{score-more, next-lost, score-lost}
use Rattle.hum_many.proofs.cases.read_scores.Goals as goal

pub loop-init : goal.loop-init
loop-init g c = ([], took-chain g.R.Source IsScore c.args.packets.now, c.new-case.ensures, serves-refl c.args.answers.now)

pub returns-in_err-next-clause-lost : goal.returns-in_err-next-clause-lost
returns-in_err-next-clause-lost g c =
    let p = err_from_is_err_and c.from_residual.result c.from_residual.ensures.1 in
    rw (p.1, p.2) (next-lost g.R.Source c.loop.invariant.0 c.in_err-next.field-0.0 c.loop.invariant.1 c.in_err-next.ensures.lost)

pub returns-in_err-next-clause-serves : goal.returns-in_err-next-clause-serves
returns-in_err-next-clause-serves g c =
    let p = err_from_is_err_and c.from_residual.result c.from_residual.ensures.1 in
    rw (p.1, p.2) (serves-trans c.loop.invariant.3 c.in_err-next.ensures.serves)

pub returns-then-not-branch-clause-took : goal.returns-then-not-branch-clause-took
returns-then-not-branch-clause-took g c =
    let is : c.in_ok-next.field-0 ≡ false = search rules in
    let end : Took g.R.Source IsEnd c.loop.packets c.next.new.self = took-false g.R.Source _ _ _ is c.in_ok-next.ensures.took in record {
      case = c.loop.invariant.0;
      took = took-then g.R.Source c.loop.invariant.1 end;
      large = c.loop.invariant.2.large;
      all = λ f. (c.loop.invariant.2.all f).0;
    }

pub returns-then-not-branch-clause-serves : goal.returns-then-not-branch-clause-serves
returns-then-not-branch-clause-serves g c = serves-trans c.loop.invariant.3 c.in_ok-next.ensures.serves

pub returns-in_err-score-clause-lost : goal.returns-in_err-score-clause-lost
returns-in_err-score-clause-lost g c =
    let p = err_from_is_err_and c.from_residual-in_err-score.result c.from_residual-in_err-score.ensures.1 in
    let is : c.in_ok-next.field-0 ≡ true = search rules in
    let name = c.next.new.self.last in
    let one : Took g.R.Source (IsPacket name) c.loop.packets c.next.new.self = took-true g.R.Source _ _ _ is c.in_ok-next.ensures.took in
    rw (p.1, p.2) (score-lost g.R.Source c.loop.invariant.0 name c.in_err-score.field-0.0 c.loop.invariant.1 one c.in_err-score.ensures.lost)

pub returns-in_err-score-clause-serves : goal.returns-in_err-score-clause-serves
returns-in_err-score-clause-serves g c =
    let p = err_from_is_err_and c.from_residual-in_err-score.result c.from_residual-in_err-score.ensures.1 in
    rw (p.1, p.2) (serves-trans (serves-trans c.loop.invariant.3 c.in_ok-next.ensures.serves) c.in_err-score.ensures.serves)

pub returns-in_err-add-clause-serves : goal.returns-in_err-add-clause-serves
returns-in_err-add-clause-serves g c =
    let p = err_from_is_err_and c.from_residual-in_err-add.result c.from_residual-in_err-add.ensures.1 in
    rw (p.1, p.2, c.in_err-add.ensures.stop)
    (serves-trans (serves-trans c.loop.invariant.3 c.in_ok-next.ensures.serves) c.in_ok-score.ensures.serves)

pub loop-preserved : goal.loop-preserved
loop-preserved g c =
    let scores = c.loop.invariant.0 in
    let is : c.in_ok-next.field-0 ≡ true = search rules in
    let name = c.next.new.self.last in
    let one : Took g.R.Source (IsPacket name) c.loop.packets c.next.new.self = took-true g.R.Source _ _ _ is c.in_ok-next.ensures.took in
    let score = c.in_ok-score.ensures.took in
    let it : Named = record { name = name; text = score.text } in (
      scores ++ it ∷ [],
      score-more g.R.Source scores name score.text c.loop.invariant.1 one score.took,
      c.in_ok-add.ensures.held scores it c.loop.invariant.2 score.holds,
      serves-trans (serves-trans c.loop.invariant.3 c.in_ok-next.ensures.serves) c.in_ok-score.ensures.serves,
    )
