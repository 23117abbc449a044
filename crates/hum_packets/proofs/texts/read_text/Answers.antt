use Rattle.std.proofs.Common.{◌≡◌, [], ◌∷◌, ◌++◌, ◌∙◌, sym, refl, subst, true, false, arith, rules}
use Rattle.std.specs.List.{concat}
use Rattle.std.proofs.Math.Seq.{take-nil}
use Rattle.std.proofs.lemmas.Result.{err_from_is_err_and}
use Rattle.std.proofs.lemmas.Bool.Decides.{nat_tests}
use Rattle.hum_packets.specs.Lists.{Then, Chain, IsPacket, IsEnd, Stops, StopsInList}
use Rattle.hum_packets.specs.Streams.{Holds, Took}
use Rattle.hum_packets.proofs.Feeding.{serves-refl, serves-trans}
use Rattle.hum_packets.proofs.Stepping.{took-chain, took-then, took-as, took-true, took-false, lost-then, lost-as, chain-more, concat-one}
use Rattle.hum_packets.proofs.texts.read_text.Goals as goal

pub loop-init : goal.loop-init
loop-init g c = (
  [],
  took-chain g.R.Source IsPacket c.args.packets.now,
  record { is = c.new.ensures.items ∙ sym (take-nil c.args.most); whole = grind (arith, nat_tests) },
  serves-refl c.args.answers.now,
)

pub returns-in_err-next-clause-lost : goal.returns-in_err-next-clause-lost
returns-in_err-next-clause-lost g c =
    let p = err_from_is_err_and c.from_residual.result c.from_residual.ensures.1 in
    let packets = c.loop.invariant.0 in
    let from = c.args.packets.now in
    let stop = c.in_err-next.field-0.0 in
    rw (p.1, p.2) (lost-as g.R.Source (Then (Chain IsPacket packets) Stops) StopsInList from stop
    (λ all rest is. record { packets = packets; stops = is })
    (lost-then g.R.Source (Chain IsPacket packets) Stops from c.loop.packets stop c.loop.invariant.1 c.in_err-next.ensures.lost))

pub returns-then-not-branch-clause-took : goal.returns-then-not-branch-clause-took
returns-then-not-branch-clause-took g c =
    let packets = c.loop.invariant.0 in
    let is : c.in_ok-next.field-0 ≡ false = search rules in
    let end : Took g.R.Source IsEnd c.loop.packets c.next.new.self = took-false g.R.Source _ _ _ is c.in_ok-next.ensures.took in record {
      all = concat packets;
      took = took-as g.R.Source (λ all rest is. record { packets = packets; is = is; joined = refl }) (took-then g.R.Source c.loop.invariant.1 end);
      holds = c.loop.invariant.2;
    }

pub loop-preserved : goal.loop-preserved
loop-preserved g c =
    let packets = c.loop.invariant.0 in
    let last = c.next.new.self.last in
    let is : c.in_ok-next.field-0 ≡ true = search rules in
    let one : Took g.R.Source (IsPacket last) c.loop.packets c.next.new.self = took-true g.R.Source _ _ _ is c.in_ok-next.ensures.took in (
      packets ++ last ∷ [],
      took-as g.R.Source (λ all rest is. chain-more IsPacket packets last all is.0 rest is.1 is.2) (took-then g.R.Source c.loop.invariant.1 one),
      subst (λ xs. Holds c.args.most xs c.hold.new.text.bytes.items c.hold.new.text.is_whole) (concat-one packets last c.last.result.now c.last.ensures)
          (c.in_ok-hold.ensures.held (concat packets) c.loop.invariant.2),
      serves-trans c.loop.invariant.3 c.in_ok-next.ensures.serves,
    )

pub returns-in_err-next-clause-serves : goal.returns-in_err-next-clause-serves
returns-in_err-next-clause-serves g c =
    let p = err_from_is_err_and c.from_residual.result c.from_residual.ensures.1 in
    rw (p.1, p.2) (serves-trans c.loop.invariant.3 c.in_err-next.ensures.serves)

pub returns-then-not-branch-clause-serves : goal.returns-then-not-branch-clause-serves
returns-then-not-branch-clause-serves g c = serves-trans c.loop.invariant.3 c.in_ok-next.ensures.serves

pub returns-in_err-hold-clause-serves : goal.returns-in_err-hold-clause-serves
returns-in_err-hold-clause-serves g c =
    let p = err_from_is_err_and c.from_residual-in_err-hold.result c.from_residual-in_err-hold.ensures.1 in
    rw (p.1, p.2, c.in_err-hold.ensures.stop) (serves-trans c.loop.invariant.3 c.in_ok-next.ensures.serves)
