use Rattle.std.proofs.Common.{◌<◌, ◌++◌, ◌∷◌, [], length, arith}
use Rattle.std.proofs.lemmas.Bool.Decides.{nat_tests}
use Rattle.hum_packets.proofs.Cutting.{cut-more, written-more}
use Rattle.hum_packets.proofs.writing.write_list.Goals as goal

pub loop-rest-preserved : goal.loop-rest-preserved
loop-rest-preserved c =
    let packets = c.loop-rest.invariant.0 in
    let rest = c.loop-rest.rest.now in
    let first = c.split_at.result.0.now in
    let some : 0 < length rest = grind (arith, nat_tests, c.is_empty.ensures, c.loop-rest-test.true) in (
      packets ++ first ∷ [],
      cut-more c.args.bytes.now rest first c.split_at.result.1.now packets c.min.result c.loop-rest.invariant.1 some c.min.ensures
          c.split_at.ensures.front c.split_at.ensures.back,
      written-more c.args.out.now.items c.loop-rest.out.items c.write_packet.new.out.items first packets c.loop-rest.invariant.2
          c.in_ok-write_packet.ensures.ok,
    )
