use Rattle.std.proofs.Common.{arith, ◌≡◌, length, w8}
use Rattle.std.proofs.lemmas.Simd.{length-chunk, chunk-fits, zip2_splat, zip2_of_maps}
use Rattle.std.specs.Simd.Lanes.{chunk}
use lib.Bits.{bit_or}
use Rattle.hum_record.proofs.Short.{hit, stop_mask, equal_lanes}
use Rattle.hum_record.proofs.near.stop_bits.Goals as goal

pub returns : goal.returns
returns g c =
    let v = chunk c.args.at g.row.N c.args.held.now in
    let long : length v ≡ g.row.N = length-chunk c.args.at g.row.N c.args.held.now c.requires.within in
    let stars = equal_lanes (λ x. bit_or x 32) 42 g.row.N v long (zip2_splat bit_or v g.row.N 32 long) in
    stop_mask v _ (omega (arith, long, c.requires.few)) (chunk-fits w8 c.args.at g.row.N c.args.held.now c.type_inv.held)
    (zip2_of_maps bit_or _ _ v (zip2_of_maps bit_or _ _ v stars (zip2_splat hit v g.row.N 33 long)) (zip2_splat hit v g.row.N 13 long))
