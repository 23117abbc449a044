use Rattle.std.proofs.Common.{eqb, w8, arith}
use Rattle.std.proofs.lemmas.Simd.{length-chunk, bitmask_splat}
use Rattle.std.specs.Simd.Lanes.{chunk}
use Rattle.hum_text.proofs.near.near_bits.Goals as goal

pub returns : goal.returns
returns c =
    bitmask_splat w8 eqb (chunk c.args.at 32 c.args.bytes.now) 32 10
    (length-chunk c.args.at 32 c.args.bytes.now c.requires) (omega arith)
