use Rattle.std.proofs.Common.{eqb, w8}
use Rattle.std.proofs.lemmas.Simd.{length-chunk, bitmask_splat}
use Rattle.std.specs.Simd.Lanes.{chunk}
use Rattle.hum_record.proofs.bits.bits_at.Goals as goal

pub returns : goal.returns
returns g c =
    let v = chunk c.args.at g.row.N c.args.text.now in
    bitmask_splat w8 eqb v g.row.N c.args.byte (length-chunk c.args.at g.row.N c.args.text.now c.requires.within) c.requires.few
