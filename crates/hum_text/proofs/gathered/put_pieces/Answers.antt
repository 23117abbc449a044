use Rattle.hum_text.proofs.GatherLemmas.{four-put}
use Rattle.std.proofs.Common.{refl}
use Rattle.hum_text.proofs.gathered.put_pieces.Goals as goal

pub returns : goal.returns
returns g c =
    four-put c.args.bytes.now c.args.held.now c.args.at g.row.N c.requires.room _ _ _ _ _ _ _ c.requires.least c.requires.most refl
    c.min.ensures c.min-2.ensures c.put_piece.ensures c.put_piece-2.ensures c.put_piece-3.ensures c.put_piece-4.ensures
