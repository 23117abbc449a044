use Rattle.std.proofs.lemmas.Bool.Decides.{nat_tests}
use Rattle.std.proofs.Common.{arith}
use Rattle.std.proofs.lemmas.Simd.{put_chunk_is}
use Rattle.hum_text.proofs.gathered.put_any.Goals as goal

pub returns : goal.returns
returns = grind (arith, nat_tests, put_chunk_is)
