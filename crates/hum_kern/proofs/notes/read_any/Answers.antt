use Rattle.hum_kern.proofs.Notations.{front_is_letter}
use Rattle.hum_kern.proofs.notes.read_any.Goals as goal

pub read_pitch-requires-clause-letter : goal.read_pitch-requires-clause-letter
read_pitch-requires-clause-letter c = front_is_letter c.args.bytes.now c.split_run.result.1.now c.split_run.ensures.behind c.in-len1-up.len_at_least
