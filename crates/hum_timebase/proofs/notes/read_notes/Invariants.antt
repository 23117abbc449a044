use Rattle.hum_score.specs.Row.{tokens_of}
use Rattle.hum_timebase.proofs.ReadOn.{Noted}
use Rattle.hum_timebase.proofs.notes.read_notes.Given as goal

abbrev pub invariant-loop-token : goal.invariant-loop-token
invariant-loop-token l = Noted l.timed (tokens_of l.row) l.notes.items l.column l.columns l.token-iterator
