use Rattle.std.proofs.Common.{◌≤◌, ◌*◌, ◌-◌, length, take, vec_len}
use Rattle.hum_record.proofs.Words.{Words}
use Rattle.hum_record.proofs.wide.put_line.Given as goal

abbrev pub invariant-loop-words : goal.invariant-loop-words
invariant-loop-words l =
    Words (take (64 * l.words) l.held) (take l.count l.places.items) l.head × (64 * l.words ≤ length l.held) × (l.count ≤ vec_len l.places)

abbrev pub decreases-loop-words : goal.decreases-loop-words
decreases-loop-words l = 16384 - l.words
