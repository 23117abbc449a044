use Rattle.std.proofs.Common.{◌≡◌, ◌≤◌, ◌+◌, length, take}
use Rattle.hum_record.specs.Contents.{filled_from}
use Rattle.hum_record.specs.Fields.{begins_at}
use Rattle.hum_score.specs.Spelling.{parts}
use Rattle.hum_record.proofs.Filled.{Filling}
use Rattle.hum_record.proofs.filling.put_filled.Given as goal

abbrev pub invariant-loop-j : goal.invariant-loop-j
invariant-loop-j l =
    Filling (filled_from (parts (take l.above_len l.above)) (parts (take l.row_len l.row))) l.j l.len l.text l.places
    × (l.begin ≡ begins_at l.ends l.j) × (l.above_begin ≡ begins_at l.above_ends l.j) × (l.len ≤ l.begin + l.above_begin)
    × (length l.text ≡ length l.fn.text) × (length l.places ≡ length l.fn.places)
    × (l.begin ≤ l.row_len + 1) × (l.above_begin ≤ l.above_len + 1)
