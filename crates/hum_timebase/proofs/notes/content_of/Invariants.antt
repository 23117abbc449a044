use Rattle.std.proofs.Common.{◌≡◌, drop, ◌||◌}
use Rattle.std.specs.List.{list_any}
use Rattle.hum_score.specs.Row.{tokens_of}
use Rattle.hum_record.specs.Contents.{is_barline}
use Rattle.hum_timebase.specs.Notes.{is_sounding}
use Rattle.hum_timebase.proofs.notes.content_of.Given as goal

abbrev pub invariant-loop-j : goal.invariant-loop-j
invariant-loop-j l =
    let tokens = tokens_of l.row in record {
      sounds : list_any is_sounding (drop l.j tokens) ≡ list_any is_sounding tokens;
      barlines : (l.found || list_any is_barline (drop l.j tokens)) ≡ list_any is_barline tokens;
    }
