use Rattle.std.proofs.Common.{◌≡◌, ◌∙◌, sym, ap, [], ◌++◌, append-nil, get_or, false, None, Some, rules}
use Rattle.hum_score.specs.Row.{tokens_of}
use Rattle.hum_timebase.specs.Notes.{notes_of, has_misread}
use Rattle.hum_timebase.specs.Placed.{placed}
use Rattle.hum_timebase.proofs.Reading.{none_noted, none_misread}
use Rattle.hum_timebase.proofs.ReadOn.{noted_more, null_noted, barline_noted, refused_here}
use Rattle.hum_timebase.proofs.notes.read_notes.Goals as goal

pub loop-token-preserved-then-is_null : goal.loop-token-preserved-then-is_null
loop-token-preserved-then-is_null c =
    let none = null_noted (get_or c.loop-token.columns.now 0 false) c.in-Some.token.now c.if-is_null.ensures in
    noted_more c.args.timed.now (tokens_of c.args.row.now) c.loop-token.notes.items c.loop-token.column c.loop-token.columns.now false c.in-Some.token.now None
    c.in-len1-up.len_at_least c.in-Some.ensures.steps none.0 none.1 (sym (append-nil c.loop-token.notes.items)) c.loop-token.invariant

pub loop-token-preserved-in-Some-plain_note : goal.loop-token-preserved-in-Some-plain_note
loop-token-preserved-in-Some-plain_note c =
    let lasting = c.in-Some-plain_note.lasting in
    noted_more c.args.timed.now (tokens_of c.args.row.now) c.loop-token.notes.items c.loop-token.column c.loop-token.columns.now _
    c.in-Some.token.now (Some lasting)
    c.in-len1-up.len_at_least c.in-Some.ensures.steps (sym c.in-Some-plain_note.ensures.note.0) c.in-Some-plain_note.ensures.note.1
    c.in_ok-put_note.ensures c.loop-token.invariant

pub loop-token-preserved-then-is_barline : goal.loop-token-preserved-then-is_barline
loop-token-preserved-then-is_barline c =
    let none = barline_noted (get_or c.loop-token.columns.now 0 false) c.in-Some.token.now c.if-is_barline.ensures in
    noted_more c.args.timed.now (tokens_of c.args.row.now) c.loop-token.notes.items c.loop-token.column c.loop-token.columns.now false c.in-Some.token.now None
    c.in-len1-up.len_at_least c.in-Some.ensures.steps none.0 none.1 (sym (append-nil c.loop-token.notes.items)) c.loop-token.invariant

pub loop-token-preserved-in-Ok-None : goal.loop-token-preserved-in-Ok-None
loop-token-preserved-in-Ok-None c =
    noted_more c.args.timed.now (tokens_of c.args.row.now) c.loop-token.notes.items c.loop-token.column c.loop-token.columns.now _ c.in-Some.token.now None
    c.in-len1-up.len_at_least c.in-Some.ensures.steps (sym c.in-Ok-None.field-0-is ∙ c.in-Ok-None.ensures.0) c.in-Ok-None.ensures.1
    (sym (append-nil c.loop-token.notes.items)) c.loop-token.invariant

pub loop-token-preserved : goal.loop-token-preserved
loop-token-preserved c =
    noted_more c.args.timed.now (tokens_of c.args.row.now) c.loop-token.notes.items c.loop-token.column c.loop-token.columns.now _
    c.in-Some.token.now (Some c.in-Ok-Some.lasting)
    c.in-len1-up.len_at_least c.in-Some.ensures.steps (sym c.in-Ok-Some.field-0-is ∙ c.in-Ok-Some.ensures.0) c.in-Ok-Some.ensures.1
    c.in_ok-put_note-in-Ok-Some.ensures c.loop-token.invariant

pub returns-in-Err : goal.returns-in-Err
returns-in-Err c =
    refused_here c.args.timed.now (tokens_of c.args.row.now) c.loop-token.notes.items c.loop-token.column c.loop-token.columns.now _ c.in-Some.token.now
    c.in-len1-up.len_at_least c.in-Some.ensures.steps c.in-Err.ensures c.loop-token.invariant

pub returns : goal.returns
returns c =
    let columns = c.loop-token.columns.now in
    let done : c.loop-token.token-iterator ≡ [] = search rules in
    let none = ap (notes_of columns) done ∙ none_noted columns in (
      sym c.loop-token.invariant.read ∙ ap (has_misread columns) done ∙ none_misread columns,
      sym (append-nil c.loop-token.notes.items)
          ∙ ap (λ notes. c.loop-token.notes.items ++ placed c.loop-token.column notes) (sym none)
          ∙ c.loop-token.invariant.notes,
    )
