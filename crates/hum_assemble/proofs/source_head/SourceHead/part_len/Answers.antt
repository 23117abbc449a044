use Rattle.std.proofs.lemmas.Bool.Decides.{nat_tests}
use Rattle.std.proofs.Common.{◌∙◌, ap, arith}
use Rattle.hum_assemble.specs.Places.{null_at}
use Rattle.hum_assemble.specs.Head.{coming}
use Rattle.hum_assemble.proofs.Notes.{note_spined}
use Rattle.hum_assemble.proofs.Bytes.{tokens_len_nulls, tokens_len_text}
use Rattle.hum_assemble.proofs.source_head.SourceHead.part_len.Goals as goal

pub returns-then-not-taken : goal.returns-then-not-taken
returns-then-not-taken c =
    rw (← c.self.view_is) (tokens_len_nulls c.args.taken c.args.p (record {
      path = c.self.inside.paths.path;
      due = c.self.inside.due;
      coming = coming c.self.inside.head;
      ended = c.self.inside.ended;
    }) _ _ c.if-not-taken.true c.width.ensures.width
    (c.null_at.ensures ∙ ap null_at c.kind.ensures))

pub noted_len-requires : goal.noted_len-requires
noted_len-requires = grind (arith, nat_tests, note_spined)

pub returns-in-Note : goal.returns-in-Note
returns-in-Note c = rw (← c.self.view_is, c.if-not-taken.false, c.in-Some.is) c.noted_len.ensures

pub returns-in_default-kind : goal.returns-in_default-kind
returns-in_default-kind c =
    rw (← c.self.view_is, c.if-not-taken.false, c.in-Some.is, c.text.ensures.text)
    (tokens_len_text _ (λ e. c.in_default-kind.not-Global (c.kind-in_default.ensures.kind ∙ e))
    c.kind-in_default.ensures.lawful)
