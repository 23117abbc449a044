use Rattle.std.proofs.Common.{◌≡◌, ◌∙◌, sym, ap, [], get_or, true, false, arith}
use Rattle.std.proofs.lemmas.List.{get_or_default}
use Rattle.std.proofs.lemmas.List.Folds.{list_any_none, list_any_at}
use borrow.Author.Count.{below_more}
use Rattle.hum_score.specs.Spelling.{is_comment, parts}
use Rattle.hum_record.proofs.Ends.{part_lies, parts_count}
use Rattle.hum_record.proofs.tokens.has_comment.Goals as goal

pub token_at_end-requires : goal.token_at_end-requires
token_at_end-requires c =
    let lies = part_lies c.args.text.now c.args.ends.now c.loop-j.j c.requires c.loop-j-test.true in
    record { counted = c.loop-j-test.true; order = lies.order; within = lies.within }

pub returns-then-starts_with : goal.returns-then-starts_with
returns-then-starts_with c =
    let lies = part_lies c.args.text.now c.args.ends.now c.loop-j.j c.requires c.loop-j-test.true in
    let below = parts_count c.args.text.now c.args.ends.now c.requires in
    let is : is_comment (get_or (parts c.args.text.now) c.loop-j.j []) ≡ true =
    ap is_comment (sym (c.token_at_end.ensures ∙ lies.reads)) ∙ sym c.starts_with.ensures.value ∙ c.if-starts_with.true in
    sym (list_any_at is_comment (parts c.args.text.now) c.loop-j.j [] (omega (arith, below, c.loop-j-test.true)) is)

pub loop-j-preserved : goal.loop-j-preserved
loop-j-preserved c =
    let lies = part_lies c.args.text.now c.args.ends.now c.loop-j.j c.requires c.loop-j-test.true in
    let isnt : is_comment (get_or (parts c.args.text.now) c.loop-j.j []) ≡ false =
    ap is_comment (sym (c.token_at_end.ensures ∙ lies.reads)) ∙ sym c.starts_with.ensures.value ∙ c.if-starts_with.false in
    below_more (λ k. is_comment (get_or (parts c.args.text.now) k []) ≡ false) c.loop-j.j c.loop-j.invariant isnt

pub returns : goal.returns
returns c =
    let below = parts_count c.args.text.now c.args.ends.now c.requires in
    sym (list_any_none is_comment (parts c.args.text.now) (λ k d lt.
    rw (get_or_default (parts c.args.text.now) k d [] lt) (c.loop-j.invariant k (omega (arith, below, lt, c.loop-j-test.false)))))
