use Rattle.std.proofs.lemmas.Bool.Decides.{nat_tests}
use Rattle.std.proofs.Common.{◌≡◌, ◌≤◌, ◌∙◌, sym, ap, ◌+◌, [], length, take, get_or, Bool, arith, List, ℕ, rules}
use Rattle.std.specs.List.{list_any}
use Rattle.std.proofs.lemmas.List.{take_all}
use Rattle.hum_score.specs.declared.records.SpinedKind.{SpinedKind}
use Rattle.hum_score.specs.Spelling.{is_empty, kind_of_token, kind_of_first, mixes_kinds, parts}
use Rattle.hum_record.specs.Fields.{ends_from}
use Rattle.hum_record.proofs.Laws.{kinds_empty, kinds_mixed, kinds_comment, kinds_one}
use Rattle.hum_record.proofs.Parts.{kind_of_parts}
use Rattle.hum_record.proofs.Ends.{part_lies, parts_count}
use Rattle.hum_record.proofs.Cuts.{is_other, any_take}
use Rattle.hum_record.proofs.tokens.lawful_kind.Goals as goal

pub token_at_end-token-requires : goal.token_at_end-token-requires
token_at_end-token-requires c =
    let lies = part_lies c.args.text.now c.args.ends.now c.loop-j.j c.requires c.loop-j-test.true in
    record { counted = c.loop-j-test.true; order = lies.order; within = lies.within }

pub loop-j-preserved : goal.loop-j-preserved
loop-j-preserved c =
    let text = c.args.text.now in
    let token = c.token_at_end-token.result.now in
    let lies = part_lies text c.args.ends.now c.loop-j.j c.requires c.loop-j-test.true in
    let same : token ≡ get_or (parts text) c.loop-j.j [] = c.token_at_end-token.ensures ∙ lies.reads in
    let count = parts_count text c.args.ends.now c.requires in
    let below : c.loop-j.j + 1 ≤ length (parts text) = omega (arith, count, c.loop-j-test.true) in
    let other : c.ne-mixes_kinds.result ≡ is_other c.token_kind-kind.result token = search rules in
    let kinds : c.ne-mixes_kinds.result ≡ is_other (kind_of_token text) (get_or (parts text) c.loop-j.j []) =
    other ∙ ap (λ (k : SpinedKind). is_other k token) c.token_kind-kind.ensures ∙ ap (is_other (kind_of_token text)) same in
    let empty : c.is_empty-has_empty.result ≡ is_empty (get_or (parts text) c.loop-j.j []) = c.is_empty-has_empty.ensures ∙ ap is_empty same in (
      rw (c.loop-j.invariant.0, empty) (sym (any_take is_empty (parts text) c.loop-j.j (omega (arith, below)))),
      rw (c.loop-j.invariant.1, kinds) (sym (any_take (is_other (kind_of_token text)) (parts text) c.loop-j.j (omega (arith, below)))),
    )

-- what was found of all tokens
none_empty : (text ends : List ℕ) (j : ℕ) (found : Bool) → ends ≡ ends_from 0 (parts text) → length ends ≤ j → found ≡ list_any is_empty (take j (parts text))
    → list_any is_empty (parts text) ≡ found
none_empty = grind (arith, nat_tests, parts_count, take_all)

none_mixed : (text ends : List ℕ) (j : ℕ) (found : Bool) → ends ≡ ends_from 0 (parts text) → length ends ≤ j →
    found ≡ list_any (is_other (kind_of_token text)) (take j (parts text))
    → mixes_kinds (parts text) ≡ found
none_mixed = grind (arith, nat_tests, parts_count, is_other, take_all, kind_of_parts)

pub returns-then-has_empty : goal.returns-then-has_empty
returns-then-has_empty c =
    kinds_empty (parts c.args.text.now) (none_empty c.args.text.now c.args.ends.now _ _ c.requires
    c.loop-j-test.false c.loop-j.invariant.0 ∙ c.if-has_empty.true)

pub returns-then-mixes_kinds : goal.returns-then-mixes_kinds
returns-then-mixes_kinds c =
    kinds_mixed (parts c.args.text.now) (none_empty c.args.text.now c.args.ends.now _ _ c.requires
    c.loop-j-test.false c.loop-j.invariant.0 ∙ c.if-has_empty.false)
    (none_mixed c.args.text.now c.args.ends.now _ _ c.requires c.loop-j-test.false c.loop-j.invariant.1 ∙ c.if-mixes_kinds.true)

pub returns-then-is_local_with_comment : goal.returns-then-is_local_with_comment
returns-then-is_local_with_comment c =
    let kind : c.token_kind-kind.result ≡ kind_of_first (parts c.args.text.now) = c.token_kind-kind.ensures ∙ kind_of_parts c.args.text.now in
    kinds_comment (parts c.args.text.now) (none_empty c.args.text.now c.args.ends.now _ _ c.requires
    c.loop-j-test.false c.loop-j.invariant.0 ∙ c.if-has_empty.false)
    (none_mixed c.args.text.now c.args.ends.now _ _ c.requires c.loop-j-test.false c.loop-j.invariant.1 ∙ c.if-mixes_kinds.false)
    (rw kind at (sym c.is_local_with_comment.ensures ∙ c.if-is_local_with_comment.true))

pub returns : goal.returns
returns c =
    let kind : c.token_kind-kind.result ≡ kind_of_first (parts c.args.text.now) = c.token_kind-kind.ensures ∙ kind_of_parts c.args.text.now in
    rw kind (kinds_one (parts c.args.text.now) (none_empty c.args.text.now c.args.ends.now _ _ c.requires
    c.loop-j-test.false c.loop-j.invariant.0 ∙ c.if-has_empty.false)
    (none_mixed c.args.text.now c.args.ends.now _ _ c.requires c.loop-j-test.false c.loop-j.invariant.1 ∙ c.if-mixes_kinds.false)
    (rw kind at (sym c.is_local_with_comment.ensures ∙ c.if-is_local_with_comment.false)))
