use Rattle.std.proofs.Common.{◌≡◌, ◌≢◌, ◌∙◌, sym, ap, subst, [], get_or, ◌+◌, ◌∷◌, ◌++◌, take}
use Rattle.hum_score.specs.declared.records.SpinedKind.TheVariants.{Values}
use Rattle.hum_score.specs.Row.{tokens_of, chosen}
use Rattle.hum_score.specs.Spelling.{IsToken}
use Rattle.hum_cleave.specs.Tokens.{is_left_out, data_of}
use Rattle.hum_cleave.specs.Barlines.{Knows}
use Rattle.hum_cleave.proofs.Gathering.{so_far, taken_from, passes, leaves_out, takes, adds, all_taken, none_taken, front_passes, front_takes}
use Rattle.hum_cleave.proofs.Fitted.{lawful_tokens, chosen_lawful, token_lawful, data_lawful, no_bytes, some_bytes}
use Rattle.hum_cleave.proofs.tokens.gather.Goals as goal
use Rattle.hum_cleave.proofs.tokens.gather.Goals.{then-not-branch+in_ok-add, else-not-branch, then-is_empty+in_ok-add-2, else-is_empty}

pub loop-j-preserved : goal.loop-j-preserved
loop-j-preserved c =
    let row = c.args.row.now in
    let fs = c.args.marks.now in
    let ts = tokens_of row in
    let j = c.loop-j.j in
    let at = c.loop-j-test.true in
    let wide = c.requires.as_wide in
    let on = c.if-not-mark.false in
    let so = so_far c.args.separator.now c.loop-j.text in
    let before = chosen (take j fs) (take j ts) in
    let token : c.token-token.result.now ≡ get_or ts j [] = c.token-token.ensures.token in
    let some : get_or ts j [] ≢ [] = λ none. (token_lawful Values row c.token-token.result.now c.requires.kind c.token-token.ensures.lawful).filled (token
    ∙ none) in
    let told = c.in_ok-leaves_out.ensures before c.loop-j.invariant.1 in
    let out = told.0 ∙ ap (is_left_out before) token in
    let knows = subst (λ known. Knows c.leaves_out.new.self known) (ap (λ t. before ++ t ∷ []) token ∙ sym (front_takes fs ts j at wide on)) told.1 in
    (elim c.if-not-branch.branch [
      | then-not-branch+in_ok-add w ↦ (
        rw (w.text-is, w.in_ok-add.ensures, token)
            (adds c.args.separator.now c.loop-j.text (get_or ts j []) (taken_from fs ts (j + 1)) some
            ∙ ap so (takes fs ts j at wide on (sym out ∙ w.if-not-branch.true)) ∙ c.loop-j.invariant.0),
        knows,
      )
      | else-not-branch w ↦
          (rw w.text-is (ap so (leaves_out fs ts j at wide on (sym out ∙ w.if-not-branch.false)) ∙ c.loop-j.invariant.0), knows)
    ])

pub loop-j-preserved-then-not-mark : goal.loop-j-preserved-then-not-mark
loop-j-preserved-then-not-mark c =
    let fs = c.args.marks.now in
    let ts = tokens_of c.args.row.now in
    let j = c.loop-j.j in
    let at = c.loop-j-test.true in
    let wide = c.requires.as_wide in
    let off = c.if-not-mark.true in (
      ap (so_far c.args.separator.now c.loop-j.text) (passes fs ts j at wide off) ∙ c.loop-j.invariant.0,
      rw (front_passes fs ts j at wide off) c.loop-j.invariant.1,
    )

pub returns : goal.returns
returns c =
    let row = c.args.row.now in
    let separator = c.args.separator.now in
    let fs = c.args.marks.now in
    let ts = tokens_of row in
    let j = c.loop-j.j in
    let so = c.loop-j.text in
    let all = c.loop-j.invariant.0 in
    let text : c.if-is_empty.text ≡ data_of separator (chosen fs ts) =
    (elim c.if-is_empty.branch [
      | then-is_empty+in_ok-add-2 w ↦
          let none = no_bytes so (sym c.is_empty.ensures ∙ w.if-is_empty.true) in
          rw (w.text-is, w.in_ok-add-2.ensures.added, none) (none_taken separator so fs ts j c.loop-j-test.false none all)
      | else-is_empty w ↦
          let some = some_bytes so (sym c.is_empty.ensures ∙ w.if-is_empty.false) in
          rw w.text-is (all_taken separator so fs ts j c.loop-j-test.false some all)
    ]) in
    let lawful = chosen_lawful fs ts (lawful_tokens Values row c.requires.kind c.requires.valid).0 in
    record {
      text = text;
      lawful = subst (IsToken Values) (sym text) (data_lawful separator (chosen fs ts) c.requires.between lawful);
    }
