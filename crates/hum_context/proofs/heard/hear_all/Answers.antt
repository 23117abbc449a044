use Rattle.std.proofs.Common.{◌≡◌, ◌∙◌, sym, ap, refl, false, true, [], ◌∷◌, ◌++◌}
use Rattle.hum_score.specs.Row.{tokens_of}
use Rattle.hum_context.specs.declared.heard.Heard.{Heard}
use Rattle.hum_context.specs.Heard.{heard_of}
use Rattle.hum_context.specs.Options.{choice_of}
use Rattle.hum_choices.specs.declared.context.ContextOptions.{ContextOptions}
use Rattle.hum_context.proofs.Tokens.{heard_more, heard_end, any_more, none_more, not_taken}
use Rattle.hum_context.proofs.heard.hear_all.Goals as goal
use Rattle.hum_context.proofs.heard.hear_all.Goals.{then-ne, else-ne}

pub loop-token-init : goal.loop-token-init
loop-token-init c = record {
  kept = refl;
  heard = rw (c.requires, c.into_iter-token-iterator.ensures.into_iter_gives, c.tokens-token-items.ensures) refl;
  any = rw c.requires refl;
}

pub loop-token-preserved : goal.loop-token-preserved
loop-token-preserved c =
    let kept = c.loop-token.invariant.kept in
    let items = c.in_ok-push.ensures.items ∙ ap (λ (h : Heard). c.loop-token.heard.items ++ h ∷ []) c.of.ensures in
    let one = c.hear-one.ensures.heard ∙ ap (λ (s : ContextOptions). heard_of (choice_of s) c.in-Some.token.now) kept in
    record {
      kept = c.hear-one.ensures.kept ∙ kept;
      heard = heard_more (choice_of c.args.options.now) c.in-Some.token.now c.loop-token.heard.items _
          c.hear-one.result c.loop-token.token-iterator c.next.new.self (tokens_of c.args.row.now)
          items one c.in-Some.ensures.steps c.loop-token.invariant.heard;
      any = elim c.if-ne.branch [
        | then-ne w ↦ w.any-is ∙ any_more c.loop-token.heard.items _ c.hear-one.result items (λ is.
            let test = rw is at c.ne.ensures in
            let both : true ≡ false = sym w.if-ne.true ∙ test in
            cc)
        | else-ne w ↦ none_more _ c.loop-token.heard.items _ c.hear-one.result items
            (not_taken c.hear-one.result (λ b e is.
            let test = rw is at c.ne.ensures in
            let both : false ≡ true = sym w.if-ne.false ∙ test in
            cc)) (w.any-is ∙ c.loop-token.invariant.any)
      ];
    }

pub returns-clause-heard : goal.returns-clause-heard
returns-clause-heard c =
    heard_end (choice_of c.args.options.now) c.loop-token.heard.items c.loop-token.token-iterator
    (tokens_of c.args.row.now) c.in-None.ensures.steps.0 c.loop-token.invariant.heard
