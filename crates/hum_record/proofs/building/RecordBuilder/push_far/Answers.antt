use Rattle.std.proofs.Common.{refl, ◌∙◌, ◌≤◌, ◌<◌, ◌++◌, ◌∷◌, ℕ, List, [], length}
use Rattle.std.proofs.Common.{sym, ap, subst, arith}
use Rattle.std.proofs.lemmas.Bool.{leb-true, leb-false, false≢true}
use Rattle.hum_record.specs.Building.{Draft, spelled, text_in, ends_in}
use Rattle.hum_score.specs.Spelling.{IsToken}
use Rattle.hum_record.proofs.Drafts.{draft_more, draft_length, more_tokens}
use Rattle.hum_record.proofs.building.RecordBuilder.push_far.Goals as goal

pub invariant_of-self : goal.invariant_of-self
invariant_of-self c =
    let inside = c.self.inside in
    let fits = c.in-Ok-true.ensures in
    let text = rw c.in-Ok-true.field-0-test at fits.text in
    let ends = rw c.in-Ok-true.field-0-test at fits.ends in
    let is : IsToken inside.kind c.args.token.now =
    subst (λ (d : Draft). IsToken d.kind c.args.token.now) (sym c.self.view_is) c.requires in
    let sound = c.if-self.false in (
      λ _. rw (ends, text)
          (draft_more inside.kind (text_in inside.body) (ends_in inside.body) c.args.token.now
          (c.self.invariant.0 sound) is (leb-true _ _ (sym fits.fits ∙ c.in-Ok-true.field-0-test))),
      λ yes. absurd (false≢true (sym sound ∙ yes)),
    )

pub returns-in-Ok-true-clause-pushed : goal.returns-in-Ok-true-clause-pushed
returns-in-Ok-true-clause-pushed c =
    let inside = c.self.inside in
    let fits = c.in-Ok-true.ensures in
    let text = rw c.in-Ok-true.field-0-test at fits.text in
    let ends = rw c.in-Ok-true.field-0-test at fits.ends in
    let is : IsToken inside.kind c.args.token.now =
    subst (λ (d : Draft). IsToken d.kind c.args.token.now) (sym c.self.view_is) c.requires in
    rw (ends, text)
    (ap (λ (tokens : List (List ℕ)). let d : Draft = record {
      kind = inside.kind;
      tokens = tokens;
      spent = inside.spent;
    } in d) (more_tokens inside.kind (text_in inside.body) (ends_in inside.body) c.args.token.now _
    (c.self.invariant.0 c.if-self.false) is)
    ∙ ap (λ (d : Draft). let e : Draft = record {
      kind = d.kind;
      tokens = d.tokens ++ c.args.token.now ∷ [];
      spent = d.spent;
    } in e) c.self.view_is)

pub returns-in-Ok-true-clause-fits : goal.returns-in-Ok-true-clause-fits
returns-in-Ok-true-clause-fits c =
    let inside = c.self.inside in
    let under = leb-true _ _ (sym c.in-Ok-true.ensures.fits ∙ c.in-Ok-true.field-0-test) in
    let size = draft_length inside.kind (text_in inside.body) (ends_in inside.body) c.args.token.now
    (c.self.invariant.0 c.if-self.false) in
    subst (λ (d : Draft). length (spelled (d.tokens ++ c.args.token.now ∷ [])) ≤ 1048576)
    c.self.view_is (omega (arith, size, under))

pub returns-in-Ok-false-clause-refused : goal.returns-in-Ok-false-clause-refused
returns-in-Ok-false-clause-refused c not_memory =
    let inside = c.self.inside in
    let fits = c.in-Ok-false.ensures in
    let text = rw c.in-Ok-false.field-0-test at fits.text in
    let ends = rw c.in-Ok-false.field-0-test at fits.ends in
    let over = leb-false _ _ (sym fits.fits ∙ c.in-Ok-false.field-0-test) in
    let size = draft_length inside.kind (text_in inside.body) (ends_in inside.body) c.args.token.now
    (c.self.invariant.0 c.if-self.false) in (
      refl,
      subst (λ (d : Draft). 1048576 < length (spelled (d.tokens ++ c.args.token.now ∷ [])))
          c.self.view_is (omega (arith, size, over)),
      rw (ends, text) c.self.view_is,
    )
