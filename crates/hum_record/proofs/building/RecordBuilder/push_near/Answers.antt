use Rattle.std.proofs.Common.{refl, ◌∙◌, ◌≤◌, ◌++◌, ◌∷◌, ℕ, List, [], length}
use Rattle.std.proofs.Common.{sym, ap, subst, arith}
use Rattle.std.proofs.lemmas.Bool.{false≢true}
use Rattle.hum_record.specs.Building.{Draft, spelled, text_in, ends_in}
use Rattle.hum_score.specs.Spelling.{IsToken}
use Rattle.hum_record.proofs.Drafts.{draft_more, draft_length, more_tokens, not_spent}
use Rattle.hum_record.proofs.building.RecordBuilder.push_near.Goals as goal

pub invariant_of-self : goal.invariant_of-self
invariant_of-self c =
    let inside = c.self.inside in
    let added = c.if-add_near.ensures in
    let is : IsToken inside.kind c.args.token.now =
    subst (λ (d : Draft). IsToken d.kind c.args.token.now) (sym c.self.view_is) c.requires in
    let sound = not_spent _ _ c.self.invariant.1 (added.some refl) in (
      λ _. rw (added.ends refl, added.text refl)
          (draft_more inside.kind (text_in inside.body) (ends_in inside.body) c.args.token.now
          (c.self.invariant.0 sound) is (added.fits refl)),
      λ yes. absurd (false≢true (sym sound ∙ yes)),
    )

pub returns-then-add_near-clause-pushed : goal.returns-then-add_near-clause-pushed
returns-then-add_near-clause-pushed c _ =
    let inside = c.self.inside in
    let added = c.if-add_near.ensures in
    let is : IsToken inside.kind c.args.token.now =
    subst (λ (d : Draft). IsToken d.kind c.args.token.now) (sym c.self.view_is) c.requires in
    let sound = not_spent _ _ c.self.invariant.1 (added.some refl) in
    rw (added.ends refl, added.text refl)
    (ap (λ (tokens : List (List ℕ)). let d : Draft = record {
      kind = inside.kind;
      tokens = tokens;
      spent = inside.spent;
    } in d) (more_tokens inside.kind (text_in inside.body) (ends_in inside.body) c.args.token.now _
    (c.self.invariant.0 sound) is)
    ∙ ap (λ (d : Draft). let e : Draft = record {
      kind = d.kind;
      tokens = d.tokens ++ c.args.token.now ∷ [];
      spent = d.spent;
    } in e) c.self.view_is)

pub returns-then-add_near-clause-fits : goal.returns-then-add_near-clause-fits
returns-then-add_near-clause-fits c _ =
    let inside = c.self.inside in
    let added = c.if-add_near.ensures in
    let sound = not_spent _ _ c.self.invariant.1 (added.some refl) in
    let under = added.fits refl in
    let size = draft_length inside.kind (text_in inside.body) (ends_in inside.body) c.args.token.now
    (c.self.invariant.0 sound) in
    subst (λ (d : Draft). length (spelled (d.tokens ++ c.args.token.now ∷ [])) ≤ 1048576)
    c.self.view_is (omega (arith, size, under))

pub returns-then-add_near-clause-unspent : goal.returns-then-add_near-clause-unspent
returns-then-add_near-clause-unspent c _ =
    ap (λ (d : Draft). d.spent) (sym c.self.view_is) ∙ not_spent _ _ c.self.invariant.1 (c.if-add_near.ensures.some refl)
