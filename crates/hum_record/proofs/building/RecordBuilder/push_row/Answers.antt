use Rattle.std.proofs.Common.{refl, ◌≡◌, ◌∙◌, ◌++◌, ℕ, List, sym, ap}
use Rattle.std.proofs.lemmas.Bool.{false≢true}
use Rattle.hum_score.specs.Row.{Spined, tokens_of}
use Rattle.hum_record.specs.Building.{Draft, text_in, ends_in}
use Rattle.hum_record.proofs.Drafts.{not_spent}
use Rattle.hum_record.proofs.Rows.{row_added, row_cut}
use Rattle.hum_record.proofs.building.RecordBuilder.push_row.Goals as goal

pub add_row-requires : goal.add_row-requires
add_row-requires c = record { cut = row_cut _ _ _ _ c.body.ensures.fields c.body.ensures.text c.requires }

pub invariant_of-self : goal.invariant_of-self
invariant_of-self c =
    let inside = c.self.inside in
    let added = c.if-add_row.ensures in
    let sound = not_spent _ _ c.self.invariant.1 (added.some refl) in
    let spined : c.args.row.now ≡ Spined inside.kind (tokens_of c.args.row.now) = rw (← c.self.view_is) at c.requires in (
      λ _. (row_added inside.kind c.args.row.now (text_in inside.body) (ends_in inside.body) _ _ _ _ (c.self.invariant.0 sound)
          c.body.ensures.fields c.body.ensures.text spined (added.fits refl) (added.text refl) (added.ends refl)).draft,
      λ yes. absurd (false≢true (sym sound ∙ yes)),
    )

pub returns-then-add_row-clause-pushed : goal.returns-then-add_row-clause-pushed
returns-then-add_row-clause-pushed c _ =
    let inside = c.self.inside in
    let added = c.if-add_row.ensures in
    let sound = not_spent _ _ c.self.invariant.1 (added.some refl) in
    let spined : c.args.row.now ≡ Spined inside.kind (tokens_of c.args.row.now) = rw (← c.self.view_is) at c.requires in
    ap (λ (tokens : List (List ℕ)). let d : Draft = record {
      kind = inside.kind;
      tokens = tokens;
      spent = inside.spent;
    } in d) (row_added inside.kind c.args.row.now (text_in inside.body) (ends_in inside.body) _ _ _ _ (c.self.invariant.0 sound)
    c.body.ensures.fields c.body.ensures.text spined (added.fits refl) (added.text refl) (added.ends refl)).tokens_are
    ∙ ap (λ (d : Draft). let e : Draft = record {
      kind = d.kind;
      tokens = d.tokens ++ tokens_of c.args.row.now;
      spent = d.spent;
    } in e) c.self.view_is
