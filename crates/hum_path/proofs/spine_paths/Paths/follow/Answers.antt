use Rattle.std.proofs.Common.{◌≡◌, ◌∙◌, refl, ap, sym, length, arith, rules}
use Rattle.hum_score.specs.Spines.{width, same_upto}
use Rattle.hum_path.specs.Tracked.{path_in}
use Rattle.hum_score.specs.Texts.{texts}
use Rattle.hum_path.proofs.Staying.{unsteered, width_in}
use Rattle.hum_path.proofs.spine_paths.Paths.follow.Goals as goal

pub returns-in_default : goal.returns-in_default
returns-in_default c =
    let path = c.args.self.now.path in
    let inside = c.self.inside in
    let is : path_in inside.opened (texts inside.names.items) ≡ path = ap (λ t. t.path) c.self.view_is in
    let wide : width path ≡ length inside.names.items = ap width (sym is) ∙ width_in inside.opened inside.waits inside.names.items c.self.invariant in
    let stays = unsteered path c.args.row.now (λ e. c.in_default.not-Interpretation (c.kind.ensures.kind ∙ e)) c.requires in
    let kept : c.kept.result ≡ same_upto 0 (width path) = c.kept.ensures
    ∙ ap (same_upto 0) (omega (arith, c.len.ensures, wide, inside.names.ok.0)) in
    record {
      moves = kept ∙ stays.2;
      after = rw stays.1 refl;
      sources = rw kept stays.3;
      free = λ steady err. cc;
      spent = tt;
      again = λ spent. search rules;
    }
