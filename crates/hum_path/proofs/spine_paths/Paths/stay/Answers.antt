use Rattle.std.proofs.Common.{◌≡◌, ◌∙◌, ap, sym, length, arith}
use Rattle.hum_score.specs.Row.{tokens_of}
use Rattle.hum_score.specs.Spines.{width, same_upto}
use Rattle.hum_path.specs.Tracked.{path_in}
use Rattle.hum_score.specs.Texts.{texts}
use Rattle.hum_score.specs.Rules.{breaks_as_text, in_order}
use Rattle.std.specs.List.{find}
use Rattle.hum_path.proofs.Staying.{quiet_stays, width_in}
use Rattle.hum_path.proofs.spine_paths.Paths.stay.Goals as goal

pub returns-in-Some : goal.returns-in-Some
returns-in-Some c =
    let path = c.args.self.now.path in
    let inside = c.self.inside in
    let is : path_in inside.opened (texts inside.names.items) ≡ path = ap (λ t. t.path) c.self.view_is in
    let wide : width path ≡ length inside.names.items = ap width (sym is) ∙ width_in inside.opened inside.waits inside.names.items c.self.invariant in
    let quiet = quiet_stays path c.args.row.now c.requires
    (λ e. c.in_default.not-Global (c.kind.ensures.kind ∙ e)) c.kind.ensures.lawful
    (omega (arith, wide, c.self.invariant.at_most)) in
    let found : c.text_fault.result ≡ find (breaks_as_text path (tokens_of c.args.row.now)) in_order =
    rw (c.deref.ensures.value, is) at c.text_fault.ensures.first in
    (quiet.0 ∙ sym found ∙ c.in-Some.is, c.in-Some.ensures.told)

pub returns-in-None : goal.returns-in-None
returns-in-None c =
    let path = c.args.self.now.path in
    let inside = c.self.inside in
    let is : path_in inside.opened (texts inside.names.items) ≡ path = ap (λ t. t.path) c.self.view_is in
    let wide : width path ≡ length inside.names.items = ap width (sym is) ∙ width_in inside.opened inside.waits inside.names.items c.self.invariant in
    let quiet = quiet_stays path c.args.row.now c.requires
    (λ e. c.in_default.not-Global (c.kind.ensures.kind ∙ e)) c.kind.ensures.lawful
    (omega (arith, wide, c.self.invariant.at_most)) in
    let found : c.text_fault.result ≡ find (breaks_as_text path (tokens_of c.args.row.now)) in_order =
    rw (c.deref.ensures.value, is) at c.text_fault.ensures.first in
    let stays = quiet.1 (quiet.0 ∙ sym found ∙ c.in-None.is) in
    let kept : c.kept-in-None.result ≡ same_upto 0 (width path) = c.kept-in-None.ensures
    ∙ ap (same_upto 0) (omega (arith, c.len-in-None.ensures, wide, inside.names.ok.0)) in
    (stays.sound, stays.path_stays, kept ∙ sym stays.all_stay, rw kept stays.sources)
