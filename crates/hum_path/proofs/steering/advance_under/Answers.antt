use Rattle.std.proofs.Common.{◌≡◌, ◌∙◌, sym, length}
use Rattle.std.proofs.lemmas.List.{length-map}
use Rattle.hum_score.specs.Row.{tokens_of}
use Rattle.hum_score.specs.Texts.{texts}
use Rattle.hum_path.proofs.Refused.{refused, stepped}
use Rattle.hum_path.proofs.steering.advance_under.Goals as goal

pub returns-in-Some : goal.returns-in-Some
returns-in-Some c =
    let names = texts c.args.names.now in
    let size : length names ≡ length c.args.names.now = length-map c.args.names.now (λ v. v.items) in
    refused names (tokens_of c.args.row.now) c.in-Some.fault (λ e. c.requires.some (sym size ∙ e)) (c.requires.wide ∙ sym size)
    (sym c.sign_fault.ensures ∙ c.in-Some.is)

pub returns : goal.returns
returns c =
    let names = texts c.args.names.now in
    let size : length names ≡ length c.args.names.now = length-map c.args.names.now (λ v. v.items) in
    stepped names (tokens_of c.args.row.now) c.next_spines.result (λ e. c.requires.some (sym size ∙ e)) (c.requires.wide ∙ sym size)
    (sym c.sign_fault.ensures ∙ c.in-None.is) c.next_spines.ensures
