use Rattle.std.proofs.Common.{◌++◌, List, ℕ, ◌∙◌, ap, append_assoc, refl}
use Rattle.std.proofs.lemmas.Result.{on_ok_weaker}
use Rattle.hum_packets.specs.Packets.{list_of}
use Rattle.hum_packets.proofs.writing.write_answer.Goals as goal

pub returns-clause-ok : goal.returns-clause-ok
returns-clause-ok c =
    let text = c.in_ok-write_list.ensures.ok in
    on_ok_weaker c.write_list-2.result
    (λ told. (
      list_of text.0 ++ list_of told.0,
      record { texts = text.0; ends = told.0; cut = text.1; ended = told.1; is = refl },
      told.2 ∙ ap (λ (bs : List ℕ). bs ++ list_of told.0) text.2 ∙ append_assoc c.args.out.now.items (list_of text.0) (list_of told.0),
    )) c.write_list-2.ensures.ok
