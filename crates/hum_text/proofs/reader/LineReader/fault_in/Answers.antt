use Rattle.std.proofs.Common.{◌∙◌, get_or, sym, ap, arith, length-take}
use Rattle.std.proofs.lemmas.List.{get_or-take}
use Rattle.hum_text.proofs.reader.LineReader.fault_in.Goals as goal

pub first_fault-requires : goal.first_fault-requires
first_fault-requires g c = record {
  one_line = λ k less is.
      let held = c.pending.ensures ∙ ap (λ w. w.pending) c.self.view_is in
      let count = length-take c.args.size c.pending.result.now in
      c.requires.one_line k (omega (arith, less, count))
      (ap (λ xs. get_or xs k 0) (sym held) ∙ sym (get_or-take c.args.size c.pending.result.now k 0 (omega (arith, less, count))) ∙ is);
}
