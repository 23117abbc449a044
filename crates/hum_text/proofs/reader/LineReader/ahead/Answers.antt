use Rattle.std.proofs.Common.{◌∙◌, ◌++◌, sym, ap, take, drop, take-append-drop}
use Rattle.hum_text.proofs.reader.LineReader.ahead.Goals as goal

pub returns-clause-next : goal.returns-clause-next
returns-clause-next g c =
    let n = c.max.result in
    let pending = c.args.self.now.pending in
    let same = c.pending.ensures ∙ ap (λ w. w.pending) c.self.view_is in
    (drop n pending, sym (ap (λ xs. take n xs ++ drop n pending) same ∙ take-append-drop n pending))
