use Rattle.std.proofs.Common.{◌≡◌, ◌+◌, ◌-◌, ◌<◌, ◌≤◌, ◌++◌, ◌∷◌, [], length, length-take, sym, ◌∙◌, subst, take, drop, arith}
use Rattle.std.proofs.lemmas.List.{get_or-take}
use Rattle.hum_text.specs.Text.{without_cr, IsLawful}
use Rattle.hum_text.proofs.PieceLemmas.{NoLf}
use Rattle.hum_text.proofs.ReadingLemmas.{to-line, first-free}
use Rattle.hum_text.proofs.LimitLemmas.{line-lawful}
use Rattle.hum_text.proofs.GivenLine.{given-line}
use Rattle.hum_text.proofs.reader.LineReader.give_line.Goals as goal

pub returns-clause-gives : goal.returns-clause-gives
returns-clause-gives g c =
    let v = c.args.self.now in
    let k = c.args.size - 1 in
    let size_is : c.args.size ≡ k + 1 = omega (arith, c.requires.some) in
    let bytes : v.taken + (k + 1) ≤ v.limits.bytes = omega (arith, c.requires.bytes, size_is) in
    let first = c.requires.first in
    let high : k < length v.pending = first.0.high in
    let size : length (take k v.pending) ≡ k = omega (arith, length-take k v.pending, high) in
    let some : 0 < length (without_cr (take k v.pending)) = omega (arith, c.requires.len, c.requires.filled) in
    let short : length (without_cr (take k v.pending)) ≤ v.limits.line = omega (arith, c.requires.len, c.requires.short) in
    let free : NoLf (take k v.pending) = λ j less is. first-free v.pending k first j (omega (arith, less, size)) (sym (get_or-take k v.pending j 0 (omega (arith, less, size))) ∙ is) in
    let no_fault : IsLawful v.limits (v.given + 1) v.taken (take k v.pending ++ 10 ∷ []) =
    line-lawful v.limits (v.given + 1) v.taken (take k v.pending) free some short
    (omega (arith, c.requires.records)) (omega (arith, size, bytes)) in
    let lawful = subst (λ zs. IsLawful v.limits (v.given + 1) v.taken zs) (to-line v.pending k first) no_fault in
    given-line v _ k c.requires.no_fault first lawful c.requires.records bytes
    (subst (λ n. c.hand_out_line.new.self ≡ record v { line = without_cr (take k v.pending); pending = drop n v.pending; given = v.given + 1; taken = v.taken + n })
    size_is c.hand_out_line.ensures)
