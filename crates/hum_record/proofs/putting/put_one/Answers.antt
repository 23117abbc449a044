use Rattle.std.proofs.Common.{◌≡◌, ◌∙◌, ℕ, List, ◌+◌, length, get_or, set, ap, arith}
use Rattle.std.proofs.Math.Seq.{paste}
use Rattle.std.proofs.lemmas.List.Edits.{paste_none, paste_more}
use Rattle.hum_record.proofs.putting.put_one.Goals as goal

pub returns : goal.returns
returns c =
    let text = c.args.text.now in
    let token = c.args.token.now in
    let one = c.requires.one in
    let at : c.args.at ≡ c.args.at + 0 = omega arith in
    let size : 0 + 1 ≡ length token = omega (arith, one) in
    ap (λ (xs : List ℕ). set xs c.args.at (get_or token 0 0)) (paste_none text c.args.at token)
    ∙ ap (λ n. set (paste text c.args.at token 0) n (get_or token 0 0)) at
    ∙ paste_more text c.args.at token 0 0 (omega (arith, one, c.requires.within)) (omega (arith, one))
    ∙ ap (paste text c.args.at token) size
