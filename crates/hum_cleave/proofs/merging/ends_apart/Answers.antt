use Rattle.std.proofs.Common.{rules, ◌≡◌, ◌∙◌, map, not, sym}
use Rattle.std.specs.List.{list_any}
use Rattle.hum_score.specs.Row.{tokens_of, chosen}
use Rattle.hum_score.specs.Sign.{sign_of}
use Rattle.hum_cleave.specs.Cleave.{is_end}
use Rattle.hum_cleave.proofs.Signs.{some_fails}
use Rattle.hum_cleave.proofs.merging.ends_apart.Goals as goal

pub returns-then-any_cleaved : goal.returns-then-any_cleaved
returns-then-any_cleaved c =
    let signs = chosen c.args.marks.now (map sign_of (tokens_of c.args.row.now)) in
    let some : c.any_cleaved.result ≡ list_any is_end signs = c.any_cleaved.ensures is_end (λ sign passes met. search rules) in
    let others = c.any_cleaved-then-any_cleaved.ensures (λ sign. not (is_end sign)) (λ sign passes met. search rules) in
    rw (sym some ∙ c.if-any_cleaved.true) (others ∙ some_fails is_end signs)
