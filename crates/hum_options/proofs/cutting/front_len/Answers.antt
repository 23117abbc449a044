use Rattle.std.proofs.Common.{◌≡◌, refl, sym, ◌∙◌, ℕ, length, rules}
use borrow.Author.Tests.{tests}
use Rattle.std.proofs.lemmas.Iterator.{IsFirst-from_position, YieldsList-from_slice, index_from_first}
use Rattle.hum_options.specs.Cutting.{front}
use Rattle.hum_options.proofs.Cuts.{front_hit, front_miss}
use Rattle.hum_options.proofs.cutting.front_len.Goals as goal

pub returns : goal.returns
returns c =
    let byte : ℕ = c.args.byte in
    c.unwrap_or.ensures
    ∙ sym (index_from_first (λ xs. length (front byte xs)) (λ b. b ≡ byte) (λ b. b ≡ byte → ⊥)
    refl (front_hit byte) (front_miss byte) c.args.text.now c.position.result
    (IsFirst-from_position _ _ c.position.result (λ b. b ≡ byte) (λ b. b ≡ byte → ⊥) c.position.ensures.ran
    (YieldsList-from_slice c.args.text.now c.iter.ensures.rest)
    (λ x q k. search (rules, tests)) (λ x q k. search (rules, tests))))
