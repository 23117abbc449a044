use Rattle.std.proofs.Common.{◌≡◌, ℤ, pos, ◌+ℤ◌, ◌-ℤ◌, ◌%◌, Some, arith, ap, ◌∙◌, to_z, of_z, w8, slice_index_or}
use Rattle.std.specs.Prelude.{ℕ}
use Rattle.std.proofs.lemmas.Int.{ints}
use Rattle.hum_pitch.specs.Spelling.{natural_note}
use Rattle.hum_kern.proofs.Letters.{steps, small_is, small_range, capital_is, capital_range}
use Rattle.hum_kern.proofs.notes.natural.Goals as goal

pub returns-then-letter-ge97-clause-exact : goal.returns-then-letter-ge97-clause-exact
returns-then-letter-ge97-clause-exact c =
    let low = c.if-letter-ge97.true in
    let counted : pos 3 +ℤ pos c.args.count ≡ to_z w8 (of_z w8 (pos 3 +ℤ to_z w8 c.args.count)) = omega (arith, ints) in
    small_is c.args.letter c.args.count low (small_range c.args.letter c.requires.letter low)
    ∙ ap (λ (z : ℤ). Some (natural_note (slice_index_or {A = ℕ} steps (c.args.letter % 8) 0) z)) counted

pub returns-else-letter-ge97-clause-exact : goal.returns-else-letter-ge97-clause-exact
returns-else-letter-ge97-clause-exact c =
    let range = capital_range c.args.letter c.requires.letter c.if-letter-ge97.false in
    let counted : pos 4 -ℤ pos c.args.count ≡ to_z w8 (of_z w8 (pos 4 -ℤ to_z w8 c.args.count)) = omega (arith, ints) in
    capital_is c.args.letter c.args.count range.0 range.1
    ∙ ap (λ (z : ℤ). Some (natural_note (slice_index_or {A = ℕ} steps (c.args.letter % 8) 0) z)) counted
