use Rattle.std.proofs.Common.{◌≡◌, ◌≢◌, ◌<◌, ◌≤◌, ◌-◌, ◌+◌, length, true, false, take, slice_index, arith, sym, ap, ◌∙◌}
use Rattle.std.proofs.lemmas.Bool.{ltb-true, leb-true}
use Rattle.hum_text.specs.Text.{without_cr}
use Rattle.hum_text.proofs.LimitLemmas.{whole-lawful, open-lawful}
use Rattle.hum_text.proofs.rules.is_sound.Goals as goal
use Rattle.hum_text.proofs.rules.is_sound.Goals.{then-len-limits, else-len-limits, then-len-gt0, else-len-gt0}
use Rattle.hum_text.proofs.rules.is_sound.Goals.{then-strip_cr-limits, else-strip_cr-limits}

pub returns-then-given-limits : goal.returns-then-given-limits
returns-then-given-limits c = λ fits.
    let held = c.args.held.now in
    let piece = take (length held - 1) held in
    let last : slice_index held (length held - 1) ≡ 10 = omega arith in
    let some = c.in-10.len_at_least in
    let size : length c.strip_cr-len.result.now ≡ length (without_cr piece) = ap length c.strip_cr-len.ensures in
    let room = leb-true _ _ fits in
    let bytes : c.args.taken + length held ≤ c.args.limits.now.bytes = omega (arith, room, c.saturating_sub.ensures, some) in
    elim c.if-len-limits.branch [
      | then-len-limits w ↦
          let records = ltb-true _ _ (sym w.value-is ∙ c.if-given-limits.true) in
          elim c.if-len-gt0.branch [
            | then-len-gt0 x ↦
                let short = leb-true _ _ (sym x.value-is ∙ w.if-len-limits.true) in
                let fits : length (without_cr piece) ≤ c.args.limits.now.line = omega (arith, size, short) in
                let long : 0 < length (without_cr piece) = omega (arith, size, x.if-len-gt0.true) in
                whole-lawful _ _ _ held c.requires.one_line some last long fits (omega (arith, records)) bytes
            | else-len-gt0 x ↦
                let long = ltb-true _ _ (sym x.value-is ∙ w.if-len-limits.true) in absurd (omega (arith, long, x.if-len-gt0.false))
          ]
      | else-len-limits w ↦
          let both : true ≡ false = sym c.if-given-limits.true ∙ w.value-is ∙ w.if-len-limits.false in absurd cc
    ]

pub returns-then-given-limits-2 : goal.returns-then-given-limits-2
returns-then-given-limits-2 c = λ fits.
    let held = c.args.held.now in
    let last : slice_index held (length held - 1) ≢ 10 = omega arith in
    let some = c.in_default.len_at_least in
    let size : length c.strip_cr.result.now ≡ length (without_cr held) = ap length c.strip_cr.ensures in
    let room = leb-true _ _ fits in
    let bytes : c.args.taken + length held ≤ c.args.limits.now.bytes =
    omega (arith, room, c.saturating_sub-then-given-limits-2.ensures, some) in
    elim c.if-strip_cr-limits.branch [
      | then-strip_cr-limits w ↦
          let records = ltb-true _ _ (sym w.value-is ∙ c.if-given-limits-2.true) in
          let fits : length (without_cr held) ≤ c.args.limits.now.line = omega (arith, size, w.if-strip_cr-limits.true) in
          open-lawful _ _ _ held c.requires.one_line last fits (omega (arith, records)) bytes
      | else-strip_cr-limits w ↦
          let short = leb-true _ _ (sym w.value-is ∙ c.if-given-limits-2.true) in absurd (omega (arith, short, w.if-strip_cr-limits.false))
    ]
