use Rattle.std.proofs.Common.{◌∙◌, length, sym, ap, arith}
use Rattle.hum_record.specs.Fields.{Written, ends_from}
use Rattle.hum_score.specs.Spelling.{parts}
use Rattle.hum_record.proofs.body.hold_filled.Goals as goal

pub put_filled-requires : goal.put_filled-requires
put_filled-requires c =
    let many = ap length c.ends.ensures in
    let few = c.if-most-ge-MOST_BYTES.false in
    let held = c.in-Ok.ensures.room in
    let places = c.in-Ok-give_places.ensures.room in
    record {
      row = omega (arith, c.if-len-row-lt-WHOLE.false, c.len.ensures, c.deref.ensures.len);
      above = omega (arith, c.if-len-above-lt-WHOLE.false, c.len-else-len-row-lt-WHOLE.ensures, c.deref-2.ensures.len);
      cut = rw c.deref.ensures.value
          (c.ends.ensures ∙ c.requires.cut ∙ ap (λ (w : Written). ends_from 0 (parts w.text)) (sym c.row.view_is));
      above_cut = rw c.deref-2.ensures.value
          (c.ends-2.ensures ∙ c.requires.above_cut ∙ ap (λ (w : Written). ends_from 0 (parts w.text)) (sym c.above.view_is));
      as_wide = many ∙ c.requires.as_wide ∙ sym (ap length c.ends-2.ensures);
      few = omega (arith, few);
      room = omega (arith, held, c.deref_mut.ensures.len);
      places = omega (arith, many, c.width-count.ensures, places, c.deref_mut-2.ensures.len);
    }
