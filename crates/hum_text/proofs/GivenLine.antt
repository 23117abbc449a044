-- The line before the first LF is given where it breaks no rule.
use Rattle.std.proofs.Common.{◌≡◌, ℕ, ◌+◌, ◌<◌, ◌≤◌, length, length-drop, take, drop, refl, ap, sym, subst, arith, None, Some}
use Rattle.std.proofs.lemmas.Bool.{eqb-true}
use Rattle.memchr.specs.Find.{IsFirstByte, is_byte}
use Rattle.hum_text.specs.Text.{without_cr, IsLawful}
use Rattle.hum_text.specs.Reading.{Reader, GivesLine}
use Rattle.hum_text.proofs.ReadingLemmas.{given_of, gives-line, whole-given, drop-all, length-drop_le}
use Rattle.hum_text.proofs.LimitLemmas.{whole-short, whole-free}

pub given-line : {R : Type 0} (v w : Reader R) (k : ℕ) → v.fault ≡ None → IsFirstByte (is_byte 10) v.pending (Some k)
    → IsLawful v.limits (v.given + 1) v.taken (take (k + 1) v.pending)
    → v.given < v.limits.records → v.taken + (k + 1) ≤ v.limits.bytes
    → w ≡ given_of v (without_cr (take k v.pending)) (k + 1) → GivesLine v w
given-line {R} v w k no_fault first lawful records bytes is =
    let high : k < length v.pending = first.0.high in
    let left = length-drop (k + 1) v.pending in
    let Given : Reader R → Type 0 = λ r. GivesLine v r in
    subst Given (sym is) (record {
      gives = gives-line v _ _ (k + 1) refl (whole-given v k (k + 1) first refl lawful);
      within = (
        whole-short v.limits (v.given + 1) v.taken v.pending k first lawful,
        whole-free v.pending k first,
        omega (arith, records),
      );
      needless = λ needs. needs.unended k high (eqb-true _ 10 first.1);
      going = λ over. let none = ap length over.handed_out in absurd (omega (arith, high, none));
      unread = (refl, refl, drop-all (drop (k + 1) v.pending) (length v.pending) (length-drop_le (k + 1) v.pending));
      no_fault = no_fault;
      nears = omega (arith, left, high, bytes);
      limits = refl;
      taken = bytes;
    })
