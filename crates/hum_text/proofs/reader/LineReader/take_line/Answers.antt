use Rattle.std.proofs.lemmas.Bool.Decides.{nat_tests}
use Rattle.std.proofs.Common.{◌≡◌, ◌≢◌, ◌∙◌, ◌+◌, ◌-◌, ◌<◌, ℕ, List, length, take, get_or, subst, sym, ap, arith, Some}
use Rattle.memchr.specs.Find.{IsFirstByte, is_byte}
use Rattle.hum_text.specs.Text.{without_cr}
use Rattle.hum_text.proofs.LimitLemmas.{lf-place, same-place, front-text}
use Rattle.hum_text.proofs.reader.LineReader.take_line.Goals as goal

pub size_of_line-size-requires : goal.size_of_line-size-requires
size_of_line-size-requires g c =
    let same = c.pending.ensures ∙ ap (λ w. w.pending) c.self.view_is in
    let first = c.requires.first in
    rw same (lf-place c.args.self.now.pending first.0 c.args.len first.1 first.2).0

place : (pending : List ℕ) (k len size : ℕ) → IsFirstByte (is_byte 10) pending (Some k) → len ≡ length (without_cr (take k pending))
    → (get_or pending len 0 ≡ 10 → size ≡ len + 1) → (get_or pending len 0 ≢ 10 → size ≡ len + 2) → size - 1 ≡ k
place pending k len size first is lf cr =
    same-place pending k len (size - 1) first is (λ h. let e = lf h in omega (arith, e)) (λ h. let e = cr h in omega (arith, e))

some : (pending : List ℕ) (len size : ℕ) → (get_or pending len 0 ≡ 10 → size ≡ len + 1) → (get_or pending len 0 ≢ 10 → size ≡ len + 2) → 0 < size
some = grind (arith, nat_tests)

pub give_line-requires : goal.give_line-requires
give_line-requires g c =
    let v = c.args.self.now in
    let pending = v.pending in
    let same = c.pending.ensures ∙ ap (λ w. w.pending) c.self.view_is in
    let first = c.requires.first in
    let found = c.size_of_line-size.ensures in
    let size = c.size_of_line-size.result in
    let k : size - 1 ≡ first.0 =
    place pending first.0 c.args.len size first.1 first.2 (rw same at found.lf) (rw same at found.cr) in
    let filled : 0 < size = some pending c.args.len size (rw same at found.lf) (rw same at found.cr) in
    record {
      no_fault = c.requires.no_fault;
      some = filled;
      first = subst (λ n. IsFirstByte (is_byte 10) pending (Some n)) (sym k) first.1;
      len = first.2 ∙ ap (λ n. length (without_cr (take n pending))) (sym k);
      filled = c.requires.filled;
      short = c.requires.short;
      records = c.requires.records;
      bytes = omega (arith, k, filled, first.3);
    }

pub returns-clause-line : goal.returns-clause-line
returns-clause-line g c =
    let pending = c.args.self.now.pending in
    let same = c.pending.ensures ∙ ap (λ w. w.pending) c.self.view_is in
    let first = c.requires.first in
    let high : first.0 < length pending = first.1.0.high in
    let found = c.size_of_line-size.ensures in
    let k : c.size_of_line-size.result - 1 ≡ first.0 =
    place pending first.0 c.args.len c.size_of_line-size.result first.1 first.2 (rw same at found.lf) (rw same at found.cr) in
    c.give_line.ensures.line ∙ ap (λ n. without_cr (take n pending)) k ∙ front-text pending first.0 c.args.len high first.2
