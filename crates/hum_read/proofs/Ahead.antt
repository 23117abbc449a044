-- The line in front of the bytes that come next.
use Rattle.std.proofs.lemmas.Grind.{common_steps}
use Rattle.std.proofs.lemmas.Bool.Decides.{nat_tests}
use Rattle.std.proofs.Common.{◌≡◌, ◌∙◌, ℕ, ◌+◌, ◌-◌, ◌<◌, ◌≤◌, inl, inr, ⊎_elim, false}
use Rattle.std.proofs.Common.{List, [], ◌∷◌, ◌++◌, length, take, refl, sym, ap, subst, arith, Ok, length-append}
use Rattle.std.specs.Prelude.{◌==◌, map}
use Rattle.std.specs.Simd.Lanes.{mask_l}
use Rattle.std.proofs.lemmas.List.{get_or_append_left, take-append-le, take_more}
use Rattle.hum_text.specs.declared.Limits.{Limits}
use Rattle.hum_text.specs.Text.{without_cr}
use Rattle.hum_score.specs.Row.{Row, text_of}
use Rattle.hum_score.specs.Spelling.{has_byte, reading}
use Rattle.hum_record.specs.Lines.{IsLine, IsRead}
use Rattle.hum_record.specs.Plain.{is_stop, HasNoStop}

-- no byte of a text is CR that is read as a record
no-return : (text : List ℕ) (row : Row) → reading text ≡ Ok row → has_byte 13 text ≡ false
no-return = grind (arith, nat_tests)

some-text : (text : List ℕ) (row : Row) → reading text ≡ Ok row → 0 < length text
some-text = grind (arith, nat_tests)

-- a text without CR, and one with CR behind it
keeps-text : (text : List ℕ) → has_byte 13 text ≡ false → 0 < length text → without_cr text ≡ text
keeps-text = grind (arith, common_steps)

drops-cr : (text : List ℕ) → without_cr (text ++ 13 ∷ []) ≡ text
drops-cr = grind (arith, common_steps)

line_before : (held : List ℕ) (len : ℕ) → (line : IsLine held len) → len ≤ line.lf
line_before held len line = ⊎_elim (λ same. omega (arith, same)) (λ one. let more = one.0 in omega (arith, more)) line.text

-- a line stands there too where more bytes stand behind
longer : (held behind : List ℕ) (len : ℕ) → IsLine held len → IsLine (held ++ behind) len
longer held behind len line =
    let within : line.lf < length held = line.first.0.high in
    let before = line_before held len line in
    record {
      lf = line.lf;
      first = (
        record {
          low = omega arith;
          high = omega (arith, within, length-append held behind);
          before = λ k low less passes. line.first.0.before k low less
              (ap (λ x. x == 10) (sym (get_or_append_left held behind 0 k (omega (arith, less, within)))) ∙ passes);
        },
        ap (λ x. x == 10) (get_or_append_left held behind 0 line.lf within) ∙ line.first.1,
      );
      text = ⊎_elim (λ same. inl same)
          (λ one.
          let more = one.0 in
          inr (more, get_or_append_left held behind 0 len (omega (arith, more, within)) ∙ one.1))
          line.text;
    }

-- Where bytes begin with 64 without a stop, those do of which they are in front, and those that are in front of them.
pub stops_in_front : (held behind pending : List ℕ) → pending ≡ held ++ behind → 64 ≤ length held
    → mask_l (map is_stop (take 64 pending)) ≡ mask_l (map is_stop (take 64 held))
stops_in_front held behind pending is long = grind (arith, nat_tests, take-append-le 64 held behind long)

pub begins_so : (held behind pending : List ℕ) → pending ≡ held ++ behind → HasNoStop held → HasNoStop pending
begins_so held behind pending is free =
    (rw is (omega (arith, free.0, length-append held behind)), stops_in_front held behind pending is free.0 ∙ free.1)

-- What is asked where a line is taken, and what it is then.
pub record Taking (limits : Limits) (given taken : ℕ) (pending : List ℕ) (row : Row) (lf : ℕ) : Type 0 where
  pub line : IsLine pending (length (text_of row))
  pub place : line.lf ≡ lf
  pub text : take (length (text_of row)) pending ≡ text_of row
  pub whole : without_cr (take line.lf pending) ≡ text_of row
  pub size : length (text_of row) ≡ length (without_cr (take line.lf pending))
  pub filled : 0 < length (text_of row)
  pub short : length (text_of row) ≤ limits.line
  pub records : given < limits.records
  pub bytes : taken + (line.lf + 1) ≤ limits.bytes

pub taking : (limits : Limits) (given taken : ℕ) (pending held behind : List ℕ) (row : Row) → pending ≡ held ++ behind
    → length held ≤ limits.line → given + length held ≤ limits.records → taken + length held ≤ limits.bytes
    → (read : IsRead held row) → Taking limits given taken pending row read.line.lf
unfolding longer
taking limits given taken pending held behind row is most records bytes read =
    let text = text_of row in
    let len = length text in
    let line = read.line in
    let lf = line.lf in
    let within : lf < length held = line.first.0.high in
    let before : len ≤ lf = line_before held len line in
    let some = some-text text row read.read in
    let none = no-return text row read.read in
    let kept : without_cr text ≡ text = keeps-text text none some in
    let clean : without_cr (take lf held) ≡ text = ⊎_elim
    (λ same. ap (λ n. without_cr (take n held)) same ∙ ap without_cr read.text ∙ kept)
    (λ one.
    let more = one.0 in
    let piece : take lf held ≡ text ++ 13 ∷ [] = grind (arith, nat_tests, take_more) in
    ap without_cr piece ∙ drops-cr text)
    line.text in
    let all : without_cr (take lf (held ++ behind)) ≡ text = grind (arith, nat_tests, take-append-le) in
    let front : take len (held ++ behind) ≡ text = take-append-le len held behind (omega (arith, before, within)) ∙ read.text in
    subst (λ (xs : List ℕ). Taking limits given taken xs row lf) (sym is) (record {
      line = longer held behind len line;
      place = refl;
      whole = all;
      text = front;
      size = sym (ap length all);
      filled = some;
      short = omega (arith, before, within, most);
      records = omega (arith, within, records);
      bytes = omega (arith, within, bytes);
    })

-- The same where it is known how many bytes the line has.
pub record TakingTo (limits : Limits) (given taken : ℕ) (pending : List ℕ) (row : Row) (size : ℕ) : Type 0 where
  pub some : 0 < size
  pub line : IsLine pending (length (text_of row))
  pub place : line.lf ≡ size - 1
  pub len : length (text_of row) ≡ length (without_cr (take (size - 1) pending))
  pub text : without_cr (take (size - 1) pending) ≡ text_of row
  pub filled : 0 < length (text_of row)
  pub short : length (text_of row) ≤ limits.line
  pub records : given < limits.records
  pub bytes : taken + size ≤ limits.bytes

pub taking_to : (limits : Limits) (given taken : ℕ) (pending held behind : List ℕ) (row : Row) (size : ℕ) → pending ≡ held ++ behind
    → length held ≤ limits.line → given + length held ≤ limits.records → taken + length held ≤ limits.bytes
    → (read : IsRead held row) → size ≡ read.line.lf + 1 → TakingTo limits given taken pending row size
taking_to limits given taken pending held behind row size is most records bytes read whole =
    let t = taking limits given taken pending held behind row is most records bytes read in
    let place : t.line.lf ≡ size - 1 = omega (arith, t.place, whole) in
    record {
      some = omega (arith, whole);
      line = t.line;
      place = place;
      len = t.size ∙ ap (λ n. length (without_cr (take n pending))) place;
      text = ap (λ n. without_cr (take n pending)) (sym place) ∙ t.whole;
      filled = t.filled;
      short = t.short;
      records = t.records;
      bytes = omega (arith, whole, t.place, t.bytes);
    }
