-- What a reader has read and given has settled of the bytes so far.
use Rattle.std.proofs.lemmas.Bool.Decides.{nat_tests}
use Rattle.std.proofs.Common.{◌≡◌, ◌∙◌, refl, sym, ap, subst, ℕ, ◌+◌, List, [], ◌∷◌, ◌++◌, length, arith, Option}
use Rattle.std.proofs.Common.{Some, None, append_assoc, append-nil, length-append, inl, inr, add-one}
use Rattle.std.proofs.lemmas.List.{length-map, map-append, append_cancel_right}
use Rattle.hum_score.specs.Row.{Row}
use Rattle.hum_score.specs.Spines.{Path, Unopened}
use Rattle.hum_score.specs.InOrder.{through}
use Rattle.hum_text.specs.declared.TextFault.{TextFault}
use Rattle.hum_text.specs.declared.TextFault.TheVariants as text
use Rattle.hum_text.specs.Text.{pieces, lines, without_cr, fault_after, rule_of_line, IsAtStart}
use Rattle.hum_text.specs.Reading.{NeedsRead}
use Rattle.hum_text.proofs.PieceLemmas.{pieces-append}
use Rattle.hum_text.proofs.TextLemmas.{rule-at-line}
use Rattle.hum_read.specs.Denoted.{Score, standard, up_to}
use Rattle.hum_read.specs.Reading.{Scores, HasRead, AreRead, ahead}
use Rattle.hum_turns.specs.Flow.{Begins}
use Rattle.hum_nodes.specs.Settled.{whole_lines, fault_in, fault_within, denoted_so_far, score_so_far}
use Rattle.hum_nodes.proofs.Pieces.{whole_at_start, start_whole, none_whole}
use Rattle.hum_nodes.proofs.FrontFaults.{after_front, within_front, line_after, line_behind, line_begun, none_within}
use Rattle.hum_nodes.proofs.Lines.{front_alone, broken_same}
use Rattle.hum_nodes.proofs.Settling.{up_to_behind}

-- Of these bytes the reader has given these records, and it holds its pending bytes, which stand
-- behind lines that are whole.
pub record IsFront {R : Type 0} (v : Scores R) (seen : List ℕ) (rows : List Row) : Type 0 where
  pub before : List ℕ
  pub given : List (List ℕ)
  pub split : seen ≡ before ++ v.lines.pending
  pub start : IsAtStart before
  pub whole : lines before ≡ given
  pub sound : fault_within standard [] before ≡ None
  pub read : AreRead given rows
  pub limits : v.lines.limits ≡ standard
  pub as_many : length given ≡ length rows
  pub count : length (pieces before) ≡ v.lines.given
  pub size : length before ≡ v.lines.taken

-- no fault stands before where the reader stands
none_before : (before rest : List ℕ) (start : IsAtStart before)
    → fault_after standard [] (before ++ rest) ≡ fault_after standard before rest
    → (o : Option (ℕ × TextFault)) → fault_within standard [] before ≡ o → o ≡ None
none_before before rest start same None h = refl
none_before before rest start same (Some (m, f)) h =
    grind (arith, nat_tests, after_front, line_after, line_begun, start_whole)

-- One that hasn't ended stands so, since the bytes may go on.
pub front_is : {R : Type 0} {v : Scores R} {seen : List ℕ} {rows : List Row} {b : ℕ}
    → HasRead v (seen ++ b ∷ []) rows (b ∷ []) → IsFront v seen rows
front_is {v = v} {seen} {rows} {b} h =
    let st = h.holds.stands in
    let pending = v.lines.pending in
    let start : IsAtStart st.before = elim st.start [
      | inl s ↦ s
      | inr none ↦ absurd (omega (arith, ap length none.0, length-append pending (b ∷ [])))
    ] in
    let cut : lines (seen ++ b ∷ []) ≡ lines st.before ++ lines (pending ++ b ∷ []) =
    grind (arith, nat_tests, pieces-append, map-append) in
    let same : fault_after standard [] (st.before ++ (pending ++ b ∷ []))
    ≡ fault_after standard st.before (pending ++ b ∷ []) =
    ap (fault_after standard []) (sym st.whole) ∙ rw h.limits at st.fault in
    record {
      before = st.before;
      given = h.given;
      split = grind (arith, nat_tests, append_cancel_right, append_assoc);
      start = start;
      whole = append_cancel_right (lines st.before) h.given (lines (pending ++ b ∷ [])) (sym cut ∙ st.left);
      sound = none_before st.before (pending ++ b ∷ []) start same _ refl;
      read = h.read;
      limits = h.limits;
      as_many = h.as_many;
      count = st.count;
      size = st.size;
    }

-- Lines that are read as records denote these so far.

none_same : (path : Path) (n : ℕ) (ls : List (List ℕ))
    → denoted_so_far path n ls None ≡ denoted_so_far path n ls (Some (0, text.Read))
none_same path n ls = front_alone path n ls None ∙ sym (front_alone path n ls (Some (0, text.Read)))

some_so_far : (given more : List (List ℕ)) (rows : List Row) (x : ℕ × TextFault) → AreRead given rows
    → denoted_so_far Unopened 0 (given ++ more) (Some x)
    ≡ ahead rows (denoted_so_far (through Unopened rows) (length rows) more (Some x))
some_so_far given more rows x are =
    sym (broken_same Unopened 0 (given ++ more) x) ∙ are more (Some x)
    ∙ ap (ahead rows) (broken_same (through Unopened rows) (length rows) more x)

pub read_so_far : (given more : List (List ℕ)) (rows : List Row) (o : Option (ℕ × TextFault)) → AreRead given rows
    → denoted_so_far Unopened 0 (given ++ more) o
    ≡ ahead rows (denoted_so_far (through Unopened rows) (length rows) more o)
read_so_far = grind (arith, nat_tests, some_so_far, none_same)

module _ {R : Type 0} {v : Scores R} {seen : List ℕ} {rows : List Row} (h : IsFront v seen rows) where
  -- The pieces of what was read.
  pub whole_split : whole_lines seen ≡ h.given ++ whole_lines v.lines.pending
  whole_split = grind (arith, nat_tests, whole_at_start, map-append)

  pub given_pieces : length (pieces h.before) ≡ length h.given
  given_pieces = sym (length-map (pieces h.before) without_cr) ∙ ap length h.whole

  fault_split : fault_in standard seen ≡ fault_within standard h.before v.lines.pending
  fault_split = ap (fault_in standard) h.split ∙ within_front standard [] h.before v.lines.pending ∙ rw h.sound refl

  -- What was given has settled.
  pub given_settled : Begins rows (score_so_far seen).rows
  given_settled =
      let o = fault_in standard seen in
      let b = up_to_behind o h.given (whole_lines v.lines.pending) (λ m f e.
      omega (
        arith,
        line_behind standard h.before v.lines.pending m f (sym fault_split ∙ e),
        ap length (start_whole h.before h.start),
        given_pieces,
      )) in
      let e = ap (λ ls. denoted_so_far Unopened 0 (up_to o ls) o) whole_split
      ∙ ap (λ ls. denoted_so_far Unopened 0 ls o) b.1 ∙ read_so_far h.given b.0 rows o h.read in (
        (denoted_so_far (through Unopened rows) (length rows) b.0 o).rows,
        sym (ap (λ (s : Score). s.rows) e),
      )

  -- Where a read is needed, nothing else has.
  pub needs_settled : NeedsRead v.lines → score_so_far seen ≡ record { rows = rows; fault = None }
  needs_settled needs =
      let pending = v.lines.pending in
      let none : whole_lines seen ≡ h.given ++ [] = grind (arith, nat_tests, whole_split, none_whole) in
      let lawful : fault_within standard h.before pending ≡ None =
      none_within standard h.before pending (λ k l.
      rw (← add-one k)
      (rule-at-line standard h.before pending k h.start l (λ j low. needs.unended j (omega arith))
      ∙ rw (h.count, h.size)
      (subst (λ l. rule_of_line l (v.lines.given + 1) v.lines.taken pending k ≡ None) h.limits (needs.lawful k l)))) in
      let o : fault_in standard seen ≡ None = fault_split ∙ lawful in
      ap (λ o. denoted_so_far Unopened 0 (up_to o (whole_lines seen)) o) o
      ∙ ap (λ ls. denoted_so_far Unopened 0 ls None) none
      ∙ read_so_far h.given [] rows None h.read
      ∙ ap (λ l. record { rows = l; fault = None }) (append-nil rows)
