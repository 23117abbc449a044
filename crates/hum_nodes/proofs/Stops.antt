-- What a reader tells before the end of the bytes has settled.
use Rattle.std.proofs.lemmas.Bool.Decides.{nat_tests}
use Rattle.std.proofs.Common.{◌≡◌, ◌∙◌, refl, sym, ap, ℕ, ◌-◌, ◌≤◌, ◌<◌, true, false, List, [], ◌∷◌, ◌++◌, length}
use Rattle.std.proofs.Common.{take, arith, Option, Some, None, append_assoc, append-nil, length-append}
use Rattle.std.proofs.lemmas.Bool.{false≢true}
use Rattle.std.proofs.lemmas.List.{length-map, map-append, nil_from_length}
use Rattle.std.proofs.Math.Seq.{take-append_seam}
use Rattle.hum_score.specs.Row.{Row}
use Rattle.hum_score.specs.Spines.{Unopened}
use Rattle.hum_stage.specs.declared.faults.Rule.{Rule}
use Rattle.hum_stage.specs.declared.faults.End.{End}
use Rattle.hum_score.specs.InOrder.{through}
use Rattle.hum_text.specs.declared.TextFault.{TextFault}
use Rattle.hum_text.specs.Text.{pieces, lines, without_cr, fault_of}
use Rattle.hum_text.proofs.PieceLemmas.{NoLf, pieces-append, pieces-part}
use Rattle.hum_read.specs.Denoted.{Score, standard, up_to, broken_at, denoted, score_of, end_at, text_rule}
use Rattle.hum_read.specs.Reading.{Scores, ahead, Denotes}
use Rattle.hum_nodes.specs.Settled.{whole_pieces, whole_lines, fault_in, fault_within, denoted_so_far, score_so_far}
use Rattle.hum_nodes.proofs.Pieces.{free_append, start_whole, none_free}
use Rattle.hum_nodes.proofs.FrontFaults.{after_front, within_front, line_behind, line_begun}
use Rattle.hum_nodes.proofs.Settling.{settles_whole}
use Rattle.hum_nodes.proofs.Denotes.{text_named}
use Rattle.hum_nodes.proofs.Fronting.{IsFront, whole_split, given_pieces, read_so_far}
use Rattle.hum_nodes.proofs.Lines.{limits_at, broken_limits, broken_told, denoted_limits, none_more}
use Rattle.hum_nodes.proofs.Stopping.{end_limits, within_limits, long_breaks, one_free, some_long, end_limit}
use Rattle.hum_nodes.proofs.Stopping.{limits_end}

-- A broken text is told.
text_sound : (p : List ℕ) (o : Option (ℕ × TextFault)) → fault_in standard p ≡ o
    → (denoted_so_far Unopened 0 (up_to o (whole_lines p)) o).fault ≡ None → o ≡ None
text_sound p None e h = refl
text_sound p (Some (m, f)) e h =
    absurd (broken_told Unopened 0 (take (m - 1) (whole_lines p)) m f
    (text_named standard (p ++ []) m f (after_front standard [] p [] ∙ rw e refl)) h)

no_rows : (a b c : List Row) → (a ++ b) ++ c ≡ a → b ≡ []
no_rows a b c h =
    nil_from_length b (omega (arith, ap length h, length-append (a ++ b) c, length-append a b))

module _ {R : Type 0} {v : Scores R} {p : List ℕ} {rows : List Row} (h : IsFront v p rows) where
  -- the bytes that are pending are one open line, where nothing more has settled
  pending_free : (score_so_far p).fault ≡ None → (score_of p).rows ≡ rows → NoLf v.lines.pending
  pending_free none all =
      let rest = denoted_so_far (through Unopened rows) (length rows) (whole_lines v.lines.pending) None in
      let e : score_so_far p ≡ ahead rows rest =
      ap (λ o. denoted_so_far Unopened 0 (up_to o (whole_lines p)) o) (text_sound p (fault_in standard p) refl none)
      ∙ ap (λ ls. denoted_so_far Unopened 0 ls None) (whole_split h)
      ∙ read_so_far h.given (whole_lines v.lines.pending) rows None h.read in
      let s = (settles_whole p []).rows in
      let more = none_more (through Unopened rows) (length rows) (whole_lines v.lines.pending)
      (ap (λ (x : Score). x.fault) (sym e) ∙ none)
      (no_rows rows rest.rows s.0
      (ap (λ (x : Score). x.rows ++ s.0) (sym e) ∙ s.1 ∙ ap (λ z. (score_of z).rows) (append-nil p) ∙ all)) in
      let count = length-map (whole_pieces v.lines.pending) without_cr in
      none_free v.lines.pending (nil_from_length (whole_pieces v.lines.pending) (omega (arith, count, ap length more)))

  -- with a line that is too long
  long_limits : (all : List ℕ) → NoLf all → 0 < length all → (o : Option (ℕ × TextFault))
      → fault_within standard h.before all ≡ o → (o ≡ None → ⊥)
      → limits_at (score_of (h.before ++ all)).fault ≡ true
  long_limits all free some None e n = absurd (n refl)
  long_limits all free some (Some (m, f)) e n =
      let stands : fault_within standard [] (h.before ++ all) ≡ Some (m, f) =
      within_front standard [] h.before all ∙ rw (h.sound, e) refl in
      let told : fault_of standard (h.before ++ all) ≡ Some (m, f) =
      ap (fault_of standard) (sym (append-nil (h.before ++ all)))
      ∙ after_front standard [] (h.before ++ all) [] ∙ rw stands refl in
      let cut : pieces (h.before ++ all) ≡ pieces h.before ++ all ∷ [] =
      grind (arith, nat_tests, pieces-append, pieces-part) in
      let n : m - 1 ≡ length h.given = omega (
        arith,
        line_behind standard h.before all m f e,
        line_begun standard h.before all m f e,
        ap length cut,
        length-append (pieces h.before) (all ∷ []),
        ap length (start_whole h.before h.start),
        given_pieces h,
      ) in
      let ls : lines (h.before ++ all) ≡ h.given ++ without_cr all ∷ [] =
      grind (arith, nat_tests, map-append) in
      let front : take (m - 1) (lines (h.before ++ all)) ≡ h.given ++ [] =
      rw (n, ls) (take-append_seam h.given (without_cr all ∷ []) ∙ sym (append-nil h.given)) in
      let score : score_of (h.before ++ all) ≡ ahead rows (broken_at m (text_rule f)) =
      ap (λ o. denoted Unopened 0 (up_to o (lines (h.before ++ all))) o) told
      ∙ ap (λ l. denoted Unopened 0 l (Some (m, f))) front ∙ h.read [] (Some (m, f)) in
      ap (λ (x : Score). limits_at x.fault) score
      ∙ broken_limits m (text_rule f)
      ∙ within_limits standard h.before all free m f e

  long_told : (q : List ℕ) → NoLf q → standard.line ≤ length q → NoLf v.lines.pending
      → limits_at (score_of (p ++ (q ++ 97 ∷ []))).fault ≡ true
  long_told q fq long fp =
      let pending = v.lines.pending in
      let held = pending ++ q in
      let free = free_append held (97 ∷ []) (free_append pending q fp fq) one_free in
      let at : p ++ (q ++ 97 ∷ []) ≡ h.before ++ (held ++ 97 ∷ []) = grind (arith, nat_tests, append_assoc) in
      ap (λ z. limits_at (score_of z).fault) at
      ∙ long_limits (held ++ 97 ∷ []) free (omega (arith, length-append held (97 ∷ []))) _ refl
      (long_breaks standard h.before held h.start free (omega (arith, length-append pending q, long)))

-- and where they end here
short_told : (p : List ℕ) → (score_so_far p).fault ≡ None → limits_at (score_of p).fault ≡ false
short_told p none =
    denoted_limits Unopened 0 (up_to (fault_of standard p) (lines p)) (fault_of standard p)
    (λ m f e. end_limits standard p m f (text_sound p (fault_in standard p) refl none) e)

-- An end that is told however the bytes go on is that of a fault in them.
told_fault : {R : Type 0} {v : Scores R} {p : List ℕ} {rows : List Row} {stage : ℕ} {e : End}
    → IsFront v p rows → ((more : List ℕ) → Denotes stage (p ++ more) rows e)
    → (long : (q : List ℕ) × NoLf q × (standard.line ≤ length q))
    → (o : Option (ℕ × Rule)) → (score_so_far p).fault ≡ o
    → (x : ℕ × Rule) × ((score_so_far p).fault ≡ Some x)
told_fault h told long (Some x) is = (x, is)
told_fault {p = p} {stage = stage} h told long None is =
    let all = rw (append-nil p) at (told []) in
    let there = told (long.0 ++ 97 ∷ []) in
    let longer = long_told h long.0 long.1 long.2 (pending_free h is all.records) in
    let same = limits_end stage (score_of p).fault in
    let same_there = limits_end stage (score_of (p ++ (long.0 ++ 97 ∷ []))).fault in
    absurd (false≢true (sym (short_told p is) ∙ sym same ∙ ap end_limit (all.ending ∙ sym there.ending)
    ∙ same_there ∙ longer))

-- So it has settled.
pub told_settled : {R : Type 0} {v : Scores R} {p : List ℕ} {rows : List Row} {stage : ℕ} {e : End}
    → IsFront v p rows → ((more : List ℕ) → Denotes stage (p ++ more) rows e)
    → (x : ℕ × Rule) × ((score_so_far p).fault ≡ Some x)
    × ((score_so_far p).rows ≡ rows) × (end_at stage (score_so_far p).fault ≡ e)
told_settled {p = p} {stage = stage} h told =
    let x = told_fault h told (some_long standard.line) (score_so_far p).fault refl in
    let same = (settles_whole p []).broken x.0 x.1 in
    let here = told [] in (
      x.0,
      x.1,
      ap (λ (s : Score). s.rows) (sym same) ∙ here.records,
      ap (λ (s : Score). end_at stage s.fault) (sym same) ∙ here.ending,
    )
