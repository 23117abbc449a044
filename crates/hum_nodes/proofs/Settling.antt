-- What has settled of a front stays, however the bytes go on.
use Rattle.std.proofs.Common.{◌≡◌, ◌∙◌, refl, sym, ap, ℕ, ◌+◌, ◌-◌, ◌≤◌, List, [], ◌++◌, length, map, take, arith}
use Rattle.std.proofs.Common.{Option, Some, None, append-nil}
use Rattle.std.proofs.lemmas.List.{length-map, map-append, take-append-le}
use Rattle.std.proofs.Math.Seq.{take-append-add}
use Rattle.hum_score.specs.Spines.{Path, Unopened}
use Rattle.hum_score.specs.Row.{Row}
use Rattle.hum_stage.specs.declared.faults.Rule.{Rule}
use Rattle.hum_text.specs.declared.TextFault.{TextFault}
use Rattle.hum_text.specs.Text.{pieces, without_cr, fault_of}
use Rattle.hum_read.specs.Denoted.{Score, standard, up_to, closed, denoted, score_of}
use Rattle.hum_read.specs.Reading.{ahead}
use Rattle.hum_turns.specs.Flow.{Begins}
use Rattle.hum_turns.proofs.Fronts.{begins_refl}
use Rattle.hum_nodes.specs.Settled.{whole_pieces, whole_lines, fault_in, denoted_so_far, score_so_far}
use Rattle.hum_nodes.proofs.FrontFaults.{after_front, within_front, line_within, line_after, line_behind}
use Rattle.hum_nodes.proofs.Lines.{reads, behind, front_alone, broken_same}
use Rattle.hum_nodes.proofs.Pieces.{whole_begins, whole_front}

-- Of two scores the records of the first are a prefix of those of the second, and where a rule is
-- broken in the first the second is the same.
pub record Settles (a b : Score) : Type 0 where
  pub rows : Begins a.rows b.rows
  pub broken : (x : ℕ × Rule) → a.fault ≡ Some x → b ≡ a

pub same_settles : {a b : Score} → b ≡ a → Settles a b
same_settles {a} e = rw e (record { rows = begins_refl a.rows; broken = λ x h. refl })

-- Lines that go on: what they denote so far settles.

more_settles : (rows : List Row) (stop : Option (ℕ × Option Rule)) (rest : Score)
    → Settles (ahead rows (behind stop closed)) (ahead rows (behind stop rest))
more_settles rows (Some (line, o)) rest = same_settles refl
more_settles rows None rest = record { rows = (rest.rows, rw append-nil refl); broken = λ x h. cc }

going_on : (path : Path) (n : ℕ) (ls more : List (List ℕ)) (broken : Option (ℕ × TextFault))
    → Settles (denoted_so_far path n ls None) (denoted path n (ls ++ more) broken)
going_on path n ls more broken =
    let r = reads path n ls in
    rw (front_alone path n ls None, r.whole more broken) (more_settles r.rows r.stop _)

going_on_so_far : (path : Path) (n : ℕ) (ls more : List (List ℕ)) (broken : Option (ℕ × TextFault))
    → Settles (denoted_so_far path n ls None) (denoted_so_far path n (ls ++ more) broken)
going_on_so_far path n ls more broken =
    let r = reads path n ls in
    rw (front_alone path n ls None, r.front more broken) (more_settles r.rows r.stop _)

-- The lines up to a broken one that stands behind these.
pub up_to_behind : (broken : Option (ℕ × TextFault)) (xs ys : List (List ℕ))
    → ((m : ℕ) (f : TextFault) → broken ≡ Some (m, f) → length xs + 1 ≤ m)
    → (rest : List (List ℕ)) × (up_to broken (xs ++ ys) ≡ xs ++ rest)
up_to_behind None xs ys behind = (ys, refl)
up_to_behind (Some (m, f)) xs ys behind =
    let k = m - 1 - length xs in
    let at : m - 1 ≡ length xs + k = omega (arith, behind m f refl) in
    (take k ys, ap (λ i. take i (xs ++ ys)) at ∙ take-append-add xs ys k)

-- A front settles in what it goes on to: these pieces, and this fault in them.
module _ (p : List ℕ) (all : List (List ℕ)) (broken : Option (ℕ × TextFault))
    (D : List (List ℕ) → Option (ℕ × TextFault) → Score) (front : Begins (whole_pieces p) all)
    (stays : (x : ℕ × TextFault) → fault_in standard p ≡ Some x → broken ≡ Some x)
    (behind : (m : ℕ) (f : TextFault) → fault_in standard p ≡ None → broken ≡ Some (m, f)
    → length (whole_pieces p) + 1 ≤ m)
    (same : (ls : List (List ℕ)) (x : ℕ × TextFault) → D ls (Some x) ≡ denoted_so_far Unopened 0 ls (Some x))
    (goes : (more : List (List ℕ))
    → Settles (denoted_so_far Unopened 0 (whole_lines p) None) (D (whole_lines p ++ more) broken))
  where
    lines_front : map without_cr all ≡ whole_lines p ++ map without_cr front.0
    lines_front = ap (map without_cr) (sym front.1) ∙ map-append without_cr (whole_pieces p) front.0

    in_all : (o : Option (ℕ × TextFault)) → fault_in standard p ≡ o
        → Settles (denoted_so_far Unopened 0 (up_to o (whole_lines p)) o)
        (D (up_to broken (map without_cr all)) broken)
    in_all (Some (m, f)) is =
        let few = line_within standard p m f is in
        let count = length-map (whole_pieces p) without_cr in
        same_settles (rw (stays (m, f) is, lines_front, take-append-le (m - 1) (whole_lines p) _ (omega arith))
        (same (take (m - 1) (whole_lines p)) (m, f)))
    in_all None is =
        let count = length-map (whole_pieces p) without_cr in
        let b = up_to_behind broken (whole_lines p) (map without_cr front.0)
        (λ m f e. omega (arith, behind m f is e)) in
        rw (lines_front, b.1) (goes b.0)

pub settles_whole : (p q : List ℕ) → Settles (score_so_far p) (score_of (p ++ q))
settles_whole p q =
    in_all p (pieces (p ++ q)) (fault_of standard (p ++ q)) (denoted Unopened 0) (whole_front p q)
    (λ x h. after_front standard [] p q ∙ rw h refl)
    (λ m f h e. line_after standard p q m f (rw h at (sym (after_front standard [] p q)) ∙ e))
    (broken_same Unopened 0) (λ more. going_on Unopened 0 (whole_lines p) more (fault_of standard (p ++ q)))
    (fault_in standard p) refl

pub settles_further : (p q : List ℕ) → Settles (score_so_far p) (score_so_far (p ++ q))
settles_further p q =
    in_all p (whole_pieces (p ++ q)) (fault_in standard (p ++ q)) (denoted_so_far Unopened 0) (whole_begins p q)
    (λ x h. within_front standard [] p q ∙ rw h refl)
    (λ m f h e. line_behind standard p q m f (rw h at (sym (within_front standard [] p q)) ∙ e))
    (λ ls x. refl) (λ more. going_on_so_far Unopened 0 (whole_lines p) more (fault_in standard (p ++ q)))
    (fault_in standard p) refl
