-- What a reader's stage does, by what has settled of its bytes.
use Rattle.std.proofs.lemmas.Bool.Decides.{nat_tests}
use Rattle.std.proofs.Common.{◌≡◌, ◌∙◌, refl, sym, ap, subst, ℕ, ◌+◌, ◌≤◌, Bool, true, false, ◌||◌, if◌then◌else◌}
use Rattle.std.proofs.Common.{List, [], ◌∷◌, ◌++◌, length, take, arith, append-nil, length-append, le-ltb, None}
use Rattle.std.specs.Prelude.{is_some}
use Rattle.std.proofs.lemmas.Bool.{false≢true}
use Rattle.std.proofs.Math.Seq.{take-append_seam}
use Rattle.hum_text.specs.Reading.{NeedsRead}
use Rattle.hum_read.specs.Denoted.{Score, end_at}
use Rattle.hum_read.specs.Reading.{Scores}
use Rattle.hum_read.proofs.Denoting.{front-rows}
use Rattle.hum_turns.specs.Flow.{Begins}
use Rattle.hum_nodes.specs.Doing as does
use Rattle.hum_nodes.specs.Settled.{score_so_far}
use Rattle.hum_nodes.specs.At.{At, doing_of}
use Rattle.hum_nodes.specs.Reading.{is_ended, settled_at, is_done, reading, HasGiven}
use Rattle.hum_nodes.proofs.ReadingLaws.{all_settled}
use Rattle.hum_nodes.proofs.Fronting.{front_is, given_settled, needs_settled}

-- Where all that has settled was given, it reads or is done.
pub rests_at : (stage : ℕ) (all : List ℕ) (t : At) → t.kind ≡ reading stage all → t.inputs ≡ []
    → length (settled_at all t.read).rows ≤ t.given → (done : Bool) → is_done all t.read ≡ done
    → doing_of t ≡ (if done then does.Done (end_at stage (settled_at all t.read).fault) else does.Reads)
rests_at = grind (arith, nat_tests)

-- What has settled with the bytes so far, and with all and their end.

not_ended : (all p q : List ℕ) → all ≡ p ++ q → is_ended all (length p) ≡ false
not_ended all p q e = le-ltb (length all) (length p) (omega (arith, ap length e, length-append p q))

pub so_far_at : (all p q : List ℕ) → all ≡ p ++ q → settled_at all (length p) ≡ score_so_far p
so_far_at all p q e = rw (not_ended all p q e) (ap score_so_far (ap (take (length p)) e ∙ take-append_seam p q))

-- how many bytes were read, with the end as one more
abbrev pub upto : Bool → List ℕ → ℕ
upto ended seen = if ended then length seen + 1 else length seen

pub upto_range : (ended : Bool) (seen : List ℕ) → (length seen ≤ upto ended seen) × (upto ended seen ≤ length seen + 1)
upto_range ended seen = grind arith

-- What was given has settled.
pub given_at : {R : Type 0} {v : Scores R} {all rest : List ℕ} {t : At} (h : HasGiven v all rest t)
    → Begins h.rows (settled_at all t.read).rows
given_at {v = v} {all} {rest} {t} h =
    subst (λ r. Begins h.rows (settled_at all r).rows) (sym h.read) (by v.lines.ended refl)
  where
    by : (b : Bool) → v.lines.ended ≡ b → Begins h.rows (settled_at all (upto b h.seen)).rows
    by true e = grind (arith, nat_tests, front-rows, append-nil, all_settled)
    by false e =
        let front = front_is (h.has (97 ∷ []) (λ t. absurd (false≢true (sym e ∙ t)))) in
        rw (so_far_at all h.seen rest h.whole) (given_settled front)

-- Where a read is needed it is about to read.
pub needs_at : {R : Type 0} {v : Scores R} {all rest : List ℕ} {t : At} → HasGiven v all rest t → (stage : ℕ)
    → t.kind ≡ reading stage all → t.inputs ≡ [] → NeedsRead v.lines → doing_of t ≡ does.Reads
needs_at {all = all} {rest} {t} h stage kind inputs needs =
    let going = needs.going in
    let front = front_is (h.has (97 ∷ []) (λ e. absurd (false≢true (sym going ∙ e)))) in
    let r : t.read ≡ length h.seen = h.read ∙ ap (λ b. upto b h.seen) going in
    let s : settled_at all t.read ≡ record { rows = h.rows; fault = None } =
    ap (settled_at all) r ∙ so_far_at all h.seen rest h.whole ∙ needs_settled front needs in
    rests_at stage all t kind inputs (omega (arith, ap (λ (s : Score). length s.rows) s, h.given)) false
    (ap (λ b. b || is_some (settled_at all t.read).fault) (ap (is_ended all) r ∙ not_ended all h.seen rest h.whole)
    ∙ ap (λ (s : Score). is_some s.fault) s)
