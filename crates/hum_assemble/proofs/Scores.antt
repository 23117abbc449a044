-- Scores side by side are a score, and closed ones a closed one.
use Rattle.std.proofs.lemmas.Grind.{common_steps}
use Rattle.std.proofs.lemmas.Bool.Decides.{nat_tests}
use Rattle.std.proofs.Common.{◌≡◌, ◌∙◌, refl, sym, ap, ℕ, zero, suc, ◌+◌, ◌≤◌, inl}
use Rattle.std.proofs.Common.{Bool, true, false, List, [], ◌∷◌}
use Rattle.std.proofs.Common.{arith, map}
use Rattle.std.specs.Prelude.{Option, None, Some}
use Rattle.std.specs.List.{list_any, AllByRecursion}
use Rattle.hum_score.specs.Row.{Row}
use Rattle.hum_score.specs.Rules.{is_unfinished}
use Rattle.hum_score.specs.Spines.{Path, Unopened, exclusives, after}
use Rattle.hum_stage.specs.declared.faults.End as end
use Rattle.hum_stage.specs.declared.faults.End.TheVariants.{Closed}
use Rattle.hum_assemble.specs.declared.places.Place.{Place}
use Rattle.hum_assemble.specs.Source.{Source, place}
use Rattle.hum_assemble.specs.Places.{rank, is_over}
use Rattle.hum_assemble.specs.Round.{place_at}
use Rattle.hum_assemble.specs.Merge.{all_moved}
use Rattle.hum_assemble.proofs.Sides.{IsSound}
use Rattle.hum_assemble.proofs.Rounds.{AllSound}
use Rattle.hum_assemble.proofs.Rounds.{names_of}
use Rattle.hum_score.specs.InOrder.{Follow, IsScore, IsClosed, through}
use Rattle.hum_stage.specs.declared.faults.Rule.{Rule}
use Rattle.hum_words.specs.declared.commands.Command.TheVariants.{Assemble}
use Rattle.hum_stage.specs.Meaning.{fault_at}
use Rattle.hum_assemble.specs.declared.places.Next as next
use Rattle.hum_assemble.specs.declared.places.Next.TheVariants.{Gives, Refused, Wants}
use Rattle.hum_assemble.specs.declared.places.Next.TheVariants.{Over as NothingMore}
use Rattle.hum_assemble.specs.Change.{Input}
use Rattle.hum_assemble.specs.Round.{any_due, earliest, is_lost}
use Rattle.hum_assemble.specs.Merge.{Merge, ahead, given_row, given_on, spines}
use Rattle.hum_assemble.specs.Merge.{ahead_at, ahead_of}
use Rattle.hum_assemble.specs.Meaning.{gives, goes_on, total, begun, opening, output, rest, refusal}
use Rattle.hum_assemble.specs.Meaning.{inputs_end, ends, AreScores}
use Rattle.hum_assemble.specs.Meaning.{KeepsScores}
use Rattle.hum_assemble.proofs.Steps.{is_given, giving, lost_given, is_giving, Doing, Going}
use Rattle.hum_assemble.proofs.Steps.{Resting, doing, gives_going, gives_resting, on_going, on_resting}
use Rattle.hum_assemble.proofs.Steps.{all_ended, takes_one}
use Rattle.hum_assemble.proofs.Standings.{no_end, open_in, waiting_open, waits_at, begun_ends}
use Rattle.hum_assemble.proofs.Rounds.{all_show}
use Rattle.hum_assemble.proofs.Alone.{paths_of, OneIn}
use Rattle.hum_assemble.proofs.Turning.{AllUnopened, finished}
use Rattle.hum_assemble.proofs.Fine.{IsFine, Side, Here, goes}
use Rattle.hum_assemble.proofs.Taking.{same_rank}

at_few : (going : Bool) (q p : Place) (ss : List Source) (given : ℕ)
    → ahead_at going q ss given ≡ Gives p
    → spines (all_moved true going q ss) ≤ 4096
at_few = grind (arith, nat_tests)

le_same : (n m : ℕ) → n ≡ m → n ≤ m
le_same n m e = omega (arith, e)

here : (m : Merge) (p : Place) → ahead m ≡ Gives p → Here (any_due m.sources) p m.sources
here m p h =
    let g = is_given (any_due m.sources) m.sources m.given p h in
    let w = giving m.sources m.given p h in
    record {
      idle = λ e. e;
      show = all_show (any_due m.sources) p m.sources g.known (le_same _ _ (ap rank g.place));
      some = w.some;
      at = w.at;
      few = grind (arith, nat_tests, at_few, lost_given);
    }

-- One record after another.
abbrev Keeps : ℕ → Path → Merge → Type 0
Keeps n path m =
    Follow path (gives n m) × IsFine (through path (gives n m)) (goes_on n m).sources

keeps_rest : (n : ℕ) (path : Path) (m : Merge) → IsFine path m.sources → is_giving (ahead m) ≡ false
    → Keeps n path m
keeps_rest n path m f r = rw (gives_resting n m r, on_resting n m r) (tt, f)

keeps : (n : ℕ) (path : Path) (m : Merge) → IsFine path m.sources → Keeps n path m
keeps zero path m f = (tt, f)
keeps (suc n) path m f =
    keeps_doing n path m f (doing m) (λ q f'. keeps n (after path (given_row q m)) (given_on q m) f')
  where
    keeps_doing : (n : ℕ) (path : Path) (m : Merge) → IsFine path m.sources → Doing m
        → ((q : Place) → IsFine (after path (given_row q m)) (given_on q m).sources
        → Keeps n (after path (given_row q m)) (given_on q m))
        → Keeps (suc n) path m
    keeps_doing n path m f (Resting r) ih = keeps_rest (suc n) path m f r
    keeps_doing n path m f (Going p e) ih =
        let g = goes path (any_due m.sources) p m.sources f (here m p e) in
        let k = ih p g.1 in
        rw (gives_going n m p e, on_going n m p e) ((g.0, k.0), k.1)

-- At the beginning.
begin_sound : (x : Input) → IsScore x.put × (x.ended ≡ Some Closed → IsClosed x.put)
    → IsSound (begun x)
begin_sound = grind (arith, nat_tests)

begin_all : (xs : List Input) → AreScores xs → AllSound (map begun xs)
begin_all [] h = tt
begin_all (x ∷ xs) h = (begin_sound x h.0, begin_all xs h.1)

begin_one : (xs : List Input) → OneIn (paths_of (map begun xs))
begin_one [] = tt
begin_one (x ∷ xs) = inl (refl, begin_one xs)

begin_unopened : (xs : List Input) → AllUnopened (map begun xs)
begin_unopened [] = tt
begin_unopened (x ∷ xs) = (refl, begin_unopened xs)

begin_fine : (xs : List Input) → AreScores xs → IsFine Unopened (opening xs).sources
begin_fine = grind (arith, nat_tests, begin_all, begin_one, begin_unopened)

pub all_keep : (xs : List Input) → AreScores xs
    → IsScore (output xs) × IsFine (through Unopened (output xs)) (rest (opening xs)).sources
all_keep xs h = keeps (total (opening xs).sources) Unopened (opening xs) (begin_fine xs h)

-- At the end.
rest_stops : (n : ℕ) (m : Merge) → total m.sources ≤ n → is_giving (ahead (goes_on n m)) ≡ false
rest_stops zero m l = elim (doing m) [
  | Going p e ↦ absurd (let t = takes_one m p e in omega (arith, t, l))
  | Resting r ↦ r
]
rest_stops (suc n) m l = elim (doing m) [
  | Going p e ↦
      let t = takes_one m p e in
      rw (on_going n m p e) (rest_stops n (given_on p m) (omega (arith, t, l)))
  | Resting r ↦ rw (on_resting (suc n) m r) r
]

ends_on : (n : ℕ) (m : Merge)
    → map (λ s. s.ended) (goes_on n m).sources ≡ map (λ s. s.ended) m.sources
ends_on zero m = refl
ends_on (suc n) m = elim (doing m) [
  | Going p e ↦ rw (on_going n m p e) (ends_on n (given_on p m) ∙ all_ended true (any_due m.sources) p m.sources)
  | Resting r ↦ rw (on_resting (suc n) m r) refl
]

-- each source ended closed
abbrev AllClosed : List Source → Type 0
AllClosed = AllByRecursion (λ s. s.ended ≡ Some Closed)

all_closed : (ss : List Source) → inputs_end (map (λ s. s.ended) ss) ≡ Some Closed → AllClosed ss
all_closed [] h = tt
all_closed (s ∷ ss) h = grind (arith, nat_tests, all_closed ss)

never_due : (path : Path) (ended : Option end.End)
    → IsSound (record { path = path; due = true; coming = []; ended = ended }) → ended ≡ Some Closed → ⊥
never_due = grind (arith, common_steps)

none_lost : (going : Bool) (ss : List Source) → AllSound ss → AllClosed ss
    → list_any (is_lost going) ss ≡ false
none_lost going [] i c = refl
none_lost going (s ∷ ss) i c = grind (arith, common_steps, none_lost going ss i.1 c.1)

over_earliest : (going : Bool) (ss : List Source) (given : ℕ) → list_any (is_lost going) ss ≡ false
    → ahead_of going ss given ≡ NothingMore → is_over (earliest going ss) ≡ true
over_earliest = grind (arith, nat_tests)

abbrev AllOver : Bool → List Source → Type 0
AllOver going = AllByRecursion (λ s. 11 ≤ rank (place_at going s))

all_over : (going : Bool) (ss : List Source) → 11 ≤ rank (earliest going ss) → AllOver going ss
all_over going [] l = tt
all_over going (s ∷ ss) l = grind (arith, nat_tests, all_over going ss)

pub place_before : (path : Path) (row : Row) → rank (place path row) ≤ 10
place_before = grind (arith, nat_tests)

idle_fields : (going : Bool) (path : Path) (due : Bool) (coming : List Row) (ended : Option end.End)
    → IsSound (record { path = path; due = due; coming = coming; ended = ended }) → ended ≡ Some Closed
    → 11 ≤ rank (place_at going (record { path = path; due = due; coming = coming; ended = ended }))
    → due ≡ false
idle_fields = grind (arith, nat_tests, never_due, place_before)

none_due : (going : Bool) (ss : List Source) → AllSound ss → AllClosed ss → AllOver going ss
    → any_due ss ≡ false
none_due going [] i c l = refl
none_due going (s ∷ ss) i c l = grind (arith, nat_tests, none_due going ss i.1 c.1 l.1, idle_fields)

gone_fields : (path : Path) (due : Bool) (coming : List Row) (ended : Option end.End)
    → IsSound (record { path = path; due = due; coming = coming; ended = ended }) → ended ≡ Some Closed
    → 11 ≤ rank (place_at false (record { path = path; due = due; coming = coming; ended = ended }))
    → exclusives path ≡ []
gone_fields = grind (arith, nat_tests, finished, place_before)

none_left : (going : Bool) (ss : List Source) → going ≡ false → AllSound ss → AllClosed ss
    → AllOver going ss → names_of ss ≡ []
none_left false (s ∷ ss) e i c l = grind (arith, nat_tests, none_left false ss e i.1 c.1 l.1, gone_fields)
none_left going ss h k w e = grind (arith, nat_tests)

over_names : (m : Merge) → AllSound m.sources → AllClosed m.sources → ahead m ≡ NothingMore
    → names_of m.sources ≡ []
over_names m i c h =
    let going = any_due m.sources in
    let o = over_earliest going m.sources m.given (none_lost going m.sources i c) h in
    let r = same_rank (rank (earliest going m.sources)) 11 o in
    let l = all_over going m.sources (omega (arith, r)) in
    none_left going m.sources (none_due going m.sources i c l) i c l

side_closed : (path : Path) (ss : List Source) → Side path ss → names_of ss ≡ []
    → is_unfinished path ≡ false
side_closed = grind (arith, nat_tests)

pub own_none : (stage line : ℕ) (rule : Rule)
    → fault_at stage Assemble (refusal line (Refused rule)) ≡ None → ⊥
own_none stage line rule h = cc

closed_at : (stage : ℕ) (m : Merge) (a : next.Next) → ahead m ≡ a → AllSound m.sources
    → inputs_end (map (λ s. s.ended) m.sources) ≡ Some Closed → is_giving (ahead m) ≡ false
    → fault_at stage Assemble (refusal (m.given + 1) (ahead m)) ≡ None → names_of m.sources ≡ []
closed_at stage m (Gives p) e i c r f = let v = sym (ap is_giving e) ∙ r in cc
closed_at stage m (Refused rule) e i c r f = grind (arith, nat_tests)
closed_at stage m (Wants j) e i c r f =
    let n = no_end j (map (λ s. s.ended) m.sources)
    (open_in j m.sources (waiting_open j m.sources (waits_at m j e))) in
    let v = sym n ∙ c in cc
closed_at stage m NothingMore e i c r f = over_names m i (all_closed m.sources c) e

rest_ends : (xs : List Input) → map (λ s. s.ended) (rest (opening xs)).sources ≡ ends xs
rest_ends xs = ends_on (total (opening xs).sources) (opening xs) ∙ begun_ends xs

pub keeps_scores : (stage : ℕ) → KeepsScores stage
keeps_scores stage = record {
  score = λ xs h. (all_keep xs h).0;
  closed = λ xs h c f.
      let k = all_keep xs h in
      let n = closed_at stage (rest (opening xs)) (ahead (rest (opening xs))) refl k.1.sound
      (ap inputs_end (rest_ends xs) ∙ c)
      (rest_stops (total (opening xs).sources) (opening xs) (omega arith)) f in
      (k.0, side_closed (through Unopened (output xs)) (rest (opening xs)).sources k.1.side n);
}
