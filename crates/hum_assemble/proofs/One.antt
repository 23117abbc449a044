-- One source alone: its records are given as they are.
use Rattle.std.proofs.lemmas.Bool.Decides.{nat_tests}
use Rattle.std.proofs.Common.{◌≡◌, ◌∙◌, refl, sym, ap, subst, ℕ, ◌+◌, ◌≤◌, Bool, true, false, ◌||◌}
use Rattle.std.proofs.lemmas.Bool.{le-leb, ne_eqb, eq-eqb}
use Rattle.std.proofs.Common.{List, [], ◌∷◌, length, arith, append-nil}
use Rattle.std.specs.Prelude.{◌==◌, nat_le, Option, None, Some}
use Rattle.hum_score.specs.Row.{Row, text_of, tokens_of}
use Rattle.hum_score.specs.Rules.{fault_of}
use Rattle.hum_score.specs.Spines.{Path, Unopened, after}
use Rattle.hum_score.specs.InOrder.{Follow}
use Rattle.hum_stage.specs.declared.faults.Rule.{Rule}
use Rattle.hum_words.specs.declared.commands.Command.TheVariants.{Assemble}
use Rattle.hum_stage.specs.declared.faults.End as end
use Rattle.hum_stage.specs.Meaning.{fault_at}
use Rattle.hum_assemble.specs.declared.places.Place.{Place}
use Rattle.hum_assemble.specs.declared.places.Next as next
use Rattle.hum_assemble.specs.declared.places.Next.TheVariants.{Gives, Refused}
use Rattle.hum_assemble.specs.Source.{place, is_inside}
use Rattle.hum_assemble.specs.Places.{rank, is_over}
use Rattle.hum_assemble.specs.Merge.{Merge, ahead, made, given_row, given_on, all_moved}
use Rattle.hum_assemble.specs.Merge.{spines, rule_broken, row_of_kind, unless_broken}
use Rattle.hum_assemble.specs.Meaning.{all_given, rest, refusal, GivesOneAsItIs}
use Rattle.hum_assemble.proofs.Steps.{is_giving, all_going, all_resting}
use Rattle.hum_assemble.proofs.Fitting.{spined_of, kind_fits}
use Rattle.hum_assemble.proofs.Scores.{place_before, own_none}

abbrev sole : Path → Bool → List Row → Option end.End → ℕ → Merge
sole path due coming ended given =
    record { sources = record { path = path; due = due; coming = coming; ended = ended } ∷ []; given = given }

-- Its next record stands at the earliest place.
first_place : (q : Place) → rank q ≤ 10 → (nat_le (rank q) 11 ≡ true) × (is_over q ≡ false)
first_place q h = (le-leb (rank q) 11 (omega (arith, h)), ne_eqb (rank q) 11 (λ e. omega (arith, h, e)))

own_rank : (n : ℕ) → (n == n) ≡ true
own_rank n = eq-eqb n n refl

like_kind : (row : Row) → row_of_kind (spined_of row) (text_of row) (tokens_of row) ≡ row
like_kind = grind (arith, nat_tests)

row_given : (path : Path) (due : Bool) (row : Row) (rows : List Row) (ended : Option end.End) (given : ℕ)
    → fault_of path row ≡ None → given_row (place path row) (sole path due (row ∷ rows) ended given) ≡ row
row_given = grind (arith, nat_tests, own_rank, spined_of, kind_fits, append-nil, like_kind)

goes_to : (path : Path) (due : Bool) (row : Row) (rows : List Row) (ended : Option end.End) (given : ℕ)
    → given_on (place path row) (sole path due (row ∷ rows) ended given)
    ≡ sole (after path row) (is_inside (after path row)) rows ended (given + 1)
goes_to = grind (arith, nat_tests)

-- It is given, or breaks a rule.
data Coming (m : Merge) (q : Place) : Type 0 where
  Comes : ahead m ≡ Gives q → Coming m q
  Breaks : (rule : Rule) → ahead m ≡ Refused rule → Coming m q

coming_by : (m : Merge) (q : Place) (o : Option Rule) → ahead m ≡ unless_broken q o → Coming m q
coming_by m q None e = Comes e
coming_by m q (Some rule) e = Breaks rule e

coming : (path : Path) (due : Bool) (row : Row) (rows : List Row) (ended : Option end.End) (given : ℕ)
    → Coming (sole path due (row ∷ rows) ended given) (place path row)
coming path due row rows ended given =
    let f = first_place (place path row) (place_before path row) in
    coming_by (sole path due (row ∷ rows) ended given) (place path row) (rule due) (by due f.0 f.1)
  where
    rule : Bool → Option Rule
    rule d =
        let ss = (sole path d (row ∷ rows) ended given).sources in
        rule_broken (spines (all_moved true (d || false) (place path row) ss))
        (length (text_of (made (d || false) (place path row) ss))) given

    by : (d : Bool) → nat_le (rank (place path row)) 11 ≡ true → is_over (place path row) ≡ false
        → ahead (sole path d (row ∷ rows) ended given) ≡ unless_broken (place path row) (rule d)
    by true e f = rw (e, f) refl
    by false e f = rw (e, f) refl

-- nothing is refused
abbrev NoneRefused : ℕ → Merge → Type 0
NoneRefused stage m = fault_at stage Assemble (refusal (m.given + 1) (ahead m)) ≡ None

one_given : (stage : ℕ) (rows : List Row) (path : Path) (due : Bool) (ended : Option end.End) (given : ℕ)
    → Follow path rows → NoneRefused stage (rest (sole path due rows ended given))
    → all_given (sole path due rows ended given) ≡ rows
one_given stage [] path due ended given f none = refl
one_given stage (row ∷ rows) path due ended given f none =
    elim (coming path due row rows ended given) [
      | Comes e ↦
          let g = all_going m q e in
          let on = goes_to path due row rows ended given in
          let more = one_given stage rows (after path row) (is_inside (after path row)) ended (given + 1) f.1
          (subst (NoneRefused stage) (g.1 ∙ ap rest on) none) in
          g.0 ∙ ap (λ (first : Row). first ∷ all_given (given_on q m)) (row_given path due row rows ended given f.0)
          ∙ ap (λ (x : Merge). row ∷ all_given x) on ∙ ap (λ (others : List Row). row ∷ others) more
      | Breaks rule e ↦
          absurd (own_none stage (given + 1) rule
          (ap (λ (a : next.Next). fault_at stage Assemble (refusal (given + 1) a)) (sym e)
          ∙ subst (NoneRefused stage) (all_resting m (ap is_giving e)).1 none))
    ]
  where
    m : Merge
    m = sole path due (row ∷ rows) ended given

    q : Place
    q = place path row

pub gives_one : GivesOneAsItIs
gives_one stage x score none = one_given stage x.put Unopened false x.ended 0 score none
