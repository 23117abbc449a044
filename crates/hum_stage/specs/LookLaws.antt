-- What holds of all commands that look ahead.
use Rattle.std.proofs.Common.{◌≡◌, ◌∙◌, refl, sym, ap, ℕ, suc, ◌+◌, ◌≤◌, Bool, true}
use Rattle.std.proofs.Common.{false, List, [], ◌∷◌, ◌++◌, map, take, length, append_assoc}
use Rattle.std.proofs.Common.{length-append, arith, cond, inl, inr}
use Rattle.std.specs.Prelude.{nat_le, Option, Some, None, Result, Ok, Err}
use Rattle.std.proofs.lemmas.Bool.{cases_Bool}
use Rattle.std.proofs.lemmas.Bool.Decides.{nat_tests}
use Rattle.std.proofs.lemmas.List.{take-append-le, take_all}
use Rattle.hum_score.specs.Row.{Row}
use Rattle.hum_score.specs.Score.{IsOpen, passed}
use Rattle.hum_stage.specs.declared.faults.Rule.{Rule}
use Rattle.hum_stage.specs.declared.faults.Rule.TheVariants.{H1}
use Rattle.hum_stage.specs.Outcome.{Outcome, Becomes, Refused, Undecided, settled}
use Rattle.hum_stage.specs.Meaning.{Goes, Moment, all_of}
use Rattle.hum_stage.specs.declared.faults.End.{End}
use Rattle.hum_stage.specs.Lagging.{becomes, flat, listed, Lagged, LagsAt, Lags}
use Rattle.std.specs.Option.{option_to_list}
use Rattle.hum_stage.specs.Look.{Look, outcome_of, outcome_at, outcomes_from, IsSteady}

-- What is decided with some records behind stays with one more.
decided_stays : (room n m : ℕ) (old new : Option (Result (List Row) Rule))
    → ((d : Result (List Row) Rule) → old ≡ Some d → new ≡ Some d)
    → (room ≤ n → new ≡ old) → n ≤ m
    → (outcome_of room n old ≡ Undecided → ⊥) → outcome_of room m new ≡ outcome_of room n old
decided_stays room n m (Some d) new h k l u = rw (h d refl) refl
decided_stays room n m None new h k l u = elim (cases_Bool (nat_le room n)) as
    (λ _. outcome_of room m new ≡ outcome_of room n None) [
      | inl w ↦ let full : room ≤ n = grind (arith, nat_tests, w) in let more : nat_le room m ≡ true =
          grind (arith, nat_tests, full, l) in rw (k full, w, more) refl
      | inr w ↦ absurd (u (rw w refl))
    ]

pub outcome_stays : (room : ℕ) (look : Look) (past : List Row) (row : Row) (rows : List Row)
    (next : Row) → IsSteady look → IsOpen (next ∷ passed (row ∷ past) rows)
    → (outcome_at room look past row rows ≡ Undecided → ⊥)
    → outcome_at room look past row (rows ++ next ∷ []) ≡ outcome_at room look past row rows
outcome_stays room look past row rows next steady score u =
    let sum : length (rows ++ next ∷ []) ≡ length rows + 1 = length-append rows (next ∷ []) in
    decided_stays room (length rows) (length (rows ++ next ∷ [])) (look past row (take room rows))
    (look past row (take room (rows ++ next ∷ []))) stays same (omega (arith, sum)) u
  where
    same : room ≤ length rows → look past row (take room (rows ++ next ∷ [])) ≡ look past row
        (take room rows)
    same h = rw (take-append-le room rows (next ∷ []) h) refl

    stays : (d : Result (List Row) Rule) → look past row (take room rows) ≡ Some d
        → look past row (take room (rows ++ next ∷ [])) ≡ Some d
    stays d e = elim (cases_Bool (nat_le room (length rows))) as
        (λ _. look past row (take room (rows ++ next ∷ [])) ≡ Some d) [
          | inl w ↦ same (grind (arith, nat_tests, w)) ∙ e
          | inr w ↦
              let sum : length (rows ++ next ∷ []) ≡ length rows + 1 = length-append rows (next ∷ []) in
              let all : take room rows ≡ rows = take_all room rows (grind (arith, nat_tests, w)) in
              let more : take room (rows ++ next ∷ []) ≡ rows ++ next ∷ [] =
              take_all room (rows ++ next ∷ []) (grind (arith, nat_tests, w, sum)) in
              rw more (steady.stays past row rows next d score (ap (λ (xs : List Row). look past row xs)
              (sym all) ∙ e))
        ]

pub looks_grow : (room : ℕ) (look : Look) (past p : List Row) (next : Row) → IsSteady look
    → IsOpen (next ∷ passed past p)
    → Goes (outcomes_from room look past p) (outcomes_from room look past (p ++ next ∷ []))
looks_grow room look past [] next steady score = tt
looks_grow room look past (row ∷ p) next steady score =
    first (looks_grow room look (row ∷ past) p next steady score) (outcome_at room look past row p)
    refl
  where
    first : Goes (outcomes_from room look (row ∷ past) p) (outcomes_from room look (row ∷ past)
        (p ++ next ∷ [])) → (o : Outcome) → outcome_at room look past row p ≡ o
        → Goes (o ∷ outcomes_from room look (row ∷ past) p) (outcome_at room look past row
        (p ++ next ∷ []) ∷ outcomes_from room look (row ∷ past) (p ++ next ∷ []))
    first rest (Becomes rows) e = (
      outcome_stays room look past row p next steady score (λ u. cc)
          ∙ e,
      rest,
    )
    first rest (Refused rule) e = outcome_stays room look past row p next steady score (λ u. cc) ∙ e
    first rest Undecided e = tt

pub looks_each : (room : ℕ) (look : Look) (past p : List Row)
    → length (outcomes_from room look past p) ≡ length p
looks_each room look past [] = refl
looks_each room look past (row ∷ p) = ap suc (looks_each room look (row ∷ past) p)

-- no more records are given than are put
pub looks_few : (room : ℕ) (look : Look) (past p : List Row) → IsSteady look
    → length (settled (outcomes_from room look past p)) ≤ length p
looks_few room look past [] steady = omega arith
looks_few room look past (row ∷ p) steady = first (looks_few room look (row ∷ past) p steady)
    (look past row (take room p)) refl
  where
    undecided : (b : Bool)
        → length (settled (cond b (Refused H1) Undecided ∷ outcomes_from room look (row ∷ past) p))
        ≤ suc (length p)
    undecided true = omega arith
    undecided false = omega arith

    first : length (settled (outcomes_from room look (row ∷ past) p)) ≤ length p
        → (d : Option (Result (List Row) Rule)) → look past row (take room p) ≡ d
        → length (settled (outcome_of room (length p) d ∷ outcomes_from room look (row ∷ past) p)) ≤
        suc (length p)
    first rest None e = undecided (nat_le room (length p))
    first rest (Some (Err rule)) e = omega arith
    first rest (Some (Ok new)) e =
        let one = steady.one past row (take room p) new e in
        rw (length-append new (settled (outcomes_from room look (row ∷ past) p)))
        (omega (arith, one, rest))

-- what is given, by the records that were decided and the rest
pub settled_behind : (outs : List (Option Row)) (rest : List Outcome)
    → settled (map becomes outs ++ rest) ≡ flat outs ++ settled rest
settled_behind [] rest = refl
settled_behind (o ∷ outs) rest = ap (λ (xs : List Row). option_to_list o ++ xs)
    (settled_behind outs rest) ∙ sym (append_assoc (option_to_list o) (flat outs) (settled rest))

pub flat-append : (xs ys : List (Option Row)) → flat (xs ++ ys) ≡ flat xs ++ flat ys
flat-append [] ys = refl
flat-append (None ∷ xs) ys = flat-append xs ys
flat-append (Some x ∷ xs) ys = ap (λ (zs : List Row). x ∷ zs) (flat-append xs ys)

-- all that is settled
pub settled_at : (room : ℕ) (look : Look) (follows : List Row → List Row
    → Type 0) (x : Lagged) (put : List Row) (given : ℕ) → (h : LagsAt room look follows x put given)
    → settled (outcomes_from room look [] put) ≡ flat h.gone ++ (flat (listed x.due) ++ settled h.rest)
settled_at room look follows x put given h = ap settled h.outcomes
    ∙ (settled_behind (h.gone ++ listed x.due) h.rest
    ∙ (ap (λ (xs : List Row). xs ++ settled h.rest) (flat-append h.gone (listed x.due))
    ∙ append_assoc (flat h.gone) (flat (listed x.due)) (settled h.rest)))

pub lags_within : (room : ℕ) (follows : Look → List Row → List Row
    → Type 0) (x : Lagged) (ended : Option End) (spent : Bool) (t : Moment)
    → Lags room follows x ended spent t → t.given ≤ length (all_of t)
lags_within room follows x ended spent t h =
    let all = ap length (settled_at room h.look (follows h.look) x t.put t.given h.at) in
    let sum = length-append (flat h.at.gone) (flat (listed x.due) ++ settled h.at.rest) in
    let count = h.at.counted in
    rw h.meaning (omega (arith, all, sum, count))
