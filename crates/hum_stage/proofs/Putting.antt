-- One record more, and what comes next.
use Rattle.std.proofs.lemmas.Grind.{common_steps}
use Rattle.std.proofs.Common.{◌≡◌, ◌∙◌, refl, sym, ap, ℕ, ◌+◌, ◌-◌, ◌≤◌, ◌<◌}
use Rattle.std.proofs.Common.{List, [], ◌∷◌, ◌++◌, map, take, length, append_assoc, append-nil}
use Rattle.std.proofs.Common.{length-append, arith, Option, Some, None}
use Rattle.std.proofs.lemmas.List.{map-append}
use Rattle.std.specs.Prelude.{Result, Ok, Err}
use Rattle.std.proofs.lemmas.Bool.Decides.{nat_tests}
use Rattle.std.proofs.lemmas.Option.{none-some}
use Rattle.hum_score.specs.Row.{Row}
use Rattle.hum_score.specs.Score.{passed, IsOpen}
use Rattle.hum_stage.specs.Order.{passed-push}
use Rattle.hum_stage.specs.declared.faults.Rule.{Rule}
use Rattle.hum_stage.specs.Outcome.{Outcome, Refused, Undecided}
use Rattle.hum_stage.specs.Look.{Look, IsSteady, outcome_of, outcomes_from}
use Rattle.hum_stage.specs.LookLaws.{flat-append}
use Rattle.hum_stage.specs.Settles.{Drops, NextIs, all_dropped}
use Rattle.hum_stage.specs.Lagging.{becomes, flat, listed, Lagged, LagsAt}
use Rattle.hum_stage.proofs.Fronts.{front_stays, refusal_behind}

pub passed-append : (past xs ys : List Row) → passed past (xs ++ ys) ≡ passed (passed past xs) ys
passed-append past [] ys = refl
passed-append past (x ∷ xs) ys = passed-append (x ∷ past) xs ys

-- The record that is due is another, or none.
abbrev pub due_lagged : Lagged → Option Row → Lagged
due_lagged x due =
    record { stage = x.stage; command = x.command; line = x.line; due = due; fault = x.fault }

-- The first of n records that wait is refused: behind it stand those with the last n - 1 lines.
abbrev pub refused_lagged : Lagged → ℕ → Rule → Lagged
refused_lagged x n rule = record {
  stage = x.stage;
  command = x.command;
  line = x.line;
  due = x.due;
  fault = Some (record {
    stage = x.stage;
    command = x.command;
    line = x.line - (n - 1);
    rule = rule;
  });
}

-- a record more was put
abbrev pub lined_lagged : Lagged → Lagged
lined_lagged x = record {
  stage = x.stage;
  command = x.command;
  line = x.line + 1;
  due = x.due;
  fault = x.fault;
}

-- The records put so far: those of which it is known what they became, and those that wait: at most
-- one more than there is room for.
pub record Parted (room : ℕ) (look : Look) (put : List Row) (given : ℕ) (gone : List (Option Row))
    (front waits : List Row) : Type 0 where
  pub split : put ≡ front ++ waits
  pub counted : length front ≡ length gone
  pub given_so : given ≡ length (flat gone)
  pub outcomes : outcomes_from room look [] put ≡ map becomes gone ++ outcomes_from room look
      (passed [] front) waits
  pub few : length waits ≤ room + 1

-- a record more waits behind the others
pub put_parted : (room : ℕ) (look : Look) (follows : List Row → List Row → Type 0) (x : Lagged)
    (put : List Row) (next : Row) (given : ℕ) → IsSteady look → IsOpen (next ∷ passed [] put)
    → (h : LagsAt room look follows x put given) → x.due ≡ None → (ok : x.fault ≡ None)
    → Parted room look (put ++ next ∷ []) given h.gone (h.ahead ok).front ((h.ahead ok).waits ++ next ∷ [])
put_parted = grind (arith, nat_tests, append-nil, append_assoc, length-append, front_stays)

-- the record that was due is gone
pub take_parted : (room : ℕ) (look : Look) (follows : List Row → List Row → Type 0) (x : Lagged)
    (put : List Row) (given : ℕ) (due : Row)
    → (h : LagsAt room look follows x put given) → (e : x.due ≡ Some due)
    → Parted room look put (given + 1) (h.gone ++ Some due ∷ []) (h.ahead (h.faultless due e)).front
    (h.ahead (h.faultless due e)).waits
take_parted room look follows x put given due h e =
    let a = h.ahead (h.faultless due e) in
    let all : h.gone ++ listed x.due ≡ h.gone ++ Some due ∷ [] =
    ap (λ (o : Option Row). h.gone ++ listed o) e in
    let count = h.counted in
    let sum = length-append (flat h.gone) (due ∷ []) in
    let few = a.few in
    record {
      split = a.split;
      counted = a.counted ∙ ap length all;
      given_so = rw (flat-append h.gone (Some due ∷ [])) (omega (arith, count, sum));
      outcomes = h.outcomes ∙ (ap (λ (xs : List (Option Row)). map becomes xs ++ h.rest) all
          ∙ ap (λ (os : List Outcome). map becomes (h.gone ++ Some due ∷ []) ++ os) a.outcomes);
      few = omega (arith, few);
    }

-- what is dropped
abbrev nones : List Row → List (Option Row)
nones dropped = map (λ _. None) dropped

nones_flat : (dropped : List Row) → flat (nones dropped) ≡ []
nones_flat [] = refl
nones_flat (row ∷ dropped) = nones_flat dropped

nones_dropped : (dropped : List Row) → map becomes (nones dropped) ≡ all_dropped dropped
nones_dropped [] = refl
nones_dropped (row ∷ dropped) = grind (arith, nat_tests, nones_dropped dropped)

nones_length : (dropped : List Row) → length (nones dropped) ≡ length dropped
nones_length = grind (arith, common_steps)

-- the first of those that wait are dropped
drop_parted : (room : ℕ) (look : Look) (put : List Row) (given : ℕ) (gone : List (Option Row))
    (front waits : List Row) (then : List Row → List Row → Type 0)
    → Parted room look put given gone front waits → (d : Drops room look (passed [] front) waits then)
    → Parted room look put given (gone ++ nones d.dropped) (front ++ d.dropped) d.rest
drop_parted room look put given gone front waits then p d =
    let few = p.few in
    let cut = ap length d.split in
    let sum = length-append d.dropped d.rest in
    let count = p.counted in
    let a = length-append front d.dropped in
    let b = length-append gone (nones d.dropped) in
    let n = nones_length d.dropped in
    record {
      split = grind (arith, nat_tests, append_assoc);
      counted = omega (arith, a, b, n, count);
      given_so = p.given_so ∙ ap length (sym (flat-append gone (nones d.dropped)
          ∙ (ap (λ (xs : List Row). flat gone ++ xs) (nones_flat d.dropped)
          ∙ append-nil (flat gone))));
      outcomes = grind (arith, nat_tests, map-append, nones_dropped, passed-append, append_assoc);
      few = omega (arith, cut, sum, few);
    }

-- what is undecided has room behind it
undecided_room : (room n : ℕ) (d : Option (Result (List Row) Rule)) → outcome_of room n d ≡ Undecided
    → n < room
undecided_room = grind (arith, nat_tests)

-- Then a record is due, or none.
pub at_due : (room : ℕ) (look : Look) (follows : List Row → List Row → Type 0) (x : Lagged)
    (put : List Row) (given n : ℕ) (gone : List (Option Row)) (front rest : List Row)
    (due : Option Row) → x.line ≡ length put → x.fault ≡ None
    → Parted room look put given gone front rest
    → NextIs room look (passed [] front) rest follows n (Ok due)
    → LagsAt room look follows (due_lagged x due) put given
at_due room look follows x put given n gone front [] (Some due) line ok p next = absurd next
at_due room look follows x put given n gone front [] None line ok p next =
    let all : gone ++ [] ≡ gone = append-nil gone in
    record {
      line = line;
      gone = gone;
      rest = [];
      outcomes = p.outcomes ∙ ap (λ (xs : List (Option Row)). map becomes xs ++ []) (sym all);
      counted = p.given_so;
      stopped = λ _. tt;
      fault = grind (arith, nat_tests, refusal_behind);
      faultless = λ row e. absurd (none-some row e);
      ahead = λ _. record {
        front = front;
        waits = [];
        split = p.split;
        counted = p.counted ∙ ap length (sym all);
        memory = next;
        few = omega arith;
        outcomes = refl;
      };
    }
at_due room look follows x put given n gone front (row ∷ rest) None line ok p next =
    let all : gone ++ [] ≡ gone = append-nil gone in
    let os : outcomes_from room look (passed [] front) (row ∷ rest)
    ≡ Undecided ∷ outcomes_from room look (row ∷ passed [] front) rest =
    ap (λ (o : Outcome). o ∷ outcomes_from room look (row ∷ passed [] front) rest) next.0 in
    let fits = undecided_room room (length rest) (look (passed [] front) row (take room rest)) next.0
    in
    record {
      line = line;
      gone = gone;
      rest = outcomes_from room look (passed [] front) (row ∷ rest);
      outcomes = p.outcomes ∙ ap (λ (xs : List (Option Row)). map becomes xs ++ outcomes_from room
          look (passed [] front) (row ∷ rest)) (sym all);
      counted = p.given_so;
      stopped = λ _. rw next.0 tt;
      fault = grind (arith, nat_tests, refusal_behind);
      faultless = λ row e. absurd (none-some row e);
      ahead = λ _. record {
        front = front;
        waits = row ∷ rest;
        split = p.split;
        counted = p.counted ∙ ap length (sym all);
        memory = next.1;
        few = omega (arith, fits);
        outcomes = refl;
      };
    }
at_due room look follows x put given n gone front (row ∷ rest) (Some due) line ok p next =
    let sum = length-append front (row ∷ []) in
    let more = length-append gone (Some due ∷ []) in
    let count = p.counted in
    let few = p.few in
    record {
      line = line;
      gone = gone;
      rest = outcomes_from room look (row ∷ passed [] front) rest;
      outcomes = grind (arith, nat_tests, map-append, append_assoc);
      counted = p.given_so;
      stopped = λ e. absurd (none-some due (sym e));
      fault = λ e. absurd (none-some due (sym e));
      faultless = λ row e. ok;
      ahead = λ _. record {
        front = front ++ row ∷ [];
        waits = rest;
        split = p.split ∙ sym (append_assoc front (row ∷ []) rest);
        counted = omega (arith, sum, more, count);
        memory = rw (passed-push [] front row) next.1;
        few = omega (arith, few);
        outcomes = rw (passed-push [] front row) refl;
      };
    }

-- Or the first that waits is refused.
pub at_refused : (room : ℕ) (look : Look) (follows follows' : List Row → List Row → Type 0)
    (x : Lagged) (put : List Row) (given n : ℕ) (gone : List (Option Row)) (front rest : List Row)
    (rule : Rule) → x.line ≡ length put → x.due ≡ None
    → Parted room look put given gone front rest
    → NextIs room look (passed [] front) rest follows n (Err rule)
    → LagsAt room look follows' (refused_lagged x n rule) put given
at_refused room look follows follows' x put given n gone front [] rule line empty p next = absurd next
at_refused room look follows follows' x put given n gone front (row ∷ rest) rule line empty p next =
    let all : gone ++ listed x.due ≡ gone = grind (arith, nat_tests, append-nil) in
    let os : outcomes_from room look (passed [] front) (row ∷ rest)
    ≡ Refused rule ∷ outcomes_from room look (row ∷ passed [] front) rest =
    ap (λ (o : Outcome). o ∷ outcomes_from room look (row ∷ passed [] front) rest) next.0 in
    let cut = ap length p.split in
    let sum = length-append front (row ∷ rest) in
    let count = p.counted in
    let behind = next.1 in
    let at : x.line - (n - 1) ≡ 1 + length gone = omega (arith, line, cut, sum, count, behind) in
    record {
      line = line;
      gone = gone;
      rest = outcomes_from room look (passed [] front) (row ∷ rest);
      outcomes = p.outcomes ∙ ap (λ (xs : List (Option Row)). map becomes xs ++ outcomes_from room
          look (passed [] front) (row ∷ rest)) (sym all);
      counted = p.given_so;
      stopped = λ _. rw next.0 tt;
      fault = grind (arith, nat_tests, refusal_behind);
      faultless = λ row e. absurd (none-some row (sym empty ∙ e));
      ahead = λ e. absurd (none-some _ (sym e));
    }

-- The same behind those that are dropped.
pub drops_due : (room : ℕ) (look : Look) (follows : List Row → List Row → Type 0) (x : Lagged)
    (put : List Row) (given n : ℕ) (gone : List (Option Row)) (front waits : List Row)
    (due : Option Row) → x.line ≡ length put → x.fault ≡ None
    → Parted room look put given gone front waits
    → Drops room look (passed [] front) waits (λ past rest. NextIs room look past rest follows n (Ok due))
    → LagsAt room look follows (due_lagged x due) put given
drops_due room look follows x put given n gone front waits due line ok p d =
    at_due room look follows x put given n (gone ++ nones d.dropped) (front ++ d.dropped) d.rest due
    line ok (drop_parted room look put given gone front waits _ p d)
    (rw (passed-append [] front d.dropped) d.behind)

pub drops_refused : (room : ℕ) (look : Look) (follows follows' : List Row → List Row → Type 0)
    (x : Lagged) (put : List Row) (given n : ℕ) (gone : List (Option Row)) (front waits : List Row)
    (rule : Rule) → x.line ≡ length put → x.due ≡ None
    → Parted room look put given gone front waits
    → Drops room look (passed [] front) waits
    (λ past rest. NextIs room look past rest follows n (Err rule))
    → LagsAt room look follows' (refused_lagged x n rule) put given
drops_refused room look follows follows' x put given n gone front waits rule line empty p d =
    at_refused room look follows follows' x put given n (gone ++ nones d.dropped)
    (front ++ d.dropped) d.rest rule line empty (drop_parted room look put given gone front waits _ p d)
    (rw (passed-append [] front d.dropped) d.behind)
