-- Records after the fault, the record that is due, and what is held.
use Rattle.std.proofs.lemmas.Grind.{common_steps}
use Rattle.std.proofs.Common.{◌≡◌, ◌∙◌, refl, sym, ap, ℕ, ◌+◌, ◌≤◌, true}
use Rattle.std.proofs.Common.{false, List, [], ◌∷◌, ◌++◌, map, length, append_assoc, append-nil}
use Rattle.std.proofs.Common.{arith, Option, Some, None, slice_get}
use Rattle.std.proofs.lemmas.Bool.Decides.{nat_tests}
use Rattle.std.proofs.lemmas.List.{length_push, map-append}
use Rattle.std.proofs.lemmas.Option.{none-some}
use Rattle.hum_score.specs.Row.{Row}
use Rattle.hum_score.specs.Score.{passed, IsOpen}
use Rattle.hum_words.specs.declared.commands.Command.{Command}
use Rattle.hum_stage.specs.declared.faults.Fault.{Fault}
use Rattle.hum_stage.specs.declared.faults.Rule.{Rule}
use Rattle.hum_stage.specs.Outcome.{Outcome, Refused, refusal, settled, waiting}
use Rattle.hum_stage.specs.Outcome.{held_of}
use Rattle.hum_stage.specs.Meaning.{fault_at, Goes}
use Rattle.hum_stage.specs.Look.{Look, IsSteady, outcomes_from}
use Rattle.hum_stage.specs.LookLaws.{looks_grow, settled_at}
use Rattle.hum_stage.specs.Settles.{lasting, with_due}
use Rattle.hum_stage.specs.Lagging.{becomes, flat, listed, Stops, Lagged, LagsAt}
use Rattle.hum_stage.proofs.Putting.{lined_lagged}
use Rattle.hum_stage.proofs.Fronts.{refusal_behind, held_rest, held_behind}

-- a fault stands at the front of the rest
faulted : (stage : ℕ) (command : Command) (line : ℕ) (rest : List Outcome) (k : Fault) → Stops rest
    → fault_at stage command (refusal line rest) ≡ Some k
    → (rule : Rule) × (tail : List Outcome) × (rest ≡ Refused rule ∷ tail)
faulted = grind (arith, nat_tests)

goes_on : (outs : List (Option Row)) (rule : Rule) (tail ns : List Outcome)
    → Goes (map becomes outs ++ Refused rule ∷ tail) ns
    → (tail' : List Outcome) × (ns ≡ map becomes outs ++ Refused rule ∷ tail')
goes_on (o ∷ outs) rule tail (n ∷ ns) h = grind (arith, nat_tests, goes_on outs rule tail ns h.1)
goes_on outs rule tail ns h = grind (arith, nat_tests)

-- where there is a fault, none is due
fault_empty : (due : Option Row) (fault : Option Fault) (k : Fault) → fault ≡ Some k
    → ((row : Row) → due ≡ Some row → fault ≡ None) → due ≡ None
fault_empty = grind (arith, nat_tests)

-- the outcomes behind a fault
record Broken (room : ℕ) (look : Look) (follows : List Row → List Row → Type 0) (x : Lagged)
    (put : List Row) (given : ℕ) (h : LagsAt room look follows x put given) : Type 0 where
  empty : x.due ≡ None
  rule : Rule
  tail : List Outcome
  rest : h.rest ≡ Refused rule ∷ tail
  outcomes : outcomes_from room look [] put ≡ map becomes h.gone ++ Refused rule ∷ tail

broken : (room : ℕ) (look : Look) (follows : List Row → List Row → Type 0) (x : Lagged)
    (put : List Row) (given : ℕ) (k : Fault) → (h : LagsAt room look follows x put given)
    → x.fault ≡ Some k → Broken room look follows x put given h
broken room look follows x put given k h e =
    grind (arith, nat_tests, fault_empty, append-nil, refusal_behind, faulted)

-- A record that comes after the fault.
pub put_dropped : (room : ℕ) (look : Look) (follows follows' : List Row → List Row
    → Type 0) (x : Lagged) (put : List Row) (next : Row) (given : ℕ) (k : Fault) → IsSteady look
    → IsOpen (next ∷ passed [] put) → LagsAt room look follows x put given → x.fault ≡ Some k
    → LagsAt room look follows' (lined_lagged x) (put ++ next ∷ []) given
put_dropped room look follows follows' x put next given k steady score h e =
    let b = broken room look follows x put given k h e in
    let goes = rw b.outcomes at (looks_grow room look [] put next steady score) in
    let new = goes_on h.gone b.rule b.tail (outcomes_from room look [] (put ++ next ∷ [])) goes in
    let line = h.line in
    let same : refusal 1 (outcomes_from room look [] (put ++ next ∷ []))
    ≡ refusal 1 (outcomes_from room look [] put) =
    ap (refusal 1) new.1 ∙ (refusal_behind 1 h.gone (Refused b.rule ∷ new.0)
    ∙ (sym (refusal_behind 1 h.gone (Refused b.rule ∷ b.tail)) ∙ sym (ap (refusal 1) b.outcomes))) in
    record {
      line = rw length_push (omega (arith, line));
      gone = h.gone;
      rest = Refused b.rule ∷ new.0;
      outcomes = grind (arith, nat_tests, append-nil);
      counted = h.counted;
      stopped = λ _. tt;
      fault = λ d. h.fault d
          ∙ ap (λ (r : Option (ℕ × Rule)). fault_at x.stage x.command r) (sym same);
      faultless = h.faultless;
      ahead = λ n. absurd (none-some k (sym n ∙ e));
    }

there : (xs ys : List Row) (q : Row) → slice_get (xs ++ q ∷ ys) (length xs) ≡ Some q
there [] ys q = refl
there (x ∷ xs) ys q = there xs ys q

-- The record that is due is the next that is settled.
pub due_next : (room : ℕ) (look : Look) (follows : List Row → List Row → Type 0) (x : Lagged)
    (put : List Row) (given : ℕ) (q : Row) → (h : LagsAt room look follows x put given)
    → x.due ≡ Some q → Some q ≡ slice_get (settled (outcomes_from room look [] put)) given
due_next room look follows x put given q h e =
    let all : settled (outcomes_from room look [] put) ≡ flat h.gone ++ q ∷ settled h.rest =
    settled_at room look follows x put given h
    ∙ ap (λ (o : Option Row). flat h.gone ++ (flat (listed o) ++ settled h.rest)) e in
    rw (all, h.counted) (sym (there (flat h.gone) (settled h.rest) q))

settled_rest : (rest : List Outcome) → Stops rest → settled rest ≡ []
settled_rest = grind (arith, nat_tests)

-- Where none is due, all that is settled was given.
pub none_next : (room : ℕ) (look : Look) (follows : List Row → List Row → Type 0) (x : Lagged)
    (put : List Row) (given : ℕ) → (h : LagsAt room look follows x put given)
    → x.due ≡ None → length (settled (outcomes_from room look [] put)) ≡ given
none_next room look follows x put given h e =
    let all : settled (outcomes_from room look [] put) ≡ flat h.gone =
    settled_at room look follows x put given h
    ∙ (ap (λ (o : Option Row). flat h.gone ++ (flat (listed o) ++ settled h.rest)) e
    ∙ (ap (λ (xs : List Row). flat h.gone ++ xs) (settled_rest h.rest (h.stopped e))
    ∙ append-nil (flat h.gone))) in
    ap length all ∙ sym h.counted

-- how many wait before a refused one
lasting_is : (room : ℕ) (look : Look) (past rows : List Row) → length rows ≤ room
    → waiting false (outcomes_from room look past rows) ≡ lasting look past rows
lasting_is room look past [] few = refl
lasting_is room look past (row ∷ rows) few =
    grind (arith, common_steps, lasting_is room look (row ∷ past) rows (omega (arith, few)))

ended_none : (rest : List Outcome) → Stops rest → waiting true rest ≡ 0
ended_none = grind (arith, nat_tests)

-- Nothing is held after an end.
pub held_ended : (room : ℕ) (look : Look) (follows : List Row → List Row
    → Type 0) (x : Lagged) (put : List Row) (given : ℕ) → LagsAt room look follows x put given
    → x.due ≡ None → held_of given true (outcomes_from room look [] put) ≡ 0
held_ended = grind (arith, nat_tests, append-nil, held_behind, held_rest, ended_none)

-- What is held: what is due, and those that wait, up to one that will be refused.
pub held_waiting : (room : ℕ) (look : Look) (follows : List Row → List Row
    → Type 0) (x : Lagged) (put : List Row) (given : ℕ) → (h : LagsAt room look follows x put given)
    → (ok : x.fault ≡ None)
    → held_of given false (outcomes_from room look [] put) ≡ with_due x.due (lasting look
    (passed [] (h.ahead ok).front) (h.ahead ok).waits)
held_waiting room look follows x put given h ok =
    let a = h.ahead ok in
    let k : waiting false h.rest ≡ lasting look (passed [] a.front) a.waits =
    ap (waiting false) a.outcomes ∙ lasting_is room look (passed [] a.front) a.waits a.few in
    rw (← k, h.counted) (by_due x.due h.outcomes h.stopped)
  where
    by_due : (due : Option Row)
        → outcomes_from room look [] put ≡ map becomes (h.gone ++ listed due) ++ h.rest
        → (due ≡ None → Stops h.rest)
        → held_of (length (flat h.gone)) false (outcomes_from room look [] put)
        ≡ with_due due (waiting false h.rest)
    by_due = grind (arith, nat_tests, append-nil, held_behind, held_rest, map-append, append_assoc)

-- Nothing is held after a fault.
pub held_faulted : (room : ℕ) (look : Look) (follows : List Row → List Row
    → Type 0) (x : Lagged) (put : List Row) (given : ℕ) (k : Fault)
    → (h : LagsAt room look follows x put given) → x.fault ≡ Some k
    → held_of given false (outcomes_from room look [] put) ≡ 0
held_faulted room look follows x put given k h e =
    let b = broken room look follows x put given k h e in
    let at : given ≡ length (flat h.gone) = h.counted in
    ap (λ (os : List Outcome). held_of given false os) b.outcomes
    ∙ (ap (λ (g : ℕ). held_of g false (map becomes h.gone ++ Refused b.rule ∷ b.tail)) at
    ∙ held_behind false h.gone (Refused b.rule ∷ b.tail) 0 refl)
