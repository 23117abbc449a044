-- How much room the records take that wait in a stage.
use Rattle.std.proofs.lemmas.Grind.{common_steps}
use Rattle.std.proofs.Common.{◌≡◌, ◌∙◌, ap, sym, refl, arith, ℕ, suc, ◌+◌, ◌-◌, ◌≤◌, min, Bool, true, false, map}
use Rattle.std.proofs.Common.{append-nil}
use Rattle.std.proofs.Common.{List, [], ◌∷◌, ◌++◌, length, drop, Option, Some, None}
use Rattle.std.specs.Prelude.{is_some, nat_le}
use Rattle.std.proofs.lemmas.Bool.Decides.{nat_tests}
use Rattle.std.proofs.lemmas.Option.{none-some}
use Rattle.std.specs.Option.{option_to_list}
use Rattle.hum_score.specs.Row.{Row}
use Rattle.hum_score.specs.Score.{passed}
use Rattle.hum_words.specs.declared.commands.Command.{Command}
use Rattle.hum_record.specs.Room.{room_for, rooms_for}
use Rattle.hum_record.proofs.Rooms.{rooms_append}
use Rattle.hum_stage.specs.declared.faults.End.{End}
use Rattle.hum_stage.specs.declared.faults.Fault.{Fault}
use Rattle.hum_stage.specs.Outcome.{Outcome, Becomes, Refused, Undecided, refusal, settled}
use Rattle.hum_stage.specs.Meaning.{Moment, unserved, waiting_rows, fault_at}
use Rattle.hum_stage.specs.Look.{Look, outcomes_from}
use Rattle.hum_stage.specs.LookLaws.{looks_each}
use Rattle.hum_stage.specs.Lagging.{Lagged, Lags, LagsAt, becomes, flat, Stops}
use Rattle.hum_stage.specs.Standing.{Standing, Fields}
use Rattle.hum_stage.specs.Decided.{Decision}
use Rattle.hum_stage.proofs.Fronts.{refusal_behind}

none_fits : (n : ℕ) → nat_le 0 n ≡ true
none_fits n = grind (arith, nat_tests)

one_fits : (n : ℕ) → nat_le 1 (suc n) ≡ true
one_fits n = grind (arith, nat_tests)

none_less : (n : ℕ) → n - 0 ≡ n
none_less n = omega arith

one_less : (n : ℕ) → suc n - 1 ≡ n
one_less n = omega arith

-- those that went are served
went : (gone : List (Option Row)) (rest : List Outcome) (front waits : List Row)
    → length front ≡ length gone
    → unserved (length (flat gone)) (map becomes gone ++ rest) (front ++ waits) ≡ unserved 0 rest waits
went (None ∷ gone) rest (row ∷ front) waits e =
    rw (none_fits (length (flat gone)), none_less (length (flat gone))) (went gone rest front waits (omega (arith, e)))
went (Some new ∷ gone) rest (row ∷ front) waits e =
    rw (one_fits (length (flat gone)), one_less (length (flat gone))) (went gone rest front waits (omega (arith, e)))
went gone rest front waits h = grind (arith, common_steps)

-- and of the others none is, where none is due,
stopped_unserved : (rest : List Outcome) (waits : List Row) → Stops rest → length rest ≡ length waits
    → refusal 1 rest ≡ None → rooms_for waits ≤ rooms_for (unserved 0 rest waits)
stopped_unserved = grind (arith, common_steps)

-- nor behind one that is due,
due_unserved : (gone : List (Option Row)) (due : Row) (rest : List Outcome) (front waits : List Row)
    → length front ≡ length (gone ++ Some due ∷ [])
    → rooms_for waits ≤ rooms_for (unserved (length (flat gone)) (map becomes (gone ++ Some due ∷ []) ++ rest)
    (front ++ waits))
due_unserved [] due rest [] waits e = cc
due_unserved [] due rest (row ∷ []) waits e = omega arith
due_unserved [] due rest (row ∷ next ∷ front) waits e = absurd (omega (arith, e))
due_unserved (o ∷ gone) due rest [] waits e = cc
due_unserved (None ∷ gone) due rest (row ∷ front) waits e =
    rw (none_fits (length (flat gone)), none_less (length (flat gone))) (due_unserved gone due rest front waits (omega (arith, e)))
due_unserved (Some new ∷ gone) due rest (row ∷ front) waits e =
    grind (arith, nat_tests, due_unserved gone due rest front waits (omega (arith, e)))

-- which isn't given yet
due_settled : (gone : List (Option Row)) (due : Row) (rest : List Outcome)
    → room_for due ≤ rooms_for (drop (length (flat gone)) (settled (map becomes (gone ++ Some due ∷ []) ++ rest)))
due_settled [] due rest = omega arith
due_settled (None ∷ gone) due rest = due_settled gone due rest
due_settled (Some new ∷ gone) due rest = due_settled gone due rest

-- where there is no fault, none of the rest is refused
none_refused : (stage : ℕ) (command : Command) (line : ℕ) (rest : List Outcome) (fault : Option Fault)
    → fault ≡ fault_at stage command (refusal line rest) → fault ≡ None → refusal 1 rest ≡ None
none_refused stage command line [] fault e none = refl
none_refused stage command line (Becomes rows ∷ rest) fault e none = by_line (1 + 1) (line + 1) rest e
  where
    by_line : (m n : ℕ) (os : List Outcome) → fault ≡ fault_at stage command (refusal n os)
        → refusal m os ≡ None
    by_line m n (Becomes rows ∷ os) e = by_line (m + 1) (n + 1) os e
    by_line m n os h = grind (arith, nat_tests)
none_refused stage command line (Refused rule ∷ rest) fault e none = absurd (none-some _ (sym none ∙ e))
none_refused stage command line (Undecided ∷ rest) fault e none = refl

-- What is due and what is kept of those that wait behind it take no more room than what waits.
lags_room_at : (room : ℕ) (look : Look) (follows : List Row → List Row → Type 0) (x : Lagged) (put : List Row)
    (given a b : ℕ) (due : Option Row) → (h : LagsAt room look follows x put given) → x.fault ≡ None
    → x.due ≡ due → a ≤ rooms_for (option_to_list due)
    → ((past rows : List Row) → follows past rows → b ≤ rooms_for rows)
    → a + b ≤ rooms_for (drop given (settled (outcomes_from room look [] put)))
    + rooms_for (unserved given (outcomes_from room look [] put) put)
lags_room_at room look follows x put given a b None h ok e first others =
    let w = h.ahead ok in
    let kept = others (passed [] w.front) w.waits w.memory in
    let all : outcomes_from room look [] put ≡ map becomes h.gone ++ h.rest =
    grind (arith, nat_tests, append-nil) in
    let counted : length w.front ≡ length h.gone = grind (arith, nat_tests, append-nil) in
    let none = none_refused x.stage x.command (1 + length h.gone) h.rest x.fault
    (h.fault e ∙ ap (λ r. fault_at x.stage x.command r) (ap (refusal 1) all ∙ refusal_behind 1 h.gone h.rest)) ok in
    let each : length h.rest ≡ length w.waits = rw w.outcomes (looks_each room look (passed [] w.front) w.waits) in
    let rest = stopped_unserved h.rest w.waits (h.stopped e) each none in
    let gone = went h.gone h.rest w.front w.waits counted in
    rw (all, w.split, h.counted, gone) (omega (arith, first, kept, rest))
lags_room_at room look follows x put given a b (Some row) h ok e first others =
    grind (arith, nat_tests, due_unserved, due_settled)

pub lags_room : (room : ℕ) (follows : Look → List Row → List Row → Type 0) (x : Lagged)
    (ended : Option End) (spent : Bool) (t : Moment) (a b n : ℕ)
    → Lags room follows x ended spent t → is_some x.fault ≡ false → a ≤ rooms_for (option_to_list x.due)
    → ((look : Look) (past rows : List Row) → follows look past rows → b ≤ rooms_for rows)
    → n ≡ min (a + b) 18446744073709551615 → n ≤ rooms_for (waiting_rows t)
lags_room room follows x ended spent t a b n h fault first others sum =
    let both = lags_room_at room h.look (follows h.look) x t.put t.given a b x.due h.at (none_end x.fault fault) refl
    first (others h.look) in
    rw (h.meaning, rooms_append _ _) (omega (arith, both, sum))
  where
    none_end : (o : Option Fault) → is_some o ≡ false → o ≡ None
    none_end = grind (arith, nat_tests)

-- What is due of a stage that decides at once waits.
pub standing_room : (follows : Decision → List Row → Type 0) (x : Fields) (ended : Option End) (spent : Bool)
    (t : Moment) (n : ℕ) → Standing follows x ended spent t → n ≤ rooms_for x.due → n ≤ rooms_for (waiting_rows t)
standing_room = grind (arith, nat_tests, rooms_append)
