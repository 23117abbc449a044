-- A stage whose records wait, as a whole.
use Rattle.std.proofs.Common.{◌≡◌, ◌∙◌, refl, sym, ap, ℕ, ◌+◌, ◌<◌, ◌≤◌, Bool, true}
use Rattle.std.proofs.Common.{false, List, [], ◌∷◌, ◌++◌, length}
use Rattle.std.proofs.Common.{arith, Option, Some, None, slice_get, ◌⊎◌, inl}
use Rattle.std.proofs.Common.{inr}
use Rattle.std.specs.Prelude.{is_some, Ok, Err, ◌||◌, MatchOption}
use Rattle.std.proofs.lemmas.Bool.Decides.{nat_tests}
use Rattle.std.proofs.lemmas.List.{length_push}
use Rattle.std.proofs.lemmas.Option.{none-some, slice_get_past, slice_get_within}
use Rattle.hum_score.specs.Row.{Row}
use Rattle.hum_score.specs.Score.{passed}
use Rattle.hum_words.specs.declared.commands.Command.{Command}
use Rattle.hum_stage.specs.declared.faults.Rule.{Rule}
use Rattle.hum_stage.specs.declared.faults.End.{End}
use Rattle.hum_score.specs.InOrder.{IsScore}
use Rattle.hum_stage.specs.Outcome.{held_of}
use Rattle.hum_stage.specs.Meaning.{Moment, MayPut, MayEnd, opening, after_put, after_take, after_end}
use Rattle.hum_stage.specs.Meaning.{all_of, held_at, state_of, resting_state, TookFirst}
use Rattle.hum_stage.specs.declared.faults.State.TheVariants.{Gives, Wants}
use Rattle.hum_stage.proofs.Moves.{wants_all, is_some_at}
use Rattle.hum_stage.specs.Order.{open_score}
use Rattle.hum_stage.specs.Look.{Look, IsSteady, outcomes_from, looking}
use Rattle.hum_stage.specs.Settles.{MayWait, HasWaited, HasSettledNext, lasting, with_due}
use Rattle.hum_stage.proofs.Scores.{passed_length}
use Rattle.hum_stage.specs.Lagging.{Lagged, Lags}
use Rattle.hum_stage.proofs.Putting.{passed-append, put_parted, take_parted, drops_due, drops_refused}
use Rattle.hum_stage.proofs.Putting.{due_lagged, refused_lagged, lined_lagged}
use Rattle.hum_stage.proofs.Giving.{put_dropped, due_next, none_next, held_ended}
use Rattle.hum_stage.proofs.Giving.{held_waiting, held_faulted}

-- where one is due, something that is settled wasn't given
due_settled : (room : ℕ) (follows : Look → List Row → List Row → Type 0) (x : Lagged)
    (ended : Option End) (spent : Bool) (t : Moment) (row : Row)
    → (h : Lags room follows x ended spent t) → x.due ≡ Some row → t.given < length (all_of t)
due_settled room follows x ended spent t row h e =
    let at : Some row ≡ slice_get (all_of t) t.given =
    rw h.meaning (due_next room h.look (follows h.look) x t.put t.given row h.at e) in
    slice_get_within (all_of t) t.given row (sym at)

-- a stage that wants has nothing due
wants_empty : (room : ℕ) (follows : Look → List Row → List Row → Type 0) (x : Lagged)
    (ended : Option End) (spent : Bool) (t : Moment) (due : Option Row)
    → Lags room follows x ended spent t → state_of t ≡ Wants → x.due ≡ due → x.due ≡ None
wants_empty room follows x ended spent t None h wants e = e
wants_empty room follows x ended spent t (Some row) h wants e =
    grind (arith, nat_tests, wants_all t wants, due_settled room follows x ended spent t row h e)

pub put_empty : (room : ℕ) (follows : Look → List Row → List Row
    → Type 0) (x : Lagged) (ended : Option End) (spent : Bool) (r : Row) → spent ≡ false
    → (spent ≡ true) ⊎ MayPut (λ t. Lags room follows x ended spent t) r → x.due ≡ None
put_empty room follows x ended spent r alive (inl spoiled) = cc
put_empty room follows x ended spent r alive (inr may) =
    wants_empty room follows x ended spent may.at x.due may.stand may.wants refl

-- an end comes where none is due
pub lags_end : (room : ℕ) (follows : Look → List Row → List Row → Type 0) (x : Lagged)
    (ended : Option End) (spent : Bool) (t : Moment) (end : End)
    → (spent ≡ true) ⊎ MayEnd (λ t. Lags room follows x ended spent t) end
    → Lags room follows x ended spent t → Lags room follows x (Some end) spent (after_end t end)
lags_end room follows x ended spent t end (inl spoiled) h = grind (arith, nat_tests)
lags_end room follows x ended spent t end (inr may) h =
    grind (arith, nat_tests, wants_empty room follows x ended spent may.at x.due may.stand may.wants refl)

pub lags_dropped : (room : ℕ) (follows : Look → List Row → List Row
    → Type 0) (x : Lagged) (ended : Option End) (spent : Bool) (t : Moment) (r : Row)
    → Lags room follows x ended spent t → IsScore (t.put ++ r ∷ []) → is_some x.fault ≡ true
    → Lags room follows (lined_lagged x) ended spent (after_put t r)
lags_dropped room follows x ended spent t r h score broken =
    let k = is_some_at x.fault broken in
    record {
      look = h.look;
      steady = h.steady;
      meaning = h.meaning;
      alive = h.alive;
      ending = h.ending;
      rests = h.rests;
      at = put_dropped room h.look (follows h.look) (follows h.look) x t.put r t.given
          k.0 h.steady (open_score t.put r score) h.at k.1;
    }

pub new_lags : (room : ℕ) (follows : Look → List Row → List Row
    → Type 0) (stage : ℕ) (command : Command) (look : Look)
    → IsSteady look → follows look [] []
    → Lags room follows (record {
      stage = stage;
      command = command;
      line = 0;
      due = None;
      fault = None;
    }) None false (opening (looking room stage command look))
new_lags room follows stage command look steady h = record {
  look = look;
  steady = steady;
  meaning = refl;
  alive = refl;
  ending = refl;
  rests = λ end e. refl;
  at = record {
    line = refl;
    gone = [];
    rest = [];
    outcomes = refl;
    counted = refl;
    stopped = λ _. tt;
    fault = λ _. refl;
    faultless = λ row e. refl;
    ahead = λ _. record {
      front = [];
      waits = [];
      split = refl;
      counted = refl;
      memory = h;
      few = omega arith;
      outcomes = refl;
    };
  };
}

-- a stage with nothing due rests
pub lags_rests : (room : ℕ) (follows : Look → List Row → List Row
    → Type 0) (x : Lagged) (ended : Option End) (spent : Bool) (t : Moment)
    → (h : Lags room follows x ended spent t) → x.due ≡ None
    → state_of t ≡ resting_state x.fault ended
lags_rests room follows x ended spent t h e =
    grind (arith, nat_tests, none_next room h.look (follows h.look) x t.put t.given h.at e)

-- and else it gives
pub lags_gives : (room : ℕ) (follows : Look → List Row → List Row
    → Type 0) (x : Lagged) (ended : Option End) (spent : Bool) (t : Moment) (row : Row)
    → (h : Lags room follows x ended spent t) → x.due ≡ Some row → state_of t ≡ Gives
lags_gives room follows x ended spent t row h e =
    grind (arith, nat_tests, due_settled room follows x ended spent t row h e)

-- a memory may be given what a stage may be given
pub may_wait : (room : ℕ) (follows : Look → List Row → List Row → Type 0) (x : Lagged)
    (ended : Option End) (spent : Bool) (r : Row) → spent ≡ false → x.fault ≡ None
    → (spent ≡ true) ⊎ MayPut (λ t. Lags room follows x ended spent t) r → MayWait room follows r
may_wait room follows x ended spent r alive ok (inl spoiled) = cc
may_wait room follows x ended spent r alive ok (inr may) =
    let a = may.stand.at.ahead ok in
    let put = may.at.put in
    let past : passed [] put ≡ passed (passed [] a.front) a.waits = grind (arith, nat_tests, passed-append) in
    record {
      look = may.stand.look;
      past = passed [] a.front;
      rows = a.waits;
      memory = a.memory;
      score = rw (← past) (open_score put r may.score);
      few = rw (← past, passed_length put) may.few;
      within = a.few;
    }

-- what waits once a record more does
waits_more : (room : ℕ) (follows follows' : Look → List Row → List Row → Type 0) (x : Lagged)
    (ended : Option End) (spent : Bool) (t : Moment) (r : Row)
    → (h : Lags room follows x ended spent t) → IsScore (t.put ++ r ∷ []) → (ok : x.fault ≡ None)
    → HasWaited follows follows' r
    → follows' h.look (passed [] (h.at.ahead ok).front) ((h.at.ahead ok).waits ++ r ∷ [])
waits_more room follows follows' x ended spent t r h score ok waited =
    let a = h.at.ahead ok in
    let past : passed [] t.put ≡ passed (passed [] a.front) a.waits =
    ap (passed []) a.split ∙ passed-append [] a.front a.waits in
    waited h.look (passed [] a.front) a.waits a.memory (rw (← past) (open_score t.put r score))

-- A record is put, and then one is due or none.
pub lags_put : (room : ℕ) (follows follows' follows'' : Look → List Row → List Row → Type 0)
    (x : Lagged) (ended : Option End) (spent : Bool) (t : Moment) (r : Row) (n : ℕ)
    (due : Option Row) → (h : Lags room follows x ended spent t) → t.ended ≡ None
    → IsScore (t.put ++ r ∷ []) → x.due ≡ None → x.fault ≡ None → HasWaited follows follows' r
    → HasSettledNext room follows' follows'' n (Ok due)
    → Lags room follows'' (due_lagged (lined_lagged x) due) ended false (after_put t r)
lags_put room follows follows' follows'' x ended spent t r n due h going score empty ok waited next =
    let a = h.at.ahead ok in
    let p = put_parted room h.look (follows h.look) x t.put r t.given h.steady
    (open_score t.put r score) h.at empty ok in
    let line = h.at.line in
    record {
      look = h.look;
      steady = h.steady;
      meaning = h.meaning;
      alive = refl;
      ending = h.ending;
      rests = λ end e. absurd (none-some end (sym going ∙ (sym h.ending ∙ e)));
      at = drops_due room h.look (follows'' h.look) (lined_lagged x) (t.put ++ r ∷ []) t.given n
          h.at.gone a.front (a.waits ++ r ∷ []) due (rw length_push (omega (arith, line))) ok p
          (next h.look (passed [] a.front) (a.waits ++ r ∷ [])
          (waits_more room follows follows' x ended spent t r h score ok waited) p.few);
    }

-- Or it is refused.
pub lags_put_refused : (room : ℕ)
    (follows follows' follows'' last : Look → List Row → List Row → Type 0)
    (x : Lagged) (ended : Option End) (spent : Bool) (t : Moment) (r : Row) (n : ℕ)
    (rule : Rule) → (h : Lags room follows x ended spent t)
    → IsScore (t.put ++ r ∷ []) → x.due ≡ None → x.fault ≡ None → HasWaited follows follows' r
    → HasSettledNext room follows' follows'' n (Err rule)
    → Lags room last (refused_lagged (lined_lagged x) n rule) ended false (after_put t r)
lags_put_refused room follows follows' follows'' last x ended spent t r n rule h score
    empty ok waited next =
    let a = h.at.ahead ok in
    let p = put_parted room h.look (follows h.look) x t.put r t.given h.steady
    (open_score t.put r score) h.at empty ok in
    let line = h.at.line in
    record {
      look = h.look;
      steady = h.steady;
      meaning = h.meaning;
      alive = refl;
      ending = h.ending;
      rests = λ end e. empty;
      at = drops_refused room h.look (follows'' h.look) (last h.look) (lined_lagged x)
          (t.put ++ r ∷ []) t.given n h.at.gone a.front (a.waits ++ r ∷ []) rule
          (rw length_push (omega (arith, line))) empty p
          (next h.look (passed [] a.front) (a.waits ++ r ∷ [])
          (waits_more room follows follows' x ended spent t r h score ok waited) p.few);
    }

-- The record that is due is taken, and then one is due or none.
pub lags_take : (room : ℕ) (follows follows' : Look → List Row → List Row → Type 0)
    (x : Lagged) (ended : Option End) (spent : Bool) (t : Moment) (q : Row) (n : ℕ)
    (due : Option Row) → (h : Lags room follows x ended spent t) → x.due ≡ Some q
    → HasSettledNext room follows follows' n (Ok due)
    → (Some q ≡ slice_get (all_of t) t.given)
    × Lags room follows' (due_lagged x due) ended false (after_take t)
lags_take room follows follows' x ended spent t q n due h e next =
    let ok = h.at.faultless q e in
    let a = h.at.ahead ok in
    let p = take_parted room h.look (follows h.look) x t.put t.given q h.at e in (
      rw h.meaning (due_next room h.look (follows h.look) x t.put t.given q h.at e),
      record {
        look = h.look;
        steady = h.steady;
        meaning = h.meaning;
        alive = refl;
        ending = h.ending;
        rests = λ end k. absurd (none-some q (sym (h.rests end k) ∙ e));
        at = drops_due room h.look (follows' h.look) x t.put (t.given + 1) n
            (h.at.gone ++ Some q ∷ []) a.front a.waits due h.at.line ok p
            (next h.look (passed [] a.front) a.waits a.memory p.few);
      },
    )

-- Or the next is refused.
pub lags_take_refused : (room : ℕ) (follows follows' last : Look → List Row → List Row → Type 0)
    (x : Lagged) (ended : Option End) (spent : Bool) (t : Moment) (q : Row) (n : ℕ)
    (rule : Rule) → (h : Lags room follows x ended spent t) → x.due ≡ Some q
    → HasSettledNext room follows follows' n (Err rule)
    → (Some q ≡ slice_get (all_of t) t.given)
    × Lags room last (refused_lagged (due_lagged x None) n rule) ended false (after_take t)
lags_take_refused room follows follows' last x ended spent t q n rule h e next =
    let ok = h.at.faultless q e in
    let a = h.at.ahead ok in
    let p = take_parted room h.look (follows h.look) x t.put t.given q h.at e in (
      rw h.meaning (due_next room h.look (follows h.look) x t.put t.given q h.at e),
      record {
        look = h.look;
        steady = h.steady;
        meaning = h.meaning;
        alive = refl;
        ending = h.ending;
        rests = λ end k. refl;
        at = drops_refused room h.look (follows' h.look) (last h.look) (due_lagged x None) t.put
            (t.given + 1) n (h.at.gone ++ Some q ∷ []) a.front a.waits rule h.at.line refl p
            (next h.look (passed [] a.front) a.waits a.memory p.few);
      },
    )

-- Where none is due, none is taken.
pub lags_none : (room : ℕ) (follows : Look → List Row → List Row → Type 0) (x : Lagged)
    (ended : Option End) (spent : Bool) (t : Moment) → (h : Lags room follows x ended spent t)
    → x.due ≡ None → None ≡ slice_get (all_of t) t.given
lags_none room follows x ended spent t h e =
    let all : length (all_of t) ≡ t.given =
    rw h.meaning (none_next room h.look (follows h.look) x t.put t.given h.at e) in
    sym (slice_get_past (all_of t) t.given (omega (arith, all)))

-- nothing is held after an end or a fault
pub held_stopped : (room : ℕ) (follows : Look → List Row → List Row
    → Type 0) (x : Lagged) (ended : Option End) (spent : Bool) (t : Moment)
    → (h : Lags room follows x ended spent t) → (is_some ended || is_some x.fault) ≡ true
    → held_at t ≡ 0
held_stopped room follows x ended spent t h e = rw (h.meaning, ← h.ending) (by_end ended h.rests e)
  where
    by_end : (end : Option End) → ((k : End) → end ≡ Some k → x.due ≡ None)
        → (is_some end || is_some x.fault) ≡ true
        → held_of t.given (is_some end) (outcomes_from room h.look [] t.put) ≡ 0
    by_end (Some end) rests e =
        held_ended room h.look (follows h.look) x t.put t.given h.at (rests end refl)
    by_end None rests e = let k = is_some_at x.fault e in held_faulted room h.look (follows h.look) x
        t.put t.given k.0 h.at k.1

none_end : {X : Type 0} (o : Option X) → is_some o ≡ false → o ≡ None
none_end = grind (arith, nat_tests)

pub held_open : (room : ℕ) (follows : Look → List Row → List Row
    → Type 0) (x : Lagged) (ended : Option End) (spent : Bool) (t : Moment) (n : ℕ)
    → (h : Lags room follows x ended spent t) → is_some ended ≡ false → is_some x.fault ≡ false
    → ((look : Look) (past rows : List Row) → follows look past rows → n ≡ lasting look past rows)
    → with_due x.due n ≡ held_at t
held_open room follows x ended spent t n h going e count =
    let ok : x.fault ≡ None = none_end x.fault e in
    let open_end : ended ≡ None = none_end ended going in
    let a = h.at.ahead ok in
    let k = count h.look (passed [] a.front) a.waits a.memory in
    rw (h.meaning, ← h.ending, open_end)
    (sym (held_waiting room h.look (follows h.look) x t.put t.given h.at ok
    ∙ ap (λ (m : ℕ). with_due x.due m) (sym k)))

lasting_le : (look : Look) (past rows : List Row) → lasting look past rows ≤ length rows
lasting_le look past [] = omega arith
lasting_le look past (row ∷ rows) = grind (arith, nat_tests, lasting_le look (row ∷ past) rows)

-- no more wait than there is room for
pub held_few : (room : ℕ) (follows : Look → List Row → List Row
    → Type 0) (x : Lagged) (ended : Option End) (spent : Bool) (t : Moment) (n : ℕ)
    → (h : Lags room follows x ended spent t) → is_some x.fault ≡ false
    → ((look : Look) (past rows : List Row) → follows look past rows → n ≡ lasting look past rows)
    → n ≤ room
held_few = grind (arith, nat_tests, none_end, lasting_le)

-- what is due, by whether something is
pub due_none : (due : Option Row) → is_some due ≡ false → due ≡ None
due_none = grind (arith, nat_tests)

pub due_some : (due : Option Row) → is_some due ≡ true → (row : Row) × (due ≡ Some row)
due_some = grind (arith, nat_tests)

-- where none waits, none comes next
none_next_waits : (room n : ℕ) (follows : Look → List Row → List Row → Type 0)
    → ((look : Look) (past rows : List Row) → follows look past rows → rows ≡ [])
    → HasSettledNext room follows follows n (Ok None)
none_next_waits = grind (arith, nat_tests)

-- What is due where none waits is taken, and was all that was held.
pub lags_lone : (room : ℕ) (follows : Look → List Row → List Row → Type 0) (x : Lagged)
    (ended : Option End) (spent : Bool) (t : Moment) (due : Option Row)
    → Lags room follows x ended spent t → t.ended ≡ None → x.due ≡ due
    → ((look : Look) (past rows : List Row) → follows look past rows → rows ≡ [])
    → MatchOption due (Lags room follows (due_lagged x None) ended spent t)
    (λ row. TookFirst (λ u. Lags room follows (due_lagged x None) ended spent u) t row)
lags_lone room follows x ended spent t None h going e none = rw (← e) h
lags_lone room follows x ended spent t (Some row) h going e none =
    let took = lags_take room follows follows x ended spent t row 0 None h e (none_next_waits room 0 follows none) in
    let ok = h.at.faultless row e in
    let held = held_open room follows x ended spent t 0 h (rw (h.ending ∙ going) refl) (rw ok refl)
    (λ look past rows f. rw (none look past rows f) refl) in
    record { next = took.0; held = sym held ∙ ap (λ (o : Option Row). with_due o 0) e; stand = rw h.alive took.1 }
