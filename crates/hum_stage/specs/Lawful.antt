-- What every command of either kind keeps.
use Rattle.std.proofs.Common.{◌≡◌, ◌∙◌, refl, ℕ, ◌-◌, Bool, true, false, cond}
use Rattle.std.proofs.Common.{List, [], ◌∷◌, ◌++◌, take, length, arith}
use Rattle.std.specs.Prelude.{nat_le, Option, Some, None, is_some, Result, Ok, Err}
use Rattle.std.proofs.lemmas.Bool.Decides.{nat_tests}
use Rattle.std.proofs.lemmas.List.{take_all}
use Rattle.hum_score.specs.Row.{Row}
use Rattle.hum_score.specs.Rules.{is_unfinished}
use Rattle.hum_score.specs.Score.{IsClosed, path_after, passed}
use Rattle.hum_words.specs.declared.commands.Command.{Command}
use Rattle.hum_stage.specs.declared.faults.Rule.{Rule}
use Rattle.hum_stage.specs.declared.faults.Rule.TheVariants.{L2, H1}
use Rattle.hum_stage.specs.declared.faults.End.{End}
use Rattle.hum_score.specs.InOrder.{through}
use Rattle.hum_stage.specs.Outcome.{Outcome, Becomes, Refused, Undecided, AllDecided}
use Rattle.hum_stage.specs.Meaning.{Meaning, IsLawful, IsWithinLag, DecidesClosed, Moment}
use Rattle.hum_stage.specs.Order.{open_score, open_passed}
use Rattle.hum_stage.specs.Decided.{Decision, decisions, limit, at_once}
use Rattle.hum_stage.specs.Standing.{Fields, Standing}
use Rattle.hum_stage.specs.Laws.{decisions_each, decisions_decided, decisions_grow, limit-length}
use Rattle.hum_stage.specs.Laws.{limit-Goes, settled-limit_le}
use Rattle.hum_stage.specs.Look.{Look, outcome_of, outcomes_from, looking, IsSteady}
use Rattle.hum_stage.specs.Lag.{LagsAtMost}
use Rattle.hum_stage.specs.Lagging.{Lagged, Lags}
use Rattle.hum_stage.specs.LookLaws.{looks_each, looks_grow, looks_few}
use Rattle.hum_stage.specs.LagLaws.{at_once_holds, at_once_lags, looking_holds, looking_lags}
use Rattle.hum_stage.specs.declared.TheConstants.{MOST_RECORDS}

-- under the limit too
limit_decides : (n : ℕ) (os : List Outcome) → AllDecided os → AllDecided (limit n os)
limit_decides n [] h = tt
limit_decides n (Becomes rows ∷ os) h =
    first (limit_decides (n - length rows) os h) (nat_le (length rows) n)
  where
    first : AllDecided (limit (n - length rows) os) → (b : Bool)
        → AllDecided (cond b (Becomes rows ∷ limit (n - length rows) os) (Refused L2 ∷ os))
    first rest true = rest
    first rest false = h
limit_decides n (Refused rule ∷ os) h = h
limit_decides n (Undecided ∷ os) h = absurd h

looks_decide : (room : ℕ) (look : Look) (past rows : List Row) → IsSteady look
    → IsClosed (passed past rows) → AllDecided (outcomes_from room look past rows)
looks_decide room look past [] steady closed = tt
looks_decide room look past (row ∷ rows) steady closed =
    by_look (look past row (take room rows)) refl (looks_decide room look (row ∷ past) rows steady closed)
  where
    by_room : (b : Bool) → nat_le room (length rows) ≡ b → look past row (take room rows) ≡ None
        → AllDecided (outcomes_from room look (row ∷ past) rows)
        → AllDecided (cond b (Refused H1) Undecided ∷ outcomes_from room look (row ∷ past) rows)
    by_room true w e rest = rest
    by_room false w e rest =
        let all : take room rows ≡ rows = take_all room rows (grind (arith, nat_tests, w)) in
        steady.decides past row rows closed (rw all at e)

    by_look : (d : Option (Result (List Row) Rule)) → look past row (take room rows) ≡ d
        → AllDecided (outcomes_from room look (row ∷ past) rows)
        → AllDecided (outcome_of room (length rows) d ∷ outcomes_from room look (row ∷ past) rows)
    by_look (Some (Ok new)) e rest = rest
    by_look (Some (Err rule)) e rest = rest
    by_look None e rest = by_room (nat_le room (length rows)) refl e rest

ends_passed : (past p : List Row) → is_unfinished (through (path_after past) p) ≡ false
    → is_unfinished (path_after (passed past p)) ≡ false
ends_passed past [] h = h
ends_passed past (row ∷ p) h = ends_passed (row ∷ past) p h

pub looking_decides : (room : ℕ) (look : Look) → IsSteady look
    → DecidesClosed (λ p. outcomes_from room look [] p)
looking_decides room look steady p closed =
    looks_decide room look [] p steady (open_passed [] p tt closed.0, ends_passed [] p closed.1)

pub at_once_lawful : (stage : ℕ) (command : Command) (decide : Decision)
    → IsLawful (at_once stage command decide)
at_once_lawful stage command decide = record {
  each = λ p. limit-length MOST_RECORDS (decisions decide [] p) ∙ decisions_each decide [] p;
  grows = λ p r s. limit-Goes MOST_RECORDS (decisions decide [] p)
      (decisions decide [] (p ++ r ∷ [])) (decisions_grow decide [] p r);
  holds = at_once_holds decide (λ p. limit-length MOST_RECORDS (decisions decide [] p) ∙ decisions_each decide [] p)
      (λ p r s. limit-Goes MOST_RECORDS (decisions decide [] p)
      (decisions decide [] (p ++ r ∷ [])) (decisions_grow decide [] p r));
  decides = λ p closed. limit_decides MOST_RECORDS (decisions decide [] p) (decisions_decided decide [] p);
  limited = λ p few. settled-limit_le MOST_RECORDS (decisions decide [] p);
}

pub standing_lawful : (follows : Decision → List Row → Type 0)
    (x : Fields) (ended : Option End) (spent : Bool) (t : Moment)
    → Standing follows x ended spent t → IsLawful t.meaning
standing_lawful follows x ended spent t h = rw h.meaning (at_once_lawful x.stage x.command h.decide)

pub looking_lawful : (room stage : ℕ) (command : Command) (look : Look) → IsSteady look
    → IsLawful (looking room stage command look)
looking_lawful room stage command look steady = record {
  each = λ p. looks_each room look [] p;
  grows = λ p r s. looks_grow room look [] p r steady (open_score p r s);
  holds = looking_holds room look steady (λ p r s. looks_grow room look [] p r steady (open_score p r s));
  decides = looking_decides room look steady;
  limited = λ p few. let n = looks_few room look [] p steady in omega (arith, n, few);
}

pub lags_lawful : (room : ℕ) (follows : Look → List Row → List Row
    → Type 0) (x : Lagged) (ended : Option End) (spent : Bool) (t : Moment)
    → Lags room follows x ended spent t → IsLawful t.meaning
lags_lawful room follows x ended spent t h = rw h.meaning (looking_lawful room x.stage x.command
    h.look h.steady)

-- by what every command keeps
pub within_lag : (n : ℕ) (m : Meaning) → IsLawful m
    → ((p : List Row) → LagsAtMost m.outcomes n p) → IsWithinLag n m
within_lag n m lawful most = record {
  lags = most;
  holds = λ t same score wants. rw same (lawful.holds t.put t.given n (is_some t.ended) score wants (most t.put));
}

pub at_once_within : (stage : ℕ) (command : Command) (decide : Decision)
    → IsWithinLag 0 (at_once stage command decide)
at_once_within stage command decide =
    within_lag 0 (at_once stage command decide) (at_once_lawful stage command decide) (at_once_lags decide)

pub looking_within : (room stage : ℕ) (command : Command) (look : Look) → IsSteady look
    → IsWithinLag room (looking room stage command look)
looking_within room stage command look steady =
    within_lag room (looking room stage command look) (looking_lawful room stage command look steady)
    (looking_lags room look)
