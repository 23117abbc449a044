use Rattle.std.proofs.Common.{◌≡◌, ◌∙◌, refl, sym, arith, length, Option, Ok, Err}
use Rattle.std.specs.Prelude.{Result}
use Rattle.std.proofs.lemmas.Bool.Decides.{nat_tests}
use Rattle.std.proofs.lemmas.List.{nil_from_length}
use Rattle.hum_score.specs.Row.{Row}
use Rattle.hum_stage.specs.declared.faults.Refusal.{Refusal}
use Rattle.hum_stage.specs.declared.faults.Refusal.TheVariants.{Rule, Memory}
use Rattle.hum_stage.specs.Meaning.{after_put}
use Rattle.hum_stage.specs.Lagging.{Lags}
use Rattle.hum_stage.proofs.Moves.{no_fault}
use Rattle.hum_stage.proofs.Lags.{may_wait, lags_dropped, put_empty, lags_put, lags_put_refused, lags_lone}
use Rattle.hum_stage.proofs.lagging.LaggingStage.put_with.Goals as goal
use Rattle.hum_stage.proofs.lagging.LaggingStage.put_with.Goals.{then-may_take+then-is_empty, else-may_take}
use Rattle.hum_stage.specs.declared.TheConstants.{MOST_WAITING}

pub returns-then-is_some-clause-ok : goal.returns-then-is_some-clause-ok
returns-then-is_some-clause-ok g c t h going score = rw c.requires.empty
    (lags_dropped _ _ _ _ _ t c.args.next h score (sym c.is_some.ensures ∙ c.if-is_some.true))

pub put-requires : goal.put-requires
put-requires g c =
    may_wait MOST_WAITING _ _ _ _ c.args.next c.if-self.false
    (no_fault _ (sym c.is_some.ensures ∙ c.if-is_some.false)) c.requires.may

pub returns-clause-ok : goal.returns-clause-ok
returns-clause-ok g c t h going score = elim c.if-may_take.branch [
  | then-may_take+then-is_empty w ↦
      let ok = c.note.new.self.waiting.ok.0 in
      let e = w.is_empty.ensures in
      let n = w.if-is_empty.true in
      let none : length c.note.new.self.waiting.items ≡ 0 = grind (arith, nat_tests, ok, e, n) in
      rw (w.first-is, w.self-is, w.replace.ensures.after, w.take.ensures.after)
      (lags_lone MOST_WAITING _ _ _ _ _ w.take.result (by_told c.settle_next-due.result refl) going
      (sym w.take.ensures.value)
      (λ look past rows f. nil_from_length rows (sym (g.met.C.LooksAhead.each _ _ look past rows f) ∙ none)))
  | else-may_take w ↦ rw (w.first-is, w.self-is, c.requires.empty) (by_told c.settle_next-due.result refl)
]
  where
    by_told : (next : Result (Option Row) Refusal) → c.settle_next-due.result ≡ next
        → Lags MOST_WAITING (g.C.LooksAhead.follows c.note.new.self.memory c.note.new.self.waiting.items) (record {
          stage = c.note.new.self.stage;
          command = c.note.new.self.command;
          line = c.note.new.self.line;
          due = c.note.new.self.due;
          fault = c.note.new.self.fault;
        }) c.note.new.self.ended c.note.new.self.spent (after_put t c.args.next)
    by_told (Ok due) e = rw (rw e at c.note.ensures.due)
        (lags_put MOST_WAITING _ _ _ _ _ _ t c.args.next _ due h going score
        (put_empty _ _ _ _ _ c.args.next c.if-self.false c.requires.may)
        (no_fault _ (sym c.is_some.ensures ∙ c.if-is_some.false)) c.in_ok-put.ensures
        (rw e at c.settle_next-due.ensures.settles))
    by_told (Err (Rule rule)) e = rw (c.note.ensures.refused rule e)
        (lags_put_refused MOST_WAITING _ _ _ _ _ _ _ t c.args.next _ rule h score
        (put_empty _ _ _ _ _ c.args.next c.if-self.false c.requires.may)
        (no_fault _ (sym c.is_some.ensures ∙ c.if-is_some.false)) c.in_ok-put.ensures
        (rw e at c.settle_next-due.ensures.settles))
    by_told (Err Memory) e = let failed = rw c.in_ok-note.was at (c.note.ensures.out e) in cc
