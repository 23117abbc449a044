use Rattle.std.proofs.Common.{◌++◌, ◌∷◌, [], ◌-◌, ◌∙◌, sym, ap, subst}
use Rattle.hum_many.specs.Cases.{HoldsCase, HoldsScore}
use Rattle.hum_many.proofs.Holding.{holds-one, holds-less}
use Rattle.hum_many.proofs.cases.Case.add.Goals as goal
use Rattle.hum_many.proofs.cases.Case.add.Goals.{in-Ok, in-Err}

pub returns-after-push-clause-held : goal.returns-after-push-clause-held
returns-after-push-clause-held c = elim c.match-push.branch [
  | in-Ok w ↦ rw w.result-is (λ case it h is.
      let held = holds-one case c.args.self.now.scores.items it c.in-Some.score c.args.self.now.left c.args.self.now.is_too_large h
      (subst (λ o. HoldsScore c.args.self.now.left it o) c.in-Some.is is) in
      subst (λ xs. HoldsCase (case ++ it ∷ []) xs c.saturating_sub-self.result c.args.self.now.is_too_large)
      (sym (rw w.in-Ok.is at c.push.ensures.items))
      (subst (λ n. HoldsCase (case ++ it ∷ []) (c.args.self.now.scores.items ++ c.in-Some.score ∷ []) n c.args.self.now.is_too_large)
      (sym (c.saturating_sub-self.ensures ∙ ap (λ n. c.args.self.now.left - n) c.size.ensures)) held))
  | in-Err w ↦ rw w.result-is tt
]

pub returns-in-None-clause-held : goal.returns-in-None-clause-held
returns-in-None-clause-held c = λ case it h less.
    holds-less case c.args.self.now.scores.items it c.args.self.now.left c.args.self.now.is_too_large h
    (subst (λ o. HoldsScore c.args.self.now.left it o) c.in-None.is less)
