use Rattle.std.proofs.Common.{◌≡◌, ◌∙◌, arith, ap, List}
use Rattle.std.proofs.lemmas.Result.{IfOk-from_err}
use Rattle.std.specs.Prelude.{None, []}
use Rattle.std.proofs.lemmas.List.{replicate_more}
use Rattle.hum_assemble.specs.Source.{Source, untouched}
use Rattle.hum_assemble.specs.Round.{any_due}
use Rattle.hum_assemble.specs.Merge.{ahead}
use Rattle.hum_assemble.proofs.Scores.{keeps_scores}
use Rattle.hum_assemble.proofs.Fronts.{gives_by_groups}
use Rattle.hum_assemble.proofs.Calls.{new_stands, lawful_new}
use Rattle.hum_assemble.proofs.One.{gives_one}
use Rattle.hum_assemble.proofs.Few.{few_in_all}
use Rattle.hum_assemble.proofs.assemble.Assemble.new.Goals as goal

pub invariant_of-result : goal.invariant_of-result
invariant_of-result c = record {
  at_most = omega arith;
  alive = λ e. record {
    due = c.look_ahead-going.ensures.going ∙ ap any_due c.deref.ensures.value;
    next = c.look_ahead-going.ensures.next ∙ ap (λ (ss : List Source).
        ahead (record { sources = ss; given = 0 })) c.deref.ensures.value;
    lawful = rw c.loop.invariant (lawful_new c.loop.counter);
  };
}

pub returns : goal.returns
returns c =
    let e : c.loop.counter ≡ c.args.sources = omega arith in
    record {
      stands = new_stands c.args.stage c.args.sources c.loop.heads.items (rw e at c.loop.invariant);
      keeps = keeps_scores c.args.stage;
      groups = gives_by_groups;
      one = gives_one;
      few = few_in_all;
    }

pub returns-in_err-push-clause-keeps : goal.returns-in_err-push-clause-keeps
returns-in_err-push-clause-keeps c = keeps_scores c.args.stage

pub returns-in_err-push-clause-groups : goal.returns-in_err-push-clause-groups
returns-in_err-push-clause-groups c = gives_by_groups

pub returns-in_err-push-clause-one : goal.returns-in_err-push-clause-one
returns-in_err-push-clause-one c = gives_one

pub returns-in_err-push-clause-few : goal.returns-in_err-push-clause-few
returns-in_err-push-clause-few c = few_in_all

pub returns-in_err-push-clause-stands : goal.returns-in_err-push-clause-stands
returns-in_err-push-clause-stands c = IfOk-from_err c.from_residual.result _ c.from_residual.ensures.0

pub loop-preserved : goal.loop-preserved
loop-preserved c =
    c.in_ok-push.ensures.items ∙ rw (c.loop.invariant, c.new.ensures) (replicate_more c.loop.counter (untouched None []))
