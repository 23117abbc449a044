use Rattle.std.proofs.Common.{false, None, get_or, refl, ◌∙◌}
use Rattle.std.proofs.lemmas.Bool.{or_parts}
use Rattle.hum_timebase.specs.Kept.{end_if_timed}
use Rattle.hum_timebase.proofs.Pairs.{over_next, over_all}
use Rattle.hum_timebase.proofs.ends.drop_untimed.Goals as goal

pub loop-j-preserved : goal.loop-j-preserved
loop-j-preserved c = record {
  ends =
      over_next end_if_timed c.args.timed.now c.loop-j.ends c.drop_end-dropped.new.ends _ c.loop-j.j (get_or c.args.timed.now c.loop-j.j false) false
      _ None c.loop-j-test.true refl refl c.drop_end-dropped.ensures.end c.loop-j.invariant.ends;
  kept =
      λ none.
      let parts = or_parts c.loop-j.dropped c.drop_end-dropped.result none in
      c.drop_end-dropped.ensures.kept parts.1 ∙ c.loop-j.invariant.kept parts.0;
}

pub returns-clause-ends : goal.returns-clause-ends
returns-clause-ends c = over_all end_if_timed c.args.timed.now c.loop-j.ends _ c.loop-j.j c.loop-j-test.false c.loop-j.invariant.ends
