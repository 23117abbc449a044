use Rattle.std.proofs.Common.{◌≡◌, ◌||◌, ◌++◌, ℕ, List, true, false, refl, inl, inr, arith}
use Rattle.hum_engine.specs.Readers.{ended_at}
use Rattle.hum_net.specs.Scenes.{scene_of, first_now}
use Rattle.hum_net.proofs.Going.{ended_so, has_written, means_valid, nothing_written, no_read_failed}
use Rattle.hum_plan.specs.Seen.{stages_of}
use Rattle.hum_net.proofs.running.run_stages.Goals as goal

pub returns-in-Ok-clause-wrote : goal.returns-in-Ok-clause-wrote
returns-in-Ok-clause-wrote g c bytes told =
    let stages = stages_of c.args.stages.now in
    let ran = c.run-result.ensures.whole _ (scene_of bytes bytes stages c.args.link) first_now
    (c.in-Ok.ensures.tells bytes told) (c.in-Ok.ensures.opens bytes) in
    let is = means_valid bytes stages c.requires.tree c.in-Ok.ensures.valid in
    rw c.into_writer.ensures.sink (has_written is ran.left c.args.link _ _ _ _ ran.runs.outcome)

pub returns-in-Ok-clause-picked : goal.returns-in-Ok-clause-picked
returns-in-Ok-clause-picked g c bytes told =
    let stages = stages_of c.args.stages.now in
    let ran = c.run-result.ensures.whole _ (scene_of bytes bytes stages c.args.link) first_now
    (c.in-Ok.ensures.tells bytes told) (c.in-Ok.ensures.opens bytes) in
    inl (ended_so {writer = g.W.Sink} {bytes = bytes} {rests = ran.left} {stages = stages} ran.runs).picked

pub returns-in-Err-clause-wrote : goal.returns-in-Err-clause-wrote
returns-in-Err-clause-wrote g c = λ bytes told. rw c.in-Err.ensures.err (nothing_written _ _ _ (g.W.Sink.flushed c.args.sink))

pub returns-in-Err-clause-picked : goal.returns-in-Err-clause-picked
returns-in-Err-clause-picked g c = λ bytes told. inr (refl, refl)

pub returns-in-Ok-clause-marked : goal.returns-in-Ok-clause-marked
returns-in-Ok-clause-marked g c =
    let writes = c.run-result.ensures.writes c.in-Ok.ensures.failure in
    rw c.into_writer.ensures.sink (rw c.in-Ok.ensures.sink at writes)

pub returns-in-Ok-clause-flushes : goal.returns-in-Ok-clause-flushes
returns-in-Ok-clause-flushes g c =
    rw c.into_writer.ensures.sink (rw c.in-Ok.ensures.sink at c.run-result.ensures.flushes)

pub returns-in-Err-clause-flushes : goal.returns-in-Err-clause-flushes
returns-in-Err-clause-flushes g c = rw c.in-Err.ensures.err (omega arith)

pub returns-in-Ok-clause-unread : goal.returns-in-Ok-clause-unread
returns-in-Ok-clause-unread g c = λ never k.
    no_read_failed g.R.Source never _ _ k _ (c.run-result.ensures.reads c.in-Ok.ensures.failure k)

pub returns-in-Err-clause-marked : goal.returns-in-Err-clause-marked
returns-in-Err-clause-marked g c =
    rw c.in-Err.ensures.err (elim (g.W.Sink.failed c.args.sink) as (λ b. b ≡ (b || false)) [ true ↦ refl | false ↦ refl ])

pub returns-in-Ok-clause-ended : goal.returns-in-Ok-clause-ended
returns-in-Ok-clause-ended g c bytes told =
    let stages = stages_of c.args.stages.now in
    let ran = c.run-result.ensures.whole _ (scene_of bytes bytes stages c.args.link) first_now
    (c.in-Ok.ensures.tells bytes told) (c.in-Ok.ensures.opens bytes) in
    rw c.into_writer.ensures.sink (inl (ended_so {bytes = bytes} {rests = ran.left} {stages = stages} ran.runs))

pub returns-in-Ok-clause-driven : goal.returns-in-Ok-clause-driven
returns-in-Ok-clause-driven g c =
    let stages = stages_of c.args.stages.now in
    let ran = c.run-result.ensures.ran in
    rw c.into_writer.ensures.sink
    (inl (record {
      reads = ran.reads;
      over = λ k. ended_at k c.run-result.new.self.web.nodes.items;
      ends = λ rests over.
          let bytes : ℕ → List ℕ = λ k. ran.reads k ++ rests k in
          ended_so {bytes = bytes} {rests = rests} {stages = stages}
          (ran.runs _ (scene_of bytes rests stages c.args.link) first_now over (c.in-Ok.ensures.opens bytes));
    }))

pub returns-in-Err-clause-ended : goal.returns-in-Err-clause-ended
returns-in-Err-clause-ended g c = λ bytes told. inr (refl, refl)

pub returns-in-Err-clause-driven : goal.returns-in-Err-clause-driven
returns-in-Err-clause-driven g c = inr (refl, refl)
