use Rattle.std.proofs.Common.{◌≡◌, ◌∙◌, inl, inr}
use Rattle.hum_stage.specs.declared.faults.State.TheVariants as state
use Rattle.hum_nodes.proofs.Mergings as merging
use Rattle.hum_nodes.proofs.Singles as single
use Rattle.hum_nodes.proofs.Standing.{alone_as, as_merging}
use Rattle.hum_nodes.proofs.node.Node.end.Goals.{in-Command, in-Assemble}
use Rattle.hum_nodes.proofs.node.Node.end.Goals as goal

pub returns-in-Done : goal.returns-in-Done
returns-in-Done g c rest t end h done =
    let is : c.match-self.state ≡ state.Done end = elim c.match-self.branch [
      | in-Command w ↦ w.state-is
          ∙ single.end_told (alone_as w.in-Command.is h done (λ e. cc)).1 w.state-state.ensures done
      | in-Assemble w ↦ w.state-is
          ∙ merging.end_told (as_merging w.in-Assemble.is h) w.state-state-in-Assemble.ensures done
    ] in
    let told = c.in-Done.is in
    cc

pub returns-in-Gives : goal.returns-in-Gives
returns-in-Gives g c rest t end h done =
    let is : c.match-self.state ≡ state.Done end = elim c.match-self.branch [
      | in-Command w ↦ w.state-is
          ∙ single.end_told (alone_as w.in-Command.is h done (λ e. cc)).1 w.state-state.ensures done
      | in-Assemble w ↦ w.state-is
          ∙ merging.end_told (as_merging w.in-Assemble.is h) w.state-state-in-Assemble.ensures done
    ] in
    elim c.in-Gives.is [ inl told ↦ cc | inr told ↦ cc ]
