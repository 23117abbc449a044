-- How many turns there can have been: far fewer than 64 bits count.
use Rattle.std.proofs.Common.{◌≡◌, ℕ, zero, suc, ◌+◌, ◌*◌, ◌<◌, ◌≤◌, true, false, List, []}
use Rattle.std.proofs.Common.{◌∷◌, length, Option, None, arith, length-append}
use Rattle.std.proofs.Common.{⊎_elim}
use Rattle.std.specs.List.{AllByRecursion}
use Rattle.std.proofs.lemmas.Bool.{cases_Bool, cases_lt, lt-ltb, le-ltb}
use Rattle.hum_text.specs.declared.calls.Sink.{Ghosts as Sink}
use Rattle.hum_score.specs.Row.{Row, text_of}
use Rattle.hum_stage.specs.declared.contract.Stage.{Ghosts as Stage}
use Rattle.hum_turns.specs.Plan.{last}
use Rattle.hum_turns.specs.Links.{Moment, given, inputs}
use Rattle.hum_turns.specs.Turns.{is_source}
use Rattle.hum_turns.specs.Counts.{total, most, put}
use Rattle.hum_turns.specs.Failures.{Now}
use Rattle.hum_turns.proofs.Keeping.{Inv, fine_inputs}
use Rattle.hum_turns.proofs.Fronts.{begins_shorter}
use Rattle.hum_turns.proofs.States.{source_less, last_less}
use Rattle.hum_turns.proofs.Every.{reached}
use Rattle.hum_turns.proofs.Writing.{walk_going, every_turn}
use Rattle.hum_nodes.specs.At.{At}
use Rattle.hum_nodes.specs.Polls.{most_bytes}
use Rattle.hum_nodes.specs.declared.node.Node.{Node}
use Rattle.hum_nodes.specs.Nodes.{StandsAs}
use Rattle.hum_engine.specs.declared.net.Net.{Net}
use Rattle.hum_engine.specs.Scene.{Scene, plan_of, moved, at_of, IsNetPlan}
use Rattle.hum_engine.proofs.Feeding.{node_of}
use Rattle.hum_engine.specs.Nets.{NetAt}

total_few : (f : ℕ → ℕ) (n : ℕ) → ((i : ℕ) → i < n → f i ≤ 4398046511104)
    → total f n ≤ n * 4398046511104
total_few f zero h = omega arith
total_few f (suc n) h = omega (arith, total_few f n (λ i l. h i (omega (arith, l))), h n (omega arith))

put_few : (m : Moment Row) (k : ℕ) (ss : List ℕ) → AllByRecursion (λ s. s < k) ss
    → ((s : ℕ) → s < k → length (m s).taken ≤ 4294967295) → put m ss ≤ length ss * 4294967295
put_few m k [] h each = omega arith
put_few m k (s ∷ ss) h each = omega (arith, each s h.0, put_few m k ss h.1 each)

module _ (s : Scene) (m : Moment Row) (plan : IsNetPlan s.count s.kinds s.size) (inv : Inv (plan_of s) s.size m) where
  given_few : (k : ℕ) → k < s.count → length (given (m k)) ≤ 4294967295
  given_few k less =
      let good = inv k less in
      let short = begins_shorter _ _ good.sent in
      let most = plan.limited k less (m k).read (inputs (plan_of s) m k) good.within
      (fine_inputs (plan_of s) s.size plan.ok m k inv less) in
      omega (arith, short, most)

  taken_few : (k : ℕ) → k < s.count → length (m k).taken ≤ 4294967295
  taken_few k less = omega (arith, given_few k less, length-append (m k).taken (m k).waiting)

  most_few : ((k : ℕ) → is_source (plan_of s) k ≡ true → (m k).read ≤ most_bytes)
      → (k : ℕ) → k < s.count + 1 → most (plan_of s) m k ≤ 4398046511104
  most_few reads k within = ⊎_elim
      (λ src. rw src (omega (arith, reads k src, given_few k (source_less (plan_of s) k src).0)))
      (λ (other : is_source (plan_of s) k ≡ false). ⊎_elim
      (λ less.
      let p = put_few m k (s.kinds k).stage.sources (plan.ok.below k less) (λ i low. taken_few i (omega (arith, low, less))) in
      rw (other, lt-ltb k s.count less) (omega (arith, given_few k less, plan.narrow k less, p)))
      (λ past. rw (other, le-ltb k s.count past) (omega (arith, taken_few (last (plan_of s)) (last_less s.count plan.ok.some))))
      (cases_lt k s.count))
      (cases_Bool (is_source (plan_of s) k))

pub turns_few : {S R W : Type 0} (stage : Stage S)
    (writer : Sink W) (start : Option (List ℕ)) (s : Scene)
    (net : Net S R W) (now : Now Row)
    → ((n : Node S R) (rest : List ℕ) (t : At) → StandsAs stage.stands n rest t → 0 < t.kind.stage.bytes
    → t.read ≤ most_bytes)
    → (h : NetAt stage writer start s net now) → now.failure ≡ None
    → length h.turns < 9223372036854775808
turns_few stage writer start s net now law h none =
    let g = walk_going (plan_of s) s.size text_of h.turns h.first now h.begin none h.walk in
    let inv = reached (plan_of s) s.size h.turns h.first.links now.links h.plan.ok h.begin.links g.0 in
    let holds = (every_turn (plan_of s) s.size text_of h.plan.ok h.plan.some h.turns h.first now h.begin h.walk).holds none in
    let all = total_few (most (plan_of s) now.links) (s.count + 1) (most_few s now.links h.plan inv (λ k src.
    let some = source_less (plan_of s) k src in
    let node = node_of stage k net.web (moved s now.links) some.0 (h.going none) in
    law node.0 (s.rests k) (at_of s.kinds now.links k) ((h.going none).nodes k node.0 node.1) some.1)) in
    omega (arith, all, holds.1.all, h.plan.few)
