-- A net that stands for a plan, however its bytes go on, does so after its turns.
use Rattle.std.proofs.lemmas.Bool.Decides.{nat_tests}
use Rattle.std.proofs.Common.{◌≡◌, ℕ, Bool, true, List, [], ◌++◌, Option, refl, subst, arith}
use Rattle.std.specs.Prelude.{if◌then◌else◌}
use Rattle.std.proofs.lemmas.Bool.{cond-true}
use Rattle.std.proofs.Math.Path.{fun_ext}
use Rattle.hum_text.specs.declared.calls.Source.{Ghosts as Source}
use Rattle.hum_text.specs.declared.calls.Sink.{Ghosts as Sink}
use Rattle.hum_score.specs.Row.{Row}
use Rattle.hum_stage.specs.declared.contract.Stage.{Ghosts as Stage}
use Rattle.hum_turns.specs.Failures.{Now}
use Rattle.hum_nodes.specs.Polls.{HasRead}
use Rattle.hum_engine.specs.declared.net.Net.{Net}
use Rattle.hum_engine.specs.Readers.{ended_at, remaining_at}
use Rattle.hum_engine.specs.Scene.{Scene, before_all}
use Rattle.hum_engine.specs.Nets.{NetAt, IsNet, AreOver}

cap_same : (b : Bool) (xs : List ℕ) → (b ≡ true → xs ≡ []) → (if b then [] else xs) ≡ xs
cap_same b xs h = grind (arith, h)

-- Sources have read these bytes, and from each moment that the net stood for it has come to one.
pub record HasGoneOn {S R W : Type 0} (stage : Stage S)
    (reader : Source R) (writer : Sink W)
    (old new : Net S R W) : Type 0 where
  pub reads : ℕ → List ℕ
  pub read : (i : ℕ)
      → HasRead (ended_at i old.web.nodes.items) (ended_at i new.web.nodes.items)
      (remaining_at reader i old.web.nodes.items) (remaining_at reader i new.web.nodes.items)
      (reads i)
  pub goes : (start : Option (List ℕ)) (s : Scene) (now : Now Row)
      → AreOver new.web.nodes.items s.rests
      → NetAt stage writer start (before_all reads s) old now
      → (to : Now Row) × NetAt stage writer start s new to

module _ {S R W : Type 0} (stage : Stage S) (reader : Source R) (writer : Sink W) (old new : Net S R W)
    (r : IsNet stage writer old) (h : HasGoneOn stage reader writer old new) where
  -- nothing of the bytes behind an end that was read
  left : (ℕ → List ℕ) → ℕ → List ℕ
  left rests i = if ended_at i new.web.nodes.items then [] else rests i

  none_left : (rests : ℕ → List ℕ) → AreOver new.web.nodes.items (left rests)
  unfolding left
  none_left rests i e = cond-true _ _ _ e

  all : (ℕ → List ℕ) → ℕ → List ℕ
  all rests i = h.reads i ++ left rests i

  gone : (rests : ℕ → List ℕ)
      → (to : Now Row) × NetAt stage writer r.start (record (r.scene (all rests)) { rests = left rests }) new to
  unfolding all
  gone rests =
      let was : AreOver old.web.nodes.items (all rests) = grind (arith, nat_tests, left, none_left) in
      h.goes r.start (record (r.scene (all rests)) { rests = left rests }) (r.now (all rests)) (none_left rests)
      (subst (λ f. NetAt stage writer r.start (record (r.scene (all rests)) { rests = f }) old (r.now (all rests)))
      (r.rests (all rests)) (r.at (all rests) was))

  pub lasts : IsNet stage writer new
  unfolding left
  lasts = record {
    start = r.start;
    scene = λ rests. record (r.scene (all rests)) { rests = rests };
    now = λ rests. (gone rests).0;
    rests = λ rests. refl;
    at = λ rests none.
        subst (λ f. NetAt stage writer r.start (record (r.scene (all rests)) { rests = f }) new (gone rests).0)
        (fun_ext (λ i. cap_same (ended_at i new.web.nodes.items) (rests i) (none i)))
        (gone rests).1;
  }
