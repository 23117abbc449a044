-- Who takes from each link, as it is noted stage by stage.
use Rattle.std.proofs.lemmas.Bool.Decides.{nat_tests}
use Rattle.std.proofs.Common.{◌≡◌, ◌≢◌, ◌∙◌, ℕ, suc, ◌+◌, ◌<◌, ◌≤◌, ◌⊎◌, List, [], ◌∷◌, length, Some}
use Rattle.std.proofs.Common.{refl, sym, ap, subst, arith, inl, inr, ⊎_elim, slice_get, slice_set, length-set}
use Rattle.std.proofs.lemmas.Bool.{cases_eq}
use Rattle.std.proofs.lemmas.Option.{none-some}
use Rattle.hum_turns.specs.Plan.{last}
use Rattle.hum_turns.specs.Near.{IsOneOf}
use Rattle.hum_turns.proofs.States.{last_next}
use Rattle.hum_nodes.specs.At.{set_each}
use Rattle.hum_engine.specs.Scene.{Scene, plan_of, IsNetPlan, AreTakers}
use Rattle.hum_engine.proofs.Looking.{index_all}
use Rattle.hum_engine.proofs.Moving.{set_cases}

pub length-set_each : (places : List ℕ) (k : ℕ) (list : List ℕ) → length (set_each places k list) ≡ length list
length-set_each [] k list = refl
length-set_each (place ∷ places) k list =
    length-set_each places k (slice_set list place k) ∙ length-set list place k

-- an entry was set, or it is as it was
set_each_cases : (places : List ℕ) (k : ℕ) (list : List ℕ) (t r : ℕ)
    → slice_get (set_each places k list) t ≡ Some r
    → (IsOneOf places t × (k ≡ r)) ⊎ ((IsOneOf places t → ⊥) × (slice_get list t ≡ Some r))
set_each_cases [] k list t r h = inr ((λ one. none-some t one.1), h)
set_each_cases (place ∷ places) k list t r h = ⊎_elim
    (λ hit. inl ((suc hit.0.0, hit.0.1), hit.1))
    (λ miss. ⊎_elim
    (λ here. inl ((0, ap Some (sym here.0)), here.1))
    (λ other. inr ((λ one. apart miss.0 other.0 one.0 one.1), other.1))
    (set_cases list place k t r miss.1))
    (set_each_cases places k (slice_set list place k) t r h)
  where
    apart : (IsOneOf places t → ⊥) → t ≢ place → (i : ℕ) → slice_get (place ∷ places) i ≡ Some t → ⊥
    apart = grind (arith, nat_tests)

-- So far the takers among the first stages are noted, and the sink is that of all other links.
pub record AreNoted (k : ℕ) (s : Scene) (takers : List ℕ) : Type 0 where
  pub many : length takers ≡ s.count
  pub behind : (t r : ℕ) → slice_get takers t ≡ Some r → (t < r) × (r ≤ s.count)
  pub alone : (t r j : ℕ) → slice_get takers t ≡ Some r → j < k → IsOneOf (s.kinds j).stage.sources t → j ≡ r
  pub sink : (r : ℕ) → slice_get takers (last (plan_of s)) ≡ Some r → r ≡ s.count

module _ (s : Scene) (plan : IsNetPlan s.count s.kinds s.size) where
  pub none_noted : (takers : List ℕ) → length takers ≡ s.count
      → ((t r : ℕ) → slice_get takers t ≡ Some r → (t < s.count) × (r ≡ s.count)) → AreNoted 0 s takers
  none_noted = grind (arith, nat_tests)

  pub one_noted : (k : ℕ) (takers : List ℕ) → k < s.count → AreNoted k s takers
      → AreNoted (k + 1) s (set_each (s.kinds k).stage.sources k takers)
  one_noted k takers less noted =
      let sources = (s.kinds k).stage.sources in
      let lower : (t : ℕ) → IsOneOf sources t → t < k = grind (arith, nat_tests, index_all) in
      record {
        many = length-set_each sources k takers ∙ noted.many;
        behind = λ t r h. ⊎_elim
            (λ hit. (omega (arith, lower t hit.0, hit.1), omega (arith, hit.1, less)))
            (λ miss. noted.behind t r miss.1)
            (set_each_cases sources k takers t r h);
        alone = λ t r j h to one. ⊎_elim
            (λ hit. (plan.tree j one.0 k hit.0.0 t (omega (arith, to, less)) less one.1 hit.0.1).0 ∙ hit.1)
            (λ miss. ⊎_elim
            (λ (is : j ≡ k). absurd (miss.0 (subst (λ i. IsOneOf (s.kinds i).stage.sources t) is one)))
            (λ (other : j ≢ k). noted.alone t r j miss.1 (omega (arith, to, other)) one)
            (cases_eq j k))
            (set_each_cases sources k takers t r h);
        sink = λ r h. ⊎_elim
            (λ hit. absurd (omega (arith, lower (last (plan_of s)) hit.0, last_next s.count plan.ok.some, less)))
            (λ miss. noted.sink r miss.1)
            (set_each_cases sources k takers (last (plan_of s)) r h);
      }

  pub all_noted : (k : ℕ) (takers : List ℕ) → s.count ≤ k → AreNoted k s takers
      → AreTakers s.count s.kinds takers
  all_noted k takers all noted = record {
    many = noted.many;
    behind = noted.behind;
    alone = λ t r j h takes. ⊎_elim
        (λ w. noted.alone t r j h (omega (arith, w.0, all)) w.1)
        (λ w. w.0 ∙ sym (noted.sink r (subst (λ i. slice_get takers i ≡ Some r) w.1 h)))
        takes;
  }
