-- What a run knows of who is ready, and the order by which it goes that leans to a side.
use Rattle.std.specs.Prelude.{◌≡◌, ◌≢◌, ℕ, ◌-◌, ◌<◌, ◌≤◌, true, false, Option, None, Some}
use Rattle.hum_score.specs.Row.{Row}
use Rattle.hum_turns.specs.declared.order.Side.{Side}
use Rattle.hum_turns.specs.Failures.{Now, is_ready}
use Rattle.hum_turns.specs.Orders.{Order, outermost}
use Rattle.hum_nodes.specs.At.{Kind}
use Rattle.hum_engine.specs.Scene.{Scene, plan_of, TakesFrom}

pub data Look : Type 0 where
  -- nobody to the left of this actor is ready
  FromLeft : (actor : ℕ) → Look
  -- nor to the left of who takes from its link, but perhaps this one
  Beside : (actor taker : ℕ) → Look
  -- nor, but for this one and those to whom what it gives comes
  Along : (actor taker : ℕ) → Look
  -- nobody to the right of it is
  FromRight : (actor : ℕ) → Look
  -- of nobody anything is known
  Unseen : Look

-- What stage k gives comes to this actor, at once or through others.
pub data Reaches (count : ℕ) (kinds : ℕ → Kind) : (k actor : ℕ) → Type 0 where
  Itself : {k : ℕ} → Reaches count kinds k k
  Through : {k taker actor : ℕ} → TakesFrom count kinds taker k → Reaches count kinds taker actor
      → Reaches count kinds k actor

abbrev pub Sees : Look → Scene → Now Row → Type 0
Sees (FromLeft k) s now = (k ≤ s.count) × ((j : ℕ) → j < k → is_ready (plan_of s) s.size now j ≡ false)
Sees (Beside k taker) s now = (k < taker) × (taker ≤ s.count) × TakesFrom s.count s.kinds taker k
    × ((j : ℕ) → j < taker → j ≢ k → is_ready (plan_of s) s.size now j ≡ false)
Sees (Along k taker) s now = (k ≤ s.count) × (taker ≤ s.count)
    × ((j : ℕ) → j < taker → is_ready (plan_of s) s.size now j ≡ true → Reaches s.count s.kinds k j)
Sees (FromRight k) s now =
    (k ≤ s.count) × ((j : ℕ) → k < j → j ≤ s.count → is_ready (plan_of s) s.size now j ≡ false)
Sees Unseen s now = Unit {0}

-- who is asked next; nothing is known once a run is over
abbrev pub left_at : Option ℕ → Look
left_at (Some k) = FromLeft k
left_at None = Unseen

abbrev pub along_at : ℕ → Option ℕ → Look
along_at taker (Some k) = Along k taker
along_at taker None = Unseen

abbrev pub right_at : Option ℕ → Look
right_at (Some k) = FromRight k
right_at None = Unseen

-- how many actors are still asked at most before one of 256 is ready
abbrev pub still_to_ask : Look → ℕ
still_to_ask (FromLeft k) = 256 - k
still_to_ask (Beside k taker) = 0
still_to_ask (Along k taker) = 256 - k
still_to_ask (FromRight k) = 256 - (256 - k)
still_to_ask Unseen = 0

-- The order that picks the actor furthest to a side that is ready.
abbrev pub leaning : Side → Order (Unit {0})
leaning to = record { pick = λ o ready. outermost to ready; next = λ o ready. o }
