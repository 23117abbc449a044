-- With one record more, or an end, of one source nothing that was decided changes.
use Rattle.std.proofs.lemmas.Bool.Decides.{nat_tests}
use Rattle.std.proofs.Common.{◌≡◌, ◌∙◌, refl, ap, ℕ, ◌+◌, Bool, true, arith}
use Rattle.std.proofs.Common.{false, cond, List, [], ◌∷◌, length}
use Rattle.std.specs.Prelude.{None}
use Rattle.std.specs.List.{list_any, position_from}
use Rattle.hum_score.specs.Row.{Row, text_of}
use Rattle.hum_assemble.specs.declared.places.Place.{Place}
use Rattle.hum_assemble.specs.declared.places.Next as next
use Rattle.hum_assemble.specs.declared.places.Next.TheVariants.{Gives, Refused, Wants}
use Rattle.hum_assemble.specs.declared.places.Next.TheVariants.{Over as NothingMore}
use Rattle.hum_assemble.specs.Source.{Source}
use Rattle.hum_assemble.specs.Change.{Change, changed_at, IsOpenAt}
use Rattle.hum_assemble.specs.Merge.{Merge, all_moved, spines}
use Rattle.hum_assemble.specs.Merge.{made, rule_broken, unless_broken}
use Rattle.hum_assemble.specs.Merge.{ahead, ahead_at, ahead_of}
use Rattle.hum_assemble.specs.Places.{is_over}
use Rattle.hum_assemble.specs.Round.{is_missing, is_lost, any_due, AllKnown}
use Rattle.hum_assemble.proofs.Moving.{all_moves, comment_same, earliest_same}
use Rattle.hum_assemble.proofs.Moving.{known_same, spines_same, due_same, lost_same, known_not_lost}

abbrev pub changed_in : ℕ → Change → Merge → Merge
changed_in j change m = record { sources = changed_at j change m.sources; given = m.given }

-- whether the first that is missing is waited for
abbrev pub is_waiting : next.Next → Bool
is_waiting (Wants j) = true
is_waiting (Gives p) = false
is_waiting (Refused rule) = false
is_waiting NothingMore = false

none_missing : (going : Bool) (i : ℕ) (ss : List Source) → position_from (is_missing going) i ss ≡ None
    → AllKnown going ss
none_missing going i [] h = tt
none_missing going i (s ∷ ss) h = grind (arith, nat_tests, none_missing going (i + 1) ss)

pub missing_none : (going : Bool) (i : ℕ) (ss : List Source) → AllKnown going ss
    → position_from (is_missing going) i ss ≡ None
missing_none going i [] k = refl
missing_none going i (s ∷ ss) k = rw (k.0, missing_none going (i + 1) ss k.1) refl

pub made_same : (going : Bool) (p : Place) (j : ℕ) (change : Change) (ss : List Source)
    → is_over p ≡ false → IsOpenAt j ss → AllKnown going ss
    → made going p (changed_at j change ss) ≡ made going p ss
made_same going p j change ss o i k =
    grind (arith, nat_tests, comment_same going p j change ss o i k, all_moves true going p j change ss o i k)

at_same : (going : Bool) (p : Place) (j : ℕ) (change : Change) (ss : List Source) (given : ℕ)
    → IsOpenAt j ss → AllKnown going ss
    → ahead_at going p (changed_at j change ss) given ≡ ahead_at going p ss given
at_same going p j change ss given i k =
    (elim (is_over p) as (λ b. (b ≡ false → rule_broken
    (spines (all_moved true going p (changed_at j change ss)))
    (length (text_of (made going p (changed_at j change ss)))) given ≡ rule_broken
    (spines (all_moved true going p ss)) (length (text_of (made going p ss))) given) →
    cond b NothingMore (unless_broken p
    (rule_broken (spines (all_moved true going p (changed_at j change ss)))
    (length (text_of (made going p (changed_at j change ss)))) given)) ≡ cond b NothingMore
    (unless_broken p (rule_broken (spines (all_moved true going p ss)) (length (text_of (made going p ss)))
    given))) [
      | true ↦ λ e. refl
      | false ↦ λ e. ap (unless_broken p) (e refl)
    ]) (λ o.
    let m = (all_moves true going p j change ss o i k).moved_are in
    let w : spines (all_moved true going p (changed_at j change ss)) ≡ spines (all_moved true going p ss) =
    ap spines m ∙ spines_same j change (all_moved true going p ss) in
    let t = ap (λ (r : Row). length (text_of r)) (made_same going p j change ss o i k) in
    ap (λ (n : ℕ). rule_broken n (length (text_of (made going p (changed_at j change ss)))) given) w
    ∙ ap (λ (n : ℕ). rule_broken (spines (all_moved true going p ss)) n given) t)

known_ahead : (going : Bool) (j : ℕ) (change : Change) (ss : List Source) (given : ℕ)
    → IsOpenAt j ss → AllKnown going ss
    → ahead_of going (changed_at j change ss) given ≡ ahead_of going ss given
known_ahead = grind (arith, nat_tests, known_same, known_not_lost, missing_none, earliest_same, at_same)

-- what a merge that doesn't wait knows
pub data Ahead (going : Bool) (ss : List Source) (given : ℕ) : Type 0 where
  Lost : list_any (is_lost going) ss ≡ true → Ahead going ss given
  Known : AllKnown going ss → Ahead going ss given

pub seen : (going : Bool) (ss : List Source) (given : ℕ)
    → is_waiting (ahead_of going ss given) ≡ false → Ahead going ss given
seen = grind (arith, nat_tests, none_missing)

lost_ahead : (going : Bool) (ss : List Source) (given : ℕ) → list_any (is_lost going) ss ≡ true
    → ahead_of going ss given ≡ NothingMore
lost_ahead going ss given h = rw h refl

same_ahead : (going : Bool) (j : ℕ) (change : Change) (ss : List Source) (given : ℕ) → IsOpenAt j ss
    → Ahead going ss given → ahead_of going (changed_at j change ss) given ≡ ahead_of going ss given
same_ahead = grind (arith, nat_tests, lost_ahead, lost_same, known_ahead)

-- What can be done next stays, unless a record is waited for.
pub ahead_kept : (j : ℕ) (change : Change) (m : Merge) → IsOpenAt j m.sources
    → is_waiting (ahead m) ≡ false → ahead (changed_in j change m) ≡ ahead m
ahead_kept j change m i h =
    let s = seen (any_due m.sources) m.sources m.given h in
    ap (λ (b : Bool). ahead_of b (changed_at j change m.sources) m.given) (due_same j change m.sources)
    ∙ same_ahead (any_due m.sources) j change m.sources m.given i s
