-- What is left by rid.
use Rattle.std.proofs.lemmas.Bool.Decides.{nat_tests}
use Rattle.std.proofs.Common.{◌≡◌, ◌∙◌, refl, sym, ap, ℕ, ◌≤◌, Bool, true, false, ◌||◌}
use Rattle.std.proofs.Common.{List, [], ◌∷◌, ◌++◌, length, cond, arith}
use Rattle.std.specs.Prelude.{None}
use Rattle.hum_score.specs.Row.{Row}
use Rattle.hum_stage.specs.Meaning.{output, own_fault}
use Rattle.hum_stage.specs.Decided.{decisions}
use Rattle.hum_choices.specs.declared.rid.RidOptions.{RidOptions}
use Rattle.hum_rid.specs.Rid.{rid, drops, meaning}
use Rattle.hum_laws.specs.declared.given.Given.{Given}
use Rattle.hum_laws.specs.Piped.{IsAlone, IsPiped, Same}
use Rattle.hum_laws.specs.Letters.{joint}
use Rattle.hum_laws.proofs.Booleans.{shuffle, spread, pair, or-self}
use Rattle.hum_stage.specs.Laws.{settled-limit_le}
use Rattle.hum_laws.proofs.Plain.{IsPlain, all_made, plain_limit}

-- what is left of a record
abbrev pub left : RidOptions → List Row → Row → List Row
left options past row = cond (drops options row) [] (row ∷ [])

rid_plain : (options : RidOptions) → IsPlain (rid options) (left options)
rid_plain = grind (arith, nat_tests)

-- what rid gives, and that it refuses nothing
pub rid_gives : (stage : ℕ) (options : RidOptions) (p : List Row) → length p ≤ 4294967295
    → (output (meaning stage options) p ≡ all_made (left options) [] p) × (own_fault (meaning stage options) p ≡ None)
rid_gives stage options p few =
    let h = plain_limit (rid options) (left options) (rid_plain options) 4294967295 1 [] p few in
    (h.0, rw h.1 refl)

-- a record is dropped by the letters of both where those of one drop it
drops_joint : (a b : RidOptions) (row : Row) → drops (joint a b) row ≡ drops a row || drops b row
drops_joint = grind (arith, nat_tests, spread, pair, shuffle)

-- in turn is at once
left_in_turn : (a b : RidOptions) (past behind p : List Row)
    → all_made (left b) behind (all_made (left a) past p) ≡ all_made (left (joint a b)) past p
left_in_turn a b past behind [] = refl
left_in_turn a b past behind (row ∷ p) =
    go (drops a row) refl (drops b row) refl (left_in_turn a b (row ∷ past) behind p) (left_in_turn a b (row ∷ past) (row ∷ behind) p)
  where
    go : (x : Bool) → drops a row ≡ x → (y : Bool) → drops b row ≡ y
        → all_made (left b) behind (all_made (left a) (row ∷ past) p) ≡ all_made (left (joint a b)) (row ∷ past) p
        → all_made (left b) (row ∷ behind) (all_made (left a) (row ∷ past) p) ≡ all_made (left (joint a b)) (row ∷ past) p
        → all_made (left b) behind (cond (drops a row) [] (row ∷ []) ++ all_made (left a) (row ∷ past) p)
        ≡ cond (drops (joint a b) row) [] (row ∷ []) ++ all_made (left (joint a b)) (row ∷ past) p
    go true e y f dropped kept = rw (drops_joint a b row, e) dropped
    go false e true f dropped kept = rw (drops_joint a b row, e, f) kept
    go false e false f dropped kept = rw (drops_joint a b row, e, f) (ap (λ (x : List Row). row ∷ x) kept)

-- What both sides give of a score is the same.
pub in_turn_same : (a b : RidOptions) (p : List Row) (one other : Given) → length p ≤ 4294967295
    → IsPiped (meaning 1 a) (meaning 2 b) p one → IsAlone (meaning 1 (joint a b)) p other → Same one other
in_turn_same a b p one other few h k =
    let first = rid_gives 1 a p few in
    let between = output (meaning 1 a) p in
    let second = rid_gives 2 b between (settled-limit_le 4294967295 (decisions (rid a) [] p)) in
    let alone = rid_gives 1 (joint a b) p few in (
      h.0 ∙ second.0 ∙ ap (all_made (left b) []) first.0 ∙ left_in_turn a b [] [] p ∙ sym alone.0 ∙ sym k.0,
      h.1 ∙ rw (first.1, second.1, alone.1) refl ∙ sym k.1,
    )

left_twice : (a : RidOptions) (past p : List Row) → all_made (left (joint a a)) past p ≡ all_made (left a) past p
left_twice = grind (arith, nat_tests, drops_joint, or-self)

-- What is left by the same letters twice is what is left by them once.
pub twice_same : (a : RidOptions) (p : List Row) (once twice : Given) → length p ≤ 4294967295
    → IsAlone (meaning 1 a) p once → IsPiped (meaning 1 a) (meaning 2 a) p twice → Same once twice
twice_same a p once twice few h k =
    let first = rid_gives 1 a p few in
    let between = output (meaning 1 a) p in
    let second = rid_gives 2 a between (settled-limit_le 4294967295 (decisions (rid a) [] p)) in (
      h.0 ∙ first.0 ∙ sym (left_twice a [] p) ∙ sym (left_in_turn a a [] [] p) ∙ ap (all_made (left a) []) (sym first.0) ∙ sym second.0 ∙ sym k.0,
      h.1 ∙ rw (first.1, second.1) refl ∙ sym k.1,
    )
