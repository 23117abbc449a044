-- Without the letter that drops all interpretations, scores stay scores.
use Rattle.std.proofs.Common.{◌≡◌, refl, ℕ, Bool, true, false, not, ◌&&◌, ◌||◌, ◌==◌}
use Rattle.std.proofs.Common.{List, [], ◌∷◌, length, cond, inl, inr, ◌⊎◌, arith}
use Rattle.std.specs.Prelude.{None, Result, Ok}
use Rattle.std.specs.List.{list_all}
use Rattle.std.specs.Str.{bytes_eq}
use lib.Chars.{codes}
use Rattle.std.proofs.lemmas.Bool.Decides.{nat_tests}
use Rattle.std.proofs.lemmas.Slice.Eq.{bytes_eq-Decides}
use Rattle.hum_score.specs.declared.records.SpinedKind.TheVariants.{Interpretation}
use Rattle.hum_score.specs.Row.{Row, Spined}
use Rattle.hum_score.specs.Sign.{all_plain}
use Rattle.hum_score.specs.Spines.{Path, after}
use Rattle.hum_score.specs.Rules.{fault_of}
use Rattle.hum_score.specs.Score.{IsOpen, path_after}
use Rattle.hum_path.proofs.Staying.{plain_after}
use Rattle.hum_stage.specs.declared.faults.Rule.{Rule}
use Rattle.hum_score.specs.InOrder.{through, Follow}
use Rattle.hum_stage.specs.Meaning.{KeepsScore}
use Rattle.hum_stage.specs.Decided.{decisions, limit, Keeps}
use Rattle.hum_stage.proofs.Keeping.{at_once_keeps}
use Rattle.hum_choices.specs.declared.rid.RidOptions.{RidOptions}
use Rattle.hum_rid.specs.Rid.{rid, drops}

stars_plain : (tokens : List (List ℕ)) → list_all (bytes_eq (codes "*")) tokens ≡ true → all_plain tokens ≡ true
stars_plain [] h = refl
stars_plain (t ∷ ts) h = grind (arith, nat_tests, bytes_eq-Decides, stars_plain ts)

nothing : (i n t : Bool) → (i && (n && false)) || (t && (false && true)) ≡ true → ⊥
nothing = grind (arith, nat_tests)

pick : (l p i n t : Bool) → (i && (n && l)) || (t && (p && not l)) ≡ true → (l ≡ true) ⊎ (p ≡ true)
pick true p i n t h = inl refl
pick false true i n t h = inr refl
pick false false i n t h = absurd (nothing i n t h)

empty : (i t : Bool) → (i && (false && true)) || (t && (true && false)) ≡ true → ⊥
empty = grind (arith, nat_tests)

-- what is dropped is plain, and isn't empty
dropped_plain : (options : RidOptions) (tokens : List (List ℕ)) → options.interpretations ≡ false
    → drops options (Spined Interpretation tokens) ≡ true → (all_plain tokens ≡ true) × (tokens ≡ [] → ⊥)
dropped_plain options [] off h = absurd (empty options.null_interpretations options.tandems (rw off at h))
dropped_plain options (t ∷ ts) off h =
    let stars = list_all (bytes_eq (codes "*")) (t ∷ ts) in
    let which = pick stars (all_plain (t ∷ ts)) options.null_interpretations (not (length (t ∷ ts) == 0)) options.tandems (rw off at h) in
    (elim which as (λ _. all_plain (t ∷ ts) ≡ true) [ inl w ↦ stars_plain (t ∷ ts) w | inr w ↦ w ], λ e. cc)

stays : (options : RidOptions) (path : Path) (row : Row) → options.interpretations ≡ false
    → fault_of path row ≡ None → drops options row ≡ true → after path row ≡ path
stays options path (Spined Interpretation tokens) off sound h =
    let p = dropped_plain options tokens off h in (plain_after path tokens p.0 p.1 sound).0
stays options path row off sound h = refl

rid_next : (options : RidOptions) (past : List Row) (row : Row) (given : Path) (rows : List Row)
    → options.interpretations ≡ false → IsOpen (row ∷ past) → given ≡ path_after past
    → rid options past row ≡ Ok rows → Follow given rows × (through given rows ≡ path_after (row ∷ past))
rid_next options past row given rows off sound leads e = by_test (drops options row) refl e
  where
    by_test : (b : Bool) → drops options row ≡ b
        → ◌≡◌ {A = Result (List Row) Rule} (Ok (cond b [] (row ∷ []))) (Ok rows)
        → Follow given rows × (through given rows ≡ path_after (row ∷ past))
    by_test true w e = grind (arith, nat_tests, stays options (path_after past) row off sound.1 w)
    by_test false w e = grind (arith, nat_tests)

rid_steps : (options : RidOptions) → options.interpretations ≡ false
    → Keeps (rid options) (λ past given. given ≡ path_after past)
rid_steps options off = record {
  opening = refl;
  next = λ past row given rows sound leads e. rid_next options past row given rows off sound leads e;
  closing = λ past given sound end leads. rw leads end;
}

pub rid_keeps : (options : RidOptions) → options.interpretations ≡ false
    → KeepsScore (λ p. limit 4294967295 (decisions (rid options) [] p))
rid_keeps options off = at_once_keeps (rid options) (λ past given. given ≡ path_after past) (rid_steps options off)
