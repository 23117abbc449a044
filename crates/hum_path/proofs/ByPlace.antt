-- What a loop over places goes by: what is told of a list from a place on, at the place and behind it.
use Rattle.std.proofs.lemmas.Grind.{common_steps}
use Rattle.std.proofs.Common.{◌≡◌, ◌+◌, ◌<◌, ◌≤◌, ◌||◌, if◌then◌else◌, ℕ, Bool, false, List, ◌∷◌}
use Rattle.std.proofs.Common.{length, drop, get_or, refl, arith}
use Rattle.std.specs.declared.vec.Vec.{Vec}
use Rattle.std.specs.declared.alloc.Global.{Global}
use Rattle.std.specs.List.{list_any}
use Rattle.std.proofs.lemmas.List.{drop_all}
use Rattle.hum_score.specs.Spelling.{is_empty}
use Rattle.hum_score.specs.declared.spines.Sign.{Sign}
use Rattle.hum_score.specs.Sign.{is_exchange}
use Rattle.hum_score.specs.Texts.{texts}
use Rattle.hum_score.specs.Spines.{exchanges}
use Rattle.hum_score.specs.Rules.{stays_unnamed, has_unnamed}

-- the first of the places left, and those behind it
pub nameless_at : (names : List (Vec ℕ Global)) (j : ℕ) (name : Vec ℕ Global) {b : Bool}
    → j < length names → name ≡ get_or names j name → is_empty name.items ≡ b
    → list_any is_empty (texts (drop j names)) ≡ (b || list_any is_empty (texts (drop (j + 1) names)))
nameless_at = grind (arith, common_steps)

pub unnamed_at : (names : List (Vec ℕ Global)) (signs : List Sign) (j : ℕ) (name : Vec ℕ Global) (d : Sign) {b : Bool}
    → length names ≡ length signs → j < length signs → name ≡ get_or names j name → stays_unnamed name.items (get_or signs j d) ≡ b
    → has_unnamed (texts (drop j names)) (drop j signs) ≡ (b || has_unnamed (texts (drop (j + 1) names)) (drop (j + 1) signs))
unnamed_at = grind (arith, common_steps)

pub none_unnamed : (names : List (Vec ℕ Global)) (signs : List Sign) (j : ℕ) → length names ≡ length signs → length signs ≤ j
    → has_unnamed (texts (drop j names)) (drop j signs) ≡ false
none_unnamed names signs j same past = rw (drop_all j names (omega (arith, same, past))) refl

-- an exchanged spine's place is listed
pub exchanges_at : (signs : List Sign) (j : ℕ) (d : Sign) {b : Bool} → j < length signs → is_exchange (get_or signs j d) ≡ b
    → exchanges j (drop j signs)
    ≡ (if b then j ∷ exchanges (j + 1) (drop (j + 1) signs) else exchanges (j + 1) (drop (j + 1) signs))
exchanges_at = grind (arith, common_steps)
