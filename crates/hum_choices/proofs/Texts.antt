-- Texts that are copied one by one.
use Rattle.std.proofs.Common.{◌≡◌, refl, ℕ, List, [], ◌∷◌, ◌++◌, length, ◌+◌, ◌<◌, drop, get_or, drop-cons, add-one, append_assoc}
use Rattle.std.proofs.lemmas.List.{map-append}
use Rattle.std.specs.declared.vec.Vec.{Vec}
use Rattle.std.specs.declared.alloc.Global.{Global}
use Rattle.hum_score.specs.Texts.{texts}

-- one more name is copied
pub next_text : (done names : List (Vec ℕ Global)) (i : ℕ) (copy name : Vec ℕ Global) → i < length names → name ≡ get_or names i name
    → copy.items ≡ name.items → texts (done ++ copy ∷ []) ++ texts (drop (i + 1) names) ≡ texts done ++ texts (drop i names)
next_text done names i copy name below is same =
    rw (map-append (λ (v : Vec ℕ Global). v.items) done (copy ∷ []), append_assoc, drop-cons names i name below, ← is, same, add-one) refl
