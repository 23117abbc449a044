-- Records of null tokens.
use Rattle.std.proofs.Common.{◌≡◌, ◌≢◌, ℕ, zero, suc, ◌≤◌, List, [], ◌∷◌, length, Bool, true, false, refl, arith}
use Rattle.std.specs.Prelude.{◌&&◌, replicate}
use Rattle.std.specs.List.{list_all}
use Rattle.std.proofs.lemmas.Slice.Eq.{bytes_eq-Decides}
use lib.Chars.{codes}
use Rattle.hum_record.specs.Contents.{is_null}

one_null : (token : List ℕ) (tokens rest : List (List ℕ)) (b : Bool) → is_null token ≡ b
    → (b && list_all is_null tokens) ≡ true
    → (list_all is_null tokens ≡ true → tokens ≡ rest) → token ∷ tokens ≡ codes "." ∷ rest
one_null token tokens rest false is h others = cc
one_null token tokens rest true is h others =
    let null : codes "." ≡ token = (bytes_eq-Decides (codes ".") token).0 is in
    let same = others h in
    cc

-- tokens that are all null are so many null tokens
pub all_nulls : (tokens : List (List ℕ)) → list_all is_null tokens ≡ true
    → tokens ≡ replicate (length tokens) (codes ".")
all_nulls [] h = refl
all_nulls (token ∷ tokens) h =
    one_null token tokens (replicate (length tokens) (codes ".")) (is_null token) refl h (all_nulls tokens)

-- a record of null tokens has one
pub some_null : (width : ℕ) → replicate width (codes ".") ≢ [] → 1 ≤ width
some_null zero some = absurd (some refl)
some_null (suc width) some = omega arith
