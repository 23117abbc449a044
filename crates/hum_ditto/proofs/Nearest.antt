-- What is remembered of a column is what a null token below it repeats.
use Rattle.std.proofs.Common.{◌≡◌, refl, ℕ, Bool, true, false, List, [], ◌∷◌, map, cond, Option, None, Some, arith}
use Rattle.std.specs.List.{find}
use Rattle.std.proofs.lemmas.Bool.Decides.{nat_tests}
use Rattle.hum_score.specs.declared.records.SpinedKind.TheVariants.{Interpretation}
use Rattle.hum_score.specs.Spelling.{kind_of_token}
use Rattle.hum_score.specs.Sign.{sign_of, is_exclusive}
use Rattle.hum_path.specs.Chains.{reach}
use Rattle.hum_path.specs.Memories.{remembered}
use Rattle.hum_ditto.specs.Ditto.{may_repeat, repeated}
use Rattle.hum_ditto.specs.Memory.{last_seen}

-- the nearest of a reach, once one cell more is in it
one_more : (e : Bool) (m : Bool) (token : List ℕ) (found : Option (List ℕ)) (rest : List (List ℕ)) (test : List ℕ → Bool)
    → (e ≡ true → m ≡ false) → found ≡ find test rest
    → cond e None (cond m (Some token) found) ≡ cond m (Some token) (find test (cond e [] rest))
one_more = grind (arith, nat_tests)

-- an exclusive interpretation is an interpretation
pub exclusive_kind : (token : List ℕ) → is_exclusive (sign_of token) ≡ true → kind_of_token token ≡ Interpretation
exclusive_kind = grind (arith, nat_tests)

-- and no data
pub not_repeated : (skip : Option (List ℕ)) (token : List ℕ) → is_exclusive (sign_of token) ≡ true → may_repeat skip token ≡ false
not_repeated skip token h = rw (exclusive_kind token h) refl

pub remembers_nearest : (skip : Option (List ℕ)) (above : List (List ℕ)) → remembered (last_seen skip) None above ≡ repeated skip above
remembers_nearest skip [] = refl
remembers_nearest skip (token ∷ above) =
    grind (arith, nat_tests, remembers_nearest skip above, one_more, not_repeated)

pub all_remembered : (skip : Option (List ℕ)) (columns : List (List (List ℕ)))
    → map (remembered (last_seen skip) None) columns ≡ map (repeated skip) columns
all_remembered = grind (arith, nat_tests, remembers_nearest)
