-- What is chosen of a list, and what is kept of a record.
use Rattle.std.proofs.lemmas.Grind.{common_steps}
use Rattle.std.proofs.Common.{◌≡◌, ◌≢◌, ap, ℕ, Bool, true, false, not, List, [], ◌∷◌, ◌++◌, length, arith, Option}
use Rattle.std.proofs.Common.{◌+◌, ◌<◌, ◌≤◌, drop, get_or}
use Rattle.std.proofs.lemmas.Bool.Decides.{nat_tests}
use Rattle.std.specs.List.{list_any, list_all}
use Rattle.std.specs.Option.{option_to_list}
use Rattle.hum_score.specs.declared.records.SpinedKind.{SpinedKind}
use Rattle.hum_score.specs.Row.{Row, Spined, width_of, chosen, with_chosen}
use Rattle.hum_record.proofs.Left.{chosen_filled}
use Rattle.hum_columns.specs.Spread.{filled}
use Rattle.hum_columns.specs.Following.{AsWide}
use Rattle.hum_choices.specs.Extract.{Choice}
use Rattle.hum_extract.specs.Choice.{is_chosen, each_chosen}
use Rattle.hum_extract.specs.Kept.{kept}

pub chosen_whole : {X : Type 0} (fs : List Bool) (xs : List X) → list_all (λ b. b) fs ≡ true
    → length fs ≡ length xs → chosen fs xs ≡ xs
chosen_whole (true ∷ fs) (x ∷ xs) h e = ap (λ rest. x ∷ rest) (chosen_whole fs xs h (omega (arith, e)))
chosen_whole fs xs h k = grind (arith, common_steps)

pub chosen_nothing : {X : Type 0} (fs : List Bool) (xs : List X) → list_any (λ b. b) fs ≡ false → chosen fs xs ≡ []
chosen_nothing (false ∷ fs) (x ∷ xs) h = chosen_nothing fs xs h
chosen_nothing fs xs h = grind (arith, nat_tests)

pub filled_one : (kind : SpinedKind) (ts : List (List ℕ)) → ts ≢ [] → filled kind (ts ∷ []) ≡ Spined kind ts ∷ []
filled_one = grind (arith, nat_tests)

-- What is kept of a record

-- nothing of it
pub none_kept : (fs : List Bool) (row : Row) → width_of row ≢ 0 → list_any (λ b. b) fs ≡ false → [] ≡ kept fs row
none_kept = grind (arith, nat_tests, chosen_nothing)

-- some of it
pub some_kept : (fs : List Bool) (row : Row) → width_of row ≢ 0 → AsWide fs row → list_any (λ b. b) fs ≡ true
    → with_chosen fs row ∷ [] ≡ kept fs row
some_kept = grind (arith, nat_tests, filled_one, chosen_filled)

-- tests of tests
pub was_true : (b : Bool) → not b ≡ true → b ≡ false
was_true = grind (arith, nat_tests)

pub was_false : (b : Bool) → not b ≡ false → b ≡ true
was_false = grind (arith, nat_tests)

-- where nothing is due there is no first one
pub no_first : (first : Option Row) (others : List Row) → option_to_list first ++ others ≡ [] → option_to_list first ≡ []
no_first = grind (arith, nat_tests)

-- and no other
pub no_others : (first : Option Row) (others : List Row) → option_to_list first ++ others ≡ [] → others ≡ []
no_others = grind (arith, nat_tests)

-- which columns are chosen, one name after another
module _ (choice : Choice) (width j : ℕ) (names : List (List ℕ)) (done all : List Bool)
    (whole : done ++ each_chosen choice width j (drop j names) ≡ all) where
  pub one_more_flag : j < length names
      → (done ++ is_chosen choice width (j + 1) (get_or names j []) ∷ []) ++ each_chosen choice width (j + 1) (drop (j + 1) names) ≡ all
  one_more_flag = grind (arith, common_steps)

  pub no_more_flags : length names ≤ j → done ≡ all
  no_more_flags = grind (arith, common_steps)
