-- Tokens of a record, filled one by one.
use Rattle.std.proofs.lemmas.Grind.{common_steps}
use Rattle.std.proofs.lemmas.Bool.Decides.{nat_tests}
use Rattle.std.proofs.Common.{◌≡◌, ◌≢◌, refl, sym, ap, ℕ, suc, ◌+◌, ◌<◌, ◌≤◌, Bool, false, List, [], ◌∷◌, ◌++◌, length, take, get_or}
use Rattle.std.proofs.Common.{arith, add-one, true, Option, None, Some}
use Rattle.std.specs.Prelude.{Result, OnOk}
use Rattle.std.specs.List.{list_any}
use Rattle.hum_score.specs.declared.records.SpinedKind.{SpinedKind}
use Rattle.hum_score.specs.declared.records.SpinedKind.TheVariants.{Values}
use Rattle.hum_record.specs.Building.{Draft}
use Rattle.hum_record.specs.RecordDraft.{Holds}
use Rattle.hum_score.specs.Spelling.{IsToken, has_byte}
use Rattle.hum_record.specs.Contents.{is_null}
use Rattle.hum_path.proofs.Carry.{on_ok}
use Rattle.hum_ditto.specs.Ditto.{written, filled, all_filled}

-- a record with tokens becomes one with tokens
pub some_filled : (parentheses : Bool) (sources : List (Option (List ℕ))) (tokens : List (List ℕ)) → tokens ≢ []
    → all_filled parentheses sources tokens ≢ []
some_filled parentheses sources [] some e = some refl
some_filled parentheses [] (token ∷ tokens) some e = cc
some_filled parentheses (source ∷ sources) (token ∷ tokens) some e = cc

pub filled_length : (parentheses : Bool) (sources : List (Option (List ℕ))) (tokens : List (List ℕ))
    → length (all_filled parentheses sources tokens) ≡ length tokens
filled_length parentheses (source ∷ sources) (token ∷ tokens) = ap suc (filled_length parentheses sources tokens)
filled_length parentheses sources tokens = grind (arith, nat_tests)

-- one token more
filled_next : (parentheses : Bool) (sources : List (Option (List ℕ))) (tokens : List (List ℕ)) (j : ℕ)
    → j < length tokens → length sources ≡ length tokens
    → all_filled parentheses (take (suc j) sources) (take (suc j) tokens)
    ≡ all_filled parentheses (take j sources) (take j tokens) ++ filled parentheses (get_or sources j None) (get_or tokens j []) ∷ []
filled_next parentheses (source ∷ sources) (token ∷ tokens) (suc j) below same =
    ap (λ (made : List (List ℕ)). filled parentheses source token ∷ made)
    (filled_next parentheses sources tokens j (omega (arith, below)) (omega (arith, same)))
filled_next parentheses sources tokens j h k = grind (arith, nat_tests)

pub fill_more : (parentheses : Bool) (sources : List (Option (List ℕ))) (tokens : List (List ℕ)) (j : ℕ)
    → j < length tokens → length sources ≡ length tokens
    → all_filled parentheses (take j sources) (take j tokens) ++ filled parentheses (get_or sources j None) (get_or tokens j []) ∷ []
    ≡ all_filled parentheses (take (j + 1) sources) (take (j + 1) tokens)
fill_more parentheses sources tokens j below same = rw add-one (sym (filled_next parentheses sources tokens j below same))

-- that was all of them
pub fill_all : (parentheses : Bool) (sources : List (Option (List ℕ))) (tokens : List (List ℕ)) (j : ℕ)
    → length tokens ≤ j → length sources ≡ length tokens
    → all_filled parentheses (take j sources) (take j tokens) ≡ all_filled parentheses sources tokens
fill_all = grind (arith, common_steps)

pub same_token : (parentheses : Bool) (source : Option (List ℕ)) (token : List ℕ) → is_null token ≡ false
    → filled parentheses source token ≡ token
same_token = grind (arith, nat_tests)

-- where no token is null, none changes
pub nothing_filled : (parentheses : Bool) (sources : List (Option (List ℕ))) (tokens : List (List ℕ))
    → list_any is_null tokens ≡ false → all_filled parentheses sources tokens ≡ tokens
nothing_filled parentheses (source ∷ sources) (token ∷ tokens) h =
    grind (arith, nat_tests, nothing_filled parentheses sources tokens)
nothing_filled parentheses sources tokens h = grind (arith, nat_tests)

-- a null token that repeats another
pub repeats : (parentheses : Bool) (source : Option (List ℕ)) (token repeated : List ℕ) (b : Bool) → Some repeated ≡ source → is_null token ≡ true
    → b ≡ parentheses → filled parentheses source token ≡ written b repeated
repeats parentheses source token repeated b is null same = rw (← is, null, same) refl

lacks_both : (b : ℕ) (xs ys : List ℕ) → has_byte b xs ≡ false → has_byte b ys ≡ false → has_byte b (xs ++ ys) ≡ false
lacks_both = grind (arith, common_steps)

-- a data token in parentheses is one
pub in_parentheses : (token : List ℕ) → IsToken Values token → IsToken Values (written true token)
in_parentheses = grind (arith, nat_tests, lacks_both)

-- a token was pushed, and is what another becomes
pub pushes : {A E : Type 0} (result : Result A E) (before after : Draft) (long long' : Bool) (token made : List ℕ) → made ≡ token
    → OnOk result ((kind : SpinedKind) (tokens : List (List ℕ)) → Holds kind before long tokens → Holds kind after long' (tokens ++ token ∷ []))
    → OnOk result ((tokens : List (List ℕ)) → Holds Values before long tokens → Holds Values after long' (tokens ++ made ∷ []))
pushes result before after long long' token made is = on_ok result (λ pushed tokens held. rw is (pushed Values tokens held))
