-- Records that break no path rule.
use Rattle.std.proofs.Common.{◌≡◌, ◌≢◌, ◌∙◌, refl, ℕ, ◌+◌, ◌≤◌, Bool, true, false, arith}
use Rattle.std.proofs.Common.{List, [], ◌∷◌, length, map}
use Rattle.std.specs.Prelude.{◌==◌, None}
use Rattle.std.specs.List.{list_any, list_all, find}
use Rattle.std.proofs.lemmas.Bool.{or_parts}
use Rattle.std.proofs.lemmas.Bool.Decides.{nat_tests}
use Rattle.std.proofs.lemmas.List.{length-map}
use Rattle.hum_score.specs.Spelling.{is_empty}
use Rattle.hum_score.specs.declared.spines.Sign.{Sign}
use Rattle.hum_score.specs.declared.spines.Sign.TheVariants.{End}
use Rattle.hum_score.specs.Sign.{sign_of, is_exclusive, all_plain}
use Rattle.hum_score.specs.Rules.{breaks, breaks_as_text, in_order, has_unnamed, has_bare}
use Rattle.hum_score.specs.Rules.{has_lone_join, has_mixed_join}
use Rattle.hum_score.specs.Spines.{Spines, exchanges}
use Rattle.hum_path.specs.Onward.{beginnings, onward}
use Rattle.hum_path.proofs.Onwards.{names_onward}
use Rattle.hum_path.proofs.Staying.{plain_breaks}
use Rattle.hum_assemble.specs.Source.{is_end}
use Rattle.hum_assemble.proofs.Beside.{Leads}

-- an interpretation that obeys the rules, where there are few spines
pub leads_sound : (names tokens result : List (List ℕ)) → Leads names tokens result
    → length result ≤ 4096 → (length names == 0) ≡ false
    → find (breaks (Spines names) tokens) in_order ≡ None
leads_sound = grind (arith, nat_tests, length-map)

-- local comments and data
pub text_sound : (names tokens : List (List ℕ)) → length names ≡ length tokens
    → list_any is_empty names ≡ false → (length names == 0) ≡ false
    → find (breaks_as_text (Spines names) tokens) in_order ≡ None
text_sound = grind (arith, nat_tests)

-- an interpretation that asks nothing
some_tokens : (names tokens : List (List ℕ)) → length names ≡ length tokens → (length names == 0) ≡ false → tokens ≢ []
some_tokens = grind (arith, nat_tests)

pub plain_sound : (names tokens : List (List ℕ)) → length names ≡ length tokens
    → list_any is_empty names ≡ false → (length names == 0) ≡ false → length names ≤ 4096
    → all_plain tokens ≡ true → find (breaks (Spines names) tokens) in_order ≡ None
plain_sound names tokens wide named some few plain =
    plain_breaks (Spines names) tokens plain (some_tokens names tokens wide some) few ∙ text_sound names tokens wide named some

-- a record that ends all spines
ends_unnamed : (names : List (List ℕ)) (signs : List Sign) → list_all is_end signs ≡ true
    → list_any is_empty names ≡ false → has_unnamed names signs ≡ false
ends_unnamed (x ∷ names) (End ∷ signs) h n =
    grind (arith, nat_tests, ends_unnamed names signs h (or_parts (is_empty x) (list_any is_empty names) n).1)
ends_unnamed names signs h n = grind (arith, nat_tests)

ends_name_none : (signs : List Sign) → list_all is_end signs ≡ true → list_any is_exclusive signs ≡ false
ends_name_none (End ∷ signs) h = ends_name_none signs h
ends_name_none signs h = grind (arith, nat_tests)

ends_lone : (signs : List Sign) → list_all is_end signs ≡ true → has_lone_join false signs ≡ false
ends_lone (End ∷ signs) h = ends_lone signs h
ends_lone signs h = grind (arith, nat_tests)

ends_mixed : (names : List (List ℕ)) (signs : List Sign) → list_all is_end signs ≡ true → has_mixed_join names signs ≡ false
ends_mixed (x ∷ names) (End ∷ signs) h = grind (arith, nat_tests, ends_mixed names signs h)
ends_mixed names signs h = grind (arith, nat_tests)

pub ends_exchange_none : (j : ℕ) (signs : List Sign) → list_all is_end signs ≡ true → exchanges j signs ≡ []
ends_exchange_none j (End ∷ signs) h = ends_exchange_none (j + 1) signs h
ends_exchange_none j signs h = grind (arith, nat_tests)

pub ends_leave_none : (b : Bool) (signs : List Sign) (xs : List (List ℕ)) → list_all is_end signs ≡ true
    → onward (λ _. []) (beginnings b signs) signs xs ≡ []
ends_leave_none b (End ∷ signs) (x ∷ xs) h = ends_leave_none false signs xs h
ends_leave_none b signs xs h = grind (arith, nat_tests)

pub ends_lead : (names tokens : List (List ℕ)) → length names ≡ length tokens
    → list_any is_empty names ≡ false → has_bare tokens ≡ false
    → list_all is_end (map sign_of tokens) ≡ true → Leads names tokens []
ends_lead names tokens wide named bare h =
    let none = ends_name_none (map sign_of tokens) h in
    let pair = ends_exchange_none 0 (map sign_of tokens) h in
    record {
      wide = wide;
      unnamed = ends_unnamed names (map sign_of tokens) h named;
      bare = bare;
      steers = rw none refl;
      lone = ends_lone (map sign_of tokens) h;
      pair = rw pair refl;
      mixed = ends_mixed names (map sign_of tokens) h;
      leads = names_onward names tokens wide (rw pair refl) ∙ ends_leave_none false (map sign_of tokens) _ h;
    }
