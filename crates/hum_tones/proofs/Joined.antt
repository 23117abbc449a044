-- Texts that are joined by spaces make a lawful token.
use Rattle.std.proofs.lemmas.Grind.{common_steps}
use Rattle.std.proofs.Common.{◌≡◌, ◌≢◌, refl, ℕ, ◌==◌, false, List, [], ◌∷◌, ◌++◌, arith}
use Rattle.std.specs.List.{AllByRecursion}
use Rattle.std.proofs.lemmas.List.Folds.{list_any-append}
use Rattle.std.proofs.lemmas.Bool.{or_parts}
use Rattle.std.proofs.lemmas.Bool.Decides.{nat_tests}
use Rattle.hum_score.specs.declared.records.SpinedKind.TheVariants.{Values}
use Rattle.hum_score.specs.Spelling.{has_byte, is_comment, kind_of_token, IsToken}
use Rattle.hum_tones.specs.Subtokens.{joined}
use Rattle.hum_tones.proofs.Parts.{IsPiece}

-- texts, each with a space behind it
abbrev pub spaced : List (List ℕ) → List ℕ
spaced [] = []
spaced (text ∷ texts) = text ++ (32 ∷ spaced texts)

-- without the last space
pub spaced_joined : (text : List ℕ) (texts : List (List ℕ)) → spaced (text ∷ texts) ≡ joined (text ∷ texts) ++ 32 ∷ []
spaced_joined text [] = refl
spaced_joined text (next ∷ texts) = grind (arith, common_steps, spaced_joined next texts)

spaced_lacks : (c : ℕ) (texts : List (List ℕ)) → (32 == c) ≡ false → AllByRecursion (λ text. has_byte c text ≡ false) texts → has_byte c (spaced texts) ≡ false
spaced_lacks c [] apart all = refl
spaced_lacks c (text ∷ texts) apart all = rw (list_any-append (λ x. x == c) text (32 ∷ spaced texts), all.0, apart, spaced_lacks c texts apart all.1) refl

front_lacks : (c : ℕ) (front more : List ℕ) → has_byte c (front ++ more) ≡ false → has_byte c front ≡ false
front_lacks c front more h = (or_parts (has_byte c front) (has_byte c more) (rw (list_any-append (λ x. x == c) front more) at h)).0

pub joined_lacks : (c : ℕ) (text : List ℕ) (texts : List (List ℕ)) → (32 == c) ≡ false →
    AllByRecursion (λ text. has_byte c text ≡ false) (text ∷ texts) → has_byte c (joined (text ∷ texts)) ≡ false
joined_lacks c text texts apart all =
    front_lacks c (joined (text ∷ texts)) (32 ∷ []) (rw (spaced_joined text texts) at (spaced_lacks c (text ∷ texts) apart all))

pub fronts : (xs ys : List ℕ) (a b : ℕ) → xs ++ a ∷ [] ≡ ys ++ b ∷ [] → xs ≡ ys
fronts = grind (arith, common_steps)

each : (P Q : List ℕ → Type 0) (texts : List (List ℕ)) → ((text : List ℕ) → P text → Q text) → AllByRecursion P texts → AllByRecursion Q texts
each P Q [] f all = tt
each P Q (text ∷ texts) f all = (f text all.0, each P Q texts f all.1)

kind_of_joined : (text : List ℕ) (texts : List (List ℕ)) → text ≢ [] → kind_of_token (joined (text ∷ texts)) ≡ kind_of_token text
kind_of_joined = grind (arith, nat_tests)

pub some_joined : (text : List ℕ) (texts : List (List ℕ)) → text ≢ [] → joined (text ∷ texts) ≢ []
some_joined text [] some = some
some_joined [] (next ∷ texts) some = absurd (some refl)
some_joined (x ∷ xs) (next ∷ texts) some = λ e. cc

-- what begins as data does is no comment
pub no_comment : (text : List ℕ) → kind_of_token text ≡ Values → is_comment text ≡ false
no_comment = grind (arith, nat_tests)

pub joined_lawful : (texts : List (List ℕ)) → AllByRecursion IsPiece texts → IsToken Values (joined texts)
joined_lawful = grind (arith, nat_tests, no_comment, kind_of_joined, some_joined, joined_lacks, each)
