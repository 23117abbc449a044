-- The first duration of some subtokens.
use Rattle.std.proofs.lemmas.Bool.Decides.{nat_tests}
use Rattle.std.proofs.lemmas.Grind.{common_steps}
use Rattle.std.proofs.Common.{◌≡◌, ◌<◌, ◌≤◌, true, false, List, [], ◌∷◌, length, take, drop, ◌-◌, refl, arith, ℕ, Option, None}
use Rattle.std.specs.Prelude.{is_some}
use Rattle.hum_frac.specs.Ratio.{Ratio}
use Rattle.hum_kern.specs.Duration.{duration, value_in, is_refused}
use Rattle.hum_timebase.specs.Notes.{subtokens, first_duration, some_refused, or_else}
use Rattle.hum_timebase.specs.Reading.{rest_parts}

pub first_is : (found : Option Ratio) (part : List ℕ) (parts all : List (List ℕ)) → all ≡ part ∷ parts
    → found ≡ value_in (duration part) → or_else found (first_duration parts) ≡ first_duration all
first_is = grind (arith, nat_tests)

pub others_refused : (part : List ℕ) (parts all : List (List ℕ)) → all ≡ part ∷ parts → is_refused (duration part) ≡ false
    → some_refused parts ≡ some_refused all
others_refused part parts all is read = rw (is, read) refl

pub first_refused : (part : List ℕ) (parts all : List (List ℕ)) → all ≡ part ∷ parts → is_refused (duration part) ≡ true
    → some_refused all ≡ true
first_refused part parts all is refused = rw (is, refused) refl

-- what is left begins with a space
pub behind_space : (left part : List ℕ) (parts : List (List ℕ)) → 1 ≤ length left
    → subtokens (take (length left - 1) (drop 1 left)) ≡ part ∷ parts → rest_parts left ≡ part ∷ parts
behind_space = grind (arith, common_steps)

pub none_parts : (left : List ℕ) → length left < 1 → rest_parts left ≡ []
none_parts = grind (arith, nat_tests)

-- once one was found, others don't matter
pub none_found : (found : Option Ratio) → is_some found ≡ false → found ≡ None
none_found = grind (arith, nat_tests)

pub found_stays : (found more other : Option Ratio) → is_some found ≡ true → or_else found more ≡ or_else found other
found_stays = grind (arith, nat_tests)

pub or_none : (found : Option Ratio) → or_else found None ≡ found
or_none = grind (arith, nat_tests)
