-- The parts of a lawful token, and texts that may stand in one.
use Rattle.std.proofs.lemmas.Bool.Decides.{nat_tests}
use Rattle.std.proofs.Common.{◌≡◌, ◌≢◌, refl, ℕ, ◌==◌, false, List, [], ◌∷◌, arith}
use Rattle.std.specs.List.{AllByRecursion, onto_first}
use Rattle.std.proofs.lemmas.Bool.{or_parts}
use Rattle.hum_score.specs.declared.records.SpinedKind.TheVariants.{Values}
use Rattle.hum_score.specs.Spelling.{has_byte, kind_of_token}
use Rattle.hum_score.proofs.Cases.{by_bool}
use Rattle.hum_tones.specs.Subtokens.{subtokens}

abbrev pub Lack : ℕ → List (List ℕ) → Type 0
Lack c = AllByRecursion (λ part. has_byte c part ≡ false)

pub onto_lacks : (c x : ℕ) (parts : List (List ℕ)) → (x == c) ≡ false → Lack c parts → Lack c (onto_first x parts)
onto_lacks = grind (arith, nat_tests)

-- a byte that stands in no text stands in no part of it
pub parts_lack : (c : ℕ) (text : List ℕ) → has_byte c text ≡ false → Lack c (subtokens text)
parts_lack c [] h = (refl, tt)
parts_lack c (x ∷ xs) h =
    let both = or_parts (x == c) (has_byte c xs) h in
    let rest = parts_lack c xs both.1 in
    by_bool (x == 32) (λ w. rw w (refl, rest)) (λ w. rw w (onto_lacks c x (subtokens xs) both.0 rest))

-- a text that may stand in a token
pub record IsPart (text : List ℕ) : Type 0 where
  pub one_token : has_byte 9 text ≡ false
  pub one_line : has_byte 13 text ≡ false
  pub no_line_end : has_byte 10 text ≡ false

-- one that may stand at the front of a data token
pub record IsPiece (text : List ℕ) : Type 0 where
  pub part : IsPart text
  pub filled : text ≢ []
  pub of_kind : kind_of_token text ≡ Values

-- each part of a lawful token may stand in one
pub are_parts : (parts : List (List ℕ)) → Lack 9 parts → Lack 13 parts → Lack 10 parts → AllByRecursion IsPart parts
are_parts [] tabs returns ends = tt
are_parts (part ∷ parts) tabs returns ends = grind (arith, nat_tests, are_parts parts tabs.1 returns.1 ends.1)
