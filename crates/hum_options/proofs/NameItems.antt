-- Names, as an item of a list gives them.
use Rattle.std.proofs.lemmas.Bool.Decides.{nat_tests}
use Rattle.std.proofs.Common.{◌≡◌, ap, ℕ, false, Some, List, arith}
use Rattle.hum_score.specs.Spelling.{has_byte}
use Rattle.hum_choices.specs.Cleave.{is_name}
use Rattle.hum_options.specs.Names.{IsListedName, name_of}
use Rattle.hum_options.proofs.Choices.{chosen}

pub names_are : (item name : List ℕ) → has_byte 44 item ≡ false → name_of item ≡ Some name → IsListedName item name
names_are item name lacks e = grind (arith, nat_tests, chosen (is_name item) (Some item) name e)

pub names_alone : (item name : List ℕ) → IsListedName item name → name_of item ≡ Some name
names_alone item name h = rw h.lawful (ap (λ (t : List ℕ). Some t) h.same)

pub names_lack : (item name : List ℕ) → IsListedName item name → has_byte 44 item ≡ false
names_lack item name h = h.alone
