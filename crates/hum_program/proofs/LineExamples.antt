-- Lines, and what is said in them.
use Rattle.std.proofs.Common.{◌≡◌, refl, List, [], ◌∷◌, None, Some}
use Rattle.std.specs.Prelude.{ℕ, ◌++◌, codes}
use Rattle.clap.specs.Words.{Text}
use Rattle.clap.proofs.OnLiterals.{clap_on_literals}
use Rattle.hum_program.specs.Line.{said, IsLine}

abbrev bare : List Text
bare = codes "humpipe" ∷ []

abbrev in_two : List Text
in_two = codes "humpipe" ∷ codes "--link" ∷ codes "7" ∷ codes "tune" ∷ codes "--order" ∷ codes "right" ∷ []

abbrev in_one : List Text
in_one = codes "humpipe" ∷ codes "--order=left" ∷ codes "--link=4096" ∷ []

abbrev behind_dashes : List Text
behind_dashes = codes "humpipe" ∷ codes "--" ∷ codes "--link" ∷ []

abbrev twice : List Text
twice = codes "humpipe" ∷ codes "--link" ∷ codes "1" ∷ codes "--link" ∷ codes "2" ∷ []

abbrev unknown : List Text
unknown = codes "humpipe" ∷ codes "--help" ∷ []

bare_is_line : IsLine bare
unfolding clap_on_literals
bare_is_line = refl

bare_says_nothing : said bare (codes "link") ≡ None
unfolding clap_on_literals
bare_says_nothing = refl

in_two_is_line : IsLine in_two
unfolding clap_on_literals
in_two_is_line = refl

in_two_says_link : said in_two (codes "link") ≡ Some (codes "7")
unfolding clap_on_literals
in_two_says_link = refl

in_two_says_order : said in_two (codes "order") ≡ Some (codes "right")
unfolding clap_on_literals
in_two_says_order = refl

in_two_says_file : said in_two (codes "PIPELINE") ≡ Some (codes "tune")
unfolding clap_on_literals
in_two_says_file = refl

in_one_says_link : said in_one (codes "link") ≡ Some (codes "4096")
unfolding clap_on_literals
in_one_says_link = refl

in_one_says_order : said in_one (codes "order") ≡ Some (codes "left")
unfolding clap_on_literals
in_one_says_order = refl

behind_dashes_says_file : said behind_dashes (codes "PIPELINE") ≡ Some (codes "--link")
unfolding clap_on_literals
behind_dashes_says_file = refl

twice_is_none : IsLine twice → ⊥
unfolding clap_on_literals
twice_is_none e = cc

unknown_is_none : IsLine unknown → ⊥
unfolding clap_on_literals
unknown_is_none e = cc

-- Whatever stands behind `=`, and a file's name behind `--`.
link_behind_equals : (n : List ℕ) → said (codes "humpipe" ∷ (codes "--link=" ++ n) ∷ []) (codes "link") ≡ Some n
unfolding clap_on_literals
link_behind_equals n = refl

order_behind_equals : (side : List ℕ) → said (codes "humpipe" ∷ (codes "--order=" ++ side) ∷ []) (codes "order") ≡ Some side
unfolding clap_on_literals
order_behind_equals side = refl

file_behind_dashes : (file : List ℕ) → said (codes "humpipe" ∷ codes "--" ∷ file ∷ []) (codes "PIPELINE") ≡ Some file
unfolding clap_on_literals
file_behind_dashes file = refl
