-- Which records are dropped.
use Rattle.std.specs.Prelude.{ℕ, Bool, ◌&&◌, ◌||◌, not, ◌==◌, List, [], ◌∷◌, length}
use Rattle.std.specs.Prelude.{Ok, if◌then◌else◌}
use Rattle.std.specs.List.{list_all}
use Rattle.std.specs.Str.{bytes_eq}
use lib.Chars.{codes}
use Rattle.hum_score.specs.declared.records.SpinedKind.TheVariants.{Local, Interpretation, Values}
use Rattle.hum_score.specs.Row.{Row, Comment, Spined}
use Rattle.hum_score.specs.Sign.{all_plain}
use Rattle.hum_words.specs.declared.commands.Command.TheVariants.{Rid}
use Rattle.hum_stage.specs.Meaning.{Meaning}
use Rattle.hum_stage.specs.Decided.{Decision, at_once}
use Rattle.hum_choices.specs.declared.rid.RidOptions.{RidOptions}

-- each of a record's tokens is this one
abbrev pub all_are : List ℕ → List (List ℕ) → Bool
all_are token tokens = not (length tokens == 0) && list_all (bytes_eq token) tokens

-- only tandem and null interpretations, and not only null ones
abbrev pub has_tandems : List (List ℕ) → Bool
has_tandems tokens = all_plain tokens && not (list_all (bytes_eq (codes "*")) tokens)

-- whether a record is dropped: by the letters G and g, L and l, I and i and T, D and d
abbrev pub drops : RidOptions → Row → Bool
drops options (Comment text) =
    options.global_comments || (options.empty_global_comments && bytes_eq (codes "!!") text)
drops options (Spined Local tokens) =
    options.local_comments || (options.null_local_comments && all_are (codes "!") tokens)
drops options (Spined Interpretation tokens) =
    options.interpretations
    || ((options.null_interpretations && all_are (codes "*") tokens)
    || (options.tandems && has_tandems tokens))
drops options (Spined Values tokens) =
    options.values || (options.null_values && all_are (codes ".") tokens)

-- what a record becomes
abbrev pub rid : RidOptions → Decision
rid options past row = Ok (if drops options row then [] else row ∷ [])

-- what the stage of this number means
abbrev pub meaning : ℕ → RidOptions → Meaning
meaning stage options = at_once stage Rid (rid options)
