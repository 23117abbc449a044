-- What the commands on notes make of kern columns.
use Rattle.std.specs.Prelude.{◌≡◌, ℕ, ℤ, List, ◌++◌, map}
use Rattle.std.specs.Fmt.{signed_decimal}
use lib.Chars.{codes}
use Rattle.hum_path.specs.Memories.{remembered}
use Rattle.hum_words.specs.declared.commands.Command.TheVariants.{Trans, Semits, Mint, Recip}
use Rattle.hum_stage.specs.Meaning.{Meaning}
use Rattle.hum_cells.specs.Rewriting.{Rewriting, Heading, Renamed, Followed, IsHeading, meaning}
use Rattle.hum_cells.specs.Rewriter.{Columns}
use Rattle.hum_tones.specs.declared.part_rule.PartRule.{PartRule}
use Rattle.hum_tones.specs.declared.part_rule.PartRule.TheVariants.{Semitones, Durations}
use Rattle.hum_choices.specs.declared.trans.TransOptions.{TransOptions}
use Rattle.hum_choices.specs.declared.semits.SemitsOptions.{SemitsOptions}
use Rattle.hum_choices.specs.declared.recip.RecipOptions.{RecipOptions}
use Rattle.hum_choices.specs.declared.mint.MintOptions.{MintOptions}
use Rattle.hum_tones.specs.Trans.{transposed}
use Rattle.hum_tones.specs.Mint.{minted_after}
use Rattle.hum_tones.specs.Memory.{HeardColumn, unheard, heard_after}
use Rattle.hum_tones.specs.PartRule.{given}

-- what goes behind **kern: by how many steps and semitones its notes were moved
abbrev pub trans_sign : ℤ → ℤ → List ℕ
trans_sign steps semitones =
    codes "*Trd" ++ (signed_decimal steps ++ (codes "c" ++ signed_decimal semitones))

-- each note is so many steps and semitones away
abbrev pub trans : ℤ → ℤ → Rewriting
trans steps semitones = record {
  heading = Followed (trans_sign steps semitones);
  becomes = λ above. transposed steps semitones;
}

-- **kern becomes **semits, and notes their semitones
abbrev pub semits : SemitsOptions → Rewriting
semits options = record {
  heading = Renamed (codes "**semits");
  becomes = λ above. given (Semitones options.ties_left_out);
}

-- **kern becomes **mint, and notes the intervals from the notes before
abbrev pub mint : MintOptions → Rewriting
mint options = record { heading = Renamed (codes "**mint"); becomes = minted_after options }

-- **kern becomes **recip, and notes their durations
abbrev pub recip : RecipOptions → Rewriting
recip options = record { heading = Renamed (codes "**recip"); becomes = λ above. given Durations }

-- what becomes of kern columns by a heading and by what parts give
abbrev pub given_under : Heading → PartRule → Rewriting
given_under heading giving = record { heading = heading; becomes = λ above. given giving }

-- what a command keeps whose tokens become what their parts give: what becomes of **kern by it, and
-- what a part gives
pub record GivesUnder (heading : Heading) (giving : PartRule) (rewriting : Rewriting) : Type 0 where
  pub command : rewriting ≡ given_under heading giving
  pub lawful : IsHeading rewriting.heading

-- what mint keeps: its options, and what it heard of each column
pub record Mints (options : MintOptions) (memories : List HeardColumn) (rewriting : Rewriting)
    (above : Columns) : Type 0 where
  pub command : rewriting ≡ mint options
  pub lawful : IsHeading rewriting.heading
  pub heard : memories ≡ map (remembered (heard_after options) unheard) above

-- what the stages of these numbers mean
abbrev pub meaning_of_trans : ℕ → TransOptions → Meaning
meaning_of_trans stage options = meaning stage Trans (trans options.steps options.semitones)

abbrev pub meaning_of_semits : ℕ → SemitsOptions → Meaning
meaning_of_semits stage options = meaning stage Semits (semits options)

abbrev pub meaning_of_recip : ℕ → RecipOptions → Meaning
meaning_of_recip stage options = meaning stage Recip (recip options)

abbrev pub meaning_of_mint : ℕ → MintOptions → Meaning
meaning_of_mint stage options = meaning stage Mint (mint options)
