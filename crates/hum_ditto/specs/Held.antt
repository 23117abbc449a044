-- How it is held what null tokens would repeat.
use Rattle.std.specs.Prelude.{◌≡◌, ◌≢◌, ℕ, false, List, [], ◌∷◌, map, Option, None}
use Rattle.hum_score.specs.declared.records.Kind.TheVariants.{Values as AnyValues}
use Rattle.hum_score.specs.Row.{Row, kind_of, tokens_of, width_of}
use Rattle.hum_score.specs.declared.spines.Move.{Move}
use Rattle.hum_score.specs.Spines.{same_upto, moves}
use Rattle.hum_score.specs.Score.{IsOpen, path_after}
use Rattle.hum_path.specs.Memories.{Remember}
use Rattle.hum_choices.specs.declared.ditto.DittoOptions.{DittoOptions}
use Rattle.hum_ditto.specs.declared.memory.Holding.{Holding}
use Rattle.hum_ditto.specs.declared.memory.Holding.TheVariants.{Given, Each}
use Rattle.hum_ditto.specs.Ditto.{all_filled}
use Rattle.hum_ditto.specs.Memory.{last_seen}

-- what is remembered of one cell alone, where no token is skipped
abbrev pub seen_alone : List ℕ → Option (List ℕ)
seen_alone token = last_seen None token None

-- what is remembered of each column
abbrev pub remembered_in : Holding → List (Option (List ℕ))
remembered_in (Given row stays) = map seen_alone (tokens_of row)
remembered_in (Each memories) = memories.each

-- the same, and how it is remembered
pub record Remembered : Type 0 where
  pub options : DittoOptions
  pub each : List (Option (List ℕ))

-- A record is held whole where it is data, any token may be repeated as it is, and no spine moves.
pub record IsWhole (options : DittoOptions) (row : Row) (found : List Move) : Type 0 where
  pub skips_none : options.skip ≡ None
  pub bare : options.parentheses ≡ false
  pub kind : kind_of row ≡ AnyValues
  pub some : tokens_of row ≢ []
  pub stays : found ≡ same_upto 0 (width_of row)

abbrev pub MayHold : DittoOptions → Holding → Type 0
MayHold options (Given row stays) = IsWhole options row stays
MayHold options (Each memories) = Unit {0}

-- it remembers some records, which a record goes on with as a score, by these moves
pub record MayFollow (memory : Remembered) (row : Row) (found : List Move) : Type 0 where
  pub past : List Row
  pub remembered : Remember (last_seen memory.options.skip) None past memory.each
  pub score : IsOpen (row ∷ past)
  pub moved : found ≡ moves (path_after past) row

-- Whatever records it remembered, with the next one it remembers that one too.
abbrev pub HasFollowed : Remembered → Row → List Move → List (Option (List ℕ)) → Type 0
HasFollowed before row found after = (past : List Row)
    → Remember (last_seen before.options.skip) None past before.each
    → IsOpen (row ∷ past) → found ≡ moves (path_after past) row
    → Remember (last_seen before.options.skip) None (row ∷ past) after

-- The same of a data record, whose moves needn't be known.
abbrev pub HasSeen : Remembered → Row → List (Option (List ℕ)) → Type 0
HasSeen before row after = (past : List Row)
    → Remember (last_seen before.options.skip) None past before.each
    → IsOpen (row ∷ past)
    → Remember (last_seen before.options.skip) None (row ∷ past) after

-- a record is what another becomes, if that is data
abbrev pub IsGivenFor : Remembered → Row → Row → Type 0
IsGivenFor memory row given = kind_of row ≡ AnyValues
    → (kind_of given ≡ AnyValues)
    × (tokens_of given ≡ all_filled memory.options.parentheses memory.each (tokens_of row))
