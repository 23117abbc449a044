-- What the state does at a record is what the command decides.
use Rattle.std.proofs.Common.{◌≡◌, refl, sym, ℕ, ◌<◌, ◌≤◌, false, List, [], ◌∷◌, length, arith, Option, None}
use Rattle.std.specs.Prelude.{Ok, Err}
use Rattle.std.specs.List.{list_any}
use Rattle.std.proofs.lemmas.Bool.Decides.{nat_tests}
use Rattle.hum_score.specs.declared.records.Kind.TheVariants.{Global, Values as AnyValues}
use Rattle.hum_score.specs.declared.records.SpinedKind.TheVariants.{Values}
use Rattle.hum_score.specs.Row.{Row, Spined, kind_of, tokens_of, text_of}
use Rattle.hum_record.specs.Building.{spelled}
use Rattle.hum_score.specs.declared.spines.Move.{Move}
use Rattle.hum_score.specs.Spines.{Path, after, moves}
use Rattle.hum_score.specs.Score.{path_after}
use Rattle.hum_path.specs.Chains.{columns}
use Rattle.hum_path.specs.Memories.{Remember}
use Rattle.hum_stage.specs.declared.faults.Rule.TheVariants.{L1}
use Rattle.hum_stage.specs.Decided.{Decision}
use Rattle.hum_stage.specs.Limits.{in_room}
use Rattle.hum_choices.specs.declared.ditto.DittoOptions.{DittoOptions}
use Rattle.hum_record.specs.Contents.{is_null}
use Rattle.hum_ditto.specs.Ditto.{all_filled}
use Rattle.hum_stage.specs.Limits.{if_fits}
use Rattle.hum_ditto.specs.Memory.{last_seen, Follows}
use Rattle.hum_ditto.specs.Held.{Remembered, IsGivenFor}
use Rattle.hum_ditto.proofs.Nearest.{all_remembered}
use Rattle.hum_ditto.proofs.Tokens.{nothing_filled}

-- the moves that the spines told are those after the records
pub told : (found : List Move) (path : Path) (past : List Row) (row : Row) → found ≡ moves path row → path ≡ path_after past
    → found ≡ moves (path_after past) row
told found path past row is spines = rw spines at is

-- a record without null data tokens is given as it is
pub stays_given : (memory : Remembered) (row : Row) → (kind_of row ≡ AnyValues → list_any is_null (tokens_of row) ≡ false) → IsGivenFor memory row row
stays_given memory row none k = (k, sym (nothing_filled memory.options.parentheses memory.each (tokens_of row) (none k)))

-- data leave the spines as they are
pub data_path : (path : Path) (row : Row) → kind_of row ≡ AnyValues → path ≡ after path row
data_path = grind (arith, nat_tests)

comment_no_data : Global ≡ AnyValues → ⊥
comment_no_data e = cc

module _ (options : DittoOptions) (path : Path) (memories : List (Option (List ℕ))) (decide : Decision) (past : List Row)
    (h : Follows options path memories decide past) where
  decided : (tokens : List (List ℕ)) → decide past (Spined Values tokens) ≡ if_fits (Spined Values (all_filled options.parentheses memories tokens))
  decided tokens = rw (h.command, h.remembered, all_remembered options.skip (columns past)) refl

  -- a record that fits
  pub gives_made : (row made : Row) → kind_of row ≡ AnyValues → made ≡ Spined Values (all_filled options.parentheses memories (tokens_of row))
      → length (spelled (all_filled options.parentheses memories (tokens_of row))) ≤ 1048576 → decide past row ≡ Ok (made ∷ [])
  gives_made = grind (arith, nat_tests, comment_no_data, decided)

  -- one that doesn't
  pub refuses_long : (row : Row) (room : ℕ) → kind_of row ≡ AnyValues
      → 1048576 < length (spelled (all_filled options.parentheses memories (tokens_of row))) → in_room room (decide past row) ≡ Err L1
  refuses_long = grind (arith, nat_tests, comment_no_data, decided)

  -- a record that stays
  pub gives_same : (row : Row) → length (text_of row) ≤ 1048576 → (kind_of row ≡ AnyValues → list_any is_null (tokens_of row) ≡ false)
      → decide past row ≡ Ok (row ∷ [])
  gives_same = grind (arith, nat_tests, decided, nothing_filled)

  -- the state goes on with the record
  pub follows_on : (row : Row) (path' : Path) (options' : DittoOptions) (memories' : List (Option (List ℕ))) → path' ≡ after path row → options' ≡ options
      → Remember (last_seen options.skip) None (row ∷ past) memories' →
      Follows options' path' memories' decide (row ∷ past)
  follows_on = grind (arith, nat_tests)
