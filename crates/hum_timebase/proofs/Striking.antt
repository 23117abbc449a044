-- What a record becomes, by the ends that are kept.
use Rattle.std.proofs.lemmas.Bool.Decides.{nat_tests}
use Rattle.std.proofs.lemmas.Grind.{common_steps}
use Rattle.std.proofs.Common.{◌≡◌, ◌∙◌, ℕ, ◌+◌, ◌<◌, List, [], ◌∷◌, map, length}
use Rattle.std.proofs.Common.{refl, arith, min, Bool, true, false}
use Rattle.std.proofs.Common.{Option, None, Some, Ok}
use Rattle.std.specs.Prelude.{is_some, if◌then◌else◌}
use Rattle.std.specs.List.{list_any}
use Rattle.hum_score.specs.declared.records.Kind.TheVariants.{Global, Local as AnyLocal, Values as AnyValues, Interpretation as AnyInterpretation}
use Rattle.hum_score.specs.declared.records.SpinedKind.TheVariants.{Local, Interpretation, Values}
use Rattle.hum_score.specs.Row.{Row, Comment, Spined, kind_of, tokens_of}
use Rattle.hum_score.specs.declared.spines.Move.{Move}
use Rattle.hum_score.specs.Spines.{Path, after, moves}
use Rattle.hum_frac.specs.Ratio.{Ratio}
use Rattle.hum_stage.specs.declared.faults.Rule.{Rule}
use Rattle.hum_stage.specs.Decided.{Decision, Steps}
use Rattle.hum_timebase.specs.Notes.{timed_in, timed_at, notes_of, is_sounding}
use Rattle.hum_timebase.specs.Ends.{latest, living_before}
use Rattle.hum_timebase.specs.Clock.{Clock, clock_after, time_after}
use Rattle.hum_choices.specs.Timebase.{Pace}
use Rattle.hum_timebase.specs.Timebase.{data_rows, timed_rows, around}
use Rattle.hum_timebase.specs.Timebase.{living_at, names_some, tb_row}
use Rattle.hum_timebase.specs.Kept.{Kept, kept_of, rested, led, struck, ends_at, strike, strike_in, rows_of, sounding_rows}
use Rattle.hum_timebase.specs.Following.{Follows, Answers}
use Rattle.hum_timebase.specs.Reading.{content_of}
use Rattle.hum_timebase.specs.declared.notes.Content.TheVariants.{Nulls, Barlines, Sounds}
use Rattle.hum_timebase.proofs.Reading.{nulls_alone, sounds_some, no_notes, content_sounds, content_barlines, content_nulls}
use Rattle.hum_timebase.proofs.Lasting.{latest-before, latest-at, kept-rested, kept-moved, kept-tick, all_sound}

-- ---- what is put where it is due

comment_no_data : Global ≡ AnyValues → ⊥
comment_no_data e = cc

comment_no_interpretation : Global ≡ AnyInterpretation → ⊥
comment_no_interpretation e = cc

pub around_length : (before after : ℕ) (stays : Bool) (tokens : List (List ℕ)) →
    length (around before stays after tokens) ≡ before + (if stays then 1 else 0) + after
around_length = grind (arith, common_steps)

-- ---- a timed record

timed_strike : (step : Ratio) (kept : Kept) (time : Option Ratio) (notes : List (Option Ratio)) (tokens : List (List ℕ))
    → timed_rows step kept.next time notes kept.ends (ends_at time notes kept.ends) tokens ≡ rows_of tokens (strike_in step kept time notes)
timed_strike step kept None notes tokens = refl
timed_strike step kept (Some time) notes tokens = grind (arith, nat_tests)

timed_kept : (step : Ratio) (clock : Clock) (timed : List Bool) (notes : List (Option Ratio)) (tokens : List (List ℕ))
    → let before = living_before timed clock.leading in
    let time = time_after clock.last (map latest before) in
    timed_rows step clock.next time notes (map latest before) (map latest (living_at time notes before)) tokens
    ≡ rows_of tokens (strike step (rested timed (kept_of clock)) notes)
timed_kept = grind (arith, nat_tests, latest-at, latest-before, timed_strike)

-- ---- a data record

pub data_sounds : (step : Ratio) (clock : Clock) (timed : List Bool) (tokens : List (List ℕ)) → content_of tokens ≡ Sounds
    → data_rows step clock timed tokens ≡ sounding_rows step (rested timed (kept_of clock)) timed tokens
data_sounds = grind (arith, nat_tests, content_sounds, sounds_some, timed_kept)

pub data_barlines : (step : Ratio) (clock : Clock) (timed : List Bool) (tokens : List (List ℕ)) → content_of tokens ≡ Barlines
    → data_rows step clock timed tokens ≡ Ok (Spined Values tokens ∷ [])
data_barlines step clock timed tokens e = let p = content_barlines tokens e in rw (p.0, p.1) refl

pub data_nulls : (step : Ratio) (clock : Clock) (timed : List Bool) (tokens : List (List ℕ)) → content_of tokens ≡ Nulls
    → data_rows step clock timed tokens ≡ Ok []
data_nulls = grind (arith, nat_tests, content_nulls, nulls_alone)

struck_none : (notes : List (Option Ratio)) (kept : Kept) → list_any is_some notes ≡ false → struck notes kept ≡ kept
struck_none notes kept none = rw none refl

-- ---- one step

module _ (pace : Pace) (path : Path) (timed : List Bool) (kept : Kept) (decide : Decision) (past : List Row)
    (h : Follows pace path timed kept decide past) where
  pub goes_local : (row : Row) (kept' : Kept) → kind_of row ≡ AnyLocal → kept' ≡ rested timed kept
      → (decide past row ≡ Ok (row ∷ [])) × Follows pace path timed kept' decide (row ∷ past)
  goes_local = grind (arith, nat_tests, kept-rested)

  -- the notes of a data record were taken
  after_notes : (tokens : List (List ℕ)) (kept' : Kept) → kept' ≡ struck (notes_of timed tokens) (rested timed kept)
      → Follows pace path timed kept' decide (Spined Values tokens ∷ past)
  after_notes = grind (arith, nat_tests, kept-tick)

  decided : (tokens : List (List ℕ)) → decide past (Spined Values tokens) ≡ data_rows pace.step (clock_after past) timed tokens
  decided tokens = rw (h.command, h.columns) refl

  silent : (tokens : List (List ℕ)) (kept' : Kept) → list_any is_sounding tokens ≡ false → kept' ≡ rested timed kept
      → Follows pace path timed kept' decide (Spined Values tokens ∷ past)
  silent = grind (arith, nat_tests, after_notes, struck_none, no_notes)

  pub goes_nulls : (row : Row) (kept' : Kept) → kind_of row ≡ AnyValues → content_of (tokens_of row) ≡ Nulls → kept' ≡ rested timed kept
      → (decide past row ≡ Ok []) × Follows pace path timed kept' decide (row ∷ past)
  goes_nulls = grind (arith, nat_tests, comment_no_data, decided, data_nulls, silent, content_nulls)

  pub goes_barlines : (row : Row) (kept' : Kept) → kind_of row ≡ AnyValues → content_of (tokens_of row) ≡ Barlines → kept' ≡ rested timed kept
      → (decide past row ≡ Ok (row ∷ [])) × Follows pace path timed kept' decide (row ∷ past)
  goes_barlines = grind (arith, nat_tests, comment_no_data, decided, data_barlines, silent, content_barlines)

  decided_sounds : (row : Row) → kind_of row ≡ AnyValues → content_of (tokens_of row) ≡ Sounds
      → decide past row ≡ sounding_rows pace.step (rested timed kept) timed (tokens_of row)
  decided_sounds (Comment text) k e = absurd (comment_no_data k)
  decided_sounds (Spined Local tokens) k e = absurd cc
  decided_sounds (Spined Interpretation tokens) k e = absurd cc
  decided_sounds (Spined Values tokens) k e = decided tokens ∙ data_sounds pace.step (clock_after past) timed tokens e ∙ rw h.clock refl

  after_sounds : (row : Row) (kept' : Kept) → kind_of row ≡ AnyValues → kept' ≡ struck (notes_of timed (tokens_of row)) (rested timed kept)
      → Follows pace path timed kept' decide (row ∷ past)
  after_sounds = grind (arith, nat_tests, comment_no_data, after_notes)

  pub goes_sounds : (row : Row) (kept' : Kept) (room : ℕ) (rows : List Row) (refused : Option Rule) →
      kind_of row ≡ AnyValues → content_of (tokens_of row) ≡ Sounds
      → Answers (sounding_rows pace.step (rested timed kept) timed (tokens_of row)) room rows refused
      → (refused ≡ None → kept' ≡ struck (notes_of timed (tokens_of row)) (rested timed kept))
      → Steps decide past row (Follows pace path timed kept') room rows refused
  goes_sounds = grind (arith, nat_tests, decided_sounds, after_sounds)

  -- the same, where some fields are told to stay
  pub sounds_on : (row : Row) (mid kept' : Kept) (pace' : Pace) (path' : Path) (timed' : List Bool) (room : ℕ) (rows : List Row) (refused : Option Rule)
      → kind_of row ≡ AnyValues → content_of (tokens_of row) ≡ Sounds → mid ≡ rested timed kept → pace' ≡ pace → path' ≡ path → timed' ≡ timed
      → Answers (sounding_rows pace.step mid timed (tokens_of row)) room rows refused
      → (refused ≡ None → kept' ≡ struck (notes_of timed (tokens_of row)) mid)
      → Steps decide past row (Follows pace' path' timed' kept') room rows refused
  sounds_on = grind (arith, nat_tests, goes_sounds)

  -- ---- an interpretation

  pub after_moves : (row : Row) (path' : Path) (timed' : List Bool) (kept' : Kept) → kind_of row ≡ AnyInterpretation
      → path' ≡ after path row → timed' ≡ timed_in path' → kept' ≡ led (moves path row) (rested (timed_at path (tokens_of row)) kept)
      → Follows pace path' timed' kept' decide (row ∷ past)
  after_moves = grind (arith, nat_tests, comment_no_interpretation, kept-moved, all_sound)

  pub names_none : (row : Row) → kind_of row ≡ AnyInterpretation → names_some (tokens_of row) ≡ false → decide past row ≡ Ok (row ∷ [])
  names_none = grind (arith, nat_tests)

  pub names_fits : (row other : Row) → kind_of row ≡ AnyInterpretation → names_some (tokens_of row) ≡ true → other ≡ tb_row pace.text (tokens_of row)
      → decide past row ≡ Ok (row ∷ other ∷ [])
  names_fits = grind (arith, nat_tests)

-- ---- room

pub over_count : (before after single room sum count : ℕ) → sum ≡ min (before + after) 340282366920938463463374607431768211455
    → count ≡ min (sum + single) 340282366920938463463374607431768211455 → room < count → room < before + single + after
over_count before after single room sum count a b h = omega (arith, a, b, h)

-- the kept ends after the moves of an interpretation
pub moved_kept : (old rest lead : Kept) (flags own timed : List Bool) (found told : List Move) → rest ≡ rested flags old → flags ≡ own → own ≡ timed
    → found ≡ told → lead ≡ led found rest → lead ≡ led told (rested timed old)
moved_kept old rest lead flags own timed found told a b t m h = h ∙ rw (m, a, b, t) refl
