-- Each command keeps to lawful records.
use Rattle.std.proofs.Common.{◌≡◌, refl, ℕ}
use Rattle.hum_cleave.specs.Cleave as cleave
use Rattle.hum_choices.specs.declared.context.Span.{Span}
use Rattle.hum_choices.specs.declared.context.Span.TheVariants as span
use Rattle.hum_context.specs.Context.{Choice, context}
use Rattle.hum_extract.specs.Extract.{extract}
use Rattle.hum_choices.specs.Extract.{choice_of}
use Rattle.hum_ditto.specs.Ditto.{ditto}
use Rattle.hum_rid.specs.Rid.{rid}
use Rattle.hum_timebase.specs.Timebase.{timebase}
use Rattle.hum_choices.specs.Cleave.{Options, AreLawful}
use Rattle.hum_choices.specs.Timebase.{pace_of}
use Rattle.hum_timebase.proofs.Writing.{is_pace}
use Rattle.hum_cells.specs.Rewriting.{rewrite}
use Rattle.hum_tones.specs.Commands.{trans, semits, mint, recip}
use Rattle.hum_yank.specs.Yank as yank
use Rattle.hum_pattern.specs.Meaning.{matched_by}
use Rattle.hum_commands.specs.Meaning.{meaning, extent_of, form_of}
use Rattle.hum_choices.specs.Options.{span_of, markers_of}
use Rattle.hum_choices.specs.declared.CommandOptions.{CommandOptions}
use Rattle.hum_choices.specs.declared.CommandOptions.TheVariants as told
use Rattle.hum_valid.specs.Records.{KeepsRecords}
use Rattle.hum_valid.proofs.Stages.{at_once, looking}
use Rattle.hum_valid.proofs.Single.{rid_records, yank_records}
use Rattle.hum_valid.proofs.Filling.{ditto_records}
use Rattle.hum_valid.proofs.Collecting.{AsksSome, context_records}
use Rattle.hum_valid.proofs.Spreading.{extract_records, cleave_records}
use Rattle.hum_valid.proofs.Telling.{trans_records, semits_records, mint_records, recip_records}
use Rattle.hum_valid.proofs.Timed.{timebase_records}

asks_some : (s : Span) → AsksSome (extent_of (span_of s))
asks_some (span.Number count) = count.within.0
asks_some (span.Phrase begin end) = tt

-- the options of cleave may be any text; those of a plan are names and separators
abbrev pub IsCleaved : CommandOptions → Type 0
IsCleaved (told.Cleave options) = AreLawful options
IsCleaved _ = Unit {0}

pub uncleaved : (options : CommandOptions) → ((cleaves : Options) → options ≡ told.Cleave cleaves → ⊥) → IsCleaved options
uncleaved (told.Cleave options) apart = absurd (apart options refl)
uncleaved _ apart = tt

pub keeps : (options : CommandOptions) → IsCleaved options → (number : ℕ) → KeepsRecords (meaning number options).outcomes
keeps (told.Rid options) h number = at_once (rid options) (rid_records options)
keeps (told.Extract options) h number = at_once (extract (choice_of options)) (extract_records (choice_of options))
keeps (told.Ditto options) h number = at_once (ditto options) (ditto_records options)
keeps (told.Timebase options) h number =
    at_once (timebase (pace_of options)) (timebase_records (pace_of options) (is_pace options.step options.text.items options.written))
keeps (told.Context options) h number =
    let choice : Choice = record { extent = extent_of (span_of options.span); omits = matched_by options.omit } in
    looking 65536 (context choice) (context_records choice (asks_some options.span))
keeps (told.Trans options) h number =
    at_once (rewrite (trans options.steps options.semitones))
    (trans_records options.steps options.semitones options.in_range.0 options.in_range.1)
keeps (told.Semits options) h number = at_once (rewrite (semits options)) (semits_records options)
keeps (told.Mint options) h number = at_once (rewrite (mint options)) (mint_records options)
keeps (told.Recip options) h number = at_once (rewrite (recip options)) (recip_records options)
keeps (told.Yank options) h number =
    let choice : yank.Choice = record { form = form_of (markers_of options.markers); ranges = options.ranges.items } in
    looking 65536 (yank.yank choice) (yank_records choice)
keeps (told.Cleave options) h number = at_once (cleave.cleave options) (cleave_records options h)
