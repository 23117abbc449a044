-- What a command on notes wrote no command on notes changes.
use Rattle.std.proofs.lemmas.Bool.Decides.{nat_tests}
use Rattle.std.proofs.Common.{◌≡◌, refl, ℕ, false, List, arith}
use lib.Chars.{codes}
use Rattle.hum_score.specs.Row.{Row}
use Rattle.hum_words.specs.declared.commands.Command.{Command}
use Rattle.hum_words.specs.declared.commands.Command.TheVariants as name
use Rattle.hum_stage.specs.declared.faults.End.TheVariants.{Closed}
use Rattle.hum_score.specs.InOrder.{IsScore}
use Rattle.hum_stage.specs.Meaning.{KeepsScore}
use Rattle.hum_stage.specs.Decided.{at_once}
use Rattle.hum_cells.specs.Rewriting.{Renamed, Rewriting, is_kern, rewrite}
use Rattle.hum_tones.specs.Commands.{trans, semits, mint, recip}
use Rattle.hum_choices.specs.declared.CommandOptions.{CommandOptions}
use Rattle.hum_choices.specs.declared.CommandOptions.TheVariants.{Trans, Semits, Mint, Recip}
use Rattle.hum_commands.specs.Meaning.{meaning, MakesScores}
use Rattle.hum_laws.specs.declared.given.Given.{Given}
use Rattle.hum_laws.specs.Piped.{IsAlone, IsPiped}
use Rattle.hum_laws.specs.Notes.{NamesColumns, IsOnNotes}
use Rattle.hum_laws.proofs.Runs.{alone_runs, piped_runs}
use Rattle.hum_laws.proofs.Marks.{Becomes}
use Rattle.hum_laws.proofs.Names.{left_alone}

-- a command that gives another name
record Naming (stage : ℕ) (options : CommandOptions) : Type 0 where
  command : Command
  other : List ℕ
  becomes : Becomes
  is : meaning stage options ≡ at_once stage command (rewrite (record { heading = Renamed other; becomes = becomes }))
  apart : is_kern other ≡ false

naming : (stage : ℕ) (options : CommandOptions) → NamesColumns options → Naming stage options
naming stage (Semits options) h = record { command = name.Semits; other = codes "**semits"; becomes = (semits options).becomes; is = refl; apart = refl }
naming stage (Mint options) h = record { command = name.Mint; other = codes "**mint"; becomes = (mint options).becomes; is = refl; apart = refl }
naming stage (Recip options) h = record { command = name.Recip; other = codes "**recip"; becomes = (recip options).becomes; is = refl; apart = refl }
naming stage _ h = absurd h

-- it makes scores of scores
pub makes_scores : (options : CommandOptions) → NamesColumns options → MakesScores options
makes_scores = grind (arith, nat_tests)

record Telling (stage : ℕ) (options : CommandOptions) : Type 0 where
  command : Command
  rewriting : Rewriting
  is : meaning stage options ≡ at_once stage command (rewrite rewriting)

telling : (stage : ℕ) (options : CommandOptions) → IsOnNotes options → Telling stage options
telling stage (Trans options) h = record { command = name.Trans; rewriting = trans options.steps options.semitones; is = refl }
telling stage (Semits options) h = record { command = name.Semits; rewriting = semits options; is = refl }
telling stage (Mint options) h = record { command = name.Mint; rewriting = mint options; is = refl }
telling stage (Recip options) h = record { command = name.Recip; rewriting = recip options; is = refl }
telling stage _ h = absurd h

pub told_once : (first second : CommandOptions) (p : List Row) (once twice : Given) → NamesColumns first → IsOnNotes second
    → IsAlone (meaning 1 first) p once → IsPiped (meaning 1 first) (meaning 2 second) p twice → KeepsScore (meaning 1 first).outcomes → IsScore p
    → once.end ≡ Closed → twice.end ≡ Closed → twice.records.items ≡ once.records.items
told_once first second p once twice names tells h k keeps score one two =
    let a = naming 1 first names in
    let b = telling 2 second tells in
    let first_is = rewrite (record { heading = Renamed a.other; becomes = a.becomes }) in
    let kept : KeepsScore (at_once 1 a.command first_is).outcomes = rw a.is at keeps in
    left_alone a.other a.becomes b.rewriting p once.records.items twice.records.items a.apart score
    (alone_runs 1 a.command first_is p once (rw a.is at h) one)
    (piped_runs 1 2 a.command b.command first_is (rewrite b.rewriting) p twice (rw (a.is, b.is) at k) kept score two)
