-- Commands that look ahead, and leave each record as it is.
use Rattle.std.proofs.lemmas.Bool.Decides.{nat_tests}
use Rattle.std.proofs.Common.{◌≡◌, refl, ℕ, ◌+◌, List, [], ◌∷◌, arith}
use Rattle.std.specs.Prelude.{None, Some, Ok}
use Rattle.hum_score.specs.Row.{Row}
use Rattle.hum_words.specs.declared.commands.Command.{Command}
use Rattle.hum_stage.specs.declared.faults.End.TheVariants.{Closed}
use Rattle.hum_stage.specs.Outcome.{settled, refusal}
use Rattle.hum_stage.specs.Look.{Look, outcomes_from, looking}
use Rattle.hum_choices.specs.declared.yank.YankRange.{YankRange}
use Rattle.hum_choices.specs.declared.yank.YankRange.TheVariants.{Onward}
use Rattle.hum_yank.specs.Passages.{Lines}
use Rattle.hum_yank.specs.Yank.{yank}
use Rattle.hum_laws.specs.declared.given.Given.{Given}
use Rattle.hum_laws.specs.Piped.{IsAlone}

-- each record is decided, and stays
abbrev pub Stays : Look → Type 0
Stays look = (past : List Row) (row : Row) (rows : List Row) → look past row rows ≡ Some (Ok (row ∷ []))

stays_settled : (room : ℕ) (look : Look) (line : ℕ) (past p : List Row) → Stays look
    → (settled (outcomes_from room look past p) ≡ p) × (refusal line (outcomes_from room look past p) ≡ None)
stays_settled room look line past [] h = (refl, refl)
stays_settled room look line past (row ∷ p) h =
    grind (arith, nat_tests, stays_settled room look (line + 1) (row ∷ past) p h)

pub stays_whole : (room stage : ℕ) (command : Command) (look : Look) (p : List Row) (given : Given) →
    Stays look → IsAlone (looking room stage command look) p given
    → (given.records.items ≡ p) × (given.end ≡ Closed)
stays_whole = grind (arith, nat_tests, stays_settled)

-- every line from the first on
pub all_lines : (ranges : List YankRange) → ranges ≡ Onward 1 ∷ [] → Stays (yank (record { form = Lines; ranges = ranges }))
all_lines = grind (arith, nat_tests)
