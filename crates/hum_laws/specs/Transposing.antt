-- What is left when a score is transposed, and then transposed again, or told in other terms.
use Rattle.std.specs.Prelude.{ℕ, ℤ, Bool, List, [], None, Some}
use lib.Chars.{codes}
use Rattle.hum_score.specs.Row.{Row}
use Rattle.hum_words.specs.declared.commands.Command.TheVariants.{Trans}
use Rattle.hum_stage.specs.Meaning.{Meaning}
use Rattle.hum_cells.specs.Rewriting.{meaning}
use Rattle.hum_tones.specs.Commands.{trans}
use Rattle.hum_tones.specs.Subtokens.{rewritten}
use Rattle.hum_tones.specs.Trans.{transposed}
use Rattle.hum_tones.specs.Semits.{semits_of}
use Rattle.hum_tones.specs.Recip.{recip_of}
use Rattle.hum_laws.specs.Marked.{all_marked}
use Rattle.hum_laws.specs.Shifting.{semits_higher}

-- what a transposition by so many steps and semitones means
abbrev pub moved_by : ℕ → ℤ → ℤ → Meaning
moved_by stage steps semitones = meaning stage Trans (trans steps semitones)

-- A score that is transposed, with these records behind each record with **kern.
abbrev pub transposed_under : List (List ℕ) → ℤ → ℤ → List Row → List Row
transposed_under signs steps semitones =
    all_marked (record {
      name = None;
      signs = signs;
      becomes = λ above. transposed steps semitones;
    })

-- Its notes as semitones, each m higher, with these records behind each that had **kern.
abbrev pub semitones_under : List (List ℕ) → ℤ → Bool → List Row → List Row
semitones_under signs m ties_left_out =
    all_marked (record {
      name = Some (codes "**semits");
      signs = signs;
      becomes = λ above. rewritten (semits_higher m ties_left_out);
    })

-- Its notes as semitones.
abbrev pub as_semitones : Bool → List Row → List Row
as_semitones ties_left_out =
    all_marked (record {
      name = Some (codes "**semits");
      signs = [];
      becomes = λ above. rewritten (semits_of ties_left_out);
    })

-- Its durations as they are written, with these records behind each that had **kern.
abbrev pub durations_under : List (List ℕ) → List Row → List Row
durations_under signs =
    all_marked (record {
      name = Some (codes "**recip");
      signs = signs;
      becomes = λ above. rewritten recip_of;
    })
