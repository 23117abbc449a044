-- Only rid drops all interpretations, and only as a plan's last stage.
use Rattle.std.proofs.lemmas.Bool.Decides.{nat_tests}
use Rattle.std.proofs.Common.{◌≡◌, false, List, Option, None, Some}
use Rattle.std.proofs.lemmas.Bool.{not-true}
use Rattle.std.specs.Option.{option_map}
use Rattle.std.proofs.Common.{arith}
use Rattle.hum_score.proofs.Cases.{by_bool}
use Rattle.hum_choices.specs.Options as meant
use Rattle.hum_words.specs.declared.commands.Command.{Command}
use Rattle.hum_options.specs.Answers.{Word, is_rid}
use Rattle.hum_options.specs.Given.{Given}
use Rattle.hum_options.specs.Options.{both, meant as meant_by}
use Rattle.hum_plan.specs.Stages.{Takes, drops_interpretations}
use Rattle.hum_plan.specs.Grammar.{SpellsOptions}

-- what there is drops none
abbrev IsQuiet : Option meant.Options → Type 0
IsQuiet None = Unit {0}
IsQuiet (Some options) = meant.drops_interpretations options ≡ false

mapped_quiet : {A : Type 0} (f : A → meant.Options) (x : Option A)
    → ((a : A) → meant.drops_interpretations (f a) ≡ false) → IsQuiet (option_map f x)
mapped_quiet = grind (arith, nat_tests)

both_quiet : {A B : Type 0} (f : A → B → meant.Options) (x : Option A) (y : Option B)
    → ((a : A) (b : B) → meant.drops_interpretations (f a b) ≡ false) → IsQuiet (both f x y)
both_quiet = grind (arith, nat_tests)

-- Only rid drops some, and its letters are no such options.
meant_quiet : (kind : Command) (given : List Given) (options : meant.Options) → meant_by kind given ≡ Some options
    → meant.drops_interpretations options ≡ false
meant_quiet kind given options h = grind (arith, mapped_quiet, both_quiet)

pub spelled_quiet : (kind : Command) (words : List Word) (options : meant.Options)
    → SpellsOptions false kind words options → drops_interpretations (Takes options) ≡ false
spelled_quiet kind words options h = by_bool (is_rid kind)
    (λ w. let p = rw w at h in rw p.2 (not-true _ p.1.last))
    (λ w. let p = rw w at h in meant_quiet kind p.0 options p.3)
