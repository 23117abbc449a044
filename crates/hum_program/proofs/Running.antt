-- What the words ask for was run.
use Rattle.std.proofs.Common.{◌≡◌, ℕ, Bool, List, Option, None, Some}
use Rattle.std.specs.Borrow.{Bor}
use Rattle.hum_text.specs.declared.calls.Sink.{Ghosts as Sink}
use Rattle.hum_turns.specs.Orders.{Order}
use Rattle.hum_turns.specs.declared.order.Side.{Side}
use Rattle.hum_turns.specs.declared.order.Side.TheVariants.{Left, Right}
use Rattle.hum_program.specs.Line.{Asks}
use Rattle.hum_program.specs.declared.line.Choice.{Choice}
use Rattle.hum_program.specs.Program.{RanNamed, RanTo, Does}
use Rattle.hum_program.specs.declared.ending.Ending.{Ending}
use Rattle.hum_program.specs.declared.ending.Ending.TheVariants as ending

module _ {W : Type 0} (sink : Sink W) (old new : W) (input : Option (List ℕ)) (known : Bool)
    (file : List ℕ → Option (List ℕ)) where
  -- A run ends with no usage, and leaves the writer where memory runs out before.
  no_usage : {O : Type 0} (order : Order O) (link : ℕ) (before after : O) (name : Option (Bor (List ℕ)))
      → RanNamed sink old new input known file order link before after name ending.Usage → ⊥
  no_usage order link before after None h = h
  no_usage order link before after (Some name) h = h

  same : {O : Type 0} (order : Order O) (link : ℕ) (before after : O) (name : Option (Bor (List ℕ)))
      → RanNamed sink old new input known file order link before after name ending.Memory → new ≡ old
  same order link before after None h = h.0
  same order link before after (Some name) h = h.0

  no_usage_to : (side : Side) (choice : Choice) → RanTo sink old new input known file side choice ending.Usage → ⊥
  no_usage_to Left choice h = no_usage _ choice.link h.before h.after choice.file h.ran
  no_usage_to Right choice h = no_usage _ choice.link h.before h.after choice.file h.ran

  same_to : (side : Side) (choice : Choice) → RanTo sink old new input known file side choice ending.Memory
      → new ≡ old
  same_to Left choice h = same _ choice.link h.before h.after choice.file h.ran
  same_to Right choice h = same _ choice.link h.before h.after choice.file h.ran

  pub does : (words : List (List ℕ)) (choice : Choice) → Asks words choice → (is : Ending)
      → RanTo sink old new input known file choice.order choice is → Does sink old new input known file words is
  does words choice asked (ending.Outcome is) h = record { choice = choice; asked = asked; ran = h }
  does words choice asked ending.CannotRead h = record { choice = choice; asked = asked; ran = h }
  does words choice asked ending.Usage h = absurd (no_usage_to choice.order choice h)
  does words choice asked ending.Memory h = same_to choice.order choice h
