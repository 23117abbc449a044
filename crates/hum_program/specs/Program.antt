-- What the program does.
use Rattle.std.specs.Prelude.{◌≡◌, ℕ, Bool, List, Option, None, Some}
use Rattle.std.specs.Borrow.{Bor}
use Rattle.hum_text.specs.declared.calls.Sink.{Ghosts as Sink}
use Rattle.hum_turns.specs.Orders.{Order}
use Rattle.hum_turns.specs.Ordering.{order_of}
use Rattle.hum_turns.specs.declared.order.Side.{Side}
use Rattle.hum_turns.specs.declared.order.Side.TheVariants.{Left, Right}
use Rattle.hum_turns.specs.contracts.order.LeftmostOrder.TheImpl as leftmost
use Rattle.hum_turns.specs.contracts.order.RightmostOrder.TheImpl as rightmost
use Rattle.hum_program.specs.Line.{Asks, AskNothing}
use Rattle.hum_program.specs.declared.line.Choice.{Choice}
use Rattle.hum_program.specs.Runs.{RanBundle, RanPlan, RanOr}
use Rattle.hum_program.specs.declared.ending.Ending.{Ending}
use Rattle.hum_program.specs.declared.ending.Ending.TheVariants as ending

module _ {W : Type 0} (sink : Sink W) (old new : W) (input : Option (List ℕ)) (known : Bool)
    (file : List ℕ → Option (List ℕ)) where
  -- The plan of a file was run, or the input as a bundle where none is named.
  abbrev pub RanNamed : {O : Type 0} → Order O → ℕ → O → O → Option (Bor (List ℕ)) → Ending → Type 0
  RanNamed order link before after None =
      RanOr order link sink before after old new (RanBundle order link sink before after old new input)
  RanNamed order link before after (Some name) =
      RanOr order link sink before after old new
      (RanPlan order link sink before after old new known file name.now)

  -- the same in the turns of an order, whatever it was before and is after
  pub record RanBy {O : Type 0} (order : Order O) (choice : Choice) (is : Ending) : Type 0 where
    pub before : O
    pub after : O
    pub ran : RanNamed order choice.link before after choice.file is

  -- the leftmost actor that is ready has each turn, or the rightmost
  abbrev pub RanTo : Side → Choice → Ending → Type 0
  RanTo Left = RanBy (order_of leftmost.ghosts)
  RanTo Right = RanBy (order_of rightmost.ghosts)

  -- What the words ask for was run.
  pub record RanAsked (words : List (List ℕ)) (is : Ending) : Type 0 where
    pub choice : Choice
    pub asked : Asks words choice
    pub ran : RanTo choice.order choice is

  -- What the program does with these words. Those that ask for nothing are refused, and then nothing is written,
  -- nor where memory runs out before there is a plan.
  abbrev pub Does : List (List ℕ) → Ending → Type 0
  Does words (ending.Outcome is) = RanAsked words (ending.Outcome is)
  Does words ending.CannotRead = RanAsked words ending.CannotRead
  Does words ending.Usage = AskNothing words × (new ≡ old)
  Does words ending.Memory = new ≡ old
