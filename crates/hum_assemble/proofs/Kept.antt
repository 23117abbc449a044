-- What one source more of which something is known changes: nothing that was decided.
use Rattle.std.proofs.lemmas.Bool.Decides.{nat_tests}
use Rattle.std.proofs.Common.{◌≡◌, Bool, arith}
use Rattle.std.proofs.Common.{false}
use Rattle.std.specs.Prelude.{None}
use Rattle.hum_stage.specs.declared.faults.End as end
use Rattle.hum_assemble.specs.Source.{Source}
use Rattle.hum_assemble.specs.Change.{Change, changed}
use Rattle.hum_assemble.specs.Round.{is_missing, place_at}

-- One source.
pub record Kept (going : Bool) (change : Change) (s : Source) : Type 0 where
  pub place : place_at going (changed change s) ≡ place_at going s
  pub known : is_missing going (changed change s) ≡ false

pub kept : (going : Bool) (change : Change) (s : Source) → s.ended ≡ None
    → is_missing going s ≡ false → Kept going change s
kept = grind (arith, nat_tests)
