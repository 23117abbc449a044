use Rattle.hum_options.specs.Answers.{bars}
use Rattle.hum_options.proofs.Lookups.{any_given}
use Rattle.hum_options.proofs.given.GivenOptions.is_barred.Goals as goal

pub returns : goal.returns
returns g c =
    let seen = any_given (bars c.args.command c.args.letter) c.self.inside.entries.items in
    rw (← c.self.view_is) (rw (seen, ← c.deref.ensures.value) c.are_barring.ensures)
