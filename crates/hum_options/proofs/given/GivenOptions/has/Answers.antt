use Rattle.hum_options.proofs.Lookups.{is_given}
use Rattle.hum_options.proofs.given.GivenOptions.has.Goals as goal

pub returns : goal.returns
returns g c =
    let found = rw c.deref.ensures.value at c.place_of.ensures in
    rw (← c.self.view_is, c.is_some.ensures)
    (is_given c.args.letter c.self.inside.entries.items c.place_of.result found)
