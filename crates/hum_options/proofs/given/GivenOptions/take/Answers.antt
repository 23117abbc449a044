use Rattle.hum_options.proofs.Lookups.{value_taken, others_kept, nothing_taken}
use Rattle.hum_options.proofs.given.GivenOptions.take.Goals as goal

pub returns-clause-value : goal.returns-clause-value
returns-clause-value g c =
    let found = rw c.deref.ensures.value at c.in_ok-place.ensures in
    rw (← c.self.view_is) (value_taken c.args.letter c.self.inside.entries.items found c.remove-value.ensures.value)

pub returns-clause-others : goal.returns-clause-others
returns-clause-others g c =
    let found = rw c.deref.ensures.value at c.in_ok-place.ensures in
    rw (← c.self.view_is) (others_kept c.args.letter c.self.inside.entries.items _ found c.remove-value.ensures.items)

pub returns-in_err-place-clause-value : goal.returns-in_err-place-clause-value
returns-in_err-place-clause-value g c =
    let lost = rw c.deref.ensures.value at c.in_err-place.ensures in
    rw (c.from_residual.ensures, ← c.self.view_is) (nothing_taken c.args.letter c.self.inside.entries.items lost)
