use Rattle.std.proofs.Common.{length}
use Rattle.hum_options.specs.Cutting.{parts}
use Rattle.hum_options.proofs.Listing.{IsListing}
use Rattle.hum_options.proofs.items.read_items.Given as goal

abbrev pub invariant-loop-items : goal.invariant-loop-items
invariant-loop-items g l = IsListing g.T.Item.value_of g.T.Item.view l.text (parts 44 l.rest) l.items.items

abbrev pub decreases-loop-items : goal.decreases-loop-items
decreases-loop-items g l = length (parts 44 l.rest)
