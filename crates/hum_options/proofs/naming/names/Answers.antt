use Rattle.hum_score.specs.Texts.{texts}
use Rattle.hum_options.proofs.Listing.{listed}
use Rattle.hum_options.proofs.NameItems.{names_are, names_alone, names_lack}
use Rattle.hum_options.proofs.naming.names.Goals as goal

pub returns : goal.returns
returns c = listed names_are names_alone names_lack (λ found. texts found.items) c.args.text.now
    c.read_items.result c.read_items.ensures
