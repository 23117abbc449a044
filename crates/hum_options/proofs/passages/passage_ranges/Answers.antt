use Rattle.hum_options.proofs.Choices.{IfOk_as_is}
use Rattle.hum_options.proofs.Listing.{listed}
use Rattle.hum_options.proofs.PassageItems.{passages_are, passages_alone, passages_lack}
use Rattle.hum_options.proofs.passages.passage_ranges.Goals as goal

pub returns : goal.returns
returns c = listed (λ item value lacks. passages_are item value) passages_alone passages_lack (λ found. found.items)
    c.args.text.now c.read_items.result (IfOk_as_is (λ found. found.items) c.read_items.result _ c.read_items.ensures)
