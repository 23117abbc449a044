use Rattle.hum_options.proofs.Choices.{IfOk_as_is}
use Rattle.hum_options.proofs.Listing.{listed}
use Rattle.hum_options.proofs.FieldItems.{fields_are, fields_alone, fields_lack}
use Rattle.hum_options.proofs.fields.field_ranges.Goals as goal

pub returns : goal.returns
returns c = listed (λ item value lacks. fields_are item value) fields_alone fields_lack (λ found. found.items)
    c.args.text.now c.read_items.result (IfOk_as_is (λ found. found.items) c.read_items.result _ c.read_items.ensures)
