use Rattle.hum_extract.specs.Extract.{meaning as meaning_of_extract}
use Rattle.hum_ditto.specs.Ditto.{meaning as meaning_of_ditto}
use Rattle.hum_laws.specs.Piped.{IsPiped}
use Rattle.hum_laws.proofs.Extracted.{extracted_filled}
use Rattle.hum_laws.proofs.columns.extract_ditto.Goals as goal

pub returns-clause-filled : goal.returns-clause-filled
returns-clause-filled c = rw (c.in_ok-options_too.ensures, c.in_ok-chosen_too.ensures) at c.in_ok-filled.ensures.given

pub returns-clause-same : goal.returns-clause-same
returns-clause-same c =
    let filled : IsPiped (meaning_of_ditto 1 c.args.options) (meaning_of_extract 2 c.args.chosen) c.args.score.records.now c.in_ok-filled.filled =
    rw (c.in_ok-options_too.ensures, c.in_ok-chosen_too.ensures) at c.in_ok-filled.ensures.given in
    extracted_filled c.args.chosen c.args.options c.args.score.records.now c.in_ok-extracted.extracted c.in_ok-filled.filled
    c.in_ok-extracted.ensures.given filled c.in_ok-extracted.ensures.keeps (rw c.in_ok-options_too.ensures at c.in_ok-filled.ensures.keeps) c.args.score.closed.0
