use Rattle.hum_words.proofs.Decided.{cut_as_written, refused_as_wrong}
use Rattle.hum_words.proofs.laws.lines_are_cut_as_written.Goals as goal

pub returns-clause-cut : goal.returns-clause-cut
returns-clause-cut c = cut_as_written

pub returns-clause-refused : goal.returns-clause-refused
returns-clause-refused c = refused_as_wrong
