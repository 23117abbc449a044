use Rattle.std.proofs.Common.{◌≡◌, false, true}
use Rattle.hum_text.proofs.TextLemmas.{stands-new}
use Rattle.hum_text.proofs.reader.LineReader.new.Goals as goal

pub returns-clause-holds : goal.returns-clause-holds
returns-clause-holds g c = λ all. record {
  stands = rw c.new.ensures (stands-new _ all);
  done = λ is. absurd (false-true is);
} where
  false-true : false ≡ true → ⊥
  false-true is = cc
