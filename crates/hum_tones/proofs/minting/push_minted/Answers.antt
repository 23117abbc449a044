use Rattle.std.proofs.Common.{sym, ap, Ok}
use Rattle.hum_tones.proofs.minting.push_minted.Goals as goal

pub returns-in_ok-push-in-Some-clause-pushed : goal.returns-in_ok-push-in-Some-clause-pushed
returns-in_ok-push-in-Some-clause-pushed c = (
  c.as_bytes.result.now,
  rw c.in-Some.is (ap Ok (sym c.as_bytes.ensures)),
  λ tokens held. c.in_ok-push-in-Some.ensures.pushed _ tokens held,
)
