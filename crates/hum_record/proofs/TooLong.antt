-- Tokens behind those of a record in the making: those that are too long for a record stay so.
use Rattle.std.proofs.lemmas.Bool.Decides.{nat_tests}
use Rattle.std.proofs.Common.{◌≡◌, ℕ, Bool, true, false, List, ◌++◌, ◌≤◌, length, arith}
use Rattle.std.proofs.lemmas.Bool.{false≢true}
use Rattle.hum_score.specs.declared.records.SpinedKind.{SpinedKind}
use Rattle.hum_record.specs.Building.{Draft, spelled}
use Rattle.hum_record.proofs.Drafts.{spelled_front}
use Rattle.hum_record.specs.RecordDraft.{Holds}

pub stays_long : (kind : SpinedKind) (draft : Draft) (long : Bool) (tokens more : List (List ℕ)) → long ≡ true
    → Holds kind draft long tokens → Holds kind draft long (tokens ++ more)
stays_long = grind (arith, nat_tests, false≢true, spelled_front)

pub holds_more : (kind : SpinedKind) (draft new : Draft) (long : Bool) (tokens more : List (List ℕ))
    → new ≡ record draft { tokens = draft.tokens ++ more } → length (spelled (draft.tokens ++ more)) ≤ 1048576 → draft.spent ≡ false
    → Holds kind draft long tokens → Holds kind new long (tokens ++ more)
holds_more = grind (arith, nat_tests, spelled_front)
