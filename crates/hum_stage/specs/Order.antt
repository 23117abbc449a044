-- Records in their order, and the newest first.
use Rattle.std.proofs.Common.{◌≡◌, refl, List, [], ◌∷◌, ◌++◌}
use Rattle.hum_score.specs.Row.{Row}
use Rattle.hum_score.specs.Score.{passed, path_after, IsOpen}
use Rattle.hum_score.specs.InOrder.{Follow, IsScore}

pub passed-push : (past p : List Row) (r : Row) → passed past (p ++ r ∷ []) ≡ r ∷ passed past p
passed-push past [] r = refl
passed-push past (q ∷ p) r = passed-push (q ∷ past) p r

-- records that follow after a score, the newest first
pub open_passed : (past p : List Row) → IsOpen past → Follow (path_after past) p
    → IsOpen (passed past p)
open_passed past [] h k = h
open_passed past (r ∷ p) h k = open_passed (r ∷ past) p (h, k.0) k.1

pub open_score : (p : List Row) (r : Row) → IsScore (p ++ r ∷ []) → IsOpen (r ∷ passed [] p)
open_score p r h = rw (passed-push [] p r) at (open_passed [] (p ++ r ∷ []) tt h)
