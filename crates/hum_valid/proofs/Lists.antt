-- Lists of lawful records.
use Rattle.std.proofs.Common.{◌≡◌, subst, ◌≢◌, ℕ, zero, suc, ◌≤◌, List, [], ◌∷◌, ◌++◌, length, take, refl}
use Rattle.std.specs.Prelude.{Result, Ok}
use Rattle.std.specs.List.{AllByRecursion}
use lib.Chars.{codes}
use Rattle.hum_stage.specs.declared.faults.Rule.{Rule}
use Rattle.hum_score.specs.declared.records.SpinedKind.TheVariants.{Interpretation, Values}
use Rattle.hum_score.specs.declared.records.SpinedKind.{SpinedKind}
use Rattle.hum_score.specs.Row.{Row, Spined}
use Rattle.hum_record.specs.Building.{spelled}
use Rattle.hum_score.specs.Spelling.{IsToken}
use Rattle.hum_valid.specs.Records.{IsRecord, AreRecords}

pub both : (xs ys : List Row) → AreRecords xs → AreRecords ys → AreRecords (xs ++ ys)
both [] ys h k = k
both (x ∷ xs) ys h k = (h.0, both xs ys h.1 k)

pub front : (xs ys : List Row) → AreRecords (xs ++ ys) → AreRecords xs
front [] ys h = tt
front (x ∷ xs) ys h = (h.0, front xs ys h.1)

pub some_of : (n : ℕ) (xs : List Row) → AreRecords xs → AreRecords (take n xs)
some_of zero xs h = tt
some_of (suc n) [] h = tt
some_of (suc n) (x ∷ xs) h = (h.0, some_of n xs h.1)

-- tokens of a kind that fit are a record
pub made_of : (kind : SpinedKind) (tokens : List (List ℕ)) → tokens ≢ [] → AllByRecursion (IsToken kind) tokens
    → length (spelled tokens) ≤ 1048576 → IsRecord (Spined kind tokens)
made_of kind tokens some lawful most = (refl, some, lawful, most)

-- records that are given as they were made
pub made_so : (made rows : List Row) → ◌≡◌ {A = Result (List Row) Rule} (Ok made) (Ok rows) → AreRecords made → AreRecords rows
made_so made rows e h = let same : made ≡ rows = cc in subst AreRecords same h

-- the null tokens of data and of interpretations
pub dot : IsToken Values (codes ".")
dot = record { filled = λ e. cc; one_token = refl; one_line = refl; no_line_end = refl; of_kind = refl; no_comment = refl }

pub star : IsToken Interpretation (codes "*")
star = record { filled = λ e. cc; one_token = refl; one_line = refl; no_line_end = refl; of_kind = refl; no_comment = refl }
