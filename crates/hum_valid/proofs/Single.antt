-- rid and yank drop records, and change none.
use Rattle.std.proofs.Common.{◌≡◌, subst, ℕ, Bool, true, false, cond, List, [], ◌∷◌}
use Rattle.std.specs.Prelude.{Option, None, Some, Result, Ok}
use Rattle.hum_score.specs.declared.records.SpinedKind.TheVariants.{Local, Interpretation, Values}
use Rattle.hum_score.specs.Row.{Row, Comment, Spined}
use Rattle.hum_stage.specs.declared.faults.Rule.{Rule}
use Rattle.hum_choices.specs.declared.rid.RidOptions.{RidOptions}
use Rattle.hum_rid.specs.Rid.{drops, rid}
use Rattle.hum_yank.specs.Passages.{passage_of}
use Rattle.hum_yank.specs.Yank.{Choice, is_yanked, kept, yank_numbered, yank}
use Rattle.hum_valid.specs.Records.{IsRecord, AreRecords}
use Rattle.hum_valid.proofs.Lists.{made_so}
use Rattle.hum_valid.proofs.Stages.{DecidesRecords, LooksRecords}

-- What is given is the record, or nothing.
same_some : (xs ys : List Row) → ◌≡◌ {A = Option (Result (List Row) Rule)} (Some (Ok xs)) (Some (Ok ys)) → xs ≡ ys
same_some xs ys e = cc

pub rid_records : (options : RidOptions) → DecidesRecords (rid options)
rid_records options past row rows opens are e = by (drops options row) e
  where
    by : (b : Bool) → ◌≡◌ {A = Result (List Row) Rule} (Ok (cond b [] (row ∷ []))) (Ok rows) → AreRecords rows
    by true e = made_so [] rows e tt
    by false e = made_so (row ∷ []) rows e (are.0, tt)

pub stays : (row : Row) (new : List Row) → IsRecord row
    → ◌≡◌ {A = Option (Result (List Row) Rule)} (Some (Ok (row ∷ []))) (Some (Ok new)) → AreRecords new
stays row new is e = subst AreRecords (same_some (row ∷ []) new e) (is, tt)

gone : (new : List Row) → ◌≡◌ {A = Option (Result (List Row) Rule)} (Some (Ok [])) (Some (Ok new)) → AreRecords new
gone new e = subst AreRecords (same_some [] new e) tt

kept_records : (row : Row) (d : Option Bool) (new : List Row) → IsRecord row → kept row d ≡ Some (Ok new) → AreRecords new
kept_records row None new is e = cc
kept_records row (Some true) new is e = stays row new is e
kept_records row (Some false) new is e = gone new e

numbered : (o : Choice) (past : List Row) (row : Row) (rows : List Row) (number : Option ℕ) (new : List Row) → IsRecord row
    → yank_numbered o past row rows number ≡ Some (Ok new) → AreRecords new
numbered o past row rows None new is e = gone new e
numbered o past row rows (Some x) new is e = kept_records row (is_yanked o past row rows x) new is e

pub yank_records : (o : Choice) → LooksRecords (yank o)
yank_records o past (Comment text) rows new are more e =
    numbered o past (Comment text) rows (passage_of o.form past (Comment text)) new more.0 e
yank_records o past (Spined Local tokens) rows new are more e =
    numbered o past (Spined Local tokens) rows (passage_of o.form past (Spined Local tokens)) new more.0 e
yank_records o past (Spined Values tokens) rows new are more e =
    numbered o past (Spined Values tokens) rows (passage_of o.form past (Spined Values tokens)) new more.0 e
yank_records o past (Spined Interpretation tokens) rows new are more e =
    stays (Spined Interpretation tokens) new more.0 e
