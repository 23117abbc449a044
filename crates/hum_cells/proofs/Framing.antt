-- The frame goes on from record to record.
use Rattle.std.proofs.lemmas.Bool.Decides.{nat_tests}
use Rattle.std.proofs.Common.{◌≡◌, ◌∙◌, refl, sym, ap, ℕ, true, false, List, [], ◌∷◌, arith}
use Rattle.std.specs.Prelude.{None, Bool, Ok, Err}
use Rattle.std.specs.List.{find}
use Rattle.std.proofs.lemmas.Bool.{and_parts, not-false, false≢true}
use Rattle.hum_score.specs.declared.records.Kind.TheVariants.{Values as AnyValues}
use Rattle.hum_score.specs.Row.{Row, kind_of}
use Rattle.hum_score.specs.Sign.{all_plain, steers}
use Rattle.hum_score.specs.declared.spines.Move.{Move}
use Rattle.hum_score.specs.Spines.{Path, Unopened, Spines, exclusives, names_after, moves, after}
use Rattle.hum_score.specs.Rules.{fault_of, breaks, in_order}
use Rattle.hum_score.specs.Score.{IsOpen, path_after}
use Rattle.hum_path.proofs.Plain.{sound_width, plain_stays, not_exclusive}
use Rattle.hum_path.proofs.Obeyed.{opens}
use Rattle.hum_stage.specs.declared.faults.Rule.{Rule}
use Rattle.hum_stage.specs.Decided.{Decision, MayStep, Steps}
use Rattle.hum_stage.specs.Limits.{in_room}
use Rattle.hum_cells.specs.declared.rewritten.Rewritten.{Rewritten}
use Rattle.hum_cells.specs.Rewriting.{Rewriting, kern_columns}
use Rattle.hum_cells.specs.Rewriter.{Columns, Frames, MayFollow, HasFollowed, MayTell, HasTold, MayTellData, HasToldData, decision}

quiet : (path : Path) (tokens : List (List ℕ)) → all_plain tokens ≡ true → find (breaks path tokens) in_order ≡ None
    → exclusives path ≡ names_after path tokens
quiet Unopened [] plain sound = refl
quiet Unopened (t ∷ ts) plain sound = grind (arith, nat_tests, and_parts, opens, false≢true, not_exclusive)
quiet (Spines names) tokens plain sound = sym (plain_stays names tokens plain (sound_width names tokens sound))

-- a record that asks nothing of the spines leaves the kern columns
pub kern_stays : (past : List Row) (row : Row) → steers row ≡ false → IsOpen (row ∷ past) → kern_columns past ≡ kern_columns (row ∷ past)
kern_stays = grind (arith, nat_tests, quiet, not-false)

pub no_fault : {follows : Rewriting → Columns → Type 0} {path : Path} {kern : List Bool} (row : Row)
    → MayStep (Frames follows path kern) row → fault_of path row ≡ None
no_fault row m = ap (λ p. fault_of p row) m.memory.spines ∙ m.score.1

pub may_follow : {follows : Rewriting → Columns → Type 0} {path : Path} {kern : List Bool} (row : Row) (found : List Move) → found ≡ moves path row
    → MayStep (Frames follows path kern) row → MayFollow follows row found
may_follow = grind (arith, nat_tests)

pub may_tell : (before after : Rewriting → Columns → Type 0) {path : Path} {kern shown : List Bool} (row : Row) (found : List Move)
    → shown ≡ kern → found ≡ moves path row → HasFollowed before after row found → MayStep (Frames before path kern) row → MayTell after shown row
may_tell = grind (arith, nat_tests)

-- What they say together.
pub stepped : (before followed told : Rewriting → Columns → Type 0) {path path' : Path} {kern shown kern' : List Bool} (row : Row)
    (found : List Move) (answer : Rewritten) (rows : List Row) (room : ℕ) → shown ≡ kern → found ≡ moves path row
    → path' ≡ after path row → HasFollowed before followed row found → HasTold followed told shown row (Ok answer)
    → ((past : List Row) → kern ≡ kern_columns past → path' ≡ path_after (row ∷ past) → IsOpen (row ∷ past) → kern' ≡ kern_columns (row ∷ past))
    → decision row (Ok answer) ≡ Ok rows
    → (decide : Decision) (past : List Row) → Frames before path kern decide past → IsOpen (row ∷ past)
    → Steps decide past row (Frames told path' kern') room rows None
stepped = grind (arith, nat_tests)

-- The same of a record that is refused.
pub refused : (before followed told : Rewriting → Columns → Type 0) {path : Path} {kern shown : List Bool} (row : Row)
    (found : List Move) (rule : Rule) (room : ℕ) → shown ≡ kern → found ≡ moves path row
    → HasFollowed before followed row found → HasTold followed told shown row (Err rule)
    → (decide : Decision) (past : List Row) → Frames before path kern decide past → IsOpen (row ∷ past)
    → in_room room (decide past row) ≡ Err rule
refused = grind (arith, nat_tests)

pub may_tell_data : {follows : Rewriting → Columns → Type 0} {path : Path} {kern shown : List Bool} (row : Row) → shown ≡ kern
    → MayStep (Frames follows path kern) row → MayTellData follows shown row
may_tell_data = grind (arith, nat_tests)

pub stepped_data : (before told : Rewriting → Columns → Type 0) {path : Path} {kern shown : List Bool} (row : Row)
    (answer : Rewritten) (rows : List Row) (room : ℕ) → kind_of row ≡ AnyValues → shown ≡ kern
    → HasToldData before told shown row (Ok answer) → decision row (Ok answer) ≡ Ok rows
    → (decide : Decision) (past : List Row) → Frames before path kern decide past → IsOpen (row ∷ past)
    → Steps decide past row (Frames told path kern) room rows None
stepped_data = grind (arith, nat_tests)

pub refused_data : (before told : Rewriting → Columns → Type 0) {path : Path} {kern shown : List Bool} (row : Row)
    (rule : Rule) (room : ℕ) → shown ≡ kern → HasToldData before told shown row (Err rule)
    → (decide : Decision) (past : List Row) → Frames before path kern decide past → IsOpen (row ∷ past)
    → in_room room (decide past row) ≡ Err rule
refused_data = grind (arith, nat_tests)
