-- The lines of a written score are its records.
use Rattle.std.proofs.Common.{◌≡◌, ◌≢◌, ◌∙◌, refl, sym, ap, subst, ℕ, zero, suc, ◌+◌, ◌-◌, ◌<◌, ◌≤◌, Bool, true, false, cond}
use Rattle.std.proofs.Common.{List, [], ◌∷◌, ◌++◌, length, map, get_or, Option, None, Some, arith, append_assoc, append-nil, length-append}
use Rattle.std.specs.Prelude.{◌==◌}
use Rattle.std.specs.Prelude.{if◌then◌else◌}
use Rattle.std.specs.List.{join_with_byte, AllByRecursion}
use Rattle.std.proofs.lemmas.Bool.{or_parts, eqb-true, false≢true}
use Rattle.hum_text.specs.declared.TextFault.{TextFault}
use Rattle.hum_text.specs.Text.{lines, fault_of, without_cr}
use Rattle.hum_text.specs.Reading.{Stands}
use Rattle.hum_text.proofs.PieceLemmas.{NoLf}
use Rattle.hum_text.proofs.LimitLemmas.{line-lawful}
use Rattle.hum_text.proofs.TextLemmas.{step-line, step-end, stands-new}
use Rattle.hum_score.specs.declared.records.SpinedKind.{SpinedKind}
use Rattle.hum_score.specs.Row.{Row, Comment, Spined, text_of}
use Rattle.hum_score.specs.Spelling.{has_byte, is_comment, IsToken}
use Rattle.hum_record.proofs.Laws.{only}
use Rattle.hum_score.specs.Spines.{Path, Unopened, after}
use Rattle.hum_score.specs.Rules.{is_unfinished}
use Rattle.hum_stage.specs.declared.faults.Rule.TheVariants.{P8}
use Rattle.hum_score.specs.InOrder.{through, Follow}
use Rattle.hum_turns.specs.Text.{text}
use Rattle.hum_read.specs.Denoted.{Score, score_of, standard, denoted, up_to, broken_at, closed}
use Rattle.hum_valid.specs.Records.{IsRecord, AreRecords}
use Rattle.hum_valid.specs.Written.{ReadsAgain}

-- A byte that a text hasn't stands at none of its places.

never_at : (b : ℕ) (xs : List ℕ) (k : ℕ) → has_byte b xs ≡ false → k < length xs → get_or xs k 0 ≡ b → ⊥
never_at b [] k h less is = absurd (omega (arith, less))
never_at b (x ∷ xs) zero h less is =
    let here = or_parts (x == b) (has_byte b xs) h in absurd (false≢true (sym here.0 ∙ same is))
  where
    same : x ≡ b → (x == b) ≡ true
    same e = rw e (grind arith)
never_at b (x ∷ xs) (suc k) h less is = never_at b xs k (or_parts (x == b) (has_byte b xs) h).1 (omega (arith, less)) is

no_lf : (xs : List ℕ) → has_byte 10 xs ≡ false → NoLf xs
no_lf xs h k less is = never_at 10 xs k h less is

-- The text of a record has a byte, no CR and no LF.

pub record IsLine (line : List ℕ) : Type 0 where
  pub some : 0 < length line
  pub one_line : has_byte 13 line ≡ false
  pub no_line_end : has_byte 10 line ≡ false
  pub at_most : length line ≤ 1048576

comment_some : (line : List ℕ) → is_comment line ≡ true → 0 < length line
comment_some [] h = cc
comment_some (b ∷ bs) h = omega arith

filled : (token : List ℕ) → token ≢ [] → 0 < length token
filled [] h = absurd (h refl)
filled (b ∷ bs) h = omega arith

no_byte : (b : ℕ) (xs ys : List ℕ) → has_byte b xs ≡ false → has_byte b ys ≡ false → has_byte b (xs ++ ys) ≡ false
no_byte b [] ys h k = k
no_byte b (x ∷ xs) ys h k = let both = or_parts (x == b) (has_byte b xs) h in rw both.0 (no_byte b xs ys both.1 k)

joined_some : (kind : SpinedKind) (ts : List (List ℕ)) → ts ≢ [] → AllByRecursion (IsToken kind) ts
    → 0 < length (join_with_byte 9 ts)
joined_some kind [] some h = absurd (some refl)
joined_some kind (t ∷ []) some h = filled t h.0.filled
joined_some kind (t ∷ u ∷ ts) some h =
    let size = length-append t (9 ∷ join_with_byte 9 (u ∷ ts)) in omega (arith, size)

joined_free : (b : ℕ) (ts : List (List ℕ)) → (9 == b) ≡ false → AllByRecursion (λ t. has_byte b t ≡ false) ts
    → has_byte b (join_with_byte 9 ts) ≡ false
joined_free b [] other h = refl
joined_free b (t ∷ []) other h = h.0
joined_free b (t ∷ u ∷ ts) other h =
    no_byte b t (9 ∷ join_with_byte 9 (u ∷ ts)) h.0 (rw other (joined_free b (u ∷ ts) other h.1))

free_each : (kind : SpinedKind) (ts : List (List ℕ)) → AllByRecursion (IsToken kind) ts
    → AllByRecursion (λ t. has_byte 13 t ≡ false) ts × AllByRecursion (λ t. has_byte 10 t ≡ false) ts
free_each kind [] h = (tt, tt)
free_each kind (t ∷ ts) h = let more = free_each kind ts h.1 in ((h.0.one_line, more.0), (h.0.no_line_end, more.1))

is_line : (row : Row) → IsRecord row → IsLine (text_of row)
is_line (Comment line) h =
    record { some = comment_some line h.1; one_line = h.2; no_line_end = h.3; at_most = h.4 }
is_line (Spined kind ts) h =
    let free = free_each kind ts h.2 in
    record {
      some = joined_some kind ts h.1 h.2;
      one_line = joined_free 13 ts refl free.0;
      no_line_end = joined_free 10 ts refl free.1;
      at_most = h.3;
    }

-- so that no CR is taken away
last_free : (b : ℕ) (line : List ℕ) → 0 < length line → has_byte b line ≡ false
    → (get_or line (length line - 1) 0 == b) ≡ false
last_free b line some free = by (get_or line (length line - 1) 0 == b) refl
  where
    by : (v : Bool) → (get_or line (length line - 1) 0 == b) ≡ v → v ≡ false
    by true e = absurd (never_at b line (length line - 1) free (omega (arith, some)) (eqb-true _ _ e))
    by false e = refl

stays : (line : List ℕ) → IsLine line → without_cr line ≡ line
stays line h = rw (last_free 13 line h.some h.one_line) refl

-- The lines of a text are the texts of its records, and it breaks no rule.

lines_from : (all : List ℕ) (given : List (List ℕ)) (rows : List Row) (n t : ℕ)
    → Stands standard all given (text text_of rows) n t → AreRecords rows
    → n + length rows ≤ standard.records → t + length (text text_of rows) ≤ standard.bytes
    → (lines all ≡ given ++ map text_of rows) × (fault_of standard all ≡ None)
lines_from all given [] n t st h few small =
    let ends = step-end standard all given n t st in (ends.0 ∙ sym (append-nil given), ends.1)
lines_from all given (row ∷ rows) n t st h few small =
    let line = text_of row in
    let rest = text text_of rows in
    let is = is_line row h.0 in
    let same = stays line is in
    let split : (line ++ 10 ∷ []) ++ rest ≡ line ++ 10 ∷ rest = append_assoc line (10 ∷ []) rest in
    let size : length ((line ++ 10 ∷ []) ++ rest) ≡ length line + 1 + length rest =
    let a = length-append line (10 ∷ rest) in let b = ap length split in omega (arith, a, b) in
    let at : Stands standard all given (line ++ 10 ∷ rest) n t =
    subst (λ (r : List ℕ). Stands standard all given r n t) split st in
    let some : 0 < length (without_cr line) = rw same is.some in
    let most : length (without_cr line) ≤ 1048576 = rw same is.at_most in
    let next = step-line standard all given line rest n t at (no_lf line is.no_line_end)
    (line-lawful standard (n + 1) t line (no_lf line is.no_line_end) some most (omega (arith, few)) (omega (arith, size, small))) in
    let kept : Stands standard all (given ++ line ∷ []) rest (n + 1) (t + (length line + 1)) =
    subst (λ (l : List ℕ). Stands standard all (given ++ l ∷ []) rest (n + 1) (t + (length line + 1))) same next in
    let more = lines_from all (given ++ line ∷ []) rows (n + 1) (t + (length line + 1)) kept h.1
    (omega (arith, few)) (omega (arith, size, small)) in
    (more.0 ∙ append_assoc given (line ∷ []) (map text_of rows), more.1)

-- Each line is read as its record.

read_from : (path : Path) (n : ℕ) (rows : List Row) → AreRecords rows → Follow path rows
    → denoted path n (map text_of rows) None
    ≡ record {
      rows = rows;
      fault = if is_unfinished (through path rows) then Some (n + length rows + 1, P8) else None;
    }
read_from path n [] h follow = by (is_unfinished path)
  where
    by : (b : Bool) → cond b (broken_at (n + 1) (Some P8)) closed
        ≡ record { rows = []; fault = if b then Some (n + 0 + 1, P8) else None }
    by true = let zeros : n + 1 ≡ n + 0 + 1 = omega arith in rw zeros refl
    by false = refl
read_from path n (row ∷ rows) h follow =
    let line = only (text_of row) row h.0 in
    let ih = read_from (after path row) (n + 1) rows h.1 follow.1 in
    let far : n + 1 + length rows + 1 ≡ n + suc (length rows) + 1 = omega arith in
    rw (line, follow.0, ih, far) refl

pub read_again : (rows : List Row) → ReadsAgain rows
read_again rows are =
    let bytes = text text_of rows in
    let cut = lines_from bytes [] rows 0 0 (stands-new standard bytes) are.records
    (let k = are.few in omega (arith, k)) (let k = are.small in omega (arith, k)) in
    let is : score_of bytes ≡ denoted Unopened 0 (lines bytes) None =
    ap (λ (b : Option (ℕ × TextFault)). denoted Unopened 0 (up_to b (lines bytes)) b) cut.1 in
    let lined = ap (λ (ls : List (List ℕ)). denoted Unopened 0 ls None) cut.0 in
    let all = is ∙ lined ∙ read_from Unopened 0 rows are.records are.score in
    let zeros : 0 + length rows + 1 ≡ length rows + 1 = omega arith in
    record {
      rows = ap (λ (s : Score). s.rows) all;
      fault = rw zeros at (ap (λ (s : Score). s.fault) all);
    }
