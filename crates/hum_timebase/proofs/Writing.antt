-- The records that are made.
use Rattle.std.proofs.lemmas.Grind.{common_steps}
use Rattle.std.proofs.Common.{◌≡◌, ◌≢◌, ◌∙◌, ℕ, ◌+◌, ◌*◌, ◌<◌, ◌≤◌, List, [], ◌∷◌, ◌++◌, map, length, drop}
use Rattle.std.proofs.Common.{get_or, refl, sym, ap, arith, length-append}
use Rattle.std.proofs.Common.{Bool, true, false, Option, None, Some, Ok, subst}
use Rattle.std.specs.Prelude.{◌==◌, if◌then◌else◌}
use Rattle.std.specs.List.{list_any, AllByRecursion}
use Rattle.std.proofs.lemmas.Bool.Decides.{nat_tests}
use Rattle.std.proofs.lemmas.List.{nil_from_length}
use Rattle.std.proofs.lemmas.List.Folds.{list_any-append}
use lib.Chars.{codes}
use Rattle.hum_score.specs.declared.records.Kind.TheVariants.{Interpretation as AnyInterpretation, Values as AnyValues}
use Rattle.hum_score.specs.declared.records.SpinedKind.{SpinedKind}
use Rattle.hum_score.specs.declared.records.SpinedKind.TheVariants.{Local, Interpretation, Values}
use Rattle.hum_score.specs.Row.{Row, Comment, Spined, kind_of, tokens_of, text_of}
use Rattle.hum_score.specs.Spelling.{IsToken, IsTextOf, has_byte}
use Rattle.hum_record.specs.Building.{spelled}
use Rattle.hum_record.specs.Nulls.{nulls, null_row}
use Rattle.hum_record.proofs.Drafts.{spelled_front}
use Rattle.hum_frac.specs.Ratio.{Ratio}
use Rattle.hum_kern.specs.Classes.{is_digit, is_dot, is_grace_sign}
use Rattle.hum_kern.specs.Value.{value_of}
use Rattle.hum_kern.specs.Duration.{Spelling, spelling_of, is_empty, is_torn, second_length, with_dots, said, recip_of, recip}
use Rattle.hum_kern.specs.Parts.{AreParts, quotient_text, IsSecond}
use Rattle.hum_kern.proofs.Parts.{are_parts}
use Rattle.hum_kern.proofs.Laws.{recip_greater}
use Rattle.hum_kern.proofs.Short.{recip_short}
use Rattle.hum_timebase.specs.Timebase.{names_some, tb_token}
use Rattle.hum_score.specs.Sign.{sign_of, is_exclusive}
use Rattle.hum_score.specs.Spines.{Path}
use Rattle.hum_score.specs.Rules.{fault_of}
use Rattle.hum_score.specs.Score.{IsOpen, path_after}
use Rattle.hum_path.proofs.Obeyed.{opens, obeys, narrow}
use Rattle.hum_timebase.specs.Writing.{IsPace}

-- ---- what a duration is written with

free_run : (p : ℕ → Bool) (b : ℕ) (run : List ℕ) → p b ≡ false → AllByRecursion (λ x. p x ≡ true) run → has_byte b run ≡ false
free_run p b [] other all = refl
free_run p b (x ∷ run) other all = grind (arith, nat_tests, free_run p b run other all.1)

free-append : (b : ℕ) (xs ys : List ℕ) → has_byte b xs ≡ false → has_byte b ys ≡ false → has_byte b (xs ++ ys) ≡ false
free-append b xs ys p q = rw (list_any-append (λ x. x == b) xs ys, p) q

-- a byte that durations aren't written with
record IsForeign (b : ℕ) : Type 0 where
  digit : is_digit b ≡ false
  dot : is_dot b ≡ false
  percent : (37 == b) ≡ false

quotient_length : (second : Option (List ℕ)) → length (quotient_text second) ≡ second_length second
quotient_length = grind (arith, nat_tests)

free_quotient : (b : ℕ) (bytes : List ℕ) (parts : Spelling) → AreParts bytes parts → IsForeign b → has_byte b (quotient_text parts.second) ≡ false
free_quotient b bytes parts h foreign = of parts.second h.second
  where
    of : (second : Option (List ℕ)) → IsSecond second (parts.dots ++ parts.left) → has_byte b (quotient_text second) ≡ false
    of None s = refl
    of (Some second) s = rw foreign.percent (free_run is_digit b second foreign.digit s.all_in)

-- from the front to the end a duration
record IsWhole (bytes : List ℕ) (parts : Spelling) : Type 0 where
  before : length parts.before ≡ 0
  end : length parts.before + length parts.digits + second_length parts.second + length parts.dots ≡ length bytes

free_whole : (b : ℕ) (bytes : List ℕ) (parts : Spelling) → AreParts bytes parts → IsWhole bytes parts → IsForeign b → has_byte b bytes ≡ false
free_whole b bytes parts h whole foreign =
    let first = nil_from_length parts.before whole.before in
    let sum = length-append parts.before (parts.digits ++ (quotient_text parts.second ++ (parts.dots ++ parts.left))) in
    let sum2 = length-append parts.digits (quotient_text parts.second ++ (parts.dots ++ parts.left)) in
    let sum3 = length-append (quotient_text parts.second) (parts.dots ++ parts.left) in
    let sum4 = length-append parts.dots parts.left in
    let second = quotient_length parts.second in
    let text = ap length h.text in
    let end = whole.end in
    let last = nil_from_length parts.left (omega (arith, sum, sum2, sum3, sum4, second, text, end)) in
    subst (λ xs. has_byte b xs ≡ false) (sym h.text) (
    rw (first, last) (
    free-append b parts.digits _ (free_run is_digit b parts.digits foreign.digit h.digits.all_in)
    (free-append b (quotient_text parts.second) _ (free_quotient b bytes parts h foreign)
    (free-append b parts.dots [] (free_run is_dot b parts.dots foreign.dot h.dots.all_in) refl))
    )
    )

whole_dots : (bytes : List ℕ) (start end dots : ℕ) (value : Option Ratio) (step : Ratio) → recip_of bytes (with_dots start end value dots) ≡ Ok step
    → (start ≡ 0) × (end + dots ≡ length bytes)
whole_dots = grind (arith, nat_tests)

whole_said : (bytes : List ℕ) (parts : Spelling) (step : Ratio) → recip_of bytes (said parts) ≡ Ok step → IsWhole bytes parts
whole_said bytes parts step h = go (is_torn parts) refl h
  where
    go : (b : Bool) → is_torn parts ≡ b → recip_of bytes (said parts) ≡ Ok step → IsWhole bytes parts
    go true e h = let w = rw e at h in cc
    go false e h =
        let w = whole_dots bytes (length parts.before)
        (length parts.before + length parts.digits + second_length parts.second) (length parts.dots)
        (value_of parts.digits parts.second) step (rw e at h) in
        record { before = w.0; end = w.1 }

whole_text : (bytes : List ℕ) (step : Ratio) → recip bytes ≡ Ok step → IsWhole bytes (spelling_of bytes)
whole_text bytes step h = go (list_any is_grace_sign bytes) refl (is_empty (spelling_of bytes).digits) refl h
  where
    go : (a : Bool) → list_any is_grace_sign bytes ≡ a → (b : Bool) → is_empty (spelling_of bytes).digits ≡ b →
        recip bytes ≡ Ok step → IsWhole bytes (spelling_of bytes)
    go true e b f h = let w = rw e at h in cc
    go false e true f h = let w = rw (e, f) at h in cc
    go false e false f h = whole_said bytes (spelling_of bytes) step (rw (e, f) at h)

-- a text that is a duration and nothing else may stand in a token
pub is_pace : (step : Ratio) (text : List ℕ) → recip text ≡ Ok step → IsPace step text
is_pace step text h =
    let whole = whole_text text step h in
    let free : (b : ℕ) → IsForeign b → has_byte b text ≡ false = λ b foreign. free_whole b text (spelling_of text) (are_parts text) whole foreign in
    record {
      positive = recip_greater text step h;
      short = recip_short text step h;
      lawful = record {
        filled = λ e. cc;
        one_token = free 9 (record { digit = refl; dot = refl; percent = refl });
        one_line = free 13 (record { digit = refl; dot = refl; percent = refl });
        no_line_end = free 10 (record { digit = refl; dot = refl; percent = refl });
        of_kind = refl;
        no_comment = refl;
      };
    }

-- ---- tokens, one after another

pub one_more : (f : List ℕ → List ℕ) (tokens done all : List (List ℕ)) (j : ℕ) (made : List ℕ) → j < length tokens → made ≡ f (get_or tokens j [])
    → done ++ map f (drop j tokens) ≡ all → (done ++ made ∷ []) ++ map f (drop (j + 1) tokens) ≡ all
one_more = grind (arith, common_steps)

-- the front of what is made is no longer than all
pub front_fits : (f : List ℕ → List ℕ) (tokens done all : List (List ℕ)) (j : ℕ) (made : List ℕ) → j < length tokens → made ≡ f (get_or tokens j [])
    → done ++ map f (drop j tokens) ≡ all → length (spelled (done ++ made ∷ [])) ≤ length (spelled all)
front_fits f tokens done all j made below is h =
    subst (λ xs. length (spelled (done ++ made ∷ [])) ≤ length (spelled xs)) (one_more f tokens done all j made below is h)
    (spelled_front (done ++ made ∷ []) (map f (drop (j + 1) tokens)))

-- a record with tokens becomes one with tokens
pub has_made : (f : List ℕ → List ℕ) (tokens done : List (List ℕ)) (j : ℕ) → tokens ≢ [] → length tokens ≤ j
    → done ++ map f (drop j tokens) ≡ map f tokens → done ≢ []
has_made = grind (arith, common_steps)

pub some_named : (tokens : List (List ℕ)) → names_some tokens ≡ true → tokens ≢ []
some_named = grind (arith, nat_tests)

-- a null record is no longer than the one at its place
dots_short : (kind : SpinedKind) (token : List ℕ) (tokens : List (List ℕ)) → AllByRecursion (IsToken kind) (token ∷ tokens)
    → length (spelled (nulls Values (length (token ∷ tokens)))) ≤ length (spelled (token ∷ tokens))
dots_short kind [] tokens h = absurd (h.0.filled refl)
dots_short kind (b ∷ bytes) [] h = omega arith
dots_short kind (b ∷ bytes) (next ∷ tokens) h = grind (arith, common_steps, dots_short kind next tokens h.1)

pub null_fits : (row : Row) → IsTextOf row (text_of row) → kind_of row ≡ AnyValues → length (text_of (null_row (length (tokens_of row)))) ≤ 1048576
null_fits (Comment text) h k = grind (arith, nat_tests)
null_fits (Spined kind []) h k = absurd (h.1 refl)
null_fits (Spined kind (token ∷ tokens)) h k = grind (arith, nat_tests, dots_short)

pub named_token : (text named token seen made : List ℕ) → named ≡ codes "*tb" ++ text → seen ≡ token
    → made ≡ (if is_exclusive (sign_of seen) then named else codes "*") → made ≡ tb_token text token
named_token text named token seen made is at h = h ∙ rw (is, at) refl

-- the record that follows one with exclusive interpretations is short
tb_token_short : (text token : List ℕ) → length text ≤ 15 → length (tb_token text token) ≤ 18
tb_token_short = grind (arith, nat_tests)

pub tb_short : (text : List ℕ) (tokens : List (List ℕ)) → length text ≤ 15 → length (spelled (map (tb_token text) tokens)) ≤ 19 * length tokens
tb_short text [] short = omega arith
tb_short text (token ∷ []) short = let one = tb_token_short text token short in omega (arith, one)
tb_short text (token ∷ next ∷ tokens) short =
    grind (arith, nat_tests, tb_short text (next ∷ tokens) short, tb_token_short, length-append)

-- no record of a score has more tokens
pub few_tokens : (past : List Row) (row : Row) → IsOpen (row ∷ past) → kind_of row ≡ AnyInterpretation → length (tokens_of row) ≤ 4096
few_tokens past (Comment text) score k = omega arith
few_tokens past (Spined Local tokens) score k = absurd cc
few_tokens past (Spined Values tokens) score k = absurd cc
few_tokens past (Spined Interpretation tokens) score k = by_path (path_after past) refl score.1
  where
    by_path : (path : Path) → path_after past ≡ path → fault_of path (Spined Interpretation tokens) ≡ None → length tokens ≤ 4096
    by_path = grind (arith, nat_tests, opens, obeys, narrow)
