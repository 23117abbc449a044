-- Tokens of a data record, told one by one.
use Rattle.std.proofs.lemmas.Grind.{common_steps}
use Rattle.std.proofs.Common.{◌≡◌, ◌∙◌, refl, sym, ap, ℕ, zero, suc, ◌+◌, ◌<◌, ◌≤◌, Bool, true, false, ◌&&◌, List, [], ◌∷◌, ◌++◌}
use Rattle.std.proofs.Common.{length-append, length, take, drop, get_or, arith, add-one, append-nil}
use Rattle.std.specs.Prelude.{None, Result, Ok, Err}
use Rattle.std.proofs.lemmas.List.{drop_all, length-map}
use Rattle.std.proofs.lemmas.Bool.{or_parts}
use Rattle.std.proofs.lemmas.Bool.Decides.{nat_tests}
use Rattle.hum_score.specs.declared.records.Kind.TheVariants.{Values as AnyValues, Global}
use Rattle.hum_score.specs.declared.records.SpinedKind.TheVariants.{Values}
use Rattle.hum_score.specs.Row.{Row, Spined, kind_of, tokens_of, width_of, text_of}
use Rattle.hum_score.specs.Spelling.{IsToken, IsTokenOf}
use Rattle.hum_record.specs.Building.{Draft, spelled}
use Rattle.hum_score.specs.Score.{IsOpen}
use Rattle.hum_path.specs.Chains.{columns, longer}
use Rattle.hum_path.proofs.Widths.{columns_width, text_width}
use Rattle.hum_stage.specs.declared.faults.Rule.{Rule}
use Rattle.hum_stage.specs.declared.faults.Rule.TheVariants.{L1}
use Rattle.hum_record.specs.RecordDraft.{Holds}
use Rattle.hum_stage.specs.declared.faults.Refusal.{Refusal}
use Rattle.hum_stage.specs.Refusals.{IfTold}
use Rattle.hum_cells.specs.Rewriter.{Columns, one_longer, Pushes, HasRewritten, HasPushed}
use Rattle.hum_cells.specs.Rewriting.{Rewriting, kern_columns, has_content, any_told, rewritten, beside, all_rewritten, if_fit, data_record, rewrite}

-- tokens behind others, unless one is refused
abbrev pub behind : List (List ℕ) → Result (List (List ℕ)) Rule → Result (List (List ℕ)) Rule
behind done (Ok tokens) = Ok (done ++ tokens)
behind done (Err rule) = Err rule

behind_one : (done : List (List ℕ)) (token : List ℕ) (rest : Result (List (List ℕ)) Rule)
    → behind done (beside (Ok token) rest) ≡ behind (done ++ token ∷ []) rest
behind_one = grind (arith, common_steps)

-- So many tokens were told, and are held.
pub record Done (becomes : List (List ℕ) → List ℕ → Result (List ℕ) Rule) (kerns : List Bool) (columns : List (List (List ℕ)))
    (tokens : List (List ℕ)) (j : ℕ) (draft : Draft) (long : Bool) : Type 0 where
  pub done : List (List ℕ)
  pub size : length done ≡ j
  pub whole : behind done (all_rewritten becomes (drop j kerns) (drop j columns) (drop j tokens)) ≡ all_rewritten becomes kerns columns tokens
  pub holds : Holds Values draft long done

pub none_done : (becomes : List (List ℕ) → List ℕ → Result (List ℕ) Rule) (kerns : List Bool) (columns : List (List (List ℕ)))
    (tokens : List (List ℕ)) {draft : Draft} {long : Bool} → Holds Values draft long [] → Done becomes kerns columns tokens 0 draft long
none_done = grind (arith, nat_tests)

first_told : (becomes : List (List ℕ) → List ℕ → Result (List ℕ) Rule) (kerns : List Bool) (columns : List (List (List ℕ))) (tokens : List (List ℕ)) (j : ℕ)
    → j < length kerns → j < length columns → j < length tokens
    → all_rewritten becomes (drop j kerns) (drop j columns) (drop j tokens)
    ≡ beside (rewritten becomes (get_or kerns j false) (get_or columns j []) (get_or tokens j []))
    (all_rewritten becomes (drop (j + 1) kerns) (drop (j + 1) columns) (drop (j + 1) tokens))
first_told = grind (arith, common_steps)

none_left : (becomes : List (List ℕ) → List ℕ → Result (List ℕ) Rule) (kerns : List Bool) (columns : List (List (List ℕ))) (tokens : List (List ℕ)) (j : ℕ)
    → length tokens ≤ j → all_rewritten becomes (drop j kerns) (drop j columns) (drop j tokens) ≡ Ok []
none_left becomes kerns columns tokens j past = rw (drop_all j tokens past) (none (drop j kerns) (drop j columns))
  where
    none : (kerns : List Bool) (columns : List (List (List ℕ))) → all_rewritten becomes kerns columns [] ≡ Ok []
    none [] columns = refl
    none (k ∷ ks) [] = refl
    none (k ∷ ks) (c ∷ cs) = refl

-- a token that isn't told anew stays
pub stays : (becomes : List (List ℕ) → List ℕ → Result (List ℕ) Rule) (kern : Bool) (above : List (List ℕ)) (token : List ℕ)
    → (kern && has_content token) ≡ false → rewritten becomes kern above token ≡ Ok token
stays becomes kern above token isnt = rw isnt refl

-- what was added of a token that is told anew
pub pushed_on : {A : Type 0} (r : Result A Refusal) (before after : Rewriting → Columns → Type 0) (j : ℕ) (kern : Bool) (token : List ℕ)
    (made making : List (List ℕ) → Type 0) → (kern && has_content token) ≡ true → IfTold r (HasRewritten before after j token made making)
    → IfTold r (HasPushed before after j kern token made making)
pushed_on = grind (arith, nat_tests)

module _ (becomes : List (List ℕ) → List ℕ → Result (List ℕ) Rule) (kerns : List Bool) (columns : List (List (List ℕ))) (tokens : List (List ℕ)) (j : ℕ)
    (draft : Draft) (long : Bool) where
  -- one token more
  pub done_more : (draft' : Draft) (long' : Bool) → j < length kerns → j < length columns → j < length tokens
      → Done becomes kerns columns tokens j draft long
      → Pushes (rewritten becomes (get_or kerns j false) (get_or columns j []) (get_or tokens j [])) (Holds Values draft long) (Holds Values draft' long') None
      → Done becomes kerns columns tokens (j + 1) draft' long'
  done_more = grind (arith, nat_tests, length-append, behind_one, first_told)

  -- a token is refused
  pub refused_at : (rule : Rule) → j < length kerns → j < length columns → j < length tokens
      → Done becomes kerns columns tokens j draft long
      → rewritten becomes (get_or kerns j false) (get_or columns j []) (get_or tokens j []) ≡ Err rule
      → all_rewritten becomes kerns columns tokens ≡ Err rule
  refused_at rule a b c d p = sym d.whole ∙ (ap (behind d.done) (first_told becomes kerns columns tokens j a b c) ∙ rw p refl)

  -- all were told
  pub done_all : length tokens ≤ j → (d : Done becomes kerns columns tokens j draft long) → all_rewritten becomes kerns columns tokens ≡ Ok d.done
  done_all past d = sym d.whole ∙ (ap (behind d.done) (none_left becomes kerns columns tokens j past) ∙ ap Ok (append-nil d.done))

comment_no_data : Global ≡ AnyValues → ⊥
comment_no_data e = cc

-- each token of a data record is one
pub token_of_data : (row : Row) (token : List ℕ) → kind_of row ≡ AnyValues → IsTokenOf row token → IsToken Values token
token_of_data = grind (arith, nat_tests)

-- and has its column
pub as_wide : (past : List Row) (row : Row) → IsOpen (row ∷ past) → kind_of row ≡ AnyValues
    → (length (columns past) ≡ width_of row) × (length (kern_columns past) ≡ width_of row)
as_wide = grind (arith, nat_tests, comment_no_data, text_width, columns_width, length-map)

-- Columns of which those to the left have one cell more.
pub longer_length : (tokens : List (List ℕ)) (above : Columns) → length (longer tokens above) ≡ length above
longer_length (t ∷ ts) (c ∷ cs) = ap suc (longer_length ts cs)
longer_length tokens above = grind (arith, nat_tests)

pub longer_rest : (tokens : List (List ℕ)) (above : Columns) (j : ℕ) → get_or (longer (take j tokens) above) j [] ≡ get_or above j []
longer_rest tokens above zero = refl
longer_rest [] above (suc j) = refl
longer_rest (t ∷ ts) [] (suc j) = refl
longer_rest (t ∷ ts) (c ∷ cs) (suc j) = longer_rest ts cs j

one_more : (tokens : List (List ℕ)) (above : Columns) (j : ℕ) → j < length tokens → j < length above
    → one_longer j (get_or tokens j []) (longer (take j tokens) above) ≡ longer (take (suc j) tokens) above
one_more (t ∷ ts) (c ∷ cs) (suc j) a b = ap (λ (rest : Columns). (t ∷ c) ∷ rest) (one_more ts cs j (omega (arith, a)) (omega (arith, b)))
one_more tokens above j h k = grind (arith, nat_tests)

pub longer_more : (tokens : List (List ℕ)) (above : Columns) (j : ℕ) (token : List ℕ) → token ≡ get_or tokens j []
    → j < length tokens → j < length above
    → one_longer j token (longer (take j tokens) above) ≡ longer (take (j + 1) tokens) above
longer_more tokens above j token is a b =
    ap (λ (t : List ℕ). one_longer j t (longer (take j tokens) above)) is
    ∙ rw add-one (one_more tokens above j a b)

-- with all of them these are the columns behind the record
pub all_longer : (past : List Row) (row : Row) (j : ℕ) → kind_of row ≡ AnyValues → width_of row ≤ j
    → longer (take j (tokens_of row)) (columns past) ≡ columns (row ∷ past)
all_longer = grind (arith, common_steps)

pub told_data : (rewriting : Rewriting) (past : List Row) (row : Row) → kind_of row ≡ AnyValues
    → rewrite rewriting past row ≡ data_record (all_rewritten rewriting.becomes (kern_columns past) (columns past) (tokens_of row))
told_data = grind (arith, nat_tests)

-- a record that fits, and one that doesn't
pub fits : (tokens : List (List ℕ)) → length (spelled tokens) ≤ 1048576 → if_fit (Spined Values tokens ∷ []) ≡ Ok (Spined Values tokens ∷ [])
fits = grind (arith, nat_tests)

pub too_long : (tokens : List (List ℕ)) → 1048576 < length (spelled tokens) → if_fit (Spined Values tokens ∷ []) ≡ Err L1
too_long = grind (arith, nat_tests)

-- where no token is told anew, all stay
pub nothing_told : (becomes : List (List ℕ) → List ℕ → Result (List ℕ) Rule) (kerns : List Bool) (columns : List (List (List ℕ))) (tokens : List (List ℕ))
    → any_told kerns tokens ≡ false → all_rewritten becomes kerns columns tokens ≡ Ok tokens
nothing_told becomes (k ∷ ks) (c ∷ cs) (t ∷ ts) h =
    let both = or_parts (k && has_content t) (any_told ks ts) h in
    rw (stays becomes k c t both.0, nothing_told becomes ks cs ts both.1) refl
nothing_told becomes kerns columns tokens h = grind (arith, nat_tests)

pub same_data : (rewriting : Rewriting) (past : List Row) (row : Row) → kind_of row ≡ AnyValues → length (text_of row) ≤ 1048576
    → any_told (kern_columns past) (tokens_of row) ≡ false → rewrite rewriting past row ≡ Ok (row ∷ [])
same_data = grind (arith, nat_tests, comment_no_data, nothing_told, fits)
