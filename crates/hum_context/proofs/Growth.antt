-- One record more, below a cell.
use Rattle.std.proofs.Common.{◌≡◌, ◌∙◌, refl, sym, ap, ℕ, ◌+◌, ◌≤◌, Bool, true}
use Rattle.std.proofs.Common.{false, not, ◌&&◌, ◌||◌, List, [], ◌∷◌, ◌++◌, length, take, filter}
use Rattle.std.proofs.Common.{append_assoc, length-append, Option, Some, None, inl, inr}
use Rattle.std.proofs.Common.{arith, cond, nat_eq, get_or}
use Rattle.std.specs.Prelude.{nat_le}
use Rattle.std.specs.Option.{option_and_then, option_map}
use Rattle.std.specs.List.{list_any, join_with_byte}
use Rattle.std.proofs.lemmas.Bool.{cases_Bool}
use Rattle.std.proofs.lemmas.Bool.Decides.{nat_tests}
use Rattle.std.proofs.lemmas.List.{take-append-le, take_all}
use Rattle.hum_score.specs.declared.records.SpinedKind.{SpinedKind}
use Rattle.hum_score.specs.declared.records.SpinedKind.TheVariants.{Local, Interpretation, Values}
use Rattle.hum_score.specs.Row.{Row, Comment, Spined}
use Rattle.hum_score.specs.Spines.{Path, after}
use Rattle.hum_score.specs.Score.{path_after, passed}
use Rattle.hum_path.specs.Chains.{below_at, future}
use Rattle.hum_context.specs.Context.{Choice, Extent, First, Between, is_data, is_collectable}
use Rattle.hum_context.specs.Context.{is_last, taken, through, to_last, chain}
use Rattle.hum_context.specs.Columns.{place_after, column_below, column_after, under}
use Rattle.hum_score.specs.InOrder.{through as path_through}
use Rattle.hum_context.specs.Walking.{add_token}

-- the spines behind those that wait
pub path_passed : (past rows : List Row)
    → path_through (path_after past) rows ≡ path_after (passed past rows)
path_passed past [] = refl
path_passed past (row ∷ rows) = path_passed (row ∷ past) rows

-- the chain grows by the token below
below_push : (path : Path) (rows : List Row) (row : Row) (last : Bool) (below : Option ℕ)
    → ((c : ℕ) → chain path (rows ++ row ∷ []) c ≡ chain path rows c ++ under row
    (column_after path rows c))
    → cond last [] (to_last (below_at (future path (rows ++ row ∷ [])) below)) ≡ cond last []
    (to_last (below_at (future path rows) below)) ++ under row
    (option_and_then (column_after path rows) (cond last None below))
below_push path rows row true below h = refl
below_push path rows row false None h = refl
below_push path rows row false (Some c) h = h c

below_none : (last : Bool) (below : Option ℕ)
    → cond last [] (to_last (below_at (λ j. []) below)) ≡ []
below_none true below = refl
below_none false None = refl
below_none false (Some c) = refl

future_step : (path : Path) (kind : SpinedKind) (tokens : List (List ℕ)) (rows : List Row) (c : ℕ)
    → future path (Spined kind tokens ∷ rows) c ≡ get_or tokens c [] ∷ below_at
    (future (after path (Spined kind tokens)) rows) (place_after path kind tokens c)
future_step path Local tokens rows c = refl
future_step path Interpretation tokens rows c = refl
future_step path Values tokens rows c = refl

pub chain_step : (path : Path) (kind : SpinedKind) (tokens : List (List ℕ)) (rows : List Row)
    (c : ℕ)
    → chain path (Spined kind tokens ∷ rows) c ≡ get_or tokens c [] ∷ cond
    (is_last (get_or tokens c [])) []
    (to_last (below_at (future (after path (Spined kind tokens)) rows)
    (place_after path kind tokens c)))
chain_step path kind tokens rows c = ap to_last (future_step path kind tokens rows c)

pub chain_push : (path : Path) (rows : List Row) (row : Row) (c : ℕ)
    → chain path (rows ++ row ∷ []) c ≡ chain path rows c ++ under row (column_after path rows c)
chain_push path [] (Comment text) c = refl
chain_push path [] (Spined kind tokens) c =
    chain_step path kind tokens [] c ∙ ap (λ (ts : List (List ℕ)). get_or tokens c [] ∷ ts)
    (below_none (is_last (get_or tokens c [])) (place_after path kind tokens c))
chain_push path (Comment text ∷ rows) row c = chain_push path rows row c
chain_push path (Spined kind tokens ∷ rows) row c =
    chain_step path kind tokens (rows ++ row ∷ []) c
    ∙ (ap (λ (ts : List (List ℕ)). get_or tokens c [] ∷ ts)
    (below_push (after path (Spined kind tokens)) rows row (is_last (get_or tokens c []))
    (place_after path kind tokens c) (chain_push (after path (Spined kind tokens)) rows row))
    ∙ sym (ap (λ (ts : List (List ℕ)). ts ++ under row
    (column_after path (Spined kind tokens ∷ rows) c)) (chain_step path kind tokens rows c)))

some_stays : {X : Type 0} (o : Option X) → option_and_then (λ x. Some x) o ≡ o
some_stays None = refl
some_stays (Some x) = refl

column_on : (path : Path) (rows : List Row) (row : Row) (below : Option ℕ)
    → ((c : ℕ)
    → column_after path (rows ++ row ∷ []) c ≡ option_and_then
    (column_below (path_through path rows) row) (column_after path rows c))
    → option_and_then (column_after path (rows ++ row ∷ [])) below ≡ option_and_then
    (column_below (path_through path rows) row) (option_and_then (column_after path rows) below)
column_on path rows row None h = refl
column_on path rows row (Some c) h = h c

pub column_push : (path : Path) (rows : List Row) (row : Row) (c : ℕ)
    → column_after path (rows ++ row ∷ []) c ≡ option_and_then
    (column_below (path_through path rows) row) (column_after path rows c)
column_push path [] row c = some_stays (column_below path row c)
column_push path (next ∷ rows) row c = column_on (after path next) rows row
    (column_below path next c) (column_push (after path next) rows row)

-- a chain that is ended leads nowhere
ended_below : (path : Path) (rows : List Row) (last : Bool) (below : Option ℕ)
    → ((c : ℕ) → list_any is_last (chain path rows c) ≡ true → column_after path rows c ≡ None)
    → (last || list_any is_last (cond last [] (to_last (below_at (future path rows) below)))) ≡ true
    → option_and_then (column_after path rows) (cond last None below) ≡ None
ended_below path rows true below h e = refl
ended_below path rows false None h e = refl
ended_below path rows false (Some c) h e = h c e

pub ended_none : (path : Path) (rows : List Row) (c : ℕ)
    → list_any is_last (chain path rows c) ≡ true → column_after path rows c ≡ None
ended_none path [] c e = cc
ended_none path (Comment text ∷ rows) c e = ended_none path rows c e
ended_none path (Spined kind tokens ∷ rows) c e =
    ended_below (after path (Spined kind tokens)) rows (is_last (get_or tokens c []))
    (place_after path kind tokens c) (ended_none (after path (Spined kind tokens)) rows)
    (sym (ap (list_any is_last) (chain_step path kind tokens rows c)) ∙ e)

-- Enough tokens stay enough.
pub with_more : {X : Type 0} (x : X) (o : Option (List X)) (ys : List X)
    → option_map (λ more. x ∷ more) o ≡ Some ys → (zs : List X) × (o ≡ Some zs) × (ys ≡ x ∷ zs)
with_more x None ys e = cc
with_more x (Some zs) ys e = (zs, refl, cc)

through_stays : (ends : List ℕ → Bool) (xs zs ys : List (List ℕ)) → through ends xs ≡ Some ys
    → through ends (xs ++ zs) ≡ Some ys
through_stays ends [] zs ys e = cc
through_stays ends (x ∷ xs) zs ys e =
    (elim (ends x) as (λ b. cond b (Some (x ∷ [])) (option_map (λ more. x ∷ more) (through ends xs))
    ≡ Some ys → cond b (Some (x ∷ [])) (option_map (λ more. x ∷ more) (through ends (xs ++ zs))) ≡
    Some ys) [
      | true ↦ λ k. k
      | false ↦ λ k. let w = with_more x (through ends xs) ys k in
          rw (through_stays ends xs zs w.0 w.1) (ap (λ (us : List (List ℕ)). Some us) (sym w.2))
    ]) e

first_stays : (n : ℕ) (xs zs ys : List (List ℕ)) (b : Bool) → nat_le n (length xs) ≡ b
    → cond b (Some (take n xs)) None ≡ Some ys → taken (First n) (xs ++ zs) ≡ Some ys
first_stays n xs zs ys true w e =
    let h : n ≤ length xs = grind (arith, nat_tests) in
    let s = length-append xs zs in
    let more : nat_le n (length (xs ++ zs)) ≡ true = grind (arith, nat_tests, s) in
    rw (more, take-append-le n xs zs h) e
first_stays n xs zs ys false w e = cc

pub taken_stays : (extent : Extent) (xs zs ys : List (List ℕ)) → taken extent xs ≡ Some ys
    → taken extent (xs ++ zs) ≡ Some ys
taken_stays (First n) xs zs ys e = first_stays n xs zs ys (nat_le n (length xs)) refl e
taken_stays (Between opens ends) xs zs ys e = through_stays ends xs zs ys e

-- With one more they are all of them, or still too few.
pub more_none : {X : Type 0} (x : X) (o : Option (List X)) → option_map (λ more. x ∷ more) o ≡ None
    → o ≡ None
more_none x None e = refl
more_none x (Some zs) e = cc

through_next : (ends : List ℕ → Bool) (xs : List (List ℕ)) (t : List ℕ) → through ends xs ≡ None
    → through ends (xs ++ t ∷ []) ≡ cond (ends t) (Some (xs ++ t ∷ [])) None
through_next ends [] t e = refl
through_next ends (x ∷ xs) t e =
    (elim (ends x) as (λ b. cond b (Some (x ∷ [])) (option_map (λ more. x ∷ more) (through ends xs))
    ≡ None → cond b (Some (x ∷ [])) (option_map (λ more. x ∷ more) (through ends (xs ++ t ∷ []))) ≡
    cond (ends t) (Some ((x ∷ xs) ++ t ∷ [])) None) [
      | true ↦ λ k. cc
      | false ↦ λ k. rw (through_next ends xs t (more_none x (through ends xs) k)) (put_in (ends t))
    ]) e
  where
    put_in : (b : Bool) → option_map (λ more. x ∷ more) (cond b (Some (xs ++ t ∷ [])) None) ≡ cond b
        (Some ((x ∷ xs) ++ t ∷ [])) None
    put_in true = refl
    put_in false = refl

first_next : (n : ℕ) (xs : List (List ℕ)) (t : List ℕ) (b : Bool) → nat_le n (length xs) ≡ b
    → cond b (Some (take n xs)) None ≡ None
    → taken (First n) (xs ++ t ∷ []) ≡ cond (nat_le n (length xs + 1)) (Some (xs ++ t ∷ [])) None
first_next n xs t true w e = cc
first_next n xs t false w e =
    let s : length (xs ++ t ∷ []) ≡ length xs + 1 = length-append xs (t ∷ []) in
    rw s (elim (cases_Bool (nat_le n (length xs + 1))) as (λ _. cond (nat_le n (length xs + 1))
    (Some (take n (xs ++ t ∷ []))) None ≡ cond (nat_le n (length xs + 1)) (Some (xs ++ t ∷ []))
    None) [
      | inl k ↦ let all : length (xs ++ t ∷ []) ≤ n = grind (arith, nat_tests, s) in
          rw (k, take_all n (xs ++ t ∷ []) all) refl
      | inr k ↦ rw k refl
    ])

-- whether the token of this number is the last that is wanted
abbrev pub is_enough_by : Extent → ℕ → List ℕ → Bool
is_enough_by (First n) count token = nat_le n count
is_enough_by (Between opens ends) count token = ends token

pub taken_next : (extent : Extent) (xs : List (List ℕ)) (t : List ℕ) → taken extent xs ≡ None
    → taken extent (xs ++ t ∷ []) ≡ cond (is_enough_by extent (length xs + 1) t)
    (Some (xs ++ t ∷ [])) None
taken_next (First n) xs t e = first_next n xs t (nat_le n (length xs)) refl e
taken_next (Between opens ends) xs t e = through_next ends xs t e

-- A data token ends no spine.
pub value_goes_on : (t : List ℕ) → is_data t ≡ true → is_last t ≡ false
value_goes_on [] e = cc
value_goes_on (byte ∷ bytes) e = let k : nat_eq byte 42 ≡ false = not_star (nat_eq byte 33)
    (nat_eq byte 42) e in let l : nat_eq 42 byte ≡ false = grind (arith, nat_tests, k) in
    rw (k, l) refl
  where
    not_star : (a b : Bool) → not (a || b) ≡ true → b ≡ false
    not_star true b h = cc
    not_star false true h = cc
    not_star false false h = refl

-- Collected tokens aren't empty, so that the text of some is empty only where there are none.
abbrev pub HasBytes : List (List ℕ) → Type 0
HasBytes [] = Unit {0}
HasBytes (t ∷ ts) = is_data t ≡ true

pub first_part : (a b : Bool) → (a && b) ≡ true → a ≡ true
first_part true b h = refl
first_part false b h = cc

pub collected_bytes : (o : Choice) (ts : List (List ℕ)) → HasBytes (filter (is_collectable o) ts)
collected_bytes o [] = tt
collected_bytes o (t ∷ ts) = elim (cases_Bool (is_collectable o t)) as
    (λ _. HasBytes (filter (is_collectable o) (t ∷ ts))) [
      | inl w ↦ rw w (first_part (is_data t) _ w)
      | inr w ↦ rw w (collected_bytes o ts)
    ]

pub join_push : (ts : List (List ℕ)) (t : List ℕ) → HasBytes ts
    → join_with_byte 32 (ts ++ t ∷ []) ≡ add_token (join_with_byte 32 ts) t
join_push [] t h = refl
join_push ([] ∷ ts) t h = cc
join_push ((b ∷ bs) ∷ []) t h = refl
join_push ((b ∷ bs) ∷ next ∷ ts) t h = ap (λ (xs : List ℕ). b ∷ xs)
    (ap (λ (xs : List ℕ). bs ++ 32 ∷ xs) (longer next ts)
    ∙ sym (append_assoc bs (32 ∷ join_with_byte 32 (next ∷ ts)) (32 ∷ t)))
  where
    longer : (x : List ℕ) (xs : List (List ℕ))
        → join_with_byte 32 ((x ∷ xs) ++ t ∷ []) ≡ join_with_byte 32 (x ∷ xs) ++ 32 ∷ t
    longer x [] = refl
    longer x (y ∷ ys) = ap (λ (zs : List ℕ). x ++ 32 ∷ zs) (longer y ys)
        ∙ sym (append_assoc x (32 ∷ join_with_byte 32 (y ∷ ys)) (32 ∷ t))
