-- context writes lawful records.
use Rattle.std.proofs.Common.{◌≡◌, ◌≢◌, refl, sym, subst, ℕ, zero, suc, ◌+◌, ◌≤◌, Bool, true, false, cond, ◌&&◌, ◌||◌, not, List, [], ◌∷◌, length, take, filter, arith}
use Rattle.std.specs.Prelude.{◌==◌, nat_le, Option, None, Some, Ok}
use Rattle.std.specs.Option.{option_map}
use Rattle.std.specs.List.{AllByRecursion, list_any, join_with_byte}
use Rattle.std.proofs.lemmas.Bool.{and_parts}
use Rattle.std.proofs.lemmas.Bool.Decides.{nat_tests}
use lib.Chars.{codes}
use Rattle.hum_score.specs.declared.records.SpinedKind.{SpinedKind}
use Rattle.hum_score.specs.declared.records.SpinedKind.TheVariants.{Local, Interpretation, Values}
use Rattle.hum_score.specs.Row.{Row, Comment, Spined}
use Rattle.hum_score.specs.Spelling.{IsToken, kind_of_token}
use Rattle.hum_record.specs.Contents.{is_null}
use Rattle.hum_score.specs.Spines.{Path}
use Rattle.hum_score.specs.Score.{path_after}
use Rattle.hum_path.specs.Chains.{future}
use Rattle.hum_context.specs.Context.{Extent, First, Between, Choice, is_data, is_collectable, is_last, to_last, chain}
use Rattle.hum_context.specs.Context.{through, taken, begins, token_or_null, new_token, new_tokens, all_some, push_front}
use Rattle.hum_context.specs.Context.{data_of, context}
use Rattle.hum_stage.specs.Limits.{if_fits}
use Rattle.hum_tones.proofs.Parts.{IsPiece}
use Rattle.hum_tones.proofs.Joined.{joined_lawful}
use Rattle.hum_valid.specs.Records.{AreRecords}
use Rattle.hum_valid.proofs.Lists.{dot}
use Rattle.hum_valid.proofs.Single.{stays}
use Rattle.hum_valid.proofs.Filling.{if_within}
use Rattle.hum_valid.proofs.Stages.{LooksRecords}
use Rattle.hum_valid.proofs.Cells.{IsCellOrNone, future_cells}

abbrev AreValues : List (List ℕ) → Type 0
AreValues = AllByRecursion (IsToken Values)

-- a collectable cell is a lawful data token
data_kind : (token : List ℕ) → is_data token ≡ true → kind_of_token token ≡ Values
data_kind [] h = refl
data_kind (b ∷ bs) h = by (b == 33) (b == 42) h
  where
    by : (x y : Bool) → not (x || y) ≡ true → cond x Local (cond y Interpretation Values) ≡ Values
    by true y h = cc
    by false true h = cc
    by false false h = refl

data_filled : (token : List ℕ) → is_data token ≡ true → token ≢ []
data_filled [] h e = cc
data_filled (b ∷ bs) h e = cc

collected_token : (o : Choice) (token : List ℕ) → IsCellOrNone token → is_collectable o token ≡ true → IsToken Values token
collected_token o token cell is =
    let data_is = (and_parts (is_data token) (not (is_null token) && not (o.omits token)) is).0 in
    let lawful = cell (data_filled token data_is) in
    let kind : lawful.0 ≡ Values = subst (λ (k : SpinedKind). k ≡ Values) lawful.1.of_kind (data_kind token data_is) in
    subst (λ (k : SpinedKind). IsToken k token) kind lawful.1

collected_tokens : (o : Choice) (tokens : List (List ℕ)) → AllByRecursion IsCellOrNone tokens
    → AreValues (filter (is_collectable o) tokens)
collected_tokens o [] h = tt
collected_tokens o (t ∷ ts) h = by (is_collectable o t) refl (collected_tokens o ts h.1)
  where
    by : (b : Bool) → is_collectable o t ≡ b → AreValues (filter (is_collectable o) ts)
        → AreValues (cond b (t ∷ filter (is_collectable o) ts) (filter (is_collectable o) ts))
    by true e more = (collected_token o t h.0 e, more)
    by false e more = more

last_cells : (tokens : List (List ℕ)) → AllByRecursion IsCellOrNone tokens → AllByRecursion IsCellOrNone (to_last tokens)
last_cells [] h = tt
last_cells (t ∷ ts) h = (h.0, by (is_last t) (last_cells ts h.1))
  where
    by : (b : Bool) → AllByRecursion IsCellOrNone (to_last ts) → AllByRecursion IsCellOrNone (cond b [] (to_last ts))
    by true more = tt
    by false more = more

-- what is taken of lawful tokens, which are some

pub record Taken (tokens : List (List ℕ)) : Type 0 where
  pub first : List ℕ
  pub more : List (List ℕ)
  pub is : tokens ≡ first ∷ more
  pub lawful : AreValues (first ∷ more)

first_taken : (n : ℕ) (ts : List (List ℕ)) → AreValues ts → AreValues (take n ts)
first_taken zero ts h = tt
first_taken (suc n) [] h = tt
first_taken (suc n) (t ∷ ts) h = (h.0, first_taken n ts h.1)

some_first : (n : ℕ) (ts : List (List ℕ)) → AreValues ts → 1 ≤ n → n ≤ length ts → Taken (take n ts)
some_first zero ts h one few = absurd (omega (arith, one))
some_first (suc n) [] h one few = absurd (omega (arith, few))
some_first (suc n) (t ∷ ts) h one few =
    record { first = t; more = take n ts; is = refl; lawful = (h.0, first_taken n ts h.1) }

some_through : (ends : List ℕ → Bool) (ts tokens : List (List ℕ)) → AreValues ts → through ends ts ≡ Some tokens → Taken tokens
some_through ends [] tokens h e = cc
some_through ends (t ∷ ts) tokens h e = by (ends t) (λ more w. some_through ends ts more h.1 w) e
  where
    mapped : ((more : List (List ℕ)) → through ends ts ≡ Some more → Taken more) → (o : Option (List (List ℕ)))
        → through ends ts ≡ o → option_map (λ more. t ∷ more) o ≡ Some tokens → Taken tokens
    mapped onward None w e = cc
    mapped onward (Some more) w e =
        let rest = onward more w in
        let same : t ∷ more ≡ tokens = cc in
        record { first = t; more = more; is = sym same; lawful = (h.0, subst AreValues (sym rest.is) rest.lawful) }

    by : (b : Bool) → ((more : List (List ℕ)) → through ends ts ≡ Some more → Taken more)
        → cond b (Some (t ∷ [])) (option_map (λ more. t ∷ more) (through ends ts)) ≡ Some tokens → Taken tokens
    by true onward e = let same : t ∷ [] ≡ tokens = cc in record { first = t; more = []; is = sym same; lawful = (h.0, tt) }
    by false onward e = mapped onward (through ends ts) refl e

-- at least one token is asked for
abbrev pub AsksSome : Extent → Type 0
AsksSome (First n) = 1 ≤ n
AsksSome (Between begins ends) = Unit {0}

some_taken : (extent : Extent) (ts tokens : List (List ℕ)) → AsksSome extent → AreValues ts → taken extent ts ≡ Some tokens → Taken tokens
some_taken (First n) ts tokens some h e = by (nat_le n (length ts)) refl e
  where
    by : (b : Bool) → nat_le n (length ts) ≡ b → cond b (Some (take n ts)) None ≡ Some tokens → Taken tokens
    by true w e =
        let same : take n ts ≡ tokens = cc in
        subst Taken same (some_first n ts h some (grind (arith, nat_tests, w)))
    by false w e = cc
some_taken (Between opens ends) ts tokens some h e = some_through ends ts tokens h e

pieces : (ts : List (List ℕ)) → AreValues ts → AllByRecursion IsPiece ts
pieces [] h = tt
pieces (t ∷ ts) h = (
  record {
    part = record { one_token = h.0.one_token; one_line = h.0.one_line; no_line_end = h.0.no_line_end };
    filled = h.0.filled;
    of_kind = h.0.of_kind;
  },
  pieces ts h.1,
)

joined_token : (tokens : List (List ℕ)) → Taken tokens → IsToken Values (join_with_byte 32 tokens)
joined_token tokens h =
    subst (λ (ts : List (List ℕ)). IsToken Values (join_with_byte 32 ts)) (sym h.is) (joined_lawful (h.first ∷ h.more) (pieces (h.first ∷ h.more) h.lawful))

module _ (o : Choice) (some : AsksSome o.extent) where
  or_null : (ended : Bool) (d : Option (List (List ℕ))) (text : List ℕ) → ((tokens : List (List ℕ)) → d ≡ Some tokens → Taken tokens)
      → token_or_null ended d ≡ Some text → IsToken Values text
  or_null ended (Some tokens) text h e =
      let same : join_with_byte 32 tokens ≡ text = cc in subst (IsToken Values) same (joined_token tokens (h tokens refl))
  or_null true None text h e = let same : codes "." ≡ text = cc in subst (IsToken Values) same dot
  or_null false None text h e = cc

  new_lawful : (token : List ℕ) (tokens : List (List ℕ)) (text : List ℕ) → IsToken Values token → AllByRecursion IsCellOrNone tokens
      → new_token o token tokens ≡ Some text → IsToken Values text
  new_lawful token tokens text h cells e = by (is_collectable o token) (begins o.extent token) e
    where
      by : (a b : Bool)
          → cond a (cond b (token_or_null (list_any is_last tokens) (taken o.extent (filter (is_collectable o) tokens))) (Some (codes "."))) (Some token)
          ≡ Some text
          → IsToken Values text
      by true true e =
          or_null (list_any is_last tokens) (taken o.extent (filter (is_collectable o) tokens)) text
          (λ ts w. some_taken o.extent (filter (is_collectable o) tokens) ts some (collected_tokens o tokens cells) w) e
      by true false e = let same : codes "." ≡ text = cc in subst (IsToken Values) same dot
      by false b e = let same : token ≡ text = cc in subst (IsToken Values) same h

  all_new : (path : Path) (row : Row) (rows : List Row) (j : ℕ) (tokens made : List (List ℕ)) → AreRecords (row ∷ rows)
      → AreValues tokens → all_some (new_tokens o path row rows j tokens) ≡ Some made → AreValues made × (tokens ≢ [] → made ≢ [])
  all_new path row rows j [] made are h e =
      let same : [] ≡ made = cc in (subst AreValues same tt, λ more. absurd (more refl))
  all_new path row rows j (token ∷ tokens) made are h e =
      first (λ more w. all_new path row rows (j + 1) tokens more are h.1 w) (new_token o token (chain path (row ∷ rows) j)) refl e
    where
      rest : ((more : List (List ℕ)) → all_some (new_tokens o path row rows (j + 1) tokens) ≡ Some more → AreValues more × (tokens ≢ [] → more ≢ []))
          → (text : List ℕ) → IsToken Values text → (d : Option (List (List ℕ)))
          → all_some (new_tokens o path row rows (j + 1) tokens) ≡ d → option_map (λ ys. text ∷ ys) d ≡ Some made
          → AreValues made × (token ∷ tokens ≢ [] → made ≢ [])
      rest onward text lawful None w e = cc
      rest onward text lawful (Some more) w e =
          let same : text ∷ more ≡ made = cc in
          let is = onward more w in
          (subst AreValues same (lawful, is.0), λ any none. (let no : text ∷ more ≡ [] = subst (λ (x : List (List ℕ)). x ≡ []) (sym same) none in cc))

      first : ((more : List (List ℕ)) → all_some (new_tokens o path row rows (j + 1) tokens) ≡ Some more → AreValues more × (tokens ≢ [] → more ≢ []))
          → (x : Option (List ℕ)) → new_token o token (chain path (row ∷ rows) j) ≡ x
          → push_front x (all_some (new_tokens o path row rows (j + 1) tokens)) ≡ Some made
          → AreValues made × (token ∷ tokens ≢ [] → made ≢ [])
      first onward None w e = cc
      first onward (Some text) w e =
          rest onward text (new_lawful token (chain path (row ∷ rows) j) text h.0
          (last_cells (future path (row ∷ rows) j) (future_cells path (row ∷ rows) j are)) w)
          (all_some (new_tokens o path row rows (j + 1) tokens)) refl e

  pub context_records : LooksRecords (context o)
  context_records past (Comment text) rows new are more e = stays (Comment text) new more.0 e
  context_records past (Spined Local tokens) rows new are more e = stays (Spined Local tokens) new more.0 e
  context_records past (Spined Interpretation tokens) rows new are more e = stays (Spined Interpretation tokens) new more.0 e
  context_records past (Spined Values tokens) rows new are more e =
      by (all_some (new_tokens o (path_after past) (Spined Values tokens) rows 0 tokens)) refl e
    where
      by : (d : Option (List (List ℕ))) → all_some (new_tokens o (path_after past) (Spined Values tokens) rows 0 tokens) ≡ d
          → data_of d ≡ Some (Ok new) → AreRecords new
      by None w e = cc
      by (Some made) w e =
          let is = all_new (path_after past) (Spined Values tokens) rows 0 tokens made more more.0.2 w in
          if_within made new (is.1 more.0.1) is.0 (let same : if_fits (Spined Values made) ≡ Ok new = cc in same)
