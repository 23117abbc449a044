-- New tokens of a record, one by one.
use Rattle.std.proofs.Common.{◌≡◌, ◌∙◌, refl, sym, ap, ℕ, suc, ◌+◌, ◌<◌, ◌≤◌, Bool, true, false}
use Rattle.std.proofs.Common.{List, [], ◌∷◌, ◌++◌, length, drop, get_or, append_assoc, append-nil}
use Rattle.std.proofs.Common.{length-append, arith, add-one, drop-cons, Option, Some, None}
use Rattle.std.specs.Prelude.{nat_le, Ok, Err}
use Rattle.std.specs.Option.{option_map}
use Rattle.std.specs.List.{join_with_byte}
use Rattle.std.proofs.lemmas.Bool.Decides.{nat_tests}
use Rattle.std.proofs.lemmas.List.{drop_all}
use lib.Chars.{codes}
use Rattle.hum_record.specs.Building.{spelled}
use Rattle.hum_score.specs.declared.records.Kind.TheVariants.{Values as AnyValues}
use Rattle.hum_score.specs.declared.records.SpinedKind.TheVariants.{Local, Interpretation, Values}
use Rattle.hum_score.specs.Row.{Row, Comment, Spined, kind_of, text_of, tokens_of}
use Rattle.hum_score.specs.Spines.{Path}
use Rattle.hum_score.specs.Score.{path_after}
use Rattle.hum_stage.specs.declared.faults.Rule.TheVariants.{L1}
use Rattle.hum_context.specs.declared.becoming.Becoming.{Becoming}
use Rattle.hum_context.specs.declared.becoming.Becoming.TheVariants.{Stays, Null, Collects}
use Rattle.hum_context.specs.declared.heard.Heard.TheVariants.{Passed, Taken}
use Rattle.hum_context.specs.declared.queued.Queued.{Queued}
use Rattle.hum_context.specs.Context.{Choice, all_some, push_front, chain, new_token, new_tokens}
use Rattle.hum_context.specs.Context.{context, is_collectable, begins}
use Rattle.hum_stage.specs.Limits.{if_fits}
use Rattle.hum_context.specs.Heard.{heard_of}
use Rattle.hum_context.specs.Queue.{Known, Knows}
use Rattle.hum_context.specs.Walking.{Becomes, Counts, bytes_of}
use Rattle.hum_context.proofs.Tokens.{passed_none, taken_is}
use Rattle.hum_context.proofs.Passing.{bytes_append}
use Rattle.hum_context.proofs.Queues.{knows_at, drop_get, drop_below}

-- these are the new tokens of the columns before place j
pub record Sofar (o : Choice) (path : Path) (row : Row) (rows : List Row) (tokens : List (List ℕ))
    (j : ℕ) (made : List (List ℕ)) : Type 0 where
  pub is : all_some (new_tokens o path row rows 0 tokens)
      ≡ option_map (λ more. made ++ more) (all_some (new_tokens o path row rows j (drop j tokens)))

same_map : {X : Type 0} (x : Option (List X)) → x ≡ option_map (λ more. [] ++ more) x
same_map None = refl
same_map (Some xs) = refl

pub sofar_none : (o : Choice) (path : Path) (row : Row) (rows : List Row) (tokens : List (List ℕ))
    → Sofar o path row rows tokens 0 []
sofar_none o path row rows tokens = record {
  is = same_map (all_some (new_tokens o path row rows 0 tokens));
}

map_push : {X : Type 0} (made : List X) (new : X) (x : Option (List X))
    → option_map (λ more. made ++ more) (push_front (Some new) x)
    ≡ option_map (λ more. (made ++ new ∷ []) ++ more) x
map_push made new None = refl
map_push made new (Some xs) = ap (λ ys. Some ys) (sym (append_assoc made (new ∷ []) xs))

-- the next token of those from place j on
here_is : (o : Choice) (path : Path) (row : Row) (rows : List Row) (tokens : List (List ℕ)) (j : ℕ)
    → j < length tokens
    → new_tokens o path row rows j (drop j tokens)
    ≡ new_token o (get_or tokens j []) (chain path (row ∷ rows) j)
    ∷ new_tokens o path row rows (j + 1) (drop (j + 1) tokens)
here_is o path row rows tokens j below = rw (drop-cons tokens j [] below, add-one) refl

pub sofar_more : (o : Choice) (path : Path) (row : Row) (rows : List Row) (tokens : List (List ℕ))
    (j : ℕ) (made : List (List ℕ)) (new : List ℕ) → Sofar o path row rows tokens j made
    → j < length tokens → new_token o (get_or tokens j []) (chain path (row ∷ rows) j) ≡ Some new
    → Sofar o path row rows tokens (j + 1) (made ++ new ∷ [])
sofar_more o path row rows tokens j made new h below e = record {
  is = h.is ∙ (ap (λ (ts : List (Option (List ℕ))). option_map (λ more. made ++ more) (all_some ts))
      (here_is o path row rows tokens j below
      ∙ ap (λ (t : Option (List ℕ)). t ∷ new_tokens o path row rows (j + 1) (drop (j + 1) tokens)) e)
      ∙ map_push made new (all_some (new_tokens o path row rows (j + 1) (drop (j + 1) tokens))));
}

pub sofar_stops : (o : Choice) (path : Path) (row : Row) (rows : List Row) (tokens : List (List ℕ))
    (j : ℕ) (made : List (List ℕ)) → Sofar o path row rows tokens j made
    → j < length tokens → new_token o (get_or tokens j []) (chain path (row ∷ rows) j) ≡ None
    → all_some (new_tokens o path row rows 0 tokens) ≡ None
sofar_stops o path row rows tokens j made h below e = h.is
    ∙ ap (λ (ts : List (Option (List ℕ))). option_map (λ more. made ++ more) (all_some ts))
    (here_is o path row rows tokens j below
    ∙ ap (λ (t : Option (List ℕ)). t ∷ new_tokens o path row rows (j + 1) (drop (j + 1) tokens)) e)

pub sofar_all : (o : Choice) (path : Path) (row : Row) (rows : List Row) (tokens : List (List ℕ))
    (j : ℕ) (made : List (List ℕ)) → Sofar o path row rows tokens j made → length tokens ≤ j
    → all_some (new_tokens o path row rows 0 tokens) ≡ Some made
sofar_all o path row rows tokens j made h over = h.is
    ∙ (ap (λ (ts : List (List ℕ)). option_map (λ more. made ++ more)
    (all_some (new_tokens o path row rows j ts))) (drop_all j tokens over)
    ∙ ap (λ (ts : List (List ℕ)). Some ts) (append-nil made))

-- a new token that is known
pub becomes_some : (o : Choice) (token : List ℕ) (chain : List (List ℕ)) (new : Becoming)
    → Becomes o token chain (Some new) → (text : List ℕ) × (new_token o token chain ≡ Some text)
becomes_some o token chain Stays h = (token, h)
becomes_some o token chain Null h = (codes ".", h)
becomes_some o token chain Collects h = (join_with_byte 32 h.0, h.2)

pub counts_more : (made : List (List ℕ)) (text : List ℕ) (more size : ℕ) → length text + 1 ≡ more
    → Counts size (bytes_of made + more) → Counts size (bytes_of (made ++ text ∷ []))
counts_more made text more size e h =
    let sum = bytes_append made (text ∷ []) in
    let same : bytes_of made + more ≡ bytes_of (made ++ text ∷ []) = omega (arith, sum, e) in
    rw same at h

-- what is kept of the k-th record
pub kept_at : (o : Choice) (path : Path) (held : List Queued) (k : ℕ) (row : Row) (rows : List Row)
    (kept : Queued) → Knows o path (drop k held) (row ∷ rows) → k < length held
    → kept ≡ get_or held k kept → Known o path row kept
kept_at o path held k row rows kept h below at =
    let zero : k + 0 ≡ k = omega arith in
    let here = knows_at o path (drop k held) [] (row ∷ rows) kept h
    (drop_below k 0 held (omega (arith, below))) (rw (drop_get k held 0 kept, zero) at) in
    let same : row ≡ here.row = first_same here.row here.behind here.split in
    rw same here.known
  where
    first_same : (r : Row) (rs : List Row) → row ∷ rows ≡ r ∷ rs → row ≡ r
    first_same r rs e = cc

-- A text has a byte less than its tokens with one behind each.
pub bytes_joined : (ts : List (List ℕ)) (t : List ℕ)
    → length (join_with_byte 9 (t ∷ ts)) + 1 ≡ bytes_of (t ∷ ts)
bytes_joined [] t = omega arith
bytes_joined (u ∷ us) t =
    let ih = bytes_joined us u in
    let sum = length-append t (9 ∷ join_with_byte 9 (u ∷ us)) in
    omega (arith, ih, sum)

pub fits_is : (ts : List (List ℕ)) → bytes_of ts ≤ 1048577
    → if_fits (Spined Values ts) ≡ Ok (Spined Values ts ∷ [])
fits_is [] h = refl
fits_is (t ∷ ts) h =
    let k = bytes_joined ts t in
    let e : nat_le (length (join_with_byte 9 (t ∷ ts))) 1048576 ≡ true = grind (arith, nat_tests, k, h)
    in rw e refl

-- the same by the text of a record
pub bytes_fit : (ts : List (List ℕ)) → length (spelled ts) ≤ 1048576 → bytes_of ts ≤ 1048577
bytes_fit [] h = omega arith
bytes_fit (t ∷ ts) h = let k = bytes_joined ts t in omega (arith, k, h)

pub bytes_long : (ts : List (List ℕ)) → 1048576 < length (spelled ts) → 1048577 < bytes_of ts
bytes_long [] h = absurd (omega (arith, h))
bytes_long (t ∷ ts) h = let k = bytes_joined ts t in omega (arith, k, h)

pub long_is : (ts : List (List ℕ)) → 1048577 < bytes_of ts → if_fits (Spined Values ts) ≡ Err L1
long_is [] h = absurd (omega (arith, h))
long_is (t ∷ ts) h =
    let k = bytes_joined ts t in
    let e : nat_le (length (join_with_byte 9 (t ∷ ts))) 1048576 ≡ false = grind (arith, nat_tests, k, h)
    in rw e refl

-- Where nothing is collected, a record stays.
quiet_new : (o : Choice) (path : Path) (row : Row) (rows : List Row) (tokens : List (List ℕ)) (j : ℕ)
    (left : List (List ℕ)) → ((c : ℕ) → heard_of o (get_or left c []) ≡ Passed)
    → all_some (new_tokens o path row rows j left) ≡ Some left
quiet_new o path row rows tokens j [] h = refl
quiet_new o path row rows tokens j (t ∷ ts) h =
    rw (passed_none o t (h 0), quiet_new o path row rows tokens (j + 1) ts (λ c. h (suc c))) refl

pub quiet_stays : (o : Choice) (past : List Row) (row : Row) (rows : List Row) (kept : Queued)
    → Known o (path_after past) row kept → kept.heard.items ≡ []
    → context o past row rows ≡ Some (Ok (row ∷ []))
quiet_stays o past (Comment text) rows kept h e = refl
quiet_stays o past (Spined Local tokens) rows kept h e = refl
quiet_stays o past (Spined Interpretation tokens) rows kept h e = refl
quiet_stays o past (Spined Values tokens) rows kept h e =
    let new = quiet_new o (path_after past) (Spined Values tokens) rows tokens 0 tokens
    (λ c. sym (h.heard c) ∙ rw e refl) in
    let short = h.short in
    let k : nat_le (length (text_of (Spined Values tokens))) 1048576 ≡ true =
    grind (arith, nat_tests, short) in
    rw (new, k) refl

pub data_row : (row : Row) → kind_of row ≡ AnyValues → row ≡ Spined Values (tokens_of row)
data_row (Comment text) k = cc
data_row (Spined Local tokens) k = cc
data_row (Spined Interpretation tokens) k = cc
data_row (Spined Values tokens) k = refl

-- a token that isn't collected
pub passed_stays : (o : Choice) (path : Path) (tokens : List (List ℕ)) (kept : Queued) (j : ℕ)
    (rows : List Row) → Known o path (Spined Values tokens) kept
    → get_or kept.heard.items j Passed ≡ Passed
    → new_token o (get_or tokens j []) (chain path (Spined Values tokens ∷ rows) j)
    ≡ Some (get_or tokens j [])
passed_stays o path tokens kept j rows h w =
    rw (passed_none o (get_or tokens j []) (sym (h.heard j) ∙ w)) refl

-- one that is collected, from which no others are
pub shut_is : (o : Choice) (path : Path) (tokens : List (List ℕ)) (kept : Queued) (j : ℕ) (b e : Bool)
    (rows : List Row) → Known o path (Spined Values tokens) kept
    → get_or kept.heard.items j Passed ≡ Taken b e → b ≡ false
    → new_token o (get_or tokens j []) (chain path (Spined Values tokens ∷ rows) j) ≡ Some (codes ".")
shut_is o path tokens kept j b e rows h w shut =
    let is = taken_is o (get_or tokens j []) b e (sym (h.heard j) ∙ w) in
    let begun : begins o.extent (get_or tokens j []) ≡ false = is.1 ∙ shut in
    rw (is.0, begun) refl

-- what was heard of a token
pub open_is : (o : Choice) (path : Path) (tokens : List (List ℕ)) (kept : Queued) (j : ℕ) (b e : Bool)
    → Known o path (Spined Values tokens) kept → get_or kept.heard.items j Passed ≡ Taken b e → b ≡ true
    → (is_collectable o (get_or tokens j []) ≡ true) × (begins o.extent (get_or tokens j []) ≡ true)
open_is o path tokens kept j b e h w open_now =
    let is = taken_is o (get_or tokens j []) b e (sym (h.heard j) ∙ w) in (is.0, is.1 ∙ open_now)
