-- Records that wait, one by one.
use Rattle.std.proofs.Common.{◌≡◌, ◌≢◌, ◌∙◌, refl, sym, ap, ℕ, zero, suc, ◌+◌, ◌-◌, ◌≤◌, ◌<◌, Bool}
use Rattle.std.proofs.Common.{true, false, ◌||◌, List, [], ◌∷◌, ◌++◌, length, filter, drop, get_or}
use Rattle.std.proofs.Common.{append_assoc, length-append, arith, cond, Option, Some, None, inl, inr}
use Rattle.std.specs.List.{position}
use Rattle.std.proofs.lemmas.List.{length-drop}
use Rattle.std.proofs.Math.Seq.{drop-nil}
use Rattle.hum_score.specs.declared.records.Kind.TheVariants.{Interpretation as AnyInterpretation}
use Rattle.hum_score.specs.declared.records.SpinedKind.TheVariants.{Local, Interpretation, Values}
use Rattle.hum_score.specs.Row.{Row, Comment, Spined, kind_of, text_of}
use Rattle.hum_score.specs.Spelling.{IsTextOf}
use Rattle.hum_score.specs.declared.spines.Move.{Move}
use Rattle.hum_score.specs.Spines.{Path, after, moves}
use Rattle.hum_path.specs.Chains.{goes_on}
use Rattle.hum_context.specs.declared.below.Below.{Below}
use Rattle.hum_context.specs.declared.heard.Heard.TheVariants.{Passed, Taken}
use Rattle.hum_context.specs.declared.queued.Queued.{Queued}
use Rattle.hum_context.specs.declared.walk.Walk.{Walk}
use Rattle.hum_context.specs.Context.{Choice, is_collectable, is_last, begins}
use Rattle.hum_score.specs.InOrder.{through}
use Rattle.hum_context.specs.declared.links.Sought.{Sought}
use Rattle.hum_context.specs.Heard.{heard_under, ends}
use Rattle.hum_context.specs.Leads.{Linked, link_in, no_link}
use Rattle.hum_context.specs.Memory.{knows_each}
use Rattle.hum_context.specs.Queue.{Known, Knows, column_in, is_last_in, place_in, heard_token}
use Rattle.hum_context.specs.Walking.{Has, Stands}
use Rattle.hum_context.proofs.Leading.{linked_more, linked_none}
use Rattle.hum_context.proofs.Tokens.{all_at, no_data, no_data_last, no_star_data, bang_no_data}
use Rattle.hum_context.proofs.Tokens.{bang_no_last, LawfulAt}

-- Only an interpretation moves spines.
pub stays_below : (row : Row) (below : Below) (c : ℕ) → kind_of row ≢ AnyInterpretation
    → column_in row below c ≡ Some c
stays_below (Comment text) below c h = refl
stays_below (Spined Local tokens) below c h = refl
stays_below (Spined Values tokens) below c h = refl
stays_below (Spined Interpretation tokens) below c h = absurd (h refl)

none_collected : (o : Choice) (t : List ℕ) → is_collectable o t ≡ false
    → filter (is_collectable o) (t ∷ []) ≡ []
none_collected o t e = rw e refl

local_last : (t : List ℕ) → LawfulAt Local t → is_last t ≡ false
local_last t (inl e) = rw e refl
local_last t (inr h) = bang_no_last t h.of_kind

local_none : (o : Choice) (t : List ℕ) → LawfulAt Local t → is_collectable o t ≡ false
local_none o t (inl e) = rw e refl
local_none o t (inr h) = no_data o t (bang_no_data t h.of_kind)

-- What is kept of a new record.
pub known_new : (o : Choice) (path : Path) (row : Row) (kept : Queued) (found : List Move)
    (words : List ℕ) → IsTextOf row words → length (text_of row) ≤ 1048576 → kept.row ≡ row
    → ((c : ℕ) → get_or kept.heard.items c Passed ≡ heard_under o row c)
    → (kind_of row ≡ AnyInterpretation → (c : ℕ)
    → place_in kept.below c ≡ position (goes_on c) found) → found ≡ moves path row
    → Known o path row kept
known_new o path (Comment text) kept found words lawful short is heard places e = record {
  is = is;
  short = short;
  heard = heard;
  collected = λ c. refl;
  below = λ c. ap (λ (r : Row). column_in r kept.below c) is;
  last = λ c. ap (λ (r : Row). is_last_in r c) is;
}
known_new o path (Spined Local tokens) kept found words lawful short is heard places e =
    record {
      is = is;
      short = short;
      heard = heard;
      collected = λ c. none_collected o (get_or tokens c [])
          (local_none o (get_or tokens c []) (all_at Local tokens c lawful.2));
      below = λ c. ap (λ (r : Row). column_in r kept.below c) is
          ∙ ap (λ (b : Bool). cond b None (Some c))
          (sym (local_last (get_or tokens c []) (all_at Local tokens c lawful.2)));
      last = λ c. ap (λ (r : Row). is_last_in r c) is
          ∙ ap (λ (b : Bool). b || false)
          (sym (local_last (get_or tokens c []) (all_at Local tokens c lawful.2)));
    }
known_new o path (Spined Values tokens) kept found words lawful short is heard places e =
    record {
      is = is;
      short = short;
      heard = heard;
      collected = λ c. by (is_collectable o (get_or tokens c [])) (get_or tokens c []);
      below = λ c. ap (λ (r : Row). column_in r kept.below c) is
          ∙ ap (λ (b : Bool). cond b None (Some c))
          (sym (no_data_last (get_or tokens c []) (all_at Values tokens c lawful.2)));
      last = λ c. ap (λ (r : Row). is_last_in r c) is
          ∙ ap (λ (b : Bool). b || false)
          (sym (no_data_last (get_or tokens c []) (all_at Values tokens c lawful.2)));
    }
  where
    by : (b : Bool) (t : List ℕ)
        → cond b (t ∷ []) [] ≡ heard_token (cond b (Taken (begins o.extent t) (ends o.extent t))
        Passed) t
    by true t = refl
    by false t = refl
known_new o path (Spined Interpretation tokens) kept found words lawful short is heard places
    e =
    record {
      is = is;
      short = short;
      heard = heard;
      collected = λ c. none_collected o (get_or tokens c []) (no_data o (get_or tokens c [])
          (no_star_data (get_or tokens c []) (all_at Interpretation tokens c lawful.2)));
      below = λ c. ap (λ (r : Row). column_in r kept.below c) is
          ∙ ap (λ (x : Option ℕ). cond (is_last (get_or tokens c [])) None x)
          (places refl c ∙ ap (position (goes_on c)) e);
      last = λ c. ap (λ (r : Row). is_last_in r c) is ∙ or_no (is_last (get_or tokens c []));
    }
  where
    or_no : (b : Bool) → b ≡ (b || false)
    or_no true = refl
    or_no false = refl

-- one more behind the others
pub knows_push : (o : Choice) (path : Path) (held : List Queued) (rows : List Row) (kept : Queued)
    (next : Row) → Knows o path held rows → Known o (through path rows) next kept
    → ((sought : Sought) (c : ℕ) → link_in kept.links sought c ≡ no_link)
    → Knows o path (held ++ kept ∷ []) (rows ++ next ∷ [])
knows_push o path [] [] kept next h k none = (k, tt, linked_none o path (next ∷ []) kept.links none)
knows_push o path [] (row ∷ rows) kept next h k none = absurd h
knows_push o path (q ∷ qs) [] kept next h k none = absurd h
knows_push o path (q ∷ qs) (row ∷ rows) kept next h k none = (
  h.0,
  knows_push o (after path row) qs rows kept next h.1 k none,
  linked_more o path (row ∷ rows) q.links next h.2,
)

-- the one at a place
pub record At (o : Choice) (path : Path) (rest : List Row) (kept : Queued) : Type 0 where
  pub row : Row
  pub behind : List Row
  pub split : rest ≡ row ∷ behind
  pub known : Known o path row kept
  pub linked : Linked o path (row ∷ behind) kept.links

pub knows_at : (o : Choice) (path : Path) (held : List Queued) (front rest : List Row)
    (kept : Queued) → Knows o path held (front ++ rest) → length front < length held
    → kept ≡ get_or held (length front) kept → At o (through path front) rest kept
knows_at o path [] front rest kept h below at = absurd (omega (arith, below))
knows_at o path (q ∷ qs) [] [] kept h below at = absurd h
knows_at o path (q ∷ qs) [] (row ∷ rows) kept h below at = record {
  row = row;
  behind = rows;
  split = refl;
  known = rw at h.0;
  linked = rw at h.2;
}
knows_at o path (q ∷ qs) (row ∷ front) rest kept h below at =
    knows_at o (after path row) qs front rest kept h.1 (omega (arith, below)) at

pub knows_drop : (o : Choice) (path : Path) (held : List Queued) (front rest : List Row)
    → Knows o path held (front ++ rest)
    → Knows o (through path front) (drop (length front) held) rest
knows_drop o path held [] rest h = h
knows_drop o path [] (row ∷ front) rest h = absurd h
knows_drop o path (q ∷ qs) (row ∷ front) rest h = knows_drop o (after path row) qs front rest h.1

pub drop_get : {X : Type 0} (k : ℕ) (xs : List X) (m : ℕ) (d : X)
    → get_or (drop k xs) m d ≡ get_or xs (k + m) d
drop_get zero xs m d = let none : 0 + m ≡ m = omega arith in rw none refl
drop_get (suc k) [] m d = refl
drop_get (suc k) (x ∷ xs) m d = let next : suc k + m ≡ suc (k + m) = omega arith in
    rw next (drop_get k xs m d)

pub drop_drop : {X : Type 0} (k m : ℕ) (xs : List X) → drop m (drop k xs) ≡ drop (k + m) xs
drop_drop zero m xs = let none : 0 + m ≡ m = omega arith in rw none refl
drop_drop {X = X} (suc k) m [] = drop-nil {A = X} m ∙ sym (drop-nil {A = X} (suc k + m))
drop_drop (suc k) m (x ∷ xs) = let next : suc k + m ≡ suc (k + m) = omega arith in
    rw next (drop_drop k m xs)

pub behind_at : {X : Type 0} (k n : ℕ) (xs : List X) (x : X) → k ≤ n → x ≡ get_or xs n x
    → x ≡ get_or (drop k xs) (n - k) x
behind_at k n xs x over is = let all : k + (n - k) ≡ n = omega (arith, over) in
    is ∙ sym (drop_get k xs (n - k) x ∙ ap (λ (i : ℕ). get_or xs i x) all)

pub drop_below : {X : Type 0} (k m : ℕ) (xs : List X) → k + m < length xs → m < length (drop k xs)
drop_below k m xs h = let left = length-drop k xs in omega (arith, left, h)

-- A walk stands on the record with this number, and goes through it.
pub stands_pass : (o : Choice) (path : Path) (gone k : ℕ) (rows : List Row) (j n : ℕ)
    (held : List Queued) (kept : Queued) (walk new : Walk)
    → Knows o path (drop k held) rows → Stands o path (gone + k) rows j walk
    → walk.at ≡ gone + n → n < length held → kept ≡ get_or held n kept → new.at ≡ walk.at + 1
    → ((front : List Row) (row : Row) → Known o (through path front) row kept
    → Has o path front j walk → Has o path (front ++ row ∷ []) j new)
    → Stands o path (gone + k) rows j new
stands_pass o path gone k rows j n held kept walk new knows h at below is next pass =
    let there = h.at in
    let long : k + length h.front ≡ n = omega (arith, there, at) in
    let here = knows_at o path (drop k held) h.front h.rest kept (rw h.split at knows)
    (drop_below k (length h.front) held (omega (arith, long, below)))
    (rw (drop_get k held (length h.front) kept, long) is) in
    let sum = length-append h.front (here.row ∷ []) in
    record {
      front = h.front ++ here.row ∷ [];
      rest = here.behind;
      split = h.split ∙ (ap (λ (xs : List Row). h.front ++ xs) here.split
          ∙ sym (append_assoc h.front (here.row ∷ []) here.behind));
      at = omega (arith, next, there, sum);
      has = pass h.front here.row here.known h.has;
    }

pub no_more : (xs : List Row) → length xs ≤ 0 → xs ≡ []
no_more [] h = refl
no_more (x ∷ xs) h = absurd (omega (arith, h))

-- It is beyond all of them.
pub stands_out : (o : Choice) (path : Path) (gone k : ℕ) (rows : List Row) (j n : ℕ)
    (held : List Queued) (walk : Walk) → Knows o path (drop k held) rows
    → (h : Stands o path (gone + k) rows j walk)
    → walk.at ≡ gone + n → length held ≤ n → h.rest ≡ []
stands_out o path gone k rows j n held walk knows h at over =
    let size = knows_each o path (drop k held) rows knows in
    let left = length-drop k held in
    let all = ap length h.split in
    let sum = length-append h.front h.rest in
    let there = h.at in
    no_more h.rest (omega (arith, size, left, all, sum, there, at, over))
