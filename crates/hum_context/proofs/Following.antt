-- What is remembered goes on.
use Rattle.std.proofs.Common.{◌≡◌, ◌∙◌, ◌≢◌, refl, sym, ap, ℕ, suc, ◌+◌, ◌≤◌, ◌<◌, true, false}
use Rattle.std.proofs.Common.{List, [], ◌∷◌, ◌++◌, length, drop, get_or, length-append, append_assoc}
use Rattle.std.proofs.Common.{arith, length-drop, ◌-◌, map, Bor, Option, Some, None}
use Rattle.hum_record.specs.Room.{room_for, rooms_for}
use Rattle.std.specs.Prelude.{Result, nat_le, slice_get, ◌==◌}
use Rattle.std.proofs.lemmas.Bool.Decides.{nat_tests}
use Rattle.hum_score.specs.declared.records.SpinedKind.TheVariants.{Values}
use Rattle.hum_score.specs.Row.{Row, Spined, kind_of, tokens_of}
use Rattle.hum_score.specs.Spines.{Path, Unopened, after, moves}
use Rattle.hum_score.specs.Score.{path_after, passed}
use Rattle.hum_stage.specs.declared.faults.Rule.{Rule}
use Rattle.hum_stage.specs.Look.{Look}
use Rattle.hum_stage.specs.Order.{passed-push}
use Rattle.hum_choices.specs.declared.context.Span.{Span}
use Rattle.hum_choices.specs.declared.context.Span.TheVariants.{Number, Phrase}
use Rattle.hum_choices.specs.declared.context.ContextOptions.{ContextOptions}
use Rattle.hum_context.specs.declared.queued.Queued.{Queued}
use Rattle.hum_context.specs.declared.walk.Walk.{Walk}
use Rattle.hum_context.specs.Options.{extent_of, choice_of}
use Rattle.hum_context.specs.Context.{Choice, taken, context, all_some, data_of, new_tokens}
use Rattle.hum_stage.specs.Limits.{if_fits}
use Rattle.hum_score.specs.InOrder.{through}
use Rattle.hum_context.specs.declared.links.Sought.{Sought}
use Rattle.hum_context.specs.Leads.{link_in, no_link}
use Rattle.hum_context.specs.Memory.{Follows, follows_each}
use Rattle.hum_context.specs.Queue.{FirstIsData, Known, Knows}
use Rattle.hum_context.specs.Walking.{AllStand, Stands}
use Rattle.hum_context.proofs.Growth.{path_passed}
use Rattle.hum_context.proofs.Queues.{knows_push}
use Rattle.hum_context.proofs.Weighing.{data_row, kept_at}

-- a walk through records that wait, when there are more
stands_more : (o : Choice) (path : Path) (first : ℕ) (rows : List Row) (next : Row) (j : ℕ)
    (walk : Walk) → Stands o path first rows j walk → Stands o path first (rows ++ next ∷ []) j walk
stands_more o path first rows next j walk h = record {
  front = h.front;
  rest = h.rest ++ next ∷ [];
  split = ap (λ (xs : List Row). xs ++ next ∷ []) h.split ∙ append_assoc h.front h.rest (next ∷ []);
  at = h.at;
  has = h.has;
}

pub follows_put : (o : Choice) (path path' : Path) (gone : ℕ) (walks : List Walk)
    (held held' : List Queued) (look : Look) (past rows : List Row) (next : Row) (kept : Queued)
    → Follows o path gone walks held look past rows → length (passed past rows) < 4294967295
    → path' ≡ after path next
    → ((q : Path) → moves path next ≡ moves q next → Known o q next kept)
    → ((sought : Sought) (c : ℕ) → link_in kept.links sought c ≡ no_link) → held' ≡ held ++ kept ∷ []
    → Follows o path' gone walks held' look past (rows ++ next ∷ [])
follows_put o path path' gone walks held held' look past rows next kept h few p known none k =
    let more = passed-push past rows next in
    let here = known (through (path_after past) rows)
    (ap (λ (q : Path). moves q next) (h.spines ∙ sym (path_passed past rows))) in
    let sum = length-append rows (next ∷ []) in
    let longer : length (passed past (rows ++ next ∷ [])) ≡ suc (length (passed past rows)) =
    ap length more in
    let counted = h.counted in
    record {
      command = h.command;
      some_wanted = h.some_wanted;
      spines = p ∙ (ap (λ (q : Path). after q next) h.spines ∙ ap path_after (sym more));
      waits = rw k (knows_push o (path_after past) held rows kept next h.waits here none);
      stand = λ j walk at beyond. stands_more o (path_after past) gone rows next j walk
          (h.stand j walk at beyond);
      counted = omega (arith, counted, sum, longer);
      few = omega (arith, few, longer);
    }

-- the same memory, so many records before
pub few_lines : (o : Choice) (path : Path) (gone : ℕ) (walks : List Walk) (held : List Queued)
    (look look' : Look) (past past' rows rows' : List Row)
    → Follows o path gone walks held look past rows → length (passed past rows) < 4294967295
    → Follows o path gone walks held look' past' rows' → length (passed past' rows') < 4294967295
few_lines o path gone walks held look look' past past' rows rows' h few k =
    let a = h.counted in
    let b = k.counted in
    let d = follows_each o path gone walks held look past rows h in
    let e = follows_each o path gone walks held look' past' rows' k in
    omega (arith, a, b, d, e, few)

-- there are few
pub few_held : (o : Choice) (path : Path) (gone : ℕ) (walks : List Walk) (held : List Queued)
    (look : Look) (past rows : List Row) → Follows o path gone walks held look past rows
    → gone + length held ≤ 4294967295
few_held o path gone walks held look past rows h =
    let few = h.few in
    let e = follows_each o path gone walks held look past rows h in
    let counted = h.counted in
    omega (arith, few, counted, e)

-- what is kept of those that wait are their records
pub kept_rows : (o : Choice) (path : Path) (held : List Queued) (rows : List Row) → Knows o path held rows
    → map (λ kept. kept.row) held ≡ rows
kept_rows o path [] [] h = refl
kept_rows o path [] (row ∷ rows) h = absurd h
kept_rows o path (kept ∷ held) [] h = absurd h
kept_rows o path (kept ∷ held) (row ∷ rows) h = rw (h.0.is, kept_rows o (after path row) held rows h.1) refl

-- the room of those that were looked at, and of one more
pub one_more : (seen : List (Bor Queued)) (next : Bor Queued) (before now one : ℕ)
    → before ≤ rooms_for (map (λ kept. kept.row) (map (λ kept. kept.now) seen)) → one ≤ room_for next.now.row
    → now ≤ before + one → now ≤ rooms_for (map (λ kept. kept.row) (map (λ kept. kept.now) (seen ++ next ∷ [])))
one_more [] next before now one h o sum = omega (arith, h, o, sum)
one_more (kept ∷ seen) next before now one h o sum =
    let rest = one_more seen next (before - room_for kept.now.row) (now - room_for kept.now.row) one (omega (arith, h)) o
    (omega (arith, sum)) in
    omega (arith, rest)

tail_known : (o : Choice) (path : Path) (held : List Queued) (row : Row) (rows : List Row)
    → Knows o path held (row ∷ rows) → Knows o (after path row) (drop 1 held) rows
tail_known o path [] row rows h = absurd h
tail_known o path (q ∷ qs) row rows h = h.1

-- Once the first is given, other walks stand.
pub follows_on : (o : Choice) (path : Path) (gone gone' : ℕ) (walks walks' : List Walk)
    (held held' : List Queued) (look : Look) (past : List Row) (row : Row) (rows : List Row)
    → Follows o path gone walks held look past (row ∷ rows) → gone' ≡ gone + 1
    → held' ≡ drop 1 held → AllStand o (path_after (row ∷ past)) gone' rows walks'
    → Follows o path gone' walks' held' look (row ∷ past) rows
follows_on o path gone gone' walks walks' held held' look past row rows h g k stand =
    let counted = h.counted in
    record {
      command = h.command;
      some_wanted = h.some_wanted;
      spines = h.spines;
      waits = rw k (tail_known o (path_after past) held row rows h.waits);
      stand = stand;
      counted = omega (arith, counted, g);
      few = h.few;
    }

pub none_stand : (o : Choice) (path : Path) (gone : ℕ) (rows : List Row) (walks : List Walk)
    → walks ≡ [] → AllStand o path gone rows walks
none_stand o path gone rows walks e j walk at beyond =
    let none : slice_get [] j ≡ Some walk = rw e at at in absurd (nothing j none)
  where
    nothing : (j : ℕ) → ◌≡◌ {A = Option Walk} (slice_get [] j) (Some walk) → ⊥
    nothing j k = cc

-- more is known of the ways of those that wait
pub follows_linked : (o : Choice) (path : Path) (gone : ℕ) (walks walks' : List Walk)
    (held held' : List Queued) (look : Look) (past rows : List Row)
    → Follows o path gone walks held look past rows → Knows o (path_after past) held' rows
    → AllStand o (path_after past) gone rows walks'
    → Follows o path gone walks' held' look past rows
follows_linked o path gone walks walks' held held' look past rows h knows stand = record {
  command = h.command;
  some_wanted = h.some_wanted;
  spines = h.spines;
  waits = knows;
  stand = stand;
  counted = h.counted;
  few = h.few;
}

pub get_first : {X : Type 0} (xs : List X) (x : X) → x ≡ get_or xs 0 x → 0 < length xs
    → slice_get xs 0 ≡ Some x
get_first [] x e h = absurd (omega (arith, h))
get_first (y ∷ ys) x e h = ap (λ z. Some z) (sym e)

-- the first that waits
pub first_known : (o : Choice) (path : Path) (gone : ℕ) (walks : List Walk) (held : List Queued)
    (look : Look) (past : List Row) (row : Row) (rows : List Row) (kept : Queued)
    → Follows o path gone walks held look past (row ∷ rows) → 0 < length held
    → kept ≡ get_or held 0 kept → Known o (path_after past) row kept
first_known o path gone walks held look past row rows kept h some at =
    kept_at o (path_after past) held 0 row rows kept h.waits some at

some_heard : {X : Type 0} (xs : List X) → (length xs == 0) ≡ false → xs ≢ []
some_heard [] e k = cc
some_heard (x ∷ xs) e k = cc

pub none_heard : {X : Type 0} (xs : List X) → (length xs == 0) ≡ true → xs ≡ []
none_heard [] e = refl
none_heard (x ∷ xs) e = let no : (suc (length xs) == 0) ≡ false = grind (arith, nat_tests) in cc

-- where something is heard of it, it is data
pub first_data : (o : Choice) (path : Path) (row : Row) (kept : Queued) → Known o path row kept
    → (length kept.heard.items == 0) ≡ false → row ≡ Spined Values (tokens_of row)
first_data o path row kept h e = data_row row (ap kind_of (sym h.is) ∙ kept.valued (some_heard kept.heard.items e))

-- what is decided of data, by its new tokens
pub undecided : (o : Choice) (past : List Row) (row : Row) (rows : List Row)
    → row ≡ Spined Values (tokens_of row)
    → all_some (new_tokens o (path_after past) (Spined Values (tokens_of row)) rows 0
    (tokens_of row)) ≡ None → context o past row rows ≡ None
undecided o past row rows is e = ap (λ (r : Row). context o past r rows) is ∙ ap data_of e

pub decided_by : (o : Choice) (past : List Row) (row : Row) (rows : List Row) (new : List (List ℕ))
    (d : Result (List Row) Rule) → row ≡ Spined Values (tokens_of row)
    → all_some (new_tokens o (path_after past) (Spined Values (tokens_of row)) rows 0
    (tokens_of row)) ≡ Some new → if_fits (Spined Values new) ≡ d
    → context o past row rows ≡ Some d
decided_by o past row rows new d is e f = ap (λ (r : Row). context o past r rows) is
    ∙ (ap data_of e ∙ ap (λ (x : Result (List Row) Rule). Some x) f)

-- a token at least is wanted
pub wanted : (span : Span) → taken (extent_of span) [] ≡ None
wanted (Number n) = let some = n.within.0 in let k : nat_le n.number 0 ≡ false = grind (arith, nat_tests, some)
    in rw k refl
wanted (Phrase begin end) = refl

pub begins : (options : ContextOptions) (path : Path) (gone : ℕ) (walks : List Walk)
    → path ≡ Unopened → walks ≡ [] → gone ≡ 0
    → Follows (choice_of options) path gone walks [] (context (choice_of options)) [] []
begins options path gone walks p none zero = record {
  command = refl;
  some_wanted = wanted options.span;
  spines = p;
  waits = tt;
  stand = none_stand (choice_of options) Unopened gone [] walks none;
  counted = rw zero refl;
  few = omega arith;
}

-- Where something is heard of the first that waits, it is data.
pub first_is_data : (held : List Queued) (kept : Queued) → kept ≡ get_or held 0 kept → 0 < length held
    → (length kept.heard.items == 0) ≡ false → FirstIsData held
first_is_data [] kept e some loud = absurd (omega (arith, some))
first_is_data (q ∷ held) kept e some loud = rw e at (kept.valued (some_heard kept.heard.items loud))

-- one record fewer waits once the first is gone
pub one_fewer : (held held' : List Queued) {before after : ℕ} → held' ≡ drop 1 held
    → before ≡ length held → after ≡ length held' → 0 < before → before ≡ after + 1
one_fewer held held' is size left some =
    let gone = ap length is in
    let rest = length-drop 1 held in
    omega (arith, gone, rest, size, left, some)

-- the first is the one that is gone
pub first_popped : (held : List Queued) (popped kept : Queued) → popped ≡ get_or held 0 popped
    → slice_get held 0 ≡ Some kept → popped ≡ kept
first_popped [] popped kept is at = cc
first_popped (q ∷ held) popped kept is at = let same : q ≡ kept = cc in is ∙ same

pub popped_known : (o : Choice) (path : Path) (held : List Queued) (popped : Queued) (row : Row)
    (rows : List Row) → popped ≡ get_or held 0 popped → Knows o path held (row ∷ rows)
    → Known o path row popped
popped_known o path [] popped row rows is knows = absurd knows
popped_known o path (q ∷ held) popped row rows is knows = rw is knows.0
