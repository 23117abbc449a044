-- How much each turn moves, and so how many turns there can be.
use Rattle.std.proofs.lemmas.Bool.Decides.{nat_tests}
use Rattle.std.proofs.Common.{◌≡◌, ℕ, zero, suc, pred, ◌+◌, ◌<◌, ◌≤◌, min, true, false}
use Rattle.std.proofs.Common.{if◌then◌else◌, nat_lt, List, [], ◌∷◌, ◌++◌, length, slice_get, Option}
use Rattle.std.proofs.Common.{Some, None, is_some, is_none, refl, sym, ◌∙◌, subst, ⊎_elim}
use Rattle.std.proofs.Common.{arith, length-append, le-ltb, lt-ltb, eq-eqb, ne_eqb}
use Rattle.std.proofs.lemmas.Bool.{cases_eq, cases_lt, cases_Bool}
use Rattle.std.proofs.lemmas.Bool.{and_parts, cond-true, cond-false}
use Rattle.std.proofs.lemmas.Option.{none-some, same_Some}
use Rattle.std.specs.List.{AllByRecursion}
use Rattle.hum_turns.specs.Plan.{Plan, last, IsPlan}
use Rattle.hum_turns.specs.Meaning.{meaning}
use Rattle.hum_turns.specs.Links.{Link, given, has_some, Moment, IsOpening, Same}
use Rattle.hum_turns.specs.Turns.{State, Gives, Reads, Takes, Ends, state, is_source, ready}
use Rattle.hum_turns.specs.Turns.{Becomes, popped, marked, Does, Turns, Step, Run}
use Rattle.hum_turns.specs.Counts.{turns_of, bytes_read, put, most_of_source, most_of_stage}
use Rattle.hum_turns.specs.Counts.{most_of_sink, most, total, most_in_all, all_done, bound}
use Rattle.hum_turns.proofs.Fronts.{begins_shorter}
use Rattle.hum_turns.proofs.States.{Taker, Allowed, last_less, taker, gives_less, ends_less}
use Rattle.hum_turns.proofs.States.{source_less, ready_allows, reads_source, read_allowed}
use Rattle.hum_turns.proofs.Keeping.{Inv}
use Rattle.hum_turns.proofs.Against.{front}

-- What an actor has spent its turns on: what it read, gave and took, and the ends that it set and
-- heard.

one_if : {A : Type 0} → Option A → ℕ
one_if None = 0
one_if (Some x) = 1

did : {R : Type 0} → Link R → ℕ
did l = l.read + length (given l) + one_if l.mark

had : {R : Type 0} → Link R → ℕ
had l = length l.taken + one_if l.heard

had_of : {R : Type 0} → Moment R → List ℕ → ℕ
had_of m [] = 0
had_of m (s ∷ ss) = had (m s) + had_of m ss

spent : {R : Type 0} → Plan R → Moment R → ℕ → ℕ
spent plan m k =
    if nat_lt k plan.count then did (m k) + had_of m (plan.stage k).sources else had (m (last plan))

unset_counts : {A : Type 0} (o : Option A) → is_none o ≡ true → one_if o ≡ 0
unfolding one_if
unset_counts = grind (arith, nat_tests)

set_counts : {A : Type 0} (o : Option A) → is_some o ≡ true → one_if o ≡ 1
unfolding one_if
set_counts = grind (arith, nat_tests)

at_most_one : {A : Type 0} (o : Option A) → one_if o ≤ 1
unfolding one_if
at_most_one = grind (arith, nat_tests)

-- A link that has gone on.

record Grown {R : Type 0} (l k : Link R) : Type 0 where
  did : did l ≤ did k
  had : had l ≤ had k

unmoved : {R : Type 0} (l : Link R) → Grown l l
unmoved l = record { did = omega arith; had = omega arith }

grown_each : {R : Type 0} (k : ℕ) (l : Link R) (old new : Moment R) → Becomes k l old new
    → Grown (old k) l → (s : ℕ) → Grown (old s) (new s)
grown_each = grind (arith, nat_tests)

module _ {R : Type 0} (old new : Moment R) (g : (s : ℕ) → Grown (old s) (new s)) where
  had_grows : (ss : List ℕ) → had_of old ss ≤ had_of new ss
  unfolding had_of
  had_grows [] = omega arith
  had_grows (s ∷ ss) = let a = (g s).had in let b = had_grows ss in omega arith

  -- one of the sources had more
  had_more : (ss : List ℕ) (p s : ℕ) → slice_get ss p ≡ Some s → had (old s) + 1 ≤ had (new s)
      → had_of old ss + 1 ≤ had_of new ss
  unfolding had_of
  had_more (t ∷ ss) (suc p) s at h = grind (arith, nat_tests, had_more ss p s)
  had_more ss p s h k = grind (arith, nat_tests, none-some, same_Some, had, had_grows)

-- the next record, or the end
popped_had : {R : Type 0} (l : Link R) (ws : List R) → l.waiting ≡ ws → has_some l ≡ true
    → (did l ≤ did (popped l ws)) × (had l + 1 ≤ had (popped l ws))
unfolding did had
popped_had = grind (arith, nat_tests, and_parts, unset_counts, nat_lt, is_some, set_counts, length-append)

-- What a turn adds.

module _ {R : Type 0} (plan : Plan R) where
  spent_stage : (m : Moment R) (k : ℕ) → k < plan.count
      → spent plan m k ≡ did (m k) + had_of m (plan.stage k).sources
  unfolding spent
  spent_stage m k less = cond-true _ _ _ (lt-ltb k plan.count less)

  spent_sink : (m : Moment R) (k : ℕ) → plan.count ≤ k → spent plan m k ≡ had (m (last plan))
  unfolding spent
  spent_sink m k h = cond-false _ _ _ (le-ltb k plan.count h)

  -- so many to actor k, and to none less than before
  record Adds (k d : ℕ) (old new : Moment R) : Type 0 where
    own : spent plan old k + d ≤ spent plan new k
    others : (j : ℕ) → spent plan old j ≤ spent plan new j

  spent_grows : (old new : Moment R) → ((s : ℕ) → Grown (old s) (new s)) → (k : ℕ)
      → spent plan old k ≤ spent plan new k
  spent_grows = grind (arith, nat_tests, ⊎_elim, spent_stage, had_grows, spent_sink, cases_lt)

  -- a stage that changes its own link
  own_link : (k : ℕ) (l : Link R) (old new : Moment R) → Becomes k l old new → k < plan.count
      → did (old k) + 1 ≤ did l → had (old k) ≤ had l → Adds k 1 old new
  own_link k l old new e less d h =
      let g = grown_each k l old new e (record { did = omega arith; had = h }) in
      let a = spent_stage old k less in
      let b = spent_stage new k less in
      let c = had_grows old new g (plan.stage k).sources in
      let m : did (old k) + 1 ≤ did (new k) = grind (arith, nat_tests, did) in
      record { own = omega arith; others = spent_grows old new g }

  -- an actor that takes from another's
  taken_link : (k s : ℕ) (old new : Moment R) → Becomes s (popped (old s) (old s).waiting) old new
      → has_some (old s) ≡ true → Taker plan old k s → Adds k 1 old new
  taken_link k s old new e some by =
      let p = popped_had (old s) (old s).waiting refl some in
      let p1 = p.1 in
      let g = grown_each s (popped (old s) (old s).waiting) old new e
      (record { did = p.0; had = omega arith }) in
      let m : had (old s) + 1 ≤ had (new s) = grind (arith, nat_tests, had) in
      record {
        own = grind (arith, nat_tests, ⊎_elim, spent_stage, had_more, spent_sink, had);
        others = spent_grows old new g;
      }

least : State → ℕ
least Gives = 1
least Reads = 0
least (Takes s) = 1
least Ends = 1

module _ {R : Type 0} (plan : Plan R) (ok : IsPlan plan) (size : ℕ) where
  does_adds : (k : ℕ) (s : State) (old new : Moment R) → state plan old k ≡ s
      → Allowed size old k s → Does plan k s old new → Adds plan k (least s) old new
  unfolding least did had
  does_adds k Gives old new st may d =
      let l = old k in
      let ws : List R = l.waiting ++ d.next ∷ [] in
      let a = length-append l.taken l.waiting in
      let b = length-append l.taken ws in
      let c = length-append l.waiting (d.next ∷ []) in
      own_link plan k _ old new d.becomes (gives_less plan old k st) (omega arith) (omega arith)
  does_adds k Reads old new st may d = grind (arith, nat_tests)
  does_adds k (Takes s) old new st may d =
      taken_link plan k s old new d may (taker plan ok old k s st)
  does_adds k Ends old new st may d =
      let u = unset_counts (old k).mark may in
      let o : one_if (marked plan old k).mark ≡ 1 = set_counts (marked plan old k).mark refl in
      own_link plan k _ old new d (ends_less plan old k st) (omega arith) (omega arith)

  turns_add : (k : ℕ) (s : State) (old new : Moment R) → state plan old k ≡ s
      → ready plan size old k ≡ true → Turns plan k s old new → Adds plan k 1 old new
  unfolding least did had
  turns_add k Gives old new e h t =
      does_adds k Gives old new e (ready_allows plan ok size old k Gives h e) t
  turns_add k (Takes s) old new e h t =
      does_adds k (Takes s) old new e (ready_allows plan ok size old k (Takes s) h e) t
  turns_add k Ends old new e h t =
      does_adds k Ends old new e (ready_allows plan ok size old k Ends h e) t
  turns_add k Reads old new e h t =
      let src = reads_source plan ok old k e in
      let between = t.between in
      let n = t.reads.more in
      let first = own_link plan k _ old between t.reads.becomes (source_less plan k src).0
      (omega arith) (omega arith) in
      let grown : (j : ℕ) → spent plan between j ≤ spent plan new j =
      ⊎_elim
      (λ stays. spent_grows plan between new
      (λ s. subst (Grown (between s)) (sym (stays.1 s)) (unmoved (between s))))
      (λ does. (does_adds k (state plan between k) between new refl
      (read_allowed plan ok size old between k src h t.reads) does.1).others)
      t.does in
      let a = first.own in
      let b = grown k in
      record {
        own = omega arith;
        others = λ j. let x = first.others j in let y = grown j in omega arith;
      }

  step_adds : (k : ℕ) (old new : Moment R) → Step plan size k old new → Adds plan k 1 old new
  step_adds = grind (arith, nat_tests, turns_add)

  same_spent : (old new : Moment R) → Same old new → (k : ℕ) → spent plan old k ≤ spent plan new k
  same_spent = grind (arith, nat_tests)

  -- The turns of one actor are at most what it has spent,
  each_spends : (k : ℕ) (ks : List ℕ) (old new : Moment R) → Run plan size old ks new
      → spent plan old k + turns_of k ks ≤ spent plan new k
  each_spends k [] old new run = let e = same_spent old new run k in omega arith
  each_spends k (j ∷ js) old new run =
      let a = step_adds j old run.0 run.1 in
      let rest = each_spends k js run.0 new run.2 in
      let o = a.others k in
      ⊎_elim
      (λ same.
      let n = cond-true _ (1 + turns_of k js) (turns_of k js) (eq-eqb j k same) in
      let own : spent plan old k + 1 ≤ spent plan run.0 k = grind (arith, nat_tests, spent) in
      omega arith)
      (λ other.
      let n = cond-false _ (1 + turns_of k js) (turns_of k js) (ne_eqb j k other) in
      omega arith)
      (cases_eq j k)

-- Sums.

pub total_le : (f g : ℕ → ℕ) (n : ℕ) → ((i : ℕ) → i < n → f i ≤ g i) → total f n ≤ total g n
total_le f g zero h = omega arith
total_le f g (suc n) h =
    let r = total_le f g n (λ i less. h i (omega arith)) in
    let e = h n (omega arith) in
    omega arith

total_grows : (f g : ℕ → ℕ) (k d n : ℕ) → ((i : ℕ) → f i ≤ g i) → f k + d ≤ g k → k < n
    → total f n + d ≤ total g n
total_grows f g k d zero all more h = absurd (omega arith)
total_grows f g k d (suc n) all more h =
    ⊎_elim
    (λ same.
    let r = total_le f g n (λ i less. all i) in
    let m : f n + d ≤ g n = subst (λ j. f j + d ≤ g j) same more in
    omega arith)
    (λ differs.
    let r = total_grows f g k d n all more (omega arith) in
    let e = all n in
    omega arith)
    (cases_eq k n)

total_none : (f : ℕ → ℕ) (n : ℕ) → ((i : ℕ) → f i ≡ 0) → total f n ≡ 0
total_none f zero h = refl
total_none f (suc n) h = let a = total_none f n h in let b = h n in omega arith

-- and all turns at most what all have.
all_spend : {R : Type 0} (plan : Plan R) (ok : IsPlan plan) (size : ℕ) (ks : List ℕ)
    (old new : Moment R) → Run plan size old ks new
    → total (spent plan old) (plan.count + 1) + length ks ≤ total (spent plan new) (plan.count + 1)
all_spend plan ok size [] old new run = grind (arith, nat_tests)
all_spend plan ok size (k ∷ ks) old new run =
    let within = run.1.within in
    let a = step_adds plan ok size k old run.0 run.1 in
    let step = total_grows (spent plan old) (spent plan run.0) k 1 (plan.count + 1) a.others a.own
    (omega arith) in
    let rest = all_spend plan ok size ks run.0 new run.2 in
    omega arith

-- At first nothing is spent.

had_none : {R : Type 0} (m : Moment R) → IsOpening m → (ss : List ℕ) → had_of m ss ≡ 0
unfolding had_of had one_if
had_none m start [] = refl
had_none m start (s ∷ ss) = grind (arith, nat_tests, had_none m start ss)

none_spent : {R : Type 0} (plan : Plan R) (m : Moment R) → IsOpening m → (k : ℕ)
    → spent plan m k ≡ 0
unfolding did had one_if
none_spent = grind (arith, nat_tests, ⊎_elim, spent_stage, did, had_none, spent_sink, had, cases_lt)

-- What was spent, as it is counted for others.

-- the end of the bytes is one more than the bytes
read_less : (r b : ℕ) → r ≤ b → r ≤ min r (pred b) + 1
read_less = grind (arith, nat_tests)

had_put : {R : Type 0} (m : Moment R) (ss : List ℕ) → had_of m ss ≤ put m ss + length ss
unfolding had_of had
had_put m [] = omega arith
had_put m (s ∷ ss) = grind (arith, nat_tests, had_put m ss, at_most_one)

module _ {R : Type 0} (plan : Plan R) (m : Moment R) (k : ℕ) where
  most_source : is_source plan k ≡ true → most plan m k ≡ most_of_source (plan.stage k) (m k)
  most_source h = cond-true _ _ _ h

  most_stage : is_source plan k ≡ false → k < plan.count
      → most plan m k ≡ most_of_stage (plan.stage k) m (m k)
  most_stage h less = cond-false _ _ _ h ∙ cond-true _ _ _ (lt-ltb k plan.count less)

  most_sink : plan.count ≤ k → most plan m k ≡ most_of_sink (m (last plan))
  most_sink = grind (arith, nat_tests)

not_source : {R : Type 0} (plan : Plan R) (k : ℕ) → is_source plan k ≡ false → k < plan.count
    → (plan.stage k).bytes ≡ 0
not_source = grind (arith, nat_tests)

module _ {R : Type 0} (plan : Plan R) (ok : IsPlan plan) (size : ℕ) (m : Moment R)
    (inv : Inv plan size m) where
  spent_most : (k : ℕ) → spent plan m k ≤ most plan m k
  unfolding did had had_of
  spent_most k =
      ⊎_elim
      (λ src.
      let less = source_less plan k src in
      let st = plan.stage k in
      let a = spent_stage plan m k less.0 in
      let none : had_of m st.sources ≡ 0 = grind (arith, nat_tests, had_of) in
      let b = most_source plan m k src in
      let c = read_less (m k).read st.bytes (inv k less.0).within in
      let d = at_most_one (m k).mark in
      omega arith)
      (λ other. ⊎_elim
      (λ less.
      let a = spent_stage plan m k less in
      let b = most_stage plan m k other less in
      let c = had_put m (plan.stage k).sources in
      let d = not_source plan k other less in
      let e = (inv k less).within in
      let f = at_most_one (m k).mark in
      omega arith)
      (λ sink.
      let a = spent_sink plan m k sink in
      let b = most_sink plan m k sink in
      let c = at_most_one (m (last plan)).heard in
      omega arith)
      (cases_lt k plan.count))
      (cases_Bool (is_source plan k))

  -- What was moved so far is no more than in the whole run.

  taken_less : (k : ℕ) → k < plan.count → length (m k).taken ≤ length (meaning plan k).items
  taken_less k less = begins_shorter _ _ (front plan ok size m k inv less).1.items

  given_less : (k : ℕ) → k < plan.count → length (given (m k)) ≤ length (meaning plan k).items
  given_less k less = begins_shorter _ _ (front plan ok size m k inv less).0

  put_less : (n : ℕ) → n ≤ plan.count → (ss : List ℕ) → AllByRecursion (λ s. s < n) ss
      → put m ss ≤ put (all_done plan) ss
  put_less n within [] p = omega arith
  put_less n within (s ∷ ss) p = grind (arith, nat_tests, put_less n within ss p.1, taken_less)

  read_less_whole : (k : ℕ) → k < plan.count
      → bytes_read (plan.stage k) (m k) ≤ bytes_read (plan.stage k) (all_done plan k)
  read_less_whole = grind (arith, nat_tests)

  most_less : (k : ℕ) → k < plan.count + 1 → most plan m k ≤ most plan (all_done plan) k
  most_less k within =
      ⊎_elim
      (λ src.
      let less = (source_less plan k src).0 in
      let a = most_source plan m k src in
      let b = most_source plan (all_done plan) k src in
      let c = given_less k less in
      let d = length-append (meaning plan k).items [] in
      let e = read_less_whole k less in
      omega arith)
      (λ other. ⊎_elim
      (λ less.
      let a = most_stage plan m k other less in
      let b = most_stage plan (all_done plan) k other less in
      let c = given_less k less in
      let d = length-append (meaning plan k).items [] in
      let e = put_less k (omega arith) (plan.stage k).sources (ok.below k less) in
      omega arith)
      (λ sink.
      let a = most_sink plan m k sink in
      let b = most_sink plan (all_done plan) k sink in
      let c = taken_less (last plan) (last_less plan.count ok.some) in
      omega arith)
      (cases_lt k plan.count))
      (cases_Bool (is_source plan k))

  pub bounded : most_in_all plan m ≤ bound plan
  bounded = total_le (most plan m) (most plan (all_done plan)) (plan.count + 1) most_less

  module _ (turns : List ℕ) (first : Moment R) (start : IsOpening first)
      (run : Run plan size first turns m) where
    pub each_turns : (k : ℕ) → turns_of k turns ≤ most plan m k
    each_turns k =
        let a = each_spends plan ok size k turns first m run in
        let b = none_spent plan first start k in
        let c = spent_most k in
        omega arith

    pub all_turns : length turns ≤ most_in_all plan m
    all_turns =
        let a = all_spend plan ok size turns first m run in
        let b = total_none (spent plan first) (plan.count + 1) (none_spent plan first start) in
        let c = total_le (spent plan m) (most plan m) (plan.count + 1) (λ k less. spent_most k) in
        omega arith
