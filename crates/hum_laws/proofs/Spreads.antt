-- What is remembered of columns, under the records of a spread.
use Rattle.std.proofs.lemmas.Bool.Decides.{nat_tests}
use Rattle.std.proofs.Common.{◌≡◌, ◌∙◌, refl, sym, ap, ℕ, suc, ◌≤◌, Bool, true, false, not, List, [], ◌∷◌, length, map, arith}
use Rattle.std.proofs.lemmas.Bool.{and_parts}
use lib.Chars.{codes}
use Rattle.hum_score.specs.Sign.{sign_of, is_join, is_exchange}
use Rattle.hum_path.specs.Onward.{onward, swapped}
use Rattle.hum_path.specs.Memories.{seen_each}
use Rattle.hum_path.proofs.Onwards.{swapped_none}
use Rattle.hum_score.proofs.Cases.{by_bool}
use Rattle.hum_columns.specs.Spread.{JoinedToken, joins, tokens_in, touches, joins_in, goes_on, join_alone, first_alone, join_done, first_done}
use Rattle.hum_columns.specs.Spread.{one_by_one, spread}
use Rattle.hum_columns.proofs.Spreading.{marks, signs_in, Formed, formed_length, rest_merged, merged, first_onward, done_onward, done_formed}
use Rattle.hum_columns.proofs.Spreading.{done_joins, done_swapped}
use Rattle.hum_columns.proofs.Fitting.{begins_marks}
use Rattle.hum_columns.proofs.FirstJoin.{first_size, first_exchange}
use Rattle.hum_columns.proofs.Leading.{touching_joins, one_apart}
use Rattle.hum_laws.proofs.Seen.{seen_on}

-- Null interpretations, joins and exchanges leave what is remembered as it is.
pub record Passes {M : Type 0} (see : List ℕ → M → M) : Type 0 where
  pub null : (m : M) → see (codes "*") m ≡ m
  pub join : (t : List ℕ) (m : M) → is_join (sign_of t) ≡ true → see t m ≡ m
  pub exchange : (t : List ℕ) (m : M) → is_exchange (sign_of t) ≡ true → see t m ≡ m

-- what comes of memories under several interpretations; one without tokens isn't written
abbrev pub all_on : {M : Type 0} → (List ℕ → M → M) → M → List (List (List ℕ)) → List M → List M
all_on see fresh [] ms = ms
all_on see fresh ([] ∷ records) ms = all_on see fresh records ms
all_on see fresh ((t ∷ ts) ∷ records) ms = all_on see fresh records (seen_on see fresh (t ∷ ts) ms)

-- what comes of them under pieces at once
abbrev pub pieces_on : {M : Type 0} → (List ℕ → M → M) → M → List JoinedToken → List M → List M
pieces_on see fresh pieces ms =
    onward (λ _. fresh) (marks pieces) (signs_in pieces) (swapped (signs_in pieces) (seen_each see (tokens_in pieces) ms))

merged_length : {X Y : Type 0} (ps : List JoinedToken) (xs : List X) (ys : List Y) → length xs ≡ length ys → length (merged ps xs) ≡ length (merged ps ys)
merged_length {X} {Y} (p ∷ ps) (x ∷ xs) (y ∷ ys) e =
    by_bool p.begins (λ w. rw w (ap suc (rest ps xs ys (omega (arith, e))))) (λ w. rw w (ap suc (merged_length ps xs ys (omega (arith, e)))))
  where
    rest : (ps : List JoinedToken) (xs : List X) (ys : List Y) → length xs ≡ length ys → length (rest_merged ps xs) ≡ length (rest_merged ps ys)
    rest [] xs ys e = e
    rest (p ∷ ps) [] [] e = refl
    rest (p ∷ ps) [] (y ∷ ys) e = absurd (omega (arith, e))
    rest (p ∷ ps) (x ∷ xs) [] e = absurd (omega (arith, e))
    rest (p ∷ ps) (x ∷ xs) (y ∷ ys) e = by_bool (goes_on p) (λ w. rw w (rest ps xs ys (omega (arith, e)))) (λ w. rw w e)
merged_length ps xs ys h = grind (arith, nat_tests)

module _ {M : Type 0} (see : List ℕ → M → M) (fresh : M) (passes : Passes see) where
  seen_none : (ts : List (List ℕ)) → seen_each see ts [] ≡ []
  seen_none [] = refl
  seen_none (t ∷ ts) = refl

  -- the record with the first join alone tells nothing
  nulls_seen : (ps : List JoinedToken) (ms : List M) → seen_each see (map (λ _. codes "*") ps) ms ≡ ms
  nulls_seen (p ∷ ps) (m ∷ ms) = let rest = nulls_seen ps ms in rw (passes.null m, rest) refl
  nulls_seen ps ms = grind (arith, nat_tests)

  join_seen : (ps : List JoinedToken) (ms : List M) → seen_each see (join_alone ps) ms ≡ ms
  join_seen (p ∷ ps) (m ∷ ms) = by_bool (goes_on p)
      (λ w. let rest = join_seen ps ms in let same = passes.join p.token m (and_parts (joins p) (not p.begins) w).0 in rw w (rw (same, rest) refl))
      (λ w. rw w (nulls_seen (p ∷ ps) (m ∷ ms)))
  join_seen ps ms = grind (arith, nat_tests, seen_none)

  first_seen : (b : Bool) (n : List ℕ) (ps : List JoinedToken) (ns : List (List ℕ)) (ms : List M) → Formed b n ps ns → seen_each see (first_alone ps) ms ≡ ms
  first_seen b n (p ∷ ps) (o ∷ ns) (m ∷ ms) f =
      grind (arith, nat_tests, first_seen (joins p) o ps ns ms f.1.1, join_seen)
  first_seen b n ps ns ms h = grind (arith, nat_tests)

  -- what is left tells the rest
  rest_seen : (ps : List JoinedToken) (ms : List M)
      → seen_each see (tokens_in (join_done ps)) (rest_merged ps ms) ≡ rest_merged ps (seen_each see (tokens_in ps) ms)
  rest_seen (p ∷ ps) (m ∷ ms) = by_bool (goes_on p) (λ w. rw w (rest_seen ps ms)) (λ w. rw w refl)
  rest_seen ps ms = grind (arith, nat_tests, seen_none)

  done_seen : (b : Bool) (n : List ℕ) (ps : List JoinedToken) (ns : List (List ℕ)) (ms : List M) → Formed b n ps ns
      → seen_each see (tokens_in (first_done ps)) (merged ps ms) ≡ merged ps (seen_each see (tokens_in ps) ms)
  done_seen b n (p ∷ ps) (o ∷ ns) (m ∷ ms) f =
      grind (arith, nat_tests, done_seen (joins p) o ps ns ms f.1.1, rest_seen ps ms)
  done_seen b n ps ns ms h = grind (arith, nat_tests)

  -- one interpretation more
  one_on : (tokens : List (List ℕ)) (records : List (List (List ℕ))) (ms : List M) (k : ℕ) → length tokens ≡ suc k
      → all_on see fresh (tokens ∷ records) ms ≡ all_on see fresh records (seen_on see fresh tokens ms)
  one_on = grind (arith, nat_tests)

  -- the last one, or the only one
  last_on : (ps : List JoinedToken) (ns : List (List ℕ)) (ms : List M) → Formed false [] ps ns → touches false ps ≡ false → length ms ≡ length ps
      → all_on see fresh (tokens_in ps ∷ []) ms ≡ pieces_on see fresh ps ms
  last_on [] ns [] f t e = refl
  last_on [] ns (m ∷ ms) f t e = absurd (omega (arith, e))
  last_on (p ∷ ps) ns ms f t e =
      ap (λ (bs : List Bool). onward (λ _. fresh) bs (signs_in (p ∷ ps)) (swapped (signs_in (p ∷ ps)) (seen_each see (tokens_in (p ∷ ps)) ms)))
      (begins_marks false [] (p ∷ ps) ns f t)

  first_on : (ps : List JoinedToken) (ns : List (List ℕ)) (ms : List M) → Formed false [] ps ns → length ms ≡ length ps
      → seen_on see fresh (first_alone ps) ms ≡ merged ps ms
  first_on ps ns ms f e =
      let none = first_exchange 0 false [] ps ns f in
      let same = first_seen false [] ps ns ms f in
      rw (same, swapped_none 0 (map sign_of (first_alone ps)) ms none) (first_onward (λ _. fresh) false [] ps ns ms f (sym e))

  left_on : (ps : List JoinedToken) (ns : List (List ℕ)) (ms : List M) → Formed false [] ps ns
      → pieces_on see fresh (first_done ps) (merged ps ms) ≡ pieces_on see fresh ps ms
  left_on = grind (arith, nat_tests, marks, signs_in, done_seen, done_swapped, done_onward)

  by_one : (n : ℕ) (ps : List JoinedToken) (ns : List (List ℕ)) (ms : List M) → Formed false [] ps ns → joins_in ps ≤ suc n → (1 ≤ n → joins_in ps ≡ suc n)
      → length ms ≡ length ps → all_on see fresh (one_by_one n ps) ms ≡ pieces_on see fresh ps ms
  by_one (suc n) (p ∷ ps) ns ms f few exact e =
      let all : joins_in (p ∷ ps) ≡ suc (suc n) = exact (omega arith) in
      let fewer : joins_in (first_done (p ∷ ps)) ≡ suc n = done_joins (p ∷ ps) (suc n) all in
      let done = done_formed false [] (p ∷ ps) ns f in
      let size = formed_length false [] (first_done (p ∷ ps)) (merged (p ∷ ps) ns) done in
      let wide = formed_length false [] (p ∷ ps) ns f in
      let same = merged_length (p ∷ ps) ms ns (omega (arith, e, wide)) in
      one_on (first_alone (p ∷ ps)) (one_by_one n (first_done (p ∷ ps))) ms (length ps) (first_size (p ∷ ps))
      ∙ ap (λ (xs : List M). all_on see fresh (one_by_one n (first_done (p ∷ ps))) xs) (first_on (p ∷ ps) ns ms f e)
      ∙ by_one n (first_done (p ∷ ps)) (merged (p ∷ ps) ns) (merged (p ∷ ps) ms) done (omega (arith, fewer)) (λ k. fewer) (omega (arith, size, same))
      ∙ left_on (p ∷ ps) ns ms f
  by_one n ps ns ms h k w e = grind (arith, nat_tests, last_on, one_apart)

  -- The spread rule: what is remembered goes on as if the pieces stood in one record.
  pub spread_on : (ps : List JoinedToken) (ns : List (List ℕ)) (ms : List M) → Formed false [] ps ns → length ms ≡ length ps
      → all_on see fresh (spread ps) ms ≡ pieces_on see fresh ps ms
  spread_on = grind (arith, nat_tests, last_on, touching_joins, by_one)
