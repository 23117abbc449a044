-- Memories go on along the columns.
use Rattle.std.proofs.lemmas.Grind.{common_steps}
use Rattle.std.proofs.Common.{◌≡◌, ◌∙◌, ◌+◌, ◌<◌, ◌≤◌, ◌++◌, ℕ, zero, suc, List, [], ◌∷◌, Some, length, map, drop, take}
use Rattle.std.proofs.Common.{◌⊎◌, inl, inr, refl, sym, ap, arith, get_or, slice_get, append_assoc, append-nil, add-one}
use Rattle.std.proofs.lemmas.Bool.Decides.{nat_tests}
use Rattle.std.specs.Prelude.{slice_set, Result, OnOk}
use Rattle.std.specs.List.{AllByRecursion}
use Rattle.std.proofs.lemmas.List.{drop_all, take_all, take-append-drop}
use Rattle.std.proofs.Math.ListN.{get_or-map}
use Rattle.hum_score.specs.declared.records.Kind.TheVariants.{Interpretation as AnyInterpretation}
use Rattle.hum_score.specs.declared.records.SpinedKind.TheVariants.{Local, Interpretation, Values}
use Rattle.hum_score.specs.Row.{Row, Comment, Spined, kind_of, tokens_of}
use Rattle.hum_score.specs.declared.spines.Move.{Move}
use Rattle.hum_score.specs.declared.spines.Move.TheVariants.{Same, Left, Right, Join as Joined, Added}
use Rattle.hum_score.specs.Spines.{moves, moves_at, source, same_upto}
use Rattle.hum_score.specs.Score.{path_after}
use Rattle.hum_path.specs.Chains.{chain_of, columns, longer}
use Rattle.hum_path.specs.Memories.{remembered, memory_of, seen_each, Remember}
use Rattle.hum_path.specs.Step.{ComeFrom}

-- one more of a list that is mapped
pub map_more : {X Y : Type 0} (f : X → Y) (ys : List Y) (xs : List X) (i : ℕ) (x : X)
    → slice_get xs i ≡ Some x → (ys ++ f x ∷ []) ++ map f (drop (i + 1) xs) ≡ ys ++ map f (drop i xs)
map_more f ys xs i x h = rw (append_assoc, add-one) (ap (λ zs. ys ++ zs) (sym (at xs i h)))
  where
    at : (xs : List _) (i : ℕ) → slice_get xs i ≡ Some x → map f (drop i xs) ≡ f x ∷ map f (drop (suc i) xs)
    at (z ∷ zs) (suc i) h = at zs i h
    at xs i h = grind (arith, nat_tests)

module _ {M : Type 0} (see : List ℕ → M → M) (fresh : M) where
  memory_goes_on : (tokens : List (List ℕ)) (above : List (List (List ℕ))) (from : Move)
      → memory_of see fresh tokens (map (remembered see fresh) above) from
      ≡ remembered see fresh (chain_of tokens above from)
  memory_goes_on tokens above (Same j) = ap (see (get_or tokens j [])) (get_or-map (remembered see fresh) above j [])
  memory_goes_on tokens above (Left j) = ap (see (get_or tokens j [])) (get_or-map (remembered see fresh) above j [])
  memory_goes_on tokens above (Right j) = ap (see (get_or tokens j [])) (get_or-map (remembered see fresh) above j [])
  memory_goes_on tokens above (Joined first last) = ap (see (get_or tokens first [])) (get_or-map (remembered see fresh) above first [])
  memory_goes_on tokens above (Added j) = refl

  memories_go_on : (tokens : List (List ℕ)) (above : List (List (List ℕ))) (found : List Move)
      → map (memory_of see fresh tokens (map (remembered see fresh) above)) found
      ≡ map (remembered see fresh) (map (chain_of tokens above) found)
  memories_go_on tokens above [] = refl
  memories_go_on tokens above (from ∷ found) =
      let a = memory_goes_on tokens above from in let b = memories_go_on tokens above found in cc

  -- under an interpretation
  pub follows_on : (row : Row) (past : List Row) (old new : List M) (found : List Move)
      → kind_of row ≡ AnyInterpretation → new ≡ map (memory_of see fresh (tokens_of row) old) found
      → Remember see fresh past old → found ≡ moves (path_after past) row → Remember see fresh (row ∷ past) new
  follows_on (Comment text) past old new found k is remember told = grind (arith, nat_tests)
  follows_on (Spined Interpretation tokens) past old new found k is remember told =
      is ∙ rw (remember, told) (memories_go_on tokens (columns past) (moves_at (path_after past) tokens))
  follows_on row past old new found h k w e = grind (arith, nat_tests)

  seen_longer : (tokens : List (List ℕ)) (above : List (List (List ℕ)))
      → seen_each see tokens (map (remembered see fresh) above) ≡ map (remembered see fresh) (longer tokens above)
  seen_longer (token ∷ tokens) (chain ∷ above) = grind (arith, nat_tests, seen_longer tokens above)
  seen_longer tokens above = grind (arith, nat_tests)

  shifted : (t : List ℕ) (ts : List (List ℕ)) (m : M) (ms : List M) (j k n : ℕ) → k ≡ suc j
      → map (memory_of see fresh (t ∷ ts) (m ∷ ms)) (same_upto k n) ≡ map (memory_of see fresh ts ms) (same_upto j n)
  shifted t ts m ms j k zero e = refl
  shifted t ts m ms j k (suc n) e =
      grind (arith, nat_tests, shifted t ts m ms (j + 1) (k + 1) n (omega (arith, e)))

  -- where each spine stays, each memory sees the token under it
  seen_same : (tokens : List (List ℕ)) (ms : List M) → length ms ≤ length tokens
      → seen_each see tokens ms ≡ map (memory_of see fresh tokens ms) (same_upto 0 (length ms))
  seen_same (t ∷ ts) (m ∷ ms) few =
      ap (λ rest. see t m ∷ rest) (seen_same ts ms (omega (arith, few)) ∙ sym (shifted t ts m ms 0 1 (length ms) refl))
  seen_same tokens ms h = grind (arith, common_steps)

  -- under a record that moves none
  pub sees_on : (row : Row) (past : List Row) (old new : List M) (found : List Move) → ComeFrom row found
      → (kind_of row ≡ AnyInterpretation → found ≡ same_upto 0 (length old)) → new ≡ seen_each see (tokens_of row) old
      → Remember see fresh past old → found ≡ moves (path_after past) row → Remember see fresh (row ∷ past) new
  sees_on (Comment text) past old new found from stay is remember told = is ∙ remember
  sees_on (Spined Local tokens) past old new found from stay is remember told = is ∙ rw remember (seen_longer tokens (columns past))
  sees_on (Spined Values tokens) past old new found from stay is remember told = is ∙ rw remember (seen_longer tokens (columns past))
  sees_on (Spined Interpretation tokens) past old new found from stay is remember told =
      follows_on (Spined Interpretation tokens) past old new found refl
      (is ∙ seen_same tokens old (few (length old) (rw (stay refl) at from)) ∙ ap (map (memory_of see fresh tokens old)) (sym (stay refl))) remember told
    where
      last : (j n : ℕ) → AllByRecursion (λ move. source move < length tokens) (same_upto j n) → (n ≡ 0) ⊎ (j + n ≤ length tokens)
      last j zero h = inl refl
      last j (suc n) h = grind (arith, nat_tests, last (j + 1) n h.1)

      few : (n : ℕ) → AllByRecursion (λ move. source move < length tokens) (same_upto 0 n) → n ≤ length tokens
      few = grind (arith, nat_tests, last)

-- what is got of a list is what stands there
pub got : {X : Type 0} (xs : List X) (j : ℕ) (x d : X) → slice_get xs j ≡ Some x → get_or xs j d ≡ x
got (y ∷ xs) (suc j) x d h = got xs j x d h
got xs j x d h = grind (arith, nat_tests)

-- one memory more has seen its token
pub see_more : {M : Type 0} (see : List ℕ → M → M) (tokens : List (List ℕ)) (ms : List M) (j : ℕ) (m x : M)
    → j < length tokens → j < length ms → m ≡ get_or ms j m → x ≡ see (get_or tokens j []) m
    → take (j + 1) (slice_set ms j x) ++ seen_each see (drop (j + 1) tokens) (drop (j + 1) (slice_set ms j x))
    ≡ take j ms ++ seen_each see (drop j tokens) (drop j ms)
see_more = grind (arith, common_steps)

-- all memories have seen theirs
pub seen_all : {M : Type 0} (see : List ℕ → M → M) (tokens : List (List ℕ)) (ms all : List M) (j : ℕ)
    → (length ms ≤ j) ⊎ (length tokens ≤ j) → take j ms ++ seen_each see (drop j tokens) (drop j ms) ≡ all → ms ≡ all
seen_all see tokens ms all j (inl past) h = rw (drop_all j ms past, take_all j ms past, none see (drop j tokens), append-nil ms) at h
  where
    none : {M : Type 0} (see : List ℕ → M → M) (ts : List (List ℕ)) → seen_each see ts [] ≡ []
    none see [] = refl
    none see (t ∷ ts) = refl
seen_all see tokens ms all j (inr past) h = sym (take-append-drop j ms) ∙ rw (drop_all j tokens past) at h

pub on_ok : {A E : Type 0} {P Q : Type 0} (result : Result A E) → (P → Q) → OnOk result P → OnOk result Q
on_ok = grind (arith, nat_tests)
