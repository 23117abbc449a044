-- What is remembered of columns goes on as the spines do.
use Rattle.std.proofs.lemmas.Bool.Decides.{nat_tests}
use Rattle.std.proofs.Common.{◌≡◌, ◌∙◌, ap, ℕ, suc, ◌+◌, ◌<◌, ◌≤◌, true, false, List, [], ◌∷◌, length, map, arith, get_or}
use Rattle.std.specs.List.{AllByRecursion}
use Rattle.std.proofs.lemmas.List.{length-map}
use Rattle.std.proofs.lemmas.Simd.{map-map}
use Rattle.hum_score.specs.declared.spines.Sign.{Sign}
use Rattle.hum_score.specs.Sign.{sign_of}
use Rattle.hum_score.specs.Spines.{exchanges, moves_under}
use Rattle.hum_score.specs.Rules.{is_pair_or_none}
use Rattle.hum_path.specs.Chains.{chain_of, columns, longer}
use Rattle.hum_path.specs.Memories.{remembered, seen_each}
use Rattle.hum_path.specs.Onward.{beginnings, onward, swapped, Agrees, from_places}
use Rattle.hum_path.proofs.Onwards.{onward_by_moves, places_swapped}
use Rattle.hum_path.proofs.Within.{exchanged_below}
use Rattle.hum_score.specs.Row.{Row}

-- what is remembered of each column
abbrev pub all_seen : {M : Type 0} → (List ℕ → M → M) → M → List Row → List M
all_seen see fresh past = map (remembered see fresh) (columns past)

-- what comes of memories under an interpretation behind the opening
abbrev pub seen_on : {M : Type 0} → (List ℕ → M → M) → M → List (List ℕ) → List M → List M
seen_on see fresh tokens ms =
    onward (λ _. fresh) (beginnings false (map sign_of tokens)) (map sign_of tokens) (swapped (map sign_of tokens) (seen_each see tokens ms))

pub seen_length : {M : Type 0} (see : List ℕ → M → M) (tokens : List (List ℕ)) (ms : List M) → length tokens ≡ length ms
    → length (seen_each see tokens ms) ≡ length ms
seen_length see (t ∷ ts) (m ∷ ms) e = ap suc (seen_length see ts ms (omega (arith, e)))
seen_length see tokens ms h = grind (arith, nat_tests)

module _ {M : Type 0} (see : List ℕ → M → M) (fresh : M) where
  get_seen : (tokens : List (List ℕ)) (above : List (List (List ℕ))) (j : ℕ) → length tokens ≡ length above → j < length tokens
      → see (get_or tokens j []) (remembered see fresh (get_or above j [])) ≡ get_or (seen_each see tokens (map (remembered see fresh) above)) j fresh
  get_seen (t ∷ ts) (c ∷ cs) (suc j) e h = get_seen ts cs j (omega (arith, e)) (omega (arith, h))
  get_seen tokens above j h k = grind (arith, nat_tests)

  abbrev AtEach : List (List ℕ) → List (List (List ℕ)) → List M → Type 0
  AtEach tokens above vs = (k : ℕ) → k < length tokens → see (get_or tokens k []) (remembered see fresh (get_or above k [])) ≡ get_or vs k fresh

  all_agree : (tokens : List (List ℕ)) (above : List (List (List ℕ))) (vs : List M) (pair : List ℕ) (j : ℕ) (ss : List Sign) → AtEach tokens above vs
      → AllByRecursion (λ p. p < length tokens) pair → j + length ss ≤ length tokens
      → Agrees (λ m. remembered see fresh (chain_of tokens above m)) (λ _. fresh) pair j ss (from_places fresh pair vs j ss)
  all_agree tokens above vs pair j [] at below within = tt
  all_agree tokens above vs pair j (s ∷ ss) at below within =
      grind (arith, nat_tests, all_agree tokens above vs pair (j + 1) ss)

  -- Under an interpretation memories go on as its signs say.
  pub moved_seen : (tokens : List (List ℕ)) (above : List (List (List ℕ))) → length tokens ≡ length above
      → is_pair_or_none (exchanges 0 (map sign_of tokens)) ≡ true
      → map (remembered see fresh) (map (chain_of tokens above) (moves_under (map sign_of tokens)))
      ≡ seen_on see fresh tokens (map (remembered see fresh) above)
  moved_seen tokens above wide two =
      let ss = map sign_of tokens in
      let vs = seen_each see tokens (map (remembered see fresh) above) in
      let count = length-map tokens sign_of in
      let chains = length-map above (remembered see fresh) in
      let size = seen_length see tokens (map (remembered see fresh) above) (omega (arith, wide, chains)) in
      let below = exchanged_below (length tokens) 0 ss (omega (arith, count)) in
      let agree = all_agree tokens above vs (exchanges 0 ss) 0 ss (λ k h. get_seen tokens above k wide h) below (omega (arith, count)) in
      map-map (remembered see fresh) (chain_of tokens above) (moves_under ss)
      ∙ onward_by_moves (λ m. remembered see fresh (chain_of tokens above m)) (λ _. fresh) (exchanges 0 ss) 0 false ss _ agree
      ∙ ap (λ (xs : List M). onward (λ _. fresh) (beginnings false ss) ss xs) (places_swapped fresh ss vs (omega (arith, count, size, chains, wide)) two)

  -- and under other records each sees its token
  pub longer_seen : (tokens : List (List ℕ)) (above : List (List (List ℕ)))
      → map (remembered see fresh) (longer tokens above) ≡ seen_each see tokens (map (remembered see fresh) above)
  longer_seen (t ∷ ts) (c ∷ above) = ap (λ (ms : List M). see t (remembered see fresh c) ∷ ms) (longer_seen ts above)
  longer_seen tokens above = grind (arith, nat_tests)
