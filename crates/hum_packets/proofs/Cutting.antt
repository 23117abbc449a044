-- Bytes are cut into packets.
use Rattle.std.proofs.lemmas.Grind.{common_steps}
use Rattle.std.proofs.lemmas.Bool.Decides.{nat_tests}
use Rattle.std.proofs.Common.{◌≡◌, ℕ, ◌<◌, ◌≤◌, min, List, [], ◌∷◌, ◌++◌, length, take, drop, map, ap, ◌∙◌, arith, ◌⊎◌, inl, inr, append_assoc, append-nil, take-append-drop}
use Rattle.std.specs.List.{concat, All}
use Rattle.std.proofs.lemmas.List.{drop_all, map-append, length-take-le}
use Rattle.std.proofs.lemmas.List.Folds.{concat-append}
use Rattle.std.proofs.lemmas.List.Elements.{All-push}
use Rattle.hum_packets.specs.Packets.{packet_of}
use Rattle.hum_packets.specs.Lists.{IsDataSize}

-- these packets were cut off, and the rest is to be cut
pub record CutSoFar (bytes : List ℕ) (packets : List (List ℕ)) (rest : List ℕ) : Type 0 where
  pub joined : bytes ≡ concat packets ++ rest
  pub sizes : All IsDataSize packets
  pub whole : length bytes ≤ 65516 → ((packets ≡ []) × (rest ≡ bytes)) ⊎ ((packets ≡ bytes ∷ []) × (rest ≡ []))

pub cut-more : (bytes rest first more : List ℕ) (packets : List (List ℕ)) (n : ℕ) → CutSoFar bytes packets rest → 0 < length rest
    → n ≡ min (length rest) 65516 → first ≡ take n rest → more ≡ drop n rest → CutSoFar bytes (packets ++ first ∷ []) more
cut-more bytes rest first more packets n x some size is left =
    let long : length first ≡ n = ap length is ∙ length-take-le n rest (omega (arith, size)) in record {
      joined = grind (arith, nat_tests, take-append-drop, append_assoc, append-nil, concat-append);
      sizes = All-push IsDataSize packets first x.sizes
          (omega (arith, long, size, some), omega (arith, long, size));
      whole = λ few. elim (x.whole few)
          as (λ _. ((packets ++ first ∷ [] ≡ []) × (more ≡ bytes)) ⊎ ((packets ++ first ∷ [] ≡ bytes ∷ []) × (more ≡ []))) [
            | inl p ↦ inr (one few p.0 p.1, left ∙ drop_all n rest (omega (arith, size, ap length p.1, few)))
            | inr p ↦ absurd (omega (arith, some, ap length p.1))
          ];
    }
  where
    one : length bytes ≤ 65516 → packets ≡ [] → rest ≡ bytes → packets ++ first ∷ [] ≡ bytes ∷ []
    one = grind (arith, common_steps)

-- the packets that were written, and one more
pub written-more : (old mid new first : List ℕ) (packets : List (List ℕ)) → mid ≡ old ++ concat (map packet_of packets)
    → new ≡ mid ++ packet_of first → new ≡ old ++ concat (map packet_of (packets ++ first ∷ []))
written-more = grind (arith, nat_tests, append_assoc, append-nil, concat-append, map-append)
