-- Lists are read back, and in one way.
use Rattle.std.proofs.Common.{◌≡◌, ℕ, ◌+◌, ◌-◌, ◌*◌, ◌/◌, ◌%◌, ◌<◌, ◌≤◌, List, [], ◌∷◌, ◌++◌, length, take, drop, map, refl, sym, ap, subst, ◌∙◌, arith, Some, append_assoc, length-append}
use Rattle.std.specs.List.{concat, All}
use Rattle.std.proofs.Math.Seq.{take-append_seam, drop-append_seam}
use Rattle.std.proofs.lemmas.List.Elements.{All-head, All-tail}
use Rattle.std.proofs.lemmas.Bool.Decides.{nat_tests}
use Rattle.hum_packets.specs.Packets.{digit_of, hex, digits, pair_of, size_by, size_at, front, front_by, packet, end, packet_of, zeros}
use Rattle.hum_packets.specs.Lists.{Chain, IsPacket}
use Rattle.hum_packets.specs.Laws.{IsShort, IsReadBack, IsReadInOneWay}

digit-hex : (d : ℕ) → d < 16 → digit_of (hex d) ≡ Some d
digit-hex d less = grind (arith, nat_tests)

pair-hex : (a b : ℕ) → a < 16 → b < 16 → pair_of (hex a) (hex b) ≡ Some (a * 16 + b)
pair-hex a b p q = rw (digit-hex a p, digit-hex b q) refl

sized-fit : (n : ℕ) → 4 ≤ n → n ≤ 65520 → size_by (Some n) ≡ Some n
sized-fit n low high = grind (arith, nat_tests)

front-fit : (n : ℕ) (xs : List ℕ) → 4 ≤ n → n - 4 ≤ length xs → front_by (Some n) xs ≡ packet (take (n - 4) xs) (drop (n - 4) xs)
front-fit n xs some fits = grind (arith, nat_tests)

size-digits : (n : ℕ) (rest : List ℕ) → 4 ≤ n → n ≤ 65520 → size_at (digits n ++ rest) ≡ Some n
unfolding size_at digits
size-digits n rest low high =
    let a = n / 4096 % 16 in
    let b = n / 256 % 16 in
    let c = n / 16 % 16 in
    let d = n % 16 in
    let whole : (a * 16 + b) * 256 + (c * 16 + d) ≡ n = omega arith in
    rw (pair-hex a b (omega arith) (omega arith), pair-hex c d (omega arith) (omega arith), whole) (sized-fit n low high)

digits-four : (n : ℕ) (bytes : List ℕ) → drop 4 (digits n ++ bytes) ≡ bytes
unfolding digits
digits-four n bytes = refl

front-written : (bytes rest : List ℕ) → length bytes ≤ 65516 → front (packet_of bytes ++ rest) ≡ packet bytes rest
front-written bytes rest short =
    let n = length bytes + 4 in
    let size : n - 4 ≡ length bytes = omega arith in
    let first : take (n - 4) (bytes ++ rest) ≡ bytes = ap (λ k. take k (bytes ++ rest)) size ∙ take-append_seam bytes rest in
    let second : drop (n - 4) (bytes ++ rest) ≡ rest = ap (λ k. drop k (bytes ++ rest)) size ∙ drop-append_seam bytes rest in
    let fits : n - 4 ≤ length (bytes ++ rest) = omega (arith, size, length-append bytes rest) in
    let parted : packet (take (n - 4) (bytes ++ rest)) (drop (n - 4) (bytes ++ rest)) ≡ packet bytes rest = cc in
    rw (append_assoc (digits n) bytes rest, size-digits n (bytes ++ rest) (omega arith) (omega (arith, short)), digits-four n (bytes ++ rest))
    (front-fit n (bytes ++ rest) (omega arith) fits ∙ parted)

front-zeros : (rest : List ℕ) → front (zeros ++ rest) ≡ end rest
unfolding size_at
front-zeros rest = refl

chain-back : (packets : List (List ℕ)) (rest : List ℕ) → All IsShort packets → Chain IsPacket packets (concat (map packet_of packets) ++ rest) rest
unfolding Chain
chain-back [] rest short = refl
chain-back (p ∷ ps) rest short =
    let behind = concat (map packet_of ps) ++ rest in (
      behind,
      ap (λ (bs : List ℕ). front bs) (append_assoc (packet_of p) (concat (map packet_of ps)) rest)
          ∙ front-written p behind (All-head IsShort p ps short),
      chain-back ps rest (All-tail IsShort p ps short),
    )

pub read-back : (packets : List (List ℕ)) → IsReadBack packets
read-back packets short rest = (
  zeros ++ rest,
  subst (λ all. Chain IsPacket packets all (zeros ++ rest)) (sym (append_assoc (concat (map packet_of packets)) zeros rest))
      (chain-back packets (zeros ++ rest) short),
  front-zeros rest,
)

chain-one : (ps qs : List (List ℕ)) (all m n rest left : List ℕ) → Chain IsPacket ps all m → front m ≡ end rest
    → Chain IsPacket qs all n → front n ≡ end left → (ps ≡ qs) × (rest ≡ left)
unfolding Chain
chain-one [] [] all m n rest left p e q f = grind (arith, nat_tests)
chain-one [] (q ∷ qs) all m n rest left p e chain f = grind (arith, nat_tests)
chain-one (p ∷ ps) [] all m n rest left chain e q f = grind (arith, nat_tests)
chain-one (p ∷ ps) (q ∷ qs) all m n rest left one e two f =
    grind (arith, nat_tests, chain-one ps qs one.0 m n rest left one.2 e)

pub read-one_way : (all : List ℕ) → IsReadInOneWay all
read-one_way all packets others rest left p q = chain-one packets others all p.0 q.0 rest left p.1 p.2 q.1 q.2
