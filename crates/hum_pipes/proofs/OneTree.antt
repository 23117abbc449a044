-- The one plan is a tree, as the two plans are.
use Rattle.std.proofs.Common.{◌≡◌, ◌∙◌, refl, sym, ap, subst, ℕ, zero, suc, pred, ◌+◌, ◌-◌, ◌<◌, ◌≤◌, List, [], ◌∷◌, map, length, length-append, Some, arith, inl, inr, ◌⊎◌}
use Rattle.std.specs.Prelude.{slice_get}
use Rattle.std.specs.List.{AllByRecursion}
use Rattle.std.proofs.lemmas.Bool.{cases_lt}
use Rattle.std.proofs.lemmas.List.{length-map}
use Rattle.hum_stage.specs.Meaning.{Meaning, IsLawful}
use Rattle.hum_nodes.specs.Trees.{Part, Reads, Through, Beside, part_at, sources_of, IsPart, IsRead, IsReadAt, IsTree}
use Rattle.hum_pipes.specs.Piped.{moved_part, second, places, one_plan, MakesScore}
use Rattle.hum_pipes.proofs.Places.{front_part, behind_part, moved_at, some_first}

-- what a stage asks of its place, where that is in the one plan

lawful_moved : (n : ℕ) (m : Meaning) → IsLawful m → IsLawful (record m { stage = m.stage + n })
lawful_moved n m h = record { each = h.each; grows = h.grows; holds = h.holds; decides = h.decides; limited = h.limited }

all_moved : (n i : ℕ) (ss : List ℕ) → AllByRecursion (λ s. s < i) ss → AllByRecursion (λ s. s < i + n) (map (λ s. s + n) ss)
all_moved n i [] h = tt
all_moved n i (s ∷ ss) h = (omega (arith, h.0), all_moved n i ss h.1)

part_moved : (n count i : ℕ) (part : Part) → IsPart count i part → IsPart (count + n) (i + n) (moved_part n part)
part_moved n count i (Reads bytes) h = tt
part_moved n count i (Through from m) h =
    (omega (arith, h.0), lawful_moved n m h.1, omega (arith, h.2), λ less. h.3 (omega (arith, less)))
part_moved n count i (Beside from) h = all_moved n i from h

part_wider : (count wide k : ℕ) (part : Part) → IsPart count k part → (k + 1 < count) ⊎ MakesScore part → IsPart wide k part
part_wider count wide k (Reads bytes) h keeps = tt
part_wider count wide k (Through from m) h (inl less) = (h.0, h.1, h.2, λ more. h.3 less)
part_wider count wide k (Through from m) h (inr keeps) = (h.0, h.1, h.2, λ more. keeps)
part_wider count wide k (Beside from) h keeps = h

-- a source stands before its reader

source_in : (i k place : ℕ) (ss : List ℕ) → AllByRecursion (λ s. s < i) ss → slice_get ss place ≡ Some k → k < i
source_in i k place [] h e = cc
source_in i k zero (s ∷ ss) h e = let same : s ≡ k = cc in subst (λ (x : ℕ). x < i) same h.0
source_in i k (suc place) (s ∷ ss) h e = source_in i k place ss h.1 e

source_lower : (count i k place : ℕ) (part : Part) → IsPart count i part → slice_get (sources_of part) place ≡ Some k → k < i
source_lower count i k place (Reads bytes) h e = cc
source_lower count i k place (Through from m) h e = source_in i k place (from ∷ []) (h.0, tt) e
source_lower count i k place (Beside from) h e = source_in i k place from h e

moved_from : (n : ℕ) (part : Part) → sources_of (moved_part n part) ≡ map (λ s. s + n) (sources_of part)
moved_from n (Reads bytes) = refl
moved_from n (Through from m) = refl
moved_from n (Beside from) = refl

moved_back : (n k place : ℕ) (ss : List ℕ) → slice_get (map (λ s. s + n) ss) place ≡ Some k
    → (s : ℕ) × (slice_get ss place ≡ Some s) × (k ≡ s + n)
moved_back n k place [] e = cc
moved_back n k zero (s ∷ ss) e = (s, refl, cc)
moved_back n k (suc place) (s ∷ ss) e = moved_back n k place ss e

moved_there : (n k place : ℕ) (ss : List ℕ) → slice_get ss place ≡ Some k → slice_get (map (λ s. s + n) ss) place ≡ Some (k + n)
moved_there n k place [] e = cc
moved_there n k zero (s ∷ ss) e = let same : s ≡ k = cc in rw same refl
moved_there n k (suc place) (s ∷ ss) e = moved_there n k place ss e

module _ (first rest : List Part) (a : IsTree first) (b : IsTree (second first rest))
    (gives : MakesScore (part_at first (pred (length first)))) where
  abbrev joined : List Part
  joined = one_plan first rest

  abbrev n : ℕ
  n = places first

  many : length first ≡ suc n
  many = some_first (length first) a.some

  count : length joined ≡ length first + length rest
  count = length-append first (map (moved_part n) rest) ∙ ap (λ k. length first + k) (length-map rest (moved_part n))

  -- part i of the second, from 1, stands at i + n
  there : (j : ℕ) → part_at joined (suc j + n) ≡ moved_part n (part_at rest j)
  there j =
      let at : suc j + n ≡ length first + j = omega (arith, many) in
      ap (part_at joined) at ∙ behind_part first (map (moved_part n) rest) j ∙ moved_at n rest j

  here : (k : ℕ) → k < length first → part_at joined k ≡ part_at first k
  here k less = front_part first (map (moved_part n) rest) k less

  -- a place behind the first's
  record Behind (k : ℕ) : Type 0 where
    j : ℕ
    at : k ≡ suc j + n

  behind : (k : ℕ) → length first ≤ k → Behind k
  behind k more = record { j = k - length first; at = omega (arith, more, many) }

  each : (k : ℕ) → k < length joined → IsPart (length joined) k (part_at joined k)
  each k less = by (cases_lt k (length first))
    where
      last : (k < length first) → (k + 1 < length first) ⊎ MakesScore (part_at first k)
      last inside = where_last (cases_lt (k + 1) (length first))
        where
          where_last : (k + 1 < length first) ⊎ (length first ≤ k + 1) → (k + 1 < length first) ⊎ MakesScore (part_at first k)
          where_last (inl l) = inl l
          where_last (inr m) =
              let end : pred (length first) ≡ k = omega (arith, m, inside, many) in
              inr (subst (λ (i : ℕ). MakesScore (part_at first i)) end gives)

      by : (k < length first) ⊎ (length first ≤ k) → IsPart (length joined) k (part_at joined k)
      by (inl inside) =
          subst (IsPart (length joined) k) (sym (here k inside))
          (part_wider (length first) (length joined) k (part_at first k) (a.each k inside) (last inside))
      by (inr outside) =
          let p = behind k outside in
          let wide : suc (length rest) + n ≡ length joined = omega (arith, count, many) in
          let is = part_moved n (suc (length rest)) (suc p.j) (part_at rest p.j) (b.each (suc p.j) (omega (arith, p.at, less, count, many))) in
          let part = subst (λ (q : Part). IsPart (suc (length rest) + n) (suc p.j + n) q) (sym (there p.j)) is in
          subst (λ (i : ℕ). IsPart (length joined) i (part_at joined i)) (sym p.at)
          (subst (λ (c : ℕ). IsPart c (suc p.j + n) (part_at joined (suc p.j + n))) wide part)

  -- Who reads a stage.

  read_there : (i place k : ℕ) → IsReadAt (second first rest) (suc i) place k → IsReadAt joined (suc i + n) place (k + n)
  read_there i place k h =
      let within = h.within in
      record {
        within = omega (arith, within, count, many);
        source = subst (λ (q : Part). slice_get (sources_of q) place ≡ Some (k + n)) (sym (there i))
            (subst (λ (ss : List ℕ). slice_get ss place ≡ Some (k + n)) (sym (moved_from n (part_at rest i)))
            (moved_there n k place (sources_of (part_at rest i)) h.source));
      }

  read : (k : ℕ) → k + 1 < length joined → IsRead joined k
  read k less = by (cases_lt k n)
    where
      first_reads : IsRead first k → IsRead joined k
      first_reads h =
          let within = h.read.within in
          record {
            reader = h.reader;
            place = h.place;
            read = record {
              within = omega (arith, within, count);
              source = subst (λ (q : Part). slice_get (sources_of q) h.place ≡ Some k) (sym (here h.reader within)) h.read.source;
            };
          }

      second_reads : (i : ℕ) → k ≡ i + n → (reader place : ℕ) → IsReadAt (second first rest) reader place i → IsRead joined k
      second_reads i at zero place h = absurd (let none = h.source in none_there place none)
        where
          none_there : (p : ℕ) → slice_get [] p ≡ Some i → ⊥
          none_there p e = cc
      second_reads i at (suc r) place h =
          record {
            reader = suc r + n;
            place = place;
            read = subst (λ (x : ℕ). IsReadAt joined (suc r + n) place x) (sym at) (read_there r place i h);
          }

      by : (k < n) ⊎ (n ≤ k) → IsRead joined k
      by (inl inside) = first_reads (a.read k (omega (arith, inside, many)))
      by (inr outside) =
          let i = k - n in
          let at : k ≡ k - n + n = omega (arith, outside) in
          let h = b.read (k - n) (omega (arith, outside, less, count, many)) in
          second_reads (k - n) at h.reader h.place h.read

  -- A stage that is read, in its own plan.
  record ReadFirst (i place k : ℕ) : Type 0 where
    lower : k < n
    read : IsReadAt first i place k

  record ReadSecond (i place k : ℕ) : Type 0 where
    reader : ℕ
    source : ℕ
    at : i ≡ reader + n
    from : k ≡ source + n
    read : IsReadAt (second first rest) reader place source

  seen : (i place k : ℕ) → IsReadAt joined i place k → ReadFirst i place k ⊎ ReadSecond i place k
  seen i place k h = by (cases_lt i (length first))
    where
      by : (i < length first) ⊎ (length first ≤ i) → ReadFirst i place k ⊎ ReadSecond i place k
      by (inl inside) =
          let source = subst (λ (q : Part). slice_get (sources_of q) place ≡ Some k) (here i inside) h.source in
          let low = source_lower (length first) i k place (part_at first i) (a.each i inside) source in
          inl (record { lower = omega (arith, low, inside, many); read = record { within = inside; source = source } })
      by (inr outside) =
          let p = behind i outside in
          let within = h.within in
          let source = subst (λ (j : ℕ). slice_get (sources_of (part_at joined j)) place ≡ Some k) p.at h.source in
          let moved = subst (λ (q : Part). slice_get (sources_of q) place ≡ Some k) (there p.j) source in
          let back = moved_back n k place (sources_of (part_at rest p.j))
          (subst (λ (ss : List ℕ). slice_get ss place ≡ Some k) (moved_from n (part_at rest p.j)) moved) in
          inr (record {
            reader = suc p.j;
            source = back.0;
            at = p.at;
            from = back.2;
            read = record { within = omega (arith, within, count, many, p.at); source = back.1 };
          })

  once : (i p j q k : ℕ) → IsReadAt joined i p k → IsReadAt joined j q k → (i ≡ j) × (p ≡ q)
  once i p j q k x y = by (seen i p k x) (seen j q k y)
    where
      by : ReadFirst i p k ⊎ ReadSecond i p k → ReadFirst j q k ⊎ ReadSecond j q k → (i ≡ j) × (p ≡ q)
      by (inl c) (inl d) = a.once i p j q k c.read d.read
      by (inl c) (inr d) = absurd (let l = c.lower in let f = d.from in omega (arith, l, f))
      by (inr c) (inl d) = absurd (let l = d.lower in let f = c.from in omega (arith, l, f))
      by (inr c) (inr d) =
          let f = c.from in
          let g = d.from in
          let same : c.source ≡ d.source = omega (arith, f, g) in
          let one = b.once c.reader p d.reader q d.source
          (subst (λ (s : ℕ). IsReadAt (second first rest) c.reader p s) same c.read) d.read in
          (c.at ∙ ap (λ (r : ℕ). r + n) one.0 ∙ sym d.at, one.1)

  pub one_tree : IsTree joined
  one_tree = record { some = omega (arith, count, many); each = each; read = read; once = once }
