-- Lists of which a front counts.
use Rattle.std.proofs.lemmas.Grind.{common_steps}
use Rattle.std.proofs.Common.{◌≡◌, ◌∙◌, ℕ, ◌<◌, ◌≤◌, List, ◌++◌, length, get_or, take, drop, set, sym, ap, arith, take_at}
use Rattle.std.proofs.lemmas.List.{get_or-take}
use Rattle.std.proofs.lemmas.Simd.{length-chunk, take_more_put_chunk}
use Rattle.std.specs.Simd.Lanes.{chunk, put_chunk}
use Rattle.hum_record.specs.Lines.{IsEnded}
use Rattle.hum_record.proofs.Places.{front_of_front}

-- what stands in a list behind a borrow of it all
pub written_back : (n : ℕ) (new old : List ℕ) → length new ≡ n → take n (new ++ drop (length new) old) ≡ new
written_back n new old e = take_at new (drop (length new) old) n e

-- the front of a list into which another's front was put
pub front_put : (old held : List ℕ) (k len : ℕ) → k ≤ length old → k ≤ length held → len ≤ k
    → take len (put_chunk 0 old (chunk 0 k held)) ≡ take len held
front_put old held k len room filled short =
    let long = length-chunk 0 k held (omega (arith, filled)) in
    let all : take k (put_chunk 0 old (chunk 0 k held)) ≡ chunk 0 k held =
    take_more_put_chunk 0 old (chunk 0 k held) k (omega (arith, long)) room in
    sym (front_of_front len k (put_chunk 0 old (chunk 0 k held)) short) ∙ ap (take len) all ∙ front_of_front len k held short

-- a list that was made longer begins with what it was
pub refilled : (n count : ℕ) (old more : List ℕ) → n ≡ length old → n ≤ count → take n (take count old ++ more) ≡ old
refilled = grind (arith, common_steps)

-- a front of a list that was made longer
pub front_kept : (r n : ℕ) (old new : List ℕ) → r ≤ n → take n new ≡ old → take r new ≡ take r old
front_kept r n old new short same = sym (front_of_front r n new short) ∙ ap (take r) same

-- what two lists with the same front have in common
pub fronts : (r n : ℕ) (xs ys : List ℕ) → r ≤ n → take n xs ≡ take n ys → take r xs ≡ take r ys
fronts r n xs ys short same = sym (front_of_front r n xs short) ∙ ap (take r) same ∙ front_of_front r n ys short

pub same_place : (k n : ℕ) (xs ys : List ℕ) → k < n → take n xs ≡ take n ys → get_or xs k 0 ≡ get_or ys k 0
same_place k n xs ys less same = sym (get_or-take n xs k 0 less) ∙ ap (λ (zs : List ℕ). get_or zs k 0) same ∙ get_or-take n ys k 0 less

-- the front of what was written into a list behind a borrow of it all
pub front_written : (r n : ℕ) (new old : List ℕ) → length new ≡ n → take r (take n (new ++ drop (length new) old)) ≡ take r new
front_written r n new old e = ap (take r) (written_back n new old e)

-- the front of a front into which another was put
pub front_behind : (r : ℕ) (new rest : List ℕ) → r ≤ length new → take r (new ++ rest) ≡ take r new
front_behind = grind (arith, common_steps)

-- where LF stands in some bytes
pub lf_within : (xs : List ℕ) (k : ℕ) → get_or xs k 0 ≡ 10 → k < length xs
lf_within = grind (arith, common_steps)

-- LF behind a text: in a list that was borrowed whole, also where it was put there then, and in one that was made longer
pub ended_back : (n len : ℕ) (new old : List ℕ) → length new ≡ n → (0 < len → get_or new len 0 ≡ 10)
    → IsEnded (take n (new ++ drop (length new) old)) len
ended_back n len new old size is some = rw (written_back n new old size) (lf_within new len (is some), is some)

pub ended_set : (n len : ℕ) (new old : List ℕ) → length new ≡ n → len < n → IsEnded (set (take n (new ++ drop (length new) old)) len 10) len
ended_set = grind (arith, common_steps)

pub ended_kept : (n len : ℕ) (old new : List ℕ) → n ≡ length old → take n new ≡ old → IsEnded old len → IsEnded new len
ended_kept = grind (arith, common_steps)
