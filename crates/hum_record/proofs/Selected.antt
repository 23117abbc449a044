-- Selected tokens are left, one after another.
use Rattle.std.proofs.lemmas.Grind.{common_steps}
use Rattle.std.proofs.lemmas.Bool.Decides.{nat_tests}
use Rattle.std.proofs.Common.{◌≡◌, ◌≢◌, ◌∙◌, ℕ, zero, suc, ◌+◌, ◌-◌, ◌<◌, ◌≤◌, Bool, true, false, not, List, [], ◌∷◌}
use Rattle.std.proofs.Common.{length, take, drop, get_or, set, ◌==◌, ⊎_elim, if◌then◌else◌, refl, sym, ap, subst, arith, add-one, drop-cons, append-nil}
use Rattle.std.proofs.lemmas.Bool.{cases_lt}
use Rattle.std.proofs.lemmas.List.{set-get_or, drop_all, get_or-set_other, get_or_past}
use Rattle.std.proofs.lemmas.List.Sums.{prefix_len-le-length, prefix_len_passes, prefix_len_stops}
use Rattle.std.specs.List.{copy_within, list_any}
use Rattle.hum_score.specs.Row.{chosen}
use Rattle.hum_record.specs.Building.{spelled}
use Rattle.hum_record.specs.Fields.{ends_from, begins_at}
use Rattle.hum_record.specs.Selecting.{marked_from, front_of, moved_of}
use Rattle.hum_record.proofs.Left.{Leaving, begins_left, end_most, ends_more, skips, from_most, from_least, takes_from, moved_nowhere}

in_place : (ends : List ℕ) (m : ℕ) → (if m == 0 then begins_at ends m else begins_at ends m - 1) ≡ begins_at ends m - 1
in_place = grind (arith, nat_tests)

-- Behind those in front that are left where they stand
module _ (text ends : List ℕ) (marks : List Bool) (ts : List (List ℕ)) (filled : ts ≢ []) (spells : text ≡ spelled ts)
    (cut : ends ≡ ends_from 0 ts) (wide : length marks ≡ length ends) where
  abbrev all : List (List ℕ)
  all = chosen marks ts

  stays_at : (m : ℕ) → (l : Leaving (begins_at ends m - 1) m (begins_at ends m) m text ends marks all) → m < length marks
      → get_or marks m false ≡ true → Leaving (begins_at ends (suc m) - 1) (suc m) (begins_at ends (suc m)) (suc m) text ends marks all
  stays_at m l within is =
      let end = get_or ends m 0 in
      let from = if m == 0 then begins_at ends m else begins_at ends m - 1 in
      let len = begins_at ends m - 1 in
      let there : from ≡ len = in_place ends m in
      let least = from_least _ _ _ _ _ _ _ _ l within end from refl refl in
      let most = from_most _ _ _ _ _ _ _ _ l within end from refl refl in
      let stays = moved_nowhere text from end len least most (end_most _ _ _ _ _ _ _ _ l within) (omega (arith, there)) in
      let size : len + (end - from) ≡ end = omega (arith, there, most) in
      let one_less : end + 1 - 1 ≡ end = omega arith in
      let same = ap (set ends m) size ∙ set-get_or ends m 0 in
      let next = takes_from _ _ _ _ _ _ _ _ l within end from refl refl is text stays in
      rw (one_less, ← add-one) (subst (λ es. Leaving end (m + 1) (end + 1) (m + 1) text es marks all) same
      (subst (λ n. Leaving n (m + 1) (end + 1) (m + 1) text (set ends m (len + (end - from))) marks all) size next))

  pub in_front : (n : ℕ) → ((k : ℕ) → k < n → get_or marks k false ≡ true) → n ≤ length marks
      → Leaving (begins_at ends n - 1) n (begins_at ends n) n text ends marks all
  in_front zero set few = begins_left text ends marks ts filled spells cut wide
  in_front (suc m) set few =
      stays_at m (in_front m (λ k less. set k (omega (arith, less))) (omega (arith, few))) (omega (arith, few)) (set m (omega arith))

-- no mark is set where none has a place
pub marked_none : (j : ℕ) (marks : List Bool) → (length (marked_from j marks) == 0) ≡ not (list_any (λ b. b) marks)
marked_none j (false ∷ marks) = marked_none (j + 1) marks
marked_none j marks = grind (arith, nat_tests)

-- What was moved so far, and the places of what is still to be moved.
pub record Moving (len count : ℕ) (text ends : List ℕ) (marks : List Bool) (all : List (List ℕ)) (rest : List ℕ) : Type 0 where
  pub j : ℕ
  pub left : Leaving len count (begins_at ends j) j text ends marks all
  pub places : rest ≡ marked_from j (drop j marks)
  pub gap : j ≤ count → get_or marks j false ≡ false

-- the next of them
pub record Reached (len count k : ℕ) (text ends : List ℕ) (marks : List Bool) (all : List (List ℕ)) (rest : List ℕ) : Type 0 where
  pub left : Leaving len count (begins_at ends k) k text ends marks all
  pub marked : get_or marks k false ≡ true
  pub within : k < length marks
  pub behind : count < k
  pub places : rest ≡ marked_from (suc k) (drop (suc k) marks)

by_bool : {P : Type 0} (b : Bool) → (b ≡ true → P) → (b ≡ false → P) → P
by_bool = grind (arith, nat_tests)

same_first : (a b : ℕ) (xs ys : List ℕ) → a ∷ xs ≡ b ∷ ys → (a ≡ b) × (xs ≡ ys)
same_first a b xs ys e = (cc, cc)

module _ (len count k : ℕ) (text ends : List ℕ) (marks : List Bool) (all : List (List ℕ)) (rest : List ℕ) where
  -- past those that aren't left
  reach : (n j : ℕ) → j + n ≡ length marks → Leaving len count (begins_at ends j) j text ends marks all
      → k ∷ rest ≡ marked_from j (drop j marks) → (j ≤ count → get_or marks j false ≡ false)
      → Reached len count k text ends marks all rest
  reach zero j e l places gap = grind (arith, common_steps)
  reach (suc n) j e l places gap =
      let within : j < length marks = omega (arith, e) in
      let is = drop-cons marks j false within in
      by_bool (get_or marks j false)
      (λ set.
      let both = same_first k j rest _ (places ∙ ap (marked_from j) is ∙ rw (set, add-one) refl) in
      rw both.0 (record {
        left = l;
        marked = set;
        within = within;
        behind = ⊎_elim (λ less. less) (λ (far : j ≤ count). cc (gap far, set)) (cases_lt count j);
        places = both.1;
      }))
      (λ unset. reach n (suc j) (omega (arith, e)) (subst (λ (m : ℕ). Leaving len count (get_or ends j 0 + 1) m text ends marks all) (omega arith)
      (skips _ _ _ _ _ _ _ _ l within unset))
      (places ∙ ap (marked_from j) is ∙ rw unset (ap (λ m. marked_from m (drop (suc j) marks)) (omega arith)))
      (λ far. absurd (let f = l.fewer in omega (arith, far, f))))

  pub reached : Moving len count text ends marks all (k ∷ rest) → Reached len count k text ends marks all rest
  reached m =
      reach (length marks - m.j) m.j (omega (arith, m.left.as_many)) m.left m.places m.gap

-- one more was moved
pub moved_on : (len count k : ℕ) (text ends : List ℕ) (marks : List Bool) (all : List (List ℕ)) (rest : List ℕ)
    → (r : Reached len count k text ends marks all rest) → (end from : ℕ) → end ≡ get_or ends k 0
    → from ≡ (if count == 0 then begins_at ends k else begins_at ends k - 1) → (new : List ℕ)
    → new ≡ copy_within text from end len
    → Moving (len + (end - from)) (count + 1) new (set ends count (len + (end - from))) marks all rest
moved_on len count k text ends marks all rest r end from end_is from_is new copied =
    let behind = r.behind in
    let next = takes_from _ _ _ _ _ _ _ _ r.left r.within end from end_is from_is r.marked new copied in
    let put = set ends count (len + (end - from)) in
    let same : get_or put k 0 ≡ get_or ends k 0 = get_or-set_other ends count k (len + (end - from)) 0 (λ e. absurd (omega (arith, e, behind))) in
    record {
      j = suc k;
      left = subst (λ (m : ℕ). Leaving (len + (end - from)) (count + 1) (begins_at put (suc k)) m new put marks all) (omega arith)
          (subst (λ (b : ℕ). Leaving (len + (end - from)) (count + 1) (b + 1) (k + 1) new put marks all) (end_is ∙ sym same) next);
      places = r.places;
      gap = λ far. absurd (omega (arith, far, behind));
    }

no_marks : (j : ℕ) (marks : List Bool) (ts : List (List ℕ)) → [] ≡ marked_from j marks → chosen marks ts ≡ []
no_marks j (false ∷ marks) (t ∷ ts) e = no_marks (j + 1) marks ts e
no_marks j marks ts h = grind (arith, nat_tests)

-- all were moved
pub all_moved : (len count : ℕ) (text ends : List ℕ) (marks : List Bool) (left : List (List ℕ))
    → (m : Moving len count text ends marks left []) → m.left.made ≡ left
all_moved = grind (arith, nat_tests, append-nil, no_marks)

-- none was moved as yet
pub unmoved : (text ends : List ℕ) (marks : List Bool) (ts : List (List ℕ)) (filled : ts ≢ []) (spells : text ≡ spelled ts)
    (cut : ends ≡ ends_from 0 ts) (wide : length marks ≡ length ends)
    → Moving (begins_at ends (front_of marks) - 1) (front_of marks) text ends marks (chosen marks ts) (moved_of marks)
unmoved text ends marks ts filled spells cut wide = record {
  j = front_of marks;
  left = grind (arith, nat_tests, in_front, prefix_len_passes, prefix_len-le-length);
  places = refl;
  gap = grind (arith, nat_tests, ⊎_elim, prefix_len_stops, get_or_past, cases_lt);
}

begins_before : (ends : List ℕ) (k : ℕ) → 0 < k → begins_at ends k ≡ get_or ends (k - 1) 0 + 1
begins_before = grind (arith, nat_tests)

from_same : (c : Bool) (before begin : ℕ) → begin ≡ before + 1
    → (if c then before + 1 else before) ≡ (if c then begin else begin - 1)
from_same = grind (arith, nat_tests)

-- one turn
module _ (len count i : ℕ) (text ends : List ℕ) (marks : List Bool) (all : List (List ℕ)) (moved : List ℕ)
    (m : Moving len count text ends marks all (drop i moved)) (within : i < length moved) where
  abbrev k : ℕ
  k = get_or moved i 0

  r : Reached len count (get_or moved i 0) text ends marks all (drop (i + 1) moved)
  r =
      reached len count (get_or moved i 0) text ends marks all (drop (i + 1) moved)
      (subst (λ (rest : List ℕ). Moving len count text ends marks all rest) (rw add-one (drop-cons moved i 0 within)) m)

  pub place_within : get_or moved i 0 < length ends
  place_within = ends_more _ _ _ _ _ _ _ _ r.left r.within

  pub place_behind : count < get_or moved i 0
  place_behind = r.behind

  pub end_within : get_or ends (get_or moved i 0) 0 ≤ length text
  end_within = end_most _ _ _ _ _ _ _ _ r.left r.within

  module _ (from : ℕ) (from_is : from ≡ (if count == 0 then get_or ends (get_or moved i 0 - 1) 0 + 1 else get_or ends (get_or moved i 0 - 1) 0)) where
    from_at : from ≡ (if count == 0 then begins_at ends k else begins_at ends k - 1)
    from_at = let b = r.behind in from_is ∙ from_same (count == 0) _ _ (begins_before ends k (omega (arith, b)))

    pub least : len ≤ from
    least = from_least _ _ _ _ _ _ _ _ r.left r.within (get_or ends k 0) from refl from_at

    pub most : from ≤ get_or ends (get_or moved i 0) 0
    most = from_most _ _ _ _ _ _ _ _ r.left r.within (get_or ends k 0) from refl from_at

    pub turn : (new : List ℕ) → new ≡ copy_within text from (get_or ends (get_or moved i 0) 0) len
        → Moving (len + (get_or ends (get_or moved i 0) 0 - from)) (count + 1) new
        (set ends count (len + (get_or ends (get_or moved i 0) 0 - from))) marks all (drop (i + 1) moved)
    turn new copied = moved_on len count k text ends marks all (drop (i + 1) moved) r (get_or ends k 0) from refl from_at new copied

-- all turns were made
pub all_turns : (len count i : ℕ) (text ends : List ℕ) (marks : List Bool) (all : List (List ℕ)) (moved : List ℕ)
    → Moving len count text ends marks all (drop i moved) → length moved ≤ i
    → (take len text ≡ spelled all) × (take count ends ≡ ends_from 0 all)
all_turns len count i text ends marks all moved m past =
    let end = subst (λ (rest : List ℕ). Moving len count text ends marks all rest) (drop_all i moved past) m in
    let whole = all_moved len count text ends marks all end in
    (end.left.text_left ∙ ap spelled whole, end.left.ends_left ∙ ap (ends_from 0) whole)
