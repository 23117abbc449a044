-- What is counted over some sources is what the first of them has, and what the others have.
use Rattle.std.proofs.lemmas.Grind.{common_steps}
use Rattle.std.proofs.lemmas.Bool.Decides.{nat_tests}
use Rattle.std.proofs.Common.{◌≡◌, ◌∙◌, refl, sym, ap, ℕ, ◌+◌, ◌-◌, ◌<◌, ◌≤◌, ◌==◌, nat_lt, nat_le}
use Rattle.std.proofs.Common.{map, Option, None, Some}
use Rattle.std.proofs.Common.{Bool, true, false, not, ◌&&◌, ◌||◌, if◌then◌else◌, List, [], ◌∷◌, ◌++◌, length, take, drop, get_or, arith}
use Rattle.std.specs.List.{list_any}
use Rattle.std.proofs.lemmas.Bool.{lt-ltb, lt-leb}
use Rattle.hum_score.specs.Spines.{width}
use Rattle.hum_score.specs.Row.{Row}
use Rattle.hum_record.specs.Room.{rooms_for}
use Rattle.hum_stage.specs.declared.faults.End as end
use Rattle.hum_assemble.specs.declared.places.Place.{Place}
use Rattle.hum_assemble.specs.Source.{Source}
use Rattle.hum_assemble.specs.Places.{is_shared, earlier}
use Rattle.hum_assemble.specs.Round.{takes, place_at, earliest}
use Rattle.hum_assemble.specs.Merge.{part_given, moved, spines, all_moved, text_of_first, comment_given}
use Rattle.hum_assemble.specs.Meaning.{lower, inputs_end, total, heads}
use Rattle.hum_assemble.specs.Standing.{HoldOneEach}
use Rattle.hum_assemble.specs.Sizes.{tokens_len}
use Rattle.hum_assemble.specs.Taking.{bytes_given, parts_given}

-- more than are left, by the first part alone
over : (left a b : ℕ) → left < a → true ≡ nat_lt left (a + b)
over left a b less = sym (lt-ltb left (a + b) (omega (arith, less)))

-- or by what is left behind it
behind : (left a b : ℕ) → a ≤ left → nat_lt (left - a) b ≡ nat_lt left (a + b)
behind = grind (arith, nat_tests)

-- no more than are left, by what is left behind the first part
at_most : (left b : ℕ) → (left ≡ 0 → ⊥) → nat_le b (left - 1) ≡ nat_le (1 + b) left
at_most = grind (arith, nat_tests)

none_left : (left b : ℕ) → left ≡ 0 → false ≡ nat_le (1 + b) left
none_left left b none = sym (lt-leb (1 + b) left (omega (arith, none)))

-- the list behind the first, as a slice
pub others : (x : Source) (xs : List Source) → take (length (x ∷ xs) - 1) (drop 1 (x ∷ xs)) ≡ xs
others = grind (arith, common_steps)

nothing : (b : ℕ) → (if false then 1 else 0) + b ≡ b
nothing b = omega arith

bytes_on : (free going : Bool) (p : Place) (ss : List Source) (s d : Source) (taken on : Bool) (bytes : ℕ)
    → 1 ≤ length ss → s ≡ get_or ss 0 d → taken ≡ takes free going p s → on ≡ (free && (is_shared p || not taken))
    → bytes ≡ tokens_len (part_given taken p s)
    → bytes_given free going p ss ≡ bytes + bytes_given on going p (take (length ss - 1) (drop 1 ss))
bytes_on = grind (arith, common_steps)

pub more_bytes : (free going : Bool) (p : Place) (left : ℕ) (ss : List Source) (s d : Source) (taken : Bool) (bytes : ℕ)
    → 1 ≤ length ss → s ≡ get_or ss 0 d → taken ≡ takes free going p s
    → bytes ≡ tokens_len (part_given taken p s) → left < bytes
    → true ≡ nat_lt left (bytes_given free going p ss)
more_bytes free going p left ss s d taken bytes some is t b less =
    over left bytes _ less ∙ ap (nat_lt left) (sym (bytes_on free going p ss s d taken _ bytes some is t refl b))

pub bytes_behind : (free going : Bool) (p : Place) (left : ℕ) (ss : List Source) (s d : Source) (taken on : Bool) (bytes : ℕ)
    (answer : Bool) → 1 ≤ length ss → s ≡ get_or ss 0 d → taken ≡ takes free going p s
    → on ≡ (free && (is_shared p || not taken)) → bytes ≡ tokens_len (part_given taken p s) → bytes ≤ left
    → answer ≡ nat_lt (left - bytes) (bytes_given on going p (take (length ss - 1) (drop 1 ss)))
    → answer ≡ nat_lt left (bytes_given free going p ss)
bytes_behind free going p left ss s d taken on bytes answer some is t o b less h =
    h ∙ behind left bytes _ less ∙ ap (nat_lt left) (sym (bytes_on free going p ss s d taken on bytes some is t o b))

spines_on : (free going : Bool) (p : Place) (ss : List Source) (s d : Source) (taken on : Bool) (own : ℕ)
    → 1 ≤ length ss → s ≡ get_or ss 0 d → taken ≡ takes free going p s → on ≡ (free && (is_shared p || not taken))
    → own ≡ width (moved taken going p s).path
    → spines (all_moved free going p ss) ≡ own + spines (all_moved on going p (take (length ss - 1) (drop 1 ss)))
spines_on = grind (arith, common_steps)

pub more_spines : (free going : Bool) (p : Place) (left : ℕ) (ss : List Source) (s d : Source) (taken : Bool) (own : ℕ)
    → 1 ≤ length ss → s ≡ get_or ss 0 d → taken ≡ takes free going p s
    → own ≡ width (moved taken going p s).path → left < own
    → true ≡ nat_lt left (spines (all_moved free going p ss))
more_spines free going p left ss s d taken own some is t b less =
    over left own _ less ∙ ap (nat_lt left) (sym (spines_on free going p ss s d taken _ own some is t refl b))

pub spines_behind : (free going : Bool) (p : Place) (left : ℕ) (ss : List Source) (s d : Source) (taken on : Bool) (own : ℕ)
    (answer : Bool) → 1 ≤ length ss → s ≡ get_or ss 0 d → taken ≡ takes free going p s
    → on ≡ (free && (is_shared p || not taken)) → own ≡ width (moved taken going p s).path → own ≤ left
    → answer ≡ nat_lt (left - own) (spines (all_moved on going p (take (length ss - 1) (drop 1 ss))))
    → answer ≡ nat_lt left (spines (all_moved free going p ss))
spines_behind free going p left ss s d taken on own answer some is t o b less h =
    h ∙ behind left own _ less ∙ ap (nat_lt left) (sym (spines_on free going p ss s d taken on own some is t o b))

parts_on : (free going : Bool) (p : Place) (ss : List Source) (s d : Source) (taken on part : Bool)
    → 1 ≤ length ss → s ≡ get_or ss 0 d → taken ≡ takes free going p s → on ≡ (free && (is_shared p || not taken))
    → part ≡ (taken || not (width s.path == 0))
    → parts_given free going p ss ≡ (if part then 1 else 0) + parts_given on going p (take (length ss - 1) (drop 1 ss))
parts_on = grind (arith, common_steps)

-- the first source has no part
pub parts_without : (free going : Bool) (p : Place) (left : ℕ) (ss : List Source) (s d : Source) (taken on : Bool)
    (answer : Bool) → 1 ≤ length ss → s ≡ get_or ss 0 d → taken ≡ takes free going p s
    → on ≡ (free && (is_shared p || not taken)) → false ≡ (taken || not (width s.path == 0))
    → answer ≡ nat_le (parts_given on going p (take (length ss - 1) (drop 1 ss))) left
    → answer ≡ nat_le (parts_given free going p ss) left
parts_without free going p left ss s d taken on answer some is t o none h =
    h ∙ ap (λ (n : ℕ). nat_le n left) (sym (parts_on free going p ss s d taken on false some is t o none ∙ nothing _))

-- it has one, and none is left
pub parts_over : (free going : Bool) (p : Place) (left : ℕ) (ss : List Source) (s d : Source) (taken : Bool)
    → 1 ≤ length ss → s ≡ get_or ss 0 d → taken ≡ takes free going p s
    → true ≡ (taken || not (width s.path == 0)) → left ≡ 0
    → false ≡ nat_le (parts_given free going p ss) left
parts_over free going p left ss s d taken some is t part none =
    none_left left _ none ∙ ap (λ (n : ℕ). nat_le n left) (sym (parts_on free going p ss s d taken _ true some is t refl part))

pub parts_behind : (free going : Bool) (p : Place) (left : ℕ) (ss : List Source) (s d : Source) (taken on : Bool)
    (answer : Bool) → 1 ≤ length ss → s ≡ get_or ss 0 d → taken ≡ takes free going p s
    → on ≡ (free && (is_shared p || not taken)) → true ≡ (taken || not (width s.path == 0)) → (left ≡ 0 → ⊥)
    → answer ≡ nat_le (parts_given on going p (take (length ss - 1) (drop 1 ss))) (left - 1)
    → answer ≡ nat_le (parts_given free going p ss) left
parts_behind free going p left ss s d taken on answer some is t o part more h =
    h ∙ at_most left _ more ∙ ap (λ (n : ℕ). nat_le n left) (sym (parts_on free going p ss s d taken on true some is t o part))

pub no_width : (taken : Bool) (w v : ℕ) → taken ≡ false → w ≡ v → w ≡ 0 → false ≡ (taken || not (v == 0))
no_width taken w v t e z = rw (t, ← e, z) refl

pub some_width : (taken : Bool) (w v : ℕ) → w ≡ v → (w ≡ 0 → ⊥) → true ≡ (taken || not (v == 0))
some_width = grind (arith, nat_tests)

pub has_taken : (taken : Bool) (v : ℕ) → taken ≡ true → true ≡ (taken || not (v == 0))
has_taken taken v t = rw t refl

pub width_taken : (taken going : Bool) (p : Place) (s : Source) (own : ℕ) → taken ≡ true
    → own ≡ width (moved true going p s).path → own ≡ width (moved taken going p s).path
width_taken taken going p s own t e = rw t e

pub width_left : (taken going : Bool) (p : Place) (s : Source) (own : ℕ) → taken ≡ false
    → own ≡ width s.path → own ≡ width (moved taken going p s).path
width_left taken going p s own t e = rw t e

-- The earliest place is the first's or one behind it.
pub first_earliest : (going : Bool) (ss : List Source) (s d : Source) (low at others_at : Place)
    → 1 ≤ length ss → s ≡ get_or ss 0 d → at ≡ place_at going s
    → others_at ≡ earliest going (take (length ss - 1) (drop 1 ss)) → low ≡ earlier at others_at
    → low ≡ earliest going ss
first_earliest = grind (arith, common_steps)

-- The first goes on, so there is no end.
pub first_open : (ss : List Source) (s d : Source) (own answer : Option end.End) → 1 ≤ length ss → s ≡ get_or ss 0 d
    → own ≡ s.ended → own ≡ None → answer ≡ None → answer ≡ inputs_end (map (λ (x : Source). x.ended) ss)
first_open = grind (arith, common_steps)

-- One behind it goes on.
pub others_open : (ss : List Source) (s d : Source) (own behind answer : Option end.End) (a : end.End) → 1 ≤ length ss
    → s ≡ get_or ss 0 d → own ≡ s.ended → own ≡ Some a
    → behind ≡ inputs_end (map (λ (x : Source). x.ended) (take (length ss - 1) (drop 1 ss))) → behind ≡ None → answer ≡ None
    → answer ≡ inputs_end (map (λ (x : Source). x.ended) ss)
others_open = grind (arith, common_steps)

pub all_over : (ss : List Source) (s d : Source) (own behind : Option end.End) (a b low : end.End) → 1 ≤ length ss
    → s ≡ get_or ss 0 d → own ≡ s.ended → own ≡ Some a
    → behind ≡ inputs_end (map (λ (x : Source). x.ended) (take (length ss - 1) (drop 1 ss))) → behind ≡ Some b → low ≡ lower a b
    → Some low ≡ inputs_end (map (λ (x : Source). x.ended) ss)
all_over = grind (arith, common_steps)

-- How many records wait.
pub first_total : (ss : List Source) (s d : Source) (own behind : ℕ) → 1 ≤ length ss → s ≡ get_or ss 0 d
    → own ≡ length s.coming → behind ≡ total (take (length ss - 1) (drop 1 ss)) → own + behind ≡ total ss
first_total = grind (arith, common_steps)

rooms_both : (xs ys : List Row) → rooms_for (xs ++ ys) ≡ rooms_for xs + rooms_for ys
rooms_both [] ys = omega arith
rooms_both (x ∷ xs) ys = let e = rooms_both xs ys in omega (arith, e)

pub first_room : (ss : List Source) (s d : Source) (own behind all : ℕ) → 1 ≤ length ss → s ≡ get_or ss 0 d
    → own ≤ rooms_for s.coming → behind ≤ rooms_for (heads (take (length ss - 1) (drop 1 ss))) → all ≤ own + behind
    → all ≤ rooms_for (heads ss)
first_room [] s d own behind all some is o b a = absurd (omega (arith, some))
first_room (x ∷ xs) s d own behind all some is o b a =
    grind (arith, nat_tests, rooms_both x.coming (heads xs), others x xs)

pub first_most : (ss : List Source) (own behind : ℕ) → 1 ≤ length ss → own ≤ 1
    → behind ≤ length (take (length ss - 1) (drop 1 ss)) → own + behind ≤ length ss
first_most = grind (arith, common_steps)

pub first_holds : (ss : List Source) (s d : Source) (own : ℕ) → 1 ≤ length ss → s ≡ get_or ss 0 d
    → own ≡ length s.coming → own ≤ 1 → HoldOneEach (take (length ss - 1) (drop 1 ss)) → HoldOneEach ss
first_holds = grind (arith, common_steps)

pub comment_here : (going : Bool) (p : Place) (all ss : List Source) (s d : Source) (taken : Bool) (len : ℕ) → 1 ≤ length ss
    → s ≡ get_or ss 0 d → taken ≡ takes true going p s → taken ≡ true → len ≡ length (text_of_first s.coming)
    → comment_given going p ss ≡ comment_given going p all → len ≡ length (comment_given going p all)
comment_here = grind (arith, common_steps)

pub comment_behind : (going : Bool) (p : Place) (all ss : List Source) (s d : Source) (taken : Bool) → 1 ≤ length ss
    → s ≡ get_or ss 0 d → taken ≡ takes true going p s → taken ≡ false
    → comment_given going p ss ≡ comment_given going p all
    → comment_given going p (take (length ss - 1) (drop 1 ss)) ≡ comment_given going p all
comment_behind = grind (arith, common_steps)

pub no_comment : (going : Bool) (p : Place) (all ss : List Source) → length ss < 1
    → comment_given going p ss ≡ comment_given going p all → 0 ≡ length (comment_given going p all)
no_comment = grind (arith, common_steps)

-- A spine whose name is still to come is looked for from the first to the last.
pub passed : (f : List ℕ → Bool) (xs : List (List ℕ)) (j : ℕ) → j < length xs → f (get_or xs j []) ≡ false
    → list_any f (drop j xs) ≡ list_any f xs → list_any f (drop (j + 1) xs) ≡ list_any f xs
passed = grind (arith, common_steps)
