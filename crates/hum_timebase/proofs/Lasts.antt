-- Lists that are gone through, from the front or from the back.
use Rattle.std.proofs.lemmas.Grind.{common_steps}
use Rattle.std.proofs.Common.{◌≡◌, ◌≢◌, ◌∙◌, ℕ, ◌+◌, ◌-◌, ◌<◌, ◌≤◌, List, [], ◌∷◌, ◌++◌, map, length, take, drop, get_or}
use Rattle.std.proofs.Common.{refl, sym, ap, arith, drop-cons, Option, None, Some}
use Rattle.std.proofs.lemmas.Bool.{eq-eqb}
use Rattle.std.proofs.lemmas.List.{drop_all}
use Rattle.hum_frac.specs.Ratio.{Ratio}
use Rattle.hum_kern.specs.Runs.{run}
use Rattle.hum_timebase.specs.Ends.{beyond, sooner, next_end}
use Rattle.hum_timebase.specs.Reading.{is_part}

-- all were gone through
pub map_done : {A B : Type 0} (f : A → B) (done all : List B) (xs : List A) (j : ℕ) → length xs ≤ j
    → done ++ map f (drop j xs) ≡ all → done ≡ all
map_done = grind (arith, common_steps)

-- one more, at place j
pub map_next : {A B : Type 0} (f : A → B) (done all : List B) (xs : List A) (j : ℕ) (x d : A) (b : B) → j < length xs
    → x ≡ get_or xs j d → b ≡ f x → done ++ map f (drop j xs) ≡ all → (done ++ b ∷ []) ++ map f (drop (j + 1) xs) ≡ all
map_next = grind (arith, common_steps)

-- from the back, one more has passed
pub passed_more : {A : Type 0} (left passed all : List A) (x : A) → 1 ≤ length left → x ≡ get_or left (length left - 1) x
    → left ++ passed ≡ all → take (length left - 1) left ++ x ∷ passed ≡ all
passed_more = grind (arith, common_steps)

pub all_passed : {A : Type 0} (left passed all : List A) → length left < 1 → left ++ passed ≡ all → passed ≡ all
all_passed = grind (arith, common_steps)

-- where no end behind it is after a time, it tells whether one is
pub none_beyond : (time : Ratio) (end : Option Ratio) (passed : List (Option Ratio)) → beyond time end ≡ None
    → next_end time passed ≡ None → next_end time (end ∷ passed) ≡ None
none_beyond time end passed here behind = rw (here, behind) refl

pub one_beyond : (time found : Ratio) (end : Option Ratio) (passed : List (Option Ratio)) → beyond time end ≡ Some found
    → next_end time passed ≡ None → next_end time (end ∷ passed) ≡ Some found
one_beyond time found end passed here behind = rw (here, behind) refl

pub least_more : (time least found : Ratio) (end : Option Ratio) (passed : List (Option Ratio))
    → next_end time passed ≡ Some least → Some found ≡ sooner (beyond time end) (Some least)
    → next_end time (end ∷ passed) ≡ Some found
least_more time least found end passed behind is = ap (λ next. sooner (beyond time end) next) behind ∙ sym is

-- a run of bytes that aren't spaces
pub run_more : (text : List ℕ) (n : ℕ) → n < length text → get_or text n 0 ≢ 32
    → run is_part (drop n text) ≡ run is_part (drop (n + 1) text) + 1
run_more = grind (arith, common_steps)

pub run_ends : (text : List ℕ) (n : ℕ) → n < length text → get_or text n 0 ≡ 32 → run is_part (drop n text) ≡ 0
run_ends text n below space = rw (drop-cons text n 0 below, eq-eqb (get_or text n 0) 32 space) refl

pub run_none : (text : List ℕ) (n : ℕ) → length text ≤ n → run is_part (drop n text) ≡ 0
run_none text n over = rw (drop_all n text over) refl
