-- Folds over the ends, from the right.
use Rattle.std.proofs.lemmas.Grind.{common_steps}
use Rattle.std.proofs.Common.{◌≡◌, ℕ, zero, suc, ◌+◌, ◌-◌, min, ◌<◌, ◌≤◌, List, [], ◌∷◌, length, get_or, drop}
use Rattle.std.proofs.Common.{Option, None, false, refl, ap, ◌∙◌, arith}
use Rattle.std.proofs.lemmas.Bool.Decides.{nat_tests, leb_tells}
use Rattle.std.proofs.lemmas.List.{drop_all}
use Rattle.hum_frac.specs.Ratio.{Ratio}
use Rattle.hum_score.specs.declared.spines.Move.{Move}
use Rattle.hum_path.specs.Chains.{goes_on}
use Rattle.hum_timebase.specs.Ends.{later}
use Rattle.hum_timebase.specs.Kept.{end_by}
use Rattle.hum_timebase.specs.Spans.{low_of, high_of}

goes_above : (j : ℕ) (move : Move) → high_of move ≤ j → goes_on j move ≡ false
goes_above = grind (arith, nat_tests)

pub none_above : (j : ℕ) (move : Move) (ends : List (Option Ratio)) → high_of move ≤ j → end_by j move ends ≡ None
none_above j move [] h = refl
none_above j move (end ∷ ends) h = rw (goes_above j move h) (none_above (j + 1) move ends (omega arith))

-- what stands to the left doesn't count
pub end_by-below : (n j : ℕ) (move : Move) (ends : List (Option Ratio)) → j + n ≤ low_of move → end_by j move ends ≡ end_by (j + n) move (drop n ends)
end_by-below zero j move ends h = ap (λ (k : ℕ). end_by k move ends) {x = j} {y = j + zero} (omega arith)
end_by-below (suc n) j move [] h = refl
end_by-below (suc n) j move (end ∷ ends) h =
    grind (arith, nat_tests, end_by-below n (j + 1) move ends (omega arith))

pub none_at : (move : Move) (ends : List (Option Ratio)) (high m : ℕ) → high ≡ high_of move → m ≡ min high (length ends) → None ≡ end_by m move (drop m ends)
none_at = grind (arith, nat_tests, leb_tells, none_above, drop_all)

-- one step to the left, from j
pub end_by-next : (move : Move) (ends : List (Option Ratio)) (j : ℕ) (found kept new : Option Ratio) → 0 < j →
    j ≤ length ends → j ≤ high_of move → low_of move < j → found ≡ get_or ends (j - 1) found →
    kept ≡ end_by j move (drop j ends) → new ≡ later found kept → new ≡ end_by (j - 1) move (drop (j - 1) ends)
end_by-next = grind (arith, common_steps)

pub end_by-all : (move : Move) (ends : List (Option Ratio)) (j : ℕ) → j ≤ low_of move → end_by 0 move ends ≡ end_by j move (drop j ends)
end_by-all move ends j h = end_by-below j 0 move ends (omega arith) ∙ ap (λ (k : ℕ). end_by k move (drop j ends)) {x = 0 + j} {y = j} (omega arith)
