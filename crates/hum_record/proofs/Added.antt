-- A token behind those of a body.
use Rattle.std.proofs.lemmas.Grind.{common_steps}
use Rattle.std.proofs.lemmas.Bool.Decides.{nat_tests}
use Rattle.std.proofs.Common.{◌≡◌, ◌∙◌, ℕ, ◌+◌, ◌-◌, ◌<◌, ◌≤◌, List, [], ◌∷◌, ◌++◌, length, take, drop, set, map, ap, ap₂, arith}
use Rattle.std.proofs.Common.{length-append}
use Rattle.std.proofs.lemmas.List.{take_more_set}
use Rattle.hum_record.specs.Building.{between, tab_between}
use Rattle.hum_record.specs.Fields.{Written, written, ends_from}
use Rattle.hum_score.specs.Spelling.{parts}
use Rattle.hum_record.proofs.Held.{front_written}
use Rattle.hum_record.proofs.Places.{take_count}
use Rattle.hum_record.proofs.Rows.{shifted}

-- What counts of two lists.
pub record Counts (len count : ℕ) (held places text ends : List ℕ) : Type 0 where
  pub text_is : take len held ≡ text
  pub ends_are : take count places ≡ ends
  pub short : len ≤ length held
  pub few : count ≤ length places

pub counts : (len count n m : ℕ) (held places : List ℕ) (w : Written) → written (take len held) (take count places) ≡ w
    → len ≤ n → count ≤ m → n ≡ length held → m ≡ length places → Counts len count held places w.text w.ends
counts = grind (arith, nat_tests)

pub more_bytes : (len count m : ℕ) (held places text ends new : List ℕ) → m ≡ length held → take m new ≡ held → m ≤ length new
    → Counts len count held places text ends → Counts len count new places text ends
more_bytes = grind (arith, common_steps)

pub more_places : (len count m : ℕ) (held places text ends new : List ℕ) → m ≡ length places → take m new ≡ places → m ≤ length new
    → Counts len count held places text ends → Counts len count held new text ends
more_places = grind (arith, common_steps)

module _ (len count end size : ℕ) (held places text ends new token : List ℕ) (c : Counts len count held places text ends)
    (there : length new ≡ size) (put : take end new ≡ take len held ++ (between count ++ token)) where
  pub added_text : take end (take size (new ++ drop (length new) held)) ≡ text ++ (tab_between ends ++ token)
  added_text = grind (arith, common_steps)

  pub added_ends : count < length places → end ≡ len + (length (between count) + length token)
      → take (count + 1) (set places count end) ≡ ends ++ length (take end (take size (new ++ drop (length new) held))) ∷ []
  added_ends = grind (arith, nat_tests, length-append, take_count, take_more_set, front_written)

-- All tokens of another body behind those of a body.
module _ (len count end : ℕ) (held places text ends token : List ℕ) (c : Counts len count held places text ends)
    (at : end ≡ len + (length (between count) + length token)) where
  pub begins_behind : end - length token ≡ length text + length (tab_between ends)
  begins_behind = grind (arith, common_steps)

  pub rows_ends : (size : ℕ) (new row : List ℕ) → length new ≡ size → row ≡ ends_from 0 (parts token)
      → take (count + length row) new ≡ take count places ++ map (λ e. (end - length token) + e) row
      → take (count + length row) (take size (new ++ drop (length new) places))
      ≡ ends ++ ends_from (length text + length (tab_between ends)) (parts token)
  rows_ends size new row there cut put =
      front_written (count + length row) size new places there ∙ put
      ∙ ap₂ (λ (a b : List ℕ). a ++ b) c.ends_are
      (ap (map (λ e. (end - length token) + e)) cut ∙ shifted (end - length token) 0 (parts token)
      ∙ ap (λ n. ends_from n (parts token)) (omega (arith, begins_behind)))
