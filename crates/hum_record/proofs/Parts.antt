-- The first part of a text, up to its first tab.
use Rattle.std.proofs.Common.{◌≡◌, ℕ, Bool, true, false, List, Option, None, Some}
use Rattle.std.proofs.Common.{sym, arith}
use Rattle.std.proofs.lemmas.List.{get_or_default}
use Rattle.memchr.specs.Find.{IsFirstByte, is_byte}
use Rattle.std.specs.Prelude.{is_some}
use Rattle.std.proofs.lemmas.List.Folds.{list_any_none, list_any_at}
use Rattle.std.proofs.lemmas.Bool.Decides.{nat_tests}
use Rattle.hum_score.specs.Spelling.{parts, has_byte, kind_of_token, kind_of_first}

not_true : (b : Bool) → (b ≡ true → ⊥) → b ≡ false
not_true = grind (arith, nat_tests)

-- the first byte shows the kind of the first part
pub kind_of_parts : (text : List ℕ) → kind_of_token text ≡ kind_of_first (parts text)
kind_of_parts = grind (arith, nat_tests)

-- a search finds a byte where there is one
pub search_finds : (b : ℕ) (text : List ℕ) (r : Option ℕ) → IsFirstByte (is_byte b) text r → is_some r ≡ has_byte b text
search_finds b text None h = sym (list_any_none (is_byte b) text
    (λ j d lt. not_true _ (λ yes. h j (omega arith) lt (rw (get_or_default text j d 0 lt) at yes))))
search_finds b text (Some k) h = sym (list_any_at (is_byte b) text k 0 h.0.high h.1)
