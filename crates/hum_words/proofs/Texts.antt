-- Which fault bytes have.
use Rattle.std.proofs.Common.{◌≡◌, ℕ, ◌<◌, ◌≤◌, Bool, true, false, List, length, take, None, Some, refl, arith}
use Rattle.std.proofs.lemmas.Bool.Decides.{nat_tests}
use Rattle.std.proofs.lemmas.Str.{is_utf8-from_IsUtf8, IsUtf8-from_is_utf8}
use Rattle.std.specs.Prelude.{nat_lt, if◌then◌else◌}
use Rattle.std.specs.Str.{IsUtf8, is_utf8}
use Rattle.std.specs.Str.Lossy.{utf8_valid_len}
use Rattle.hum_words.specs.Text.{longest, line_behind, fault_of}
use Rattle.hum_words.specs.declared.text.PlanTextFault.{PlanTextFault}
use Rattle.hum_words.specs.declared.text.PlanTextFault.TheVariants.{TooLong, NotUtf8}

above : (n : ℕ) → longest < n → nat_lt longest n ≡ true
above n h = grind (arith, nat_tests)

within : (n : ℕ) → n ≤ longest → nat_lt longest n ≡ false
within n h = grind (arith, nat_tests)

pub too_long : (bytes : List ℕ) → longest < length bytes → fault_of bytes ≡ Some TooLong
unfolding fault_of
too_long bytes h = rw (above _ h) refl

pub a_text : (bytes : List ℕ) → length bytes ≤ longest → IsUtf8 bytes → fault_of bytes ≡ None
unfolding fault_of
a_text bytes h u = rw (within _ h, is_utf8-from_IsUtf8 bytes u) refl

pub no_utf8 : (bytes : List ℕ) (n line : ℕ) → length bytes ≤ longest → ¬ (IsUtf8 bytes)
    → n ≡ utf8_valid_len bytes
    → line ≡ line_behind (take n bytes) → fault_of bytes ≡ Some (NotUtf8 line)
unfolding fault_of
no_utf8 bytes n line h u e l = rw (within _ h, l, e) (go (is_utf8 bytes) refl)
  where
    here : PlanTextFault
    here = NotUtf8 (line_behind (take (utf8_valid_len bytes) bytes))

    go : (v : Bool) → is_utf8 bytes ≡ v → (if v then None else Some here) ≡ Some here
    go true t = absurd (u (IsUtf8-from_is_utf8 bytes t))
    go false t = refl
