-- Fronts of lists, and flows that go on.
use Rattle.std.proofs.lemmas.Grind.{common_steps}
use Rattle.std.proofs.lemmas.Bool.Decides.{nat_tests}
use Rattle.std.proofs.Common.{◌≡◌, ℕ, suc, ◌≤◌, Bool, true, false, List, [], ◌∷◌, ◌++◌, map}
use Rattle.std.proofs.Common.{length, slice_get, slice_index, Option, Some, None, is_some, is_none}
use Rattle.std.proofs.Common.{refl, sym, ap, ◌∙◌, subst, arith, append_assoc, append-nil}
use Rattle.std.proofs.lemmas.Option.{none-some, same_Some}
use Rattle.std.specs.List.{AllByRecursion}
use Rattle.hum_turns.specs.Flow.{Flow, Begins, IsOver, Later, AllLater, AllOver, AllFine}

-- Fronts.

pub begins_refl : {R : Type 0} (a : List R) → Begins a a
begins_refl a = ([], append-nil a)

pub begins_trans : {R : Type 0} (a b c : List R) → Begins a b → Begins b c → Begins a c
begins_trans a b c h k = (h.0 ++ k.0, sym (append_assoc a h.0 k.0) ∙ ap (λ l. l ++ k.0) h.1 ∙ k.1)

pub begins_append : {R : Type 0} (a b : List R) → Begins a (a ++ b)
begins_append a b = (b, refl)

next_at : {R : Type 0} (g rest : List R) (x : R) → slice_get (g ++ rest) (length g) ≡ Some x
    → Begins (g ++ x ∷ []) (g ++ rest)
next_at [] [] x h = absurd (none-some x h)
next_at [] (y ∷ rest) x h = (rest, ap (λ z. z ∷ rest) (sym (same_Some y x h)))
next_at (y ∷ g) rest x h = let k = next_at g rest x h in (k.0, ap (λ l. y ∷ l) k.1)

-- one element more
pub begins_next : {R : Type 0} (g s : List R) (x : R) → Begins g s
    → slice_get s (length g) ≡ Some x → Begins (g ++ x ∷ []) s
begins_next = grind (arith, nat_tests, next_at, slice_get)

pub begins_shorter : {R : Type 0} (a b : List R) → Begins a b → length a ≤ length b
begins_shorter = grind (arith, common_steps)

pub begins_after : {R : Type 0} (a b c : List R) → Begins b c → Begins (a ++ b) (a ++ c)
begins_after a b c h = (h.0, append_assoc a b h.0 ∙ ap (λ l. a ++ l) h.1)

pub begins_nil : {R : Type 0} (p c : List R) → p ≡ [] → Begins p c
begins_nil p c e = subst (λ x. Begins x c) (sym e) (c, refl)

-- Flows.

pub later_refl : {R : Type 0} (a : Flow R) → Later a a
later_refl a = record { items = begins_refl a.items; over = λ e h. refl }

pub all_same : {R : Type 0} (a : List (Flow R)) → AllLater a a
all_same [] = tt
all_same (x ∷ a) = (later_refl x, all_same a)

-- what is over doesn't go on
pub same_over : {R : Type 0} (a b : List (Flow R)) → AllLater a b → AllOver a → b ≡ a
same_over (x ∷ a) (y ∷ b) h o = grind (arith, nat_tests, same_over a b h.1 o.1)
same_over a b h k = grind (arith, nat_tests)

-- Flows of the sources of a stage: what holds of each source's holds of all of them.

pub map_same : {A : Type 0} (f g : ℕ → A) (P : ℕ → Type 0) → ((s : ℕ) → P s → f s ≡ g s)
    → (ss : List ℕ) → AllByRecursion P ss → map f ss ≡ map g ss
map_same f g P h [] p = refl
map_same f g P h (s ∷ ss) p = grind (arith, nat_tests, map_same f g P h ss p.1)

module _ {R : Type 0} (f : ℕ → Flow R) (P : ℕ → Type 0) where
  pub later_map : (g : ℕ → Flow R) → ((s : ℕ) → P s → Later (f s) (g s))
      → (ss : List ℕ) → AllByRecursion P ss → AllLater (map f ss) (map g ss)
  later_map g h [] p = tt
  later_map g h (s ∷ ss) p = (h s p.0, later_map g h ss p.1)

  pub fine_map : (fine : Flow R → Bool) → ((s : ℕ) → P s → fine (f s) ≡ true)
      → (ss : List ℕ) → AllByRecursion P ss → AllFine fine (map f ss)
  fine_map fine h [] p = tt
  fine_map fine h (s ∷ ss) p = (h s p.0, fine_map fine h ss p.1)

  pub over_map : ((s : ℕ) → P s → IsOver (f s))
      → (ss : List ℕ) → AllByRecursion P ss → AllOver (map f ss)
  over_map h [] p = tt
  over_map h (s ∷ ss) p = (h s p.0, over_map h ss p.1)

  -- a source that is found at a place
  pub source_at : (ss : List ℕ) (j : ℕ) (x : Flow R) → AllByRecursion P ss
      → slice_get (map f ss) j ≡ Some x → P (slice_index ss j) × (f (slice_index ss j) ≡ x)
  source_at (s ∷ ss) (suc j) x p h = source_at ss j x p.1 h
  source_at ss j x h k = grind (arith, nat_tests)

pub later_each : {R : Type 0} (f g : ℕ → Flow R) → ((s : ℕ) → Later (f s) (g s))
    → (ss : List ℕ) → AllLater (map f ss) (map g ss)
later_each f g h [] = tt
later_each f g h (s ∷ ss) = (h s, later_each f g h ss)

-- Options.

pub has_none : {A : Type 0} (o : Option A) (e : A) → is_none o ≡ true → o ≡ Some e → ⊥
has_none = grind (arith, nat_tests)

pub is_unset : {A : Type 0} (o : Option A) → is_some o ≡ false → o ≡ None
is_unset = grind (arith, nat_tests)

pub is_set : {A : Type 0} (o : Option A) → is_some o ≡ true → (e : A) × (o ≡ Some e)
is_set = grind (arith, nat_tests)
