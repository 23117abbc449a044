-- Steps that a merge does, one after another.
use Rattle.std.proofs.lemmas.Grind.{common_steps}
use Rattle.std.proofs.lemmas.Bool.Decides.{nat_tests}
use Rattle.std.proofs.Common.{◌≡◌, ◌∙◌, refl, Bool, true, arith}
use Rattle.std.proofs.Common.{false, cond, List, [], ◌∷◌}
use Rattle.std.proofs.Common.{map}
use Rattle.std.specs.Prelude.{Option, None, is_some}
use Rattle.std.specs.List.{list_any}
use Rattle.hum_score.specs.Row.{Row}
use Rattle.hum_assemble.specs.declared.places.Place.{Place}
use Rattle.hum_assemble.specs.Source.{Source}
use Rattle.hum_assemble.specs.Head.{first_of}
use Rattle.hum_assemble.specs.Places.{rank, is_over, is_shared}
use Rattle.hum_assemble.specs.Round.{any_due}
use Rattle.hum_assemble.specs.Merge.{all_moved, moved}
use Rattle.hum_assemble.specs.Taking.{is_at}
use Rattle.hum_assemble.specs.Groups.{Steps, steps, then_on, where_known, where_any, together}
use Rattle.hum_assemble.proofs.Written.{Meets, meets_step, parts_at, Sees, AllSee}

-- However it goes on behind, where these steps lead to such sources.
abbrev pub Does : Steps → List Source → (List Source → Type 0) → Type 0
Does st ss Post =
    (k : Steps) → ((b : List Source) → Post b → Meets b k.parts) → Meets ss (then_on st k).parts

pub does_weaken : (st : Steps) (ss : List Source) (P Q : List Source → Type 0) → Does st ss P
    → ((b : List Source) → P b → Q b) → Does st ss Q
does_weaken st ss P Q d w = λ k h. d k (λ b p. h b (w b p))

pub does_nothing : (ss : List Source) (P : List Source → Type 0) → P ss → Does (steps []) ss P
does_nothing ss P p = λ k h. h ss p

pub stop_parts : (ss : List Source) (P : List Source → Type 0) → Meets ss []
    → Does (record { parts = []; goes = false }) ss P
stop_parts ss P m = λ k h. m

then_assoc : (a b c : Steps) → (then_on (then_on a b) c).parts ≡ (then_on a (then_on b c)).parts
then_assoc = grind (arith, common_steps)

pub does_then : (s t : Steps) (ss : List Source) (P Q : List Source → Type 0) → Does s ss P
    → ((b : List Source) → P b → Does t b Q) → Does (then_on s t) ss Q
does_then s t ss P Q d e =
    λ k h. rw (then_assoc s t k) (d (then_on t k) (λ b p. e b p k h))

pub does_known : (known : Bool) (s : Steps) (ss : List Source) (P : List Source → Type 0)
    → (known ≡ false → Meets ss []) → (known ≡ true → Does s ss P) → Does (where_known known s) ss P
does_known = grind (arith, nat_tests)

pub does_any : (some : Bool) (s : Steps) (ss : List Source) (P : List Source → Type 0)
    → (some ≡ false → P ss) → (some ≡ true → Does s ss P) → Does (where_any some s) ss P
does_any = grind (arith, nat_tests)

pub does_more : (os : List (Option Row)) (ps : List (List (Option Row))) (goes : Bool)
    (a b : List Source) (P : List Source → Type 0)
    → ((qs : List (List (Option Row))) → Meets b qs → Meets a (os ∷ qs))
    → Does (record { parts = ps; goes = goes }) b P
    → Does (record { parts = os ∷ ps; goes = goes }) a P
does_more = grind (arith, nat_tests)

finish_parts : (ps : List (List (Option Row))) (goes : Bool)
    → (then_on (record { parts = ps; goes = goes }) (steps [])).parts ≡ ps
finish_parts = grind (arith, common_steps)

pub does_finish : (s : Steps) (ss : List Source) → Does s ss (λ b. Meets b []) → Meets ss s.parts
does_finish s ss d = rw (← finish_parts s.parts s.goes) (d (steps []) (λ b m. m))

-- Two lists in step.
abbrev pub Both : {A B : Type 0} → (A → B → Type 0) → List A → List B → Type 0
Both R [] [] = Unit {0}
Both R [] (y ∷ ys) = ⊥
Both R (x ∷ xs) [] = ⊥
Both R (x ∷ xs) (y ∷ ys) = R x y × Both R xs ys

-- One record of all sources that are at a place.
abbrev pub moved_at : Bool → Place → Source → Source
moved_at going p s = moved (is_at going p s) going p s

abbrev pub part_at : Bool → Place → Source → Option Row
part_at going p s = cond (is_at going p s) (first_of s.coming) None

pub record Shares {V : Type 0} (going : Bool) (p : Place) (f : V → Option Row)
    (Q : Source → V → Type 0) (s : Source) (v : V) : Type 0 where
  pub sees : Sees going (rank p) s
  pub part : part_at going p s ≡ f v
  pub at : is_at going p s ≡ is_some (f v)
  pub on : Q (moved_at going p s) v
  pub stays : is_at going p s ≡ false → Q s v

shared_moved : (going : Bool) (p : Place) (ss : List Source) → is_shared p ≡ true
    → all_moved true going p ss ≡ map (moved_at going p) ss
shared_moved going p [] h = refl
shared_moved going p (s ∷ ss) h = grind (arith, nat_tests, shared_moved going p ss h)

shared_parts : (going : Bool) (p : Place) (ss : List Source) → is_shared p ≡ true
    → parts_at true going p ss ≡ map (part_at going p) ss
shared_parts going p [] h = refl
shared_parts going p (s ∷ ss) h = grind (arith, nat_tests, shared_parts going p ss h)

module _ {V : Type 0} (going : Bool) (p : Place) (f : V → Option Row) (Q : Source → V → Type 0) where
  abbrev pub Share : List Source → List V → Type 0
  Share = Both (Shares going p f Q)

  share_see : (ss : List Source) (vs : List V) → Share ss vs → AllSee going (rank p) ss
  share_see (s ∷ ss) (v ∷ vs) h = (h.0.sees, share_see ss vs h.1)
  share_see ss vs h = grind (arith, nat_tests)

  share_parts : (ss : List Source) (vs : List V) → Share ss vs → map (part_at going p) ss ≡ map f vs
  share_parts (s ∷ ss) (v ∷ vs) h = rw (h.0.part, share_parts ss vs h.1) refl
  share_parts ss vs h = grind (arith, nat_tests)

  share_any : (ss : List Source) (vs : List V) → Share ss vs
      → list_any (is_at going p) ss ≡ list_any is_some (map f vs)
  share_any (s ∷ ss) (v ∷ vs) h = rw (h.0.at, share_any ss vs h.1) refl
  share_any ss vs h = grind (arith, nat_tests)

  share_on : (ss : List Source) (vs : List V) → Share ss vs → Both Q (map (moved_at going p) ss) vs
  share_on (s ∷ ss) (v ∷ vs) h = (h.0.on, share_on ss vs h.1)
  share_on ss vs h = grind (arith, nat_tests)

  share_stays : (ss : List Source) (vs : List V) → Share ss vs
      → list_any is_some (map f vs) ≡ false → Both Q ss vs
  share_stays (s ∷ ss) (v ∷ vs) h n = grind (arith, nat_tests, share_stays ss vs h.1)
  share_stays ss vs h k = grind (arith, nat_tests)

  pub does_together : (ss : List Source) (vs : List V) → is_shared p ≡ true → is_over p ≡ false
      → (list_any (is_at going p) ss ≡ true → any_due ss ≡ going) → Share ss vs
      → Does (together (map f vs)) ss (λ b. Both Q b vs)
  does_together ss vs sh o e h =
      does_any (list_any is_some (map f vs)) (steps (map f vs ∷ [])) ss (λ b. Both Q b vs)
      (λ n. share_stays ss vs h n)
      (λ y.
      does_more (map f vs) [] true ss (map (moved_at going p) ss) (λ b. Both Q b vs)
      (λ qs m.
      rw (← share_parts ss vs h, ← shared_parts going p ss sh)
      (meets_step going p ss qs (e (share_any ss vs h ∙ y)) o (share_see ss vs h) (share_any ss vs h ∙ y)
      (rw (shared_moved going p ss sh) m)))
      (does_nothing _ (λ b. Both Q b vs) (share_on ss vs h)))
