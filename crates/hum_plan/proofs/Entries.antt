-- The entries of a map, seen as branches by name.
use Rattle.std.proofs.lemmas.Bool.Decides.{nat_tests}
use Rattle.std.proofs.Common.{◌≡◌, ℕ, List, [], ◌∷◌, refl, map, not, arith}
use denote.Bor.{Bor}
use Rattle.std.specs.Str.{bytes_eq}
use Rattle.std.specs.Map.{lookup, values_of}
use Rattle.std.specs.Prelude.{option_map, find}
use Rattle.indexmap.specs.IndexMap.{insert_entry}
use Rattle.hum_score.proofs.Cases.{by_bool}
use Rattle.hum_plan.specs.declared.branches.Branch.{Branch}
use Rattle.hum_plan.specs.Branches.{branch_of, with_branch, first_unused}

abbrev pub seen_entry : Bor (List ℕ) × Branch → List ℕ × Branch
seen_entry e = (e.0.now, e.1)

pub lookup_seen : (name : List ℕ) (es : List (Bor (List ℕ) × Branch))
    → lookup (λ k. bytes_eq name k.now) es ≡ branch_of name (map seen_entry es)
lookup_seen name [] = refl
lookup_seen name (e ∷ es) = rw (lookup_seen name es) refl

pub insert_seen : (es : List (Bor (List ℕ) × Branch)) (name : Bor (List ℕ)) (branch : Branch)
    → map seen_entry (insert_entry (λ x y. bytes_eq x.now y.now) es name branch)
    ≡ with_branch (map seen_entry es) name.now branch
insert_seen [] name branch = refl
insert_seen (e ∷ es) name branch = grind (arith, nat_tests, insert_seen es name branch)

pub unused_seen : (es : List (Bor (List ℕ) × Branch))
    → option_map (λ b. b.line) (find (λ b. not b.taken) (values_of es)) ≡ first_unused (map seen_entry es)
unused_seen [] = refl
unused_seen (e ∷ es) = by_bool e.1.taken (λ t. rw t (unused_seen es)) (λ t. rw t refl)
