-- The branches of a plan by their names, in order.
use Rattle.std.specs.Prelude.{ℕ, Bool, true, List, [], ◌∷◌, Option, None, Some}
use Rattle.std.specs.Prelude.{if◌then◌else◌}
use Rattle.std.specs.Str.{bytes_eq}
use lib.Chars.{codes}
use Rattle.hum_plan.specs.declared.branches.Branch.{Branch}

-- names with their branches
abbrev pub Branches : Type 0
Branches = List (List ℕ × Branch)

-- the branch of a name
abbrev pub branch_of : List ℕ → Branches → Option Branch
branch_of name [] = None
branch_of name (entry ∷ more) =
    if bytes_eq name entry.0 then Some entry.1 else branch_of name more

-- the branches with this one under a name, in the place of the one that had it, or at the end
abbrev pub with_branch : Branches → List ℕ → Branch → Branches
with_branch [] name branch = (name, branch) ∷ []
with_branch (entry ∷ more) name branch =
    if bytes_eq name entry.0 then (entry.0, branch) ∷ more
    else entry ∷ with_branch more name branch

-- the line of the first branch that isn't taken
abbrev pub first_unused : Branches → Option ℕ
first_unused [] = None
first_unused (entry ∷ more) = if entry.1.taken then first_unused more else Some entry.1.line

-- the branch, taken
abbrev pub taken : Branch → Branch
taken branch = record branch { taken = true }

-- whether a branch is the one that ends a plan
abbrev pub is_out : List ℕ → Bool
is_out name = bytes_eq name (codes "out")
