-- Records that change spines: one source alone, the opening record, the closing one.
use Rattle.std.proofs.lemmas.Grind.{common_steps}
use Rattle.std.proofs.lemmas.Bool.Decides.{nat_tests}
use Rattle.std.proofs.Common.{◌≡◌, ◌∙◌, refl, sym, ap, ℕ, zero, suc, ◌+◌, ◌≤◌, ◌⊎◌, inl, inr}
use Rattle.std.proofs.Common.{Bool, true, false, List, [], ◌∷◌, ◌++◌, length}
use Rattle.std.proofs.Common.{arith, length-append, replicate}
use Rattle.std.specs.Prelude.{Option, None, Some}
use Rattle.std.specs.List.{list_any}
use lib.Chars.{codes}
use Rattle.hum_score.specs.declared.records.SpinedKind.{SpinedKind}
use Rattle.hum_score.specs.declared.records.SpinedKind.TheVariants.{Local, Interpretation, Values}
use Rattle.hum_score.specs.Row.{Row, Comment, Spined, tokens_of}
use Rattle.hum_score.specs.Rules.{fault_of}
use Rattle.hum_score.specs.Spines.{Path, Unopened, Spines, exclusives, width, after}
use Rattle.hum_assemble.specs.declared.places.Place.{Place}
use Rattle.hum_assemble.specs.Source.{Source, is_inside}
use Rattle.hum_assemble.specs.Head.{is_opened}
use Rattle.hum_assemble.specs.Places.{rank, kind_at, null_at, is_shared, is_over}
use Rattle.hum_assemble.specs.Merge.{all_moved, tokens_given}
use Rattle.hum_assemble.specs.Merge.{tokens_of_first}
use Rattle.hum_assemble.specs.Taking.{is_at}
use Rattle.hum_assemble.proofs.Fitting.{spined_of}
use Rattle.hum_assemble.proofs.Sides.{IsSound, taker, taken_path}
use Rattle.hum_assemble.proofs.Sides.{early_inside}
use Rattle.hum_assemble.proofs.Rounds.{AllSound, NoneInside, AllSettled}
use Rattle.hum_assemble.proofs.Rounds.{names_of, opened_taker}
use Rattle.hum_score.specs.Spelling.{is_empty}
use Rattle.hum_assemble.proofs.Beside.{Leads, own_leads, left_of, right_of, stars}

-- The spines of each source.
abbrev pub paths_of : List Source → List Path
paths_of [] = []
paths_of (s ∷ ss) = s.path ∷ paths_of ss

abbrev pub NoneIn : List Path → Type 0
NoneIn [] = Unit {0}
NoneIn (path ∷ paths) = (is_inside path ≡ false) × NoneIn paths

-- at most one source is inside a unit
abbrev pub OneIn : List Path → Type 0
OneIn [] = Unit {0}
OneIn (path ∷ paths) = ((is_inside path ≡ false) × OneIn paths) ⊎ NoneIn paths

pub none_one : (paths : List Path) → NoneIn paths → OneIn paths
none_one [] n = tt
none_one (path ∷ paths) n = inr n.1

pub none_in : (ss : List Source) → NoneInside ss → NoneIn (paths_of ss)
none_in [] n = tt
none_in (s ∷ ss) n = (n.0, none_in ss n.1)

-- Nobody else is inside a unit.
abbrev pub OthersOut : Bool → Place → List Source → Type 0
OthersOut going p [] = Unit {0}
OthersOut going p (s ∷ ss) =
    ((is_at going p s ≡ true) × NoneIn (paths_of ss))
    ⊎ ((is_at going p s ≡ false) × (is_inside s.path ≡ false) × OthersOut going p ss)

pub others_out : (going : Bool) (p : Place) (ss : List Source) → NoneIn (paths_of ss)
    → OthersOut going p ss
others_out going p [] n = tt
others_out going p (s ∷ ss) n = grind (arith, nat_tests, others_out going p ss n.1)

-- a source that begins its added spines is inside
begins_inside : (going : Bool) (p : Place) (s : Source) → is_over p ≡ false → rank p ≤ 1 → IsSound s
    → is_at going p s ≡ true → is_inside s.path ≡ true
begins_inside = grind (arith, nat_tests, taker, early_inside)

none_begins : (going : Bool) (p : Place) (ss : List Source) → is_over p ≡ false → rank p ≤ 1
    → AllSound ss → NoneIn (paths_of ss) → list_any (is_at going p) ss ≡ true → ⊥
none_begins going p [] o r i n h = let e = h in cc
none_begins going p (s ∷ ss) o r i n h =
    grind (arith, nat_tests, none_begins going p ss o r i.1 n.1, begins_inside)

pub begins_out : (going : Bool) (p : Place) (ss : List Source) → is_over p ≡ false → rank p ≤ 1
    → AllSound ss → OneIn (paths_of ss) → list_any (is_at going p) ss ≡ true → OthersOut going p ss
begins_out going p [] o r i n h = tt
begins_out going p (s ∷ ss) o r i n h =
    grind (arith, nat_tests, begins_out going p ss o r i.1, begins_inside, none_begins)

-- One source alone.
row_leads : (path : Path) (row : Row) → is_opened path ≡ true → Some Interpretation ≡ spined_of row
    → fault_of path row ≡ None
    → Leads (exclusives path) (tokens_of row) (exclusives (after path row))
row_leads Unopened row o k h = cc
row_leads (Spines names) (Comment text) o k h = cc
row_leads (Spines names) (Spined Local tokens) o k h = cc
row_leads (Spines names) (Spined Values tokens) o k h = cc
row_leads (Spines names) (Spined Interpretation tokens) o k h = own_leads names tokens h

stars_append : (w n : ℕ) → stars w ++ stars n ≡ stars (w + n)
stars_append zero n = ap stars (omega arith)
stars_append (suc w) n =
    let next : suc w + n ≡ suc (w + n) = omega arith in
    rw next (ap (λ (xs : List (List ℕ)). codes "*" ∷ xs) (stars_append w n))

null_stars : (p : Place) (w : ℕ) → kind_at p ≡ Some Interpretation
    → replicate w (null_at (kind_at p)) ≡ stars w
null_stars p w k = ap (λ (o : Option SpinedKind). replicate w (null_at o)) k

none_given : (going : Bool) (p : Place) (ss : List Source) → kind_at p ≡ Some Interpretation
    → tokens_given false going p ss ≡ stars (length (names_of ss))
none_given going p [] k = refl
none_given going p (s ∷ ss) k =
    let l = length-append (exclusives s.path) (names_of ss) in
    ap (λ (xs : List (List ℕ)). xs ++ tokens_given false going p ss) (null_stars p (width s.path) k)
    ∙ (ap (λ (xs : List (List ℕ)). stars (width s.path) ++ xs) (none_given going p ss k)
    ∙ (stars_append (width s.path) (length (names_of ss)) ∙ ap stars (sym l)))

none_moved : (going : Bool) (p : Place) (ss : List Source)
    → paths_of (all_moved false going p ss) ≡ paths_of ss
none_moved going p [] = refl
none_moved going p (s ∷ ss) = ap (λ (xs : List Path). s.path ∷ xs) (none_moved going p ss)

abbrev pub names_in : List Path → List (List ℕ)
names_in [] = []
names_in (path ∷ paths) = exclusives path ++ names_in paths

pub names_are : (ss : List Source) → names_of ss ≡ names_in (paths_of ss)
names_are [] = refl
names_are (s ∷ ss) = ap (λ (xs : List (List ℕ)). exclusives s.path ++ xs) (names_are ss)

none_names : (going : Bool) (p : Place) (ss : List Source)
    → names_of (all_moved false going p ss) ≡ names_of ss
none_names = grind (arith, nat_tests, names_are, none_moved)

any_named : (xs ys : List (List ℕ)) → list_any is_empty xs ≡ false → list_any is_empty ys ≡ false
    → list_any is_empty (xs ++ ys) ≡ false
any_named = grind (arith, common_steps)

pub named_in : (paths : List Path) → NoneIn paths → list_any is_empty (names_in paths) ≡ false
named_in [] n = refl
named_in (path ∷ paths) n = any_named (exclusives path) (names_in paths) n.0 (named_in paths n.1)

pub named_of : (ss : List Source) → NoneIn (paths_of ss) → list_any is_empty (names_of ss) ≡ false
named_of ss n = ap (list_any is_empty) (names_are ss) ∙ named_in (paths_of ss) n

pub alone_leads : (going : Bool) (p : Place) (ss : List Source) → is_over p ≡ false
    → kind_at p ≡ Some Interpretation → is_shared p ≡ false → AllSound ss → AllSettled ss
    → OthersOut going p ss → list_any (is_at going p) ss ≡ true
    → Leads (names_of ss) (tokens_given true going p ss) (names_of (all_moved true going p ss))
alone_leads going p [] o k sh i e out h = absurd (let v = h in cc)
alone_leads going p (s ∷ ss) o k sh i e (inl at) h =
    let t = taker going p s o i.0 at.0 in
    let own = row_leads s.path t.row (opened_taker p s e.0 t) (sym k ∙ t.kind) t.sound in
    rw (
      at.0,
      sh,
      none_given going p ss k,
      none_names going p ss,
      taken_path going p s t,
      ap tokens_of_first t.is,
    )
    (right_of (names_of ss) (exclusives s.path) (tokens_of t.row) (exclusives (after s.path t.row))
    (named_of ss at.1) own)
alone_leads going p (s ∷ ss) o k sh i e (inr off) h =
    let ih = alone_leads going p ss o k sh i.1 e.1 off.2 (rw off.0 at h) in
    rw (off.0, sh, null_stars p (width s.path) k)
    (left_of (exclusives s.path) (names_of ss) (tokens_given true going p ss)
    (names_of (all_moved true going p ss)) off.1 ih)

pub alone_one : (going : Bool) (p : Place) (ss : List Source) → is_shared p ≡ false
    → OthersOut going p ss → OneIn (paths_of (all_moved true going p ss))
alone_one going p [] sh out = tt
alone_one going p (s ∷ ss) sh (inl at) = rw (at.0, sh) (inr (rw (none_moved going p ss) at.1))
alone_one going p (s ∷ ss) sh (inr off) = rw (off.0, sh) (inl (off.1, alone_one going p ss sh off.2))
