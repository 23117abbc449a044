-- Which records a record is given of.
use Rattle.std.proofs.lemmas.Bool.Decides.{nat_tests}
use Rattle.std.proofs.lemmas.Bool.{eqb-true, leb-true, le-leb}
use Rattle.std.proofs.Common.{◌≡◌, ◌≢◌, ◌∙◌, refl, sym, ap, ℕ, zero, ◌+◌, inl, inr}
use Rattle.std.proofs.Common.{Bool, true, false, not, ◌&&◌, ◌||◌, cond, List, [], ◌∷◌, ◌++◌}
use Rattle.std.proofs.Common.{append-nil, arith, replicate}
use Rattle.std.specs.Prelude.{nat_le, ◌==◌, Option, None, Some}
use Rattle.std.specs.List.{list_any, AllByRecursion}
use Rattle.hum_score.specs.declared.records.SpinedKind.{SpinedKind}
use Rattle.hum_score.specs.Row.{Row, Comment, Spined, text_of, tokens_of}
use Rattle.hum_score.specs.Spelling.{IsTextOf, IsToken}
use Rattle.hum_score.specs.Spines.{Path, width}
use Rattle.hum_stage.specs.declared.faults.End as end
use Rattle.hum_assemble.specs.declared.places.Place.{Place}
use Rattle.hum_assemble.specs.declared.places.Place.TheVariants.{Over}
use Rattle.hum_assemble.specs.Source.{Source, place}
use Rattle.hum_assemble.specs.Head.{first_of, AreLawful, AllLawful}
use Rattle.hum_assemble.specs.Places.{rank, kind_at, null_at, is_shared, is_over}
use Rattle.hum_assemble.specs.Round.{place_at, takes, still_free}
use Rattle.hum_assemble.specs.Merge.{comment_given, text_of_first, tokens_of_first, tokens_given}
use Rattle.hum_assemble.specs.Merge.{part_given, nulls, made, row_of_kind, moved, all_moved}
use Rattle.hum_assemble.specs.Taking.{later, row_taken, parts_given, is_at, IsGiving}
use Rattle.hum_assemble.specs.Taking.{IsAlone}
use Rattle.hum_assemble.proofs.Fitting.{spined_of, kind_there, tokens_lawful}

comment_alone : (p : Place) → kind_at p ≡ None → is_shared p ≡ false
comment_alone = grind (arith, nat_tests)

-- Who takes has a record there.
pub empty_over : (going : Bool) (path : Path) (due : Bool) (ended : Option end.End)
    → place_at going (record { path = path; due = due; coming = []; ended = ended }) ≡ Over
empty_over = grind (arith, nat_tests)

pub same_rank : (n m : ℕ) → (n == m) ≡ true → n ≡ m
same_rank n m h = eqb-true n m h

asked_place : (going : Bool) (p : Place) (path : Path) (due : Bool) (row : Row) (rows : List Row)
    (ended : Option end.End) → is_over p ≡ false
    → is_at going p (record { path = path; due = due; coming = row ∷ rows; ended = ended }) ≡ true
    → rank p ≡ rank (place path row)
asked_place = grind (arith, nat_tests)

-- what a source has at a place: a lawful record of the place's kind
pub record HasThere (p : Place) (s : Source) : Type 0 where
  pub row : Row
  pub first : first_of s.coming ≡ Some row
  pub tokens : tokens_of_first s.coming ≡ tokens_of row
  pub text : text_of_first s.coming ≡ text_of row
  pub kind : kind_at p ≡ spined_of row
  pub lawful : IsTextOf row (text_of row)

there : (going : Bool) (p : Place) (path : Path) (due : Bool) (coming : List Row)
    (ended : Option end.End) → is_over p ≡ false → AreLawful path coming
    → is_at going p (record { path = path; due = due; coming = coming; ended = ended }) ≡ true
    → HasThere p (record { path = path; due = due; coming = coming; ended = ended })
there going p path due [] ended o l h = grind (arith, nat_tests)
there going p path due (row ∷ rows) ended o l h = record {
  row = row;
  first = refl;
  tokens = refl;
  text = refl;
  kind = kind_there path row p (asked_place going p path due row rows ended o h) l.0.sound;
  lawful = l.0.lawful;
}

pub has_there : (going : Bool) (p : Place) (s : Source) → is_over p ≡ false
    → AreLawful s.path s.coming → is_at going p s ≡ true → HasThere p s
has_there going p s o l h = there going p s.path s.due s.coming s.ended o l h

-- Nothing is taken where no source is free.
none_taken : (o : Option Row) (going : Bool) (p : Place) (ss : List Source)
    → row_taken o false going p ss ≡ o
none_taken o going p [] = refl
none_taken o going p (s ∷ ss) = none_taken o going p ss

-- What was taken stays, or gives way.
is_some_taken : (row : Row) (free going : Bool) (p : Place) (ss : List Source)
    → (last : Row) × (row_taken (Some row) free going p ss ≡ Some last)
is_some_taken row free going p [] = (row, refl)
is_some_taken row free going p (s ∷ ss) =
    elim (cond (takes free going p s) (first_of s.coming) None) as (λ o. (last : Row)
    × (row_taken (later (Some row) o) (still_free free going p s) going p ss ≡ Some last)) [
      | None ↦ is_some_taken row (still_free free going p s) going p ss
      | Some other ↦ is_some_taken other (still_free free going p s) going p ss
    ]

pub or_not_false : (a : Bool) → (a || true) ≡ true
or_not_false = grind (arith, nat_tests)

some_at : (going : Bool) (p : Place) (ss : List Source) → is_over p ≡ false → AllLawful ss
    → list_any (is_at going p) ss ≡ true
    → (last : Row) × (row_taken None true going p ss ≡ Some last)
some_at going p [] o l h = cc
some_at going p (s ∷ ss) o l h =
    (elim (is_at going p s) as (λ b. is_at going p s ≡ b → (b || list_any (is_at going p) ss) ≡ true
    → (last : Row) × (row_taken (later None (cond b (first_of s.coming) None))
    (is_shared p || not b) going p ss ≡ Some last)) [
      | true ↦ λ e w.
          let t = has_there going p s o l.0 e in
          rw t.first (is_some_taken t.row (is_shared p || false) going p ss)
      | false ↦ λ e w. rw (or_not_false (is_shared p)) (some_at going p ss o l.1 w)
    ]) refl h

-- A record is given where one stands.
pub taken_some : (going : Bool) (p : Place) (ss : List Source) → IsGiving going p ss → AllLawful ss
    → row_taken None true going p ss ≢ None
taken_some going p ss g l e = let t = some_at going p ss g.some l g.at in cc

-- A global comment that is given alone.
taken_comment : (going : Bool) (p : Place) (ss : List Source) (row : Row) → is_over p ≡ false
    → kind_at p ≡ None → AllLawful ss → is_shared p ≡ false
    → Some row ≡ row_taken None true going p ss → row ≡ Comment (comment_given going p ss)
taken_comment going p [] row o k l a h = cc
taken_comment going p (s ∷ ss) row o k l a h =
    grind (arith, nat_tests, taken_comment going p ss row o k l.1 a, has_there, none_taken)

-- The tokens of one source, without null tokens.
no_nulls : (p : Place) (w : ℕ) (token : List ℕ) → not (w == 0) ≡ false
    → replicate w token ≡ []
no_nulls = grind (arith, nat_tests)

part_zero : (b : Bool) (n : ℕ) → cond b 1 0 + n ≡ 0 → (b ≡ false) × (n ≡ 0)
part_zero = grind (arith, nat_tests)

-- where no source has a part, none takes and nothing is added
abbrev NoParts : Option Row → Bool → Bool → Place → List Source → Type 0
NoParts o free going p ss =
    (tokens_given free going p ss ≡ []) × (row_taken o free going p ss ≡ o)

no_parts : (o : Option Row) (free going : Bool) (p : Place) (ss : List Source)
    → parts_given free going p ss ≡ 0 → NoParts o free going p ss
no_parts o free going p [] h = (refl, refl)
no_parts o free going p (s ∷ ss) h =
    (elim (takes free going p s) as (λ b.
    cond (b || not (width s.path == 0)) 1 0 + parts_given (free && (is_shared p || not b)) going p ss ≡ 0
    → (part_given b p s ++ tokens_given (free && (is_shared p || not b)) going p ss ≡ [])
    × (row_taken (later o (cond b (first_of s.coming) None)) (free && (is_shared p || not b)) going p ss ≡ o)) [
      | true ↦ grind (arith, nat_tests, part_zero)
      | false ↦ λ e.
          let z = part_zero (not (width s.path == 0)) (parts_given (free && (is_shared p || true)) going p ss) e in
          let ih = no_parts o (free && (is_shared p || true)) going p ss z.1 in (
            ap (λ (xs : List (List ℕ)). xs ++ tokens_given (free && (is_shared p || true)) going p ss)
                (no_nulls p (width s.path) (null_at (kind_at p)) z.0) ∙ ih.0,
            ih.1,
          )
    ]) h

-- the one record, and its tokens
record Only (p : Place) (tokens : List (List ℕ)) (row : Row) : Type 0 where
  tokens_are : tokens ≡ tokens_of row
  kind : kind_at p ≡ spined_of row

le_one : (n : ℕ) → nat_le (1 + n) 1 ≡ true → n ≡ 0
le_one n h = let most = leb-true (1 + n) 1 h in omega (arith, most)

le_none : (n : ℕ) → nat_le (0 + n) 1 ≡ true → nat_le n 1 ≡ true
le_none n h = let most = leb-true (0 + n) 1 h in le-leb n 1 (omega (arith, most))

no_more : (xs ys : List (List ℕ)) → ys ≡ [] → xs ++ ys ≡ xs
no_more xs ys e = rw e (append-nil xs)

only_taken : (going : Bool) (p : Place) (ss : List Source) (row : Row) → is_over p ≡ false
    → AllLawful ss → nat_le (parts_given true going p ss) 1 ≡ true
    → Some row ≡ row_taken None true going p ss → Only p (tokens_given true going p ss) row
only_taken going p [] row o l few h = cc
only_taken going p (s ∷ ss) row o l few h =
    (elim (is_at going p s) as (λ b. is_at going p s ≡ b
    → nat_le (cond (b || not (width s.path == 0)) 1 0 + parts_given (is_shared p || not b) going p ss) 1 ≡ true
    → Some row ≡ row_taken (later None (cond b (first_of s.coming) None)) (is_shared p || not b) going p ss
    → Only p (part_given b p s ++ tokens_given (is_shared p || not b) going p ss) row) [
      | true ↦ grind (arith, nat_tests, has_there, no_parts, le_one, no_more, spined_of)
      | false ↦ λ e f w.
          (elim (width s.path == 0) as (λ z. width s.path == 0 ≡ z
          → nat_le (cond (not z) 1 0 + parts_given (is_shared p || true) going p ss) 1 ≡ true
          → Only p (nulls p s ++ tokens_given (is_shared p || true) going p ss) row) [
            | true ↦ λ zero few.
                let u = or_not_false (is_shared p) in
                let ih = only_taken going p ss row o l.1
                (ap (λ (b : Bool). nat_le (parts_given b going p ss) 1) (sym u) ∙ le_none _ few)
                (w ∙ ap (λ (b : Bool). row_taken None b going p ss) u) in
                rw (same_rank (width s.path) 0 zero, u) ih
            | false ↦ grind (arith, nat_tests, no_parts, le_one)
          ]) refl f
    ]) refl few h

spined_is : (row : Row) (kind : SpinedKind) → Some kind ≡ spined_of row
    → row ≡ Spined kind (tokens_of row)
spined_is = grind (arith, nat_tests)

-- the record of a place, by the kind there
made_by : (p : Place) (k : Option SpinedKind) (text : List ℕ) (tokens : List (List ℕ)) (row : Row)
    → kind_at p ≡ k → (k ≡ None → row ≡ Comment text)
    → ((kind : SpinedKind) → k ≡ Some kind → row ≡ Spined kind tokens)
    → row ≡ row_of_kind k text tokens
made_by = grind (arith, nat_tests)

-- A record that stands alone is the one that is given.
pub taken_made : (going : Bool) (p : Place) (ss : List Source) (row : Row) → IsGiving going p ss
    → AllLawful ss → IsAlone going p ss → Some row ≡ row_taken None true going p ss
    → row ≡ made going p ss
taken_made going p ss row g l (inl k) t = grind (arith, nat_tests, made_by, taken_comment, comment_alone)
taken_made going p ss row g l (inr few) t =
    let one = only_taken going p ss row g.some l few t in
    made_by p (kind_at p) (comment_given going p ss) (tokens_given true going p ss) row refl
    (λ k. taken_comment going p ss row g.some k l (comment_alone p k) t)
    (λ kind e. spined_is row kind (sym e ∙ one.kind) ∙ ap (Spined kind) (sym one.tokens_are))

-- A record of tokens has some.
append_left : (xs ys : List (List ℕ)) → xs ++ ys ≡ [] → xs ≡ []
append_left [] ys e = refl
append_left (x ∷ xs) ys e = cc

append_right : (xs ys : List (List ℕ)) → xs ++ ys ≡ [] → ys ≡ []
append_right [] ys e = e
append_right (x ∷ xs) ys e = cc

has_tokens : (row : Row) (kind : SpinedKind) → Some kind ≡ spined_of row
    → IsTextOf row (text_of row) → tokens_of row ≢ []
has_tokens = grind (arith, nat_tests)

filled_at : (going : Bool) (p : Place) (ss : List Source) (kind : SpinedKind) → is_over p ≡ false
    → kind_at p ≡ Some kind → AllLawful ss → list_any (is_at going p) ss ≡ true
    → tokens_given true going p ss ≡ [] → ⊥
filled_at going p [] kind o k l h e = cc
filled_at going p (s ∷ ss) kind o k l h e =
    (elim (is_at going p s) as (λ b. is_at going p s ≡ b → (b || list_any (is_at going p) ss) ≡ true
    → part_given b p s ++ tokens_given (is_shared p || not b) going p ss ≡ [] → ⊥) [
      | true ↦ grind (arith, nat_tests, has_there, has_tokens, append_left)
      | false ↦ λ at w z.
          let u = or_not_false (is_shared p) in
          filled_at going p ss kind o k l.1 w
          (ap (λ (b : Bool). tokens_given b going p ss) (sym u) ∙ append_right (nulls p s) _ z)
    ]) refl h e

pub filled : (going : Bool) (p : Place) (ss : List Source) (kind : SpinedKind)
    → kind_at p ≡ Some kind → IsGiving going p ss → AllLawful ss → tokens_given true going p ss ≢ []
filled going p ss kind k g l e = filled_at going p ss kind g.some k l g.at e

-- What waits stays lawful.
moved_lawful : (b going : Bool) (p : Place) (s : Source) → AreLawful s.path s.coming
    → AreLawful (moved b going p s).path (moved b going p s).coming
moved_lawful = grind (arith, nat_tests)

pub all_lawful : (free going : Bool) (p : Place) (ss : List Source) → AllLawful ss
    → AllLawful (all_moved free going p ss)
all_lawful free going p [] l = tt
all_lawful free going p (s ∷ ss) l =
    (moved_lawful (takes free going p s) going p s l.0, all_lawful (still_free free going p s) going p ss l.1)

-- What a source adds is lawful there.
some_kind : (p : Place) (kind : SpinedKind) → kind_at p ≡ Some kind → is_over p ≡ false
some_kind = grind (arith, nat_tests)

and_right : (a b : Bool) → (a && b) ≡ true → b ≡ true
and_right = grind (arith, nat_tests)

pub part_tokens : (free going : Bool) (p : Place) (s : Source) (row : Row) (kind : SpinedKind)
    → kind_at p ≡ Some kind → AreLawful s.path s.coming → s.coming ≡ row ∷ []
    → takes free going p s ≡ true → AllByRecursion (IsToken kind) (tokens_of row)
part_tokens = grind (arith, nat_tests, has_there, some_kind, and_right, tokens_lawful)

pub part_spined : (free going : Bool) (p : Place) (s : Source) (row : Row) (kind : SpinedKind)
    → kind_at p ≡ Some kind → AreLawful s.path s.coming → s.coming ≡ row ∷ []
    → takes free going p s ≡ true → row ≡ Spined kind (tokens_of row)
part_spined = grind (arith, nat_tests, has_there, some_kind, and_right, spined_is)
