-- A record's kind is that of its place.
use Rattle.std.proofs.lemmas.Bool.Decides.{nat_tests}
use Rattle.std.proofs.Common.{◌≡◌, ◌∙◌, refl, sym, ap, ℕ, true, false, arith}
use Rattle.std.proofs.Common.{cond, List, [], ◌∷◌, map}
use Rattle.std.specs.Prelude.{◌==◌, Option, None, Some}
use Rattle.std.specs.List.{AllByRecursion}
use Rattle.hum_score.specs.declared.records.SpinedKind.{SpinedKind}
use Rattle.hum_score.specs.declared.records.SpinedKind.TheVariants.{Local, Interpretation, Values}
use Rattle.hum_score.specs.declared.records.Kind.TheVariants.{Interpretation as AnyInterpretation}
use Rattle.hum_score.specs.Row.{Row, Comment, Spined, kind_of, tokens_of, text_of}
use Rattle.hum_score.specs.Spelling.{IsTextOf, IsToken}
use Rattle.hum_score.specs.Sign.{sign_of}
use Rattle.hum_score.specs.Rules.{fault_of}
use Rattle.hum_score.specs.Spines.{Path, Unopened, Spines, width, after}
use Rattle.hum_assemble.specs.declared.places.Place.{Place}
use Rattle.hum_assemble.specs.declared.places.Place.TheVariants.{Aside, Begins, Front, Opening}
use Rattle.hum_assemble.specs.declared.places.Place.TheVariants.{Remark, Local as LocalPlace}
use Rattle.hum_assemble.specs.declared.places.Place.TheVariants.{Tandem, Change, Note, Closing}
use Rattle.hum_assemble.specs.declared.places.Place.TheVariants.{Tail, Over}
use Rattle.hum_assemble.specs.Source.{place, is_inside, unit_place, inside_place}
use Rattle.hum_assemble.specs.Places.{rank, kind_at}
use Rattle.hum_assemble.specs.Head.{is_opened}
use Rattle.hum_assemble.specs.Sizes.{width_under}
use Rattle.hum_assemble.proofs.Bytes.{width_under_is}

-- the kind of a record; a global comment has none
abbrev pub spined_of : Row → Option SpinedKind
spined_of (Comment text) = None
spined_of (Spined kind tokens) = Some kind

unit_kind : (row : Row) → kind_at (unit_place row) ≡ spined_of row
unit_kind = grind (arith, nat_tests)

inside_kind : (names : List (List ℕ)) (row : Row) → fault_of (Spines names) row ≡ None
    → is_inside (Spines names) ≡ true → kind_at (inside_place row) ≡ spined_of row
inside_kind = grind (arith, nat_tests)

pub kind_fits : (path : Path) (row : Row) → fault_of path row ≡ None
    → kind_at (place path row) ≡ spined_of row
kind_fits Unopened (Comment text) h = refl
kind_fits Unopened (Spined Interpretation tokens) h = refl
kind_fits Unopened (Spined Local tokens) h = cc
kind_fits Unopened (Spined Values tokens) h = cc
kind_fits (Spines []) (Comment text) h = refl
kind_fits (Spines []) (Spined Interpretation tokens) h = cc
kind_fits (Spines []) (Spined Local tokens) h = cc
kind_fits (Spines []) (Spined Values tokens) h = cc
kind_fits (Spines (n ∷ ns)) row h =
    (elim (is_inside (Spines (n ∷ ns))) as (λ b.
    (b ≡ true → kind_at (inside_place row) ≡ spined_of row)
    → kind_at (cond b (inside_place row) (unit_place row)) ≡ spined_of row) [
      | true ↦ λ e. e refl
      | false ↦ λ e. unit_kind row
    ]) (inside_kind (n ∷ ns) row h)

kind_by : ℕ → Option SpinedKind
kind_by n =
    cond (n == 1) (Some Interpretation) (cond (n == 3) (Some Interpretation)
    (cond (n == 5) (Some Local) (cond (n == 6) (Some Interpretation)
    (cond (n == 7) (Some Interpretation) (cond (n == 8) (Some Values)
    (cond (n == 9) (Some Interpretation) None))))))

kind_rank : (p : Place) → kind_at p ≡ kind_by (rank p)
unfolding kind_by
kind_rank Aside = refl
kind_rank Begins = refl
kind_rank Front = refl
kind_rank Opening = refl
kind_rank Remark = refl
kind_rank LocalPlace = refl
kind_rank Tandem = refl
kind_rank Change = refl
kind_rank Note = refl
kind_rank Closing = refl
kind_rank Tail = refl
kind_rank Over = refl

pub same_kind : (p q : Place) → rank p ≡ rank q → kind_at p ≡ kind_at q
same_kind p q e = kind_rank p ∙ (ap kind_by e ∙ sym (kind_rank q))

-- the kind of a record at a place is the place's
pub kind_there : (path : Path) (row : Row) (p : Place) → rank p ≡ rank (place path row)
    → fault_of path row ≡ None → kind_at p ≡ spined_of row
kind_there path row p r h = same_kind p (place path row) r ∙ kind_fits path row h

pub tokens_lawful : (row : Row) (kind : SpinedKind) → Some kind ≡ spined_of row
    → IsTextOf row (text_of row) → AllByRecursion (IsToken kind) (tokens_of row)
tokens_lawful = grind (arith, nat_tests)

pub width_under_after : (path : Path) (row : Row) → is_opened path ≡ true
    → kind_of row ≡ AnyInterpretation
    → width_under false (map sign_of (tokens_of row)) ≡ width (after path row)
width_under_after Unopened row o k = cc
width_under_after (Spines names) (Comment text) o k = cc
width_under_after (Spines names) (Spined Local tokens) o k = cc
width_under_after (Spines names) (Spined Values tokens) o k = cc
width_under_after (Spines names) (Spined Interpretation tokens) o k = width_under_is names tokens
