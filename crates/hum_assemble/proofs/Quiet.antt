-- Records of several sources, by their places.
use Rattle.std.proofs.lemmas.Grind.{common_steps}
use Rattle.std.proofs.Common.{◌≡◌, ◌∙◌, refl, sym, ℕ, zero, suc, ◌+◌}
use Rattle.std.proofs.lemmas.Bool.{ne_eqb, eqb-false}
use Rattle.std.proofs.Common.{Bool, true, false, ◌||◌, List, [], ◌∷◌, ◌++◌, length}
use Rattle.std.proofs.Common.{arith, map, length-append, replicate}
use Rattle.std.specs.Prelude.{◌==◌, Option, None, Some}
use Rattle.std.specs.List.{list_any, list_all}
use Rattle.std.proofs.lemmas.Bool.Decides.{nat_tests}
use lib.Chars.{codes}
use Rattle.hum_score.specs.declared.records.SpinedKind.{SpinedKind}
use Rattle.hum_score.specs.declared.records.SpinedKind.TheVariants.{Interpretation}
use Rattle.hum_score.specs.Row.{Row, tokens_of}
use Rattle.hum_score.specs.Sign.{sign_of, all_plain}
use Rattle.hum_score.specs.Rules.{fault_of}
use Rattle.hum_score.specs.Spines.{Path, Unopened, exclusives, width, after}
use Rattle.hum_path.proofs.Plain.{sound_width, plain_stays}
use Rattle.hum_stage.specs.declared.faults.End as end
use Rattle.hum_assemble.specs.declared.places.Place.{Place}
use Rattle.hum_assemble.specs.declared.places.Place.TheVariants.{Tandem}
use Rattle.hum_assemble.specs.Source.{Source, place, is_end}
use Rattle.hum_assemble.specs.Head.{is_opened}
use Rattle.hum_assemble.specs.Places.{rank, kind_at, is_over}
use Rattle.hum_assemble.specs.Round.{takes, still_free}
use Rattle.hum_assemble.specs.Merge.{part_given, tokens_given}
use Rattle.hum_assemble.specs.Taking.{is_at}
use Rattle.hum_assemble.proofs.Fitting.{spined_of}
use Rattle.hum_assemble.proofs.Sides.{IsSound, taker, is_long, is_long_first}
use Rattle.hum_assemble.proofs.Sides.{inside_first}
use Rattle.hum_assemble.proofs.Rounds.{AllSound, AllSettled, IsQuiet}
use Rattle.hum_assemble.proofs.Rounds.{names_of, opened_taker, taken_by}

tandem_plain : (path : Path) (row : Row) → 6 ≡ rank (place path row)
    → all_plain (tokens_of row) ≡ true
tandem_plain = grind (arith, nat_tests)

pub closing_ends : (path : Path) (row : Row) → 9 ≡ rank (place path row)
    → list_all is_end (map sign_of (tokens_of row)) ≡ true
closing_ends = grind (arith, nat_tests)

pub opening_path : (path : Path) (row : Row) → 3 ≡ rank (place path row) → path ≡ Unopened
opening_path = grind (arith, nat_tests)

-- Quiet places.
pub comment_stays : (path : Path) (row : Row) → None ≡ spined_of row → after path row ≡ path
comment_stays = grind (arith, nat_tests)

text_stays : (path : Path) (row : Row) (kind : SpinedKind) → Some kind ≡ spined_of row
    → (kind ≡ Interpretation → ⊥) → after path row ≡ path
text_stays = grind (arith, nat_tests)

pub quiet_text : (p : Place) (kind : SpinedKind) → kind_at p ≡ Some kind
    → (kind ≡ Interpretation → ⊥) → IsQuiet p
quiet_text p kind k n = λ s t e. text_stays s.path t.row kind (sym k ∙ t.kind) n

plain_row : (path : Path) (row : Row) → is_opened path ≡ true → Some Interpretation ≡ spined_of row
    → fault_of path row ≡ None → all_plain (tokens_of row) ≡ true → after path row ≡ path
plain_row = grind (arith, nat_tests, plain_stays, sound_width)

pub quiet_tandem : IsQuiet Tandem
quiet_tandem = grind (arith, nat_tests, plain_row, opened_taker, tandem_plain)

-- Where a record of tokens stands there are spines.
row_filled : (path : Path) (row : Row) (kind : SpinedKind) → is_opened path ≡ true
    → Some kind ≡ spined_of row → fault_of path row ≡ None → (width path == 0) ≡ false
row_filled = grind (arith, nat_tests)

some_left : (w n m : ℕ) → (w == 0) ≡ false → m ≡ w + n → (m == 0) ≡ false
some_left w n m h e = ne_eqb m 0 (λ z. eqb-false w 0 h (omega (arith, e, z)))

some_right : (w n m : ℕ) → (n == 0) ≡ false → m ≡ w + n → (m == 0) ≡ false
some_right w n m h e = ne_eqb m 0 (λ z. eqb-false n 0 h (omega (arith, e, z)))

pub some_names : (going : Bool) (p : Place) (ss : List Source) (kind : SpinedKind)
    → is_over p ≡ false → kind_at p ≡ Some kind → AllSound ss → AllSettled ss
    → list_any (is_at going p) ss ≡ true → (length (names_of ss) == 0) ≡ false
some_names going p [] kind o k i e h = cc
some_names going p (s ∷ ss) kind o k i e h =
    let l = length-append (exclusives s.path) (names_of ss) in
    (elim (is_at going p s) as (λ b. is_at going p s ≡ b → (b || list_any (is_at going p) ss) ≡ true
    → (length (names_of (s ∷ ss)) == 0) ≡ false) [
      | true ↦ λ at w.
          let t = taker going p s o i.0 at in
          some_left (width s.path) (length (names_of ss)) _
          (row_filled s.path t.row kind (opened_taker p s e.0 t) (sym k ∙ t.kind) t.sound) l
      | false ↦ λ at w.
          some_right (width s.path) (length (names_of ss)) _ (some_names going p ss kind o k i.1 e.1 w) l
    ]) refl h

-- Tandem interpretations side by side.
plain_append : (xs ys : List (List ℕ)) → all_plain xs ≡ true → all_plain ys ≡ true
    → all_plain (xs ++ ys) ≡ true
plain_append = grind (arith, common_steps)

plain_stars : (n : ℕ) → all_plain (replicate n (codes "*")) ≡ true
plain_stars zero = refl
plain_stars (suc n) = plain_stars n

pub tandem_tokens : (free going : Bool) (ss : List Source) → AllSound ss
    → all_plain (tokens_given free going Tandem ss) ≡ true
tandem_tokens free going [] i = refl
tandem_tokens free going (s ∷ ss) i =
    plain_append (part_given (takes free going Tandem s) Tandem s)
    (tokens_given (still_free free going Tandem s) going Tandem ss) part
    (tandem_tokens (still_free free going Tandem s) going ss i.1)
  where
    part : all_plain (part_given (takes free going Tandem s) Tandem s) ≡ true
    part = grind (arith, nat_tests, taken_by, tandem_plain, plain_stars)

-- At an opening or a closing record a round begins.
no_long : (q : Place) (k : ℕ) → (k == 3 || k == 9) ≡ true → k ≡ rank q → is_long q ≡ false
no_long = grind (arith, nat_tests)

not_going_fields : (p : Place) (path : Path) (due : Bool) (coming : List Row)
    (ended : Option end.End)
    → is_over p ≡ false → (rank p == 3 || rank p == 9) ≡ true
    → IsSound (record { path = path; due = due; coming = coming; ended = ended })
    → is_at true p (record { path = path; due = due; coming = coming; ended = ended }) ≡ true → ⊥
not_going_fields = grind (arith, nat_tests, inside_first, is_long, is_long_first, no_long)

pub not_going : (going : Bool) (p : Place) (ss : List Source) → is_over p ≡ false
    → (rank p == 3 || rank p == 9) ≡ true → AllSound ss → list_any (is_at going p) ss ≡ true
    → going ≡ false
not_going true p (s ∷ ss) o k i h = grind (arith, nat_tests, not_going true p ss o k i.1, not_going_fields)
not_going going p ss h k w e = grind (arith, nat_tests)
