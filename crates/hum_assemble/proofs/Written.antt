-- What a merge gives, as parts that are written.
use Rattle.std.proofs.lemmas.Bool.Decides.{nat_tests}
use Rattle.std.proofs.Common.{◌≡◌, ◌∙◌, refl, sym, ap, ℕ, ◌+◌, ◌≤◌, Bool, true}
use Rattle.std.proofs.Common.{false, not, ◌&&◌, ◌||◌, cond, List, [], ◌∷◌, length, arith}
use Rattle.std.specs.Prelude.{Option, None, Some, is_none, ◌==◌}
use Rattle.std.specs.List.{list_any, AllByRecursion, position_from}
use Rattle.hum_score.specs.declared.records.SpinedKind.{SpinedKind}
use Rattle.hum_score.specs.Row.{Row, Comment, Spined, text_of}
use Rattle.hum_score.specs.Spines.{Path, width}
use Rattle.hum_score.specs.InOrder.{Follow}
use Rattle.hum_stage.specs.declared.faults.Rule.{Rule}
use Rattle.hum_assemble.specs.declared.places.Place.{Place}
use Rattle.hum_assemble.specs.declared.places.Next as next
use Rattle.hum_assemble.specs.declared.places.Next.TheVariants.{Gives, Refused, Wants}
use Rattle.hum_assemble.specs.declared.places.Next.TheVariants.{Over as NothingMore}
use Rattle.hum_assemble.specs.Source.{Source}
use Rattle.hum_assemble.specs.Head.{first_of}
use Rattle.hum_assemble.specs.Places.{rank, kind_at, is_over, is_shared}
use Rattle.hum_assemble.specs.Round.{any_due, is_missing, place_at, takes, still_free}
use Rattle.hum_assemble.specs.Round.{earliest, AllKnown}
use Rattle.hum_assemble.specs.Merge.{Merge, all_moved, moved, made, spines, ahead}
use Rattle.hum_assemble.specs.Merge.{ahead_at, ahead_of, unless_broken, unless_missing, given_row}
use Rattle.hum_assemble.specs.Merge.{given_on, comment_given, tokens_given}
use Rattle.hum_assemble.specs.Merge.{row_of_kind}
use Rattle.hum_assemble.specs.Meaning.{all_given, rest, refusal}
use Rattle.hum_assemble.specs.Taking.{is_at}
use Rattle.hum_assemble.specs.Groups.{written, stops_at, rule_at, row_of, paths_on, path_on, widths}
use Rattle.hum_assemble.specs.Groups.{side_by_side}
use Rattle.hum_assemble.proofs.Moving.{known_not_lost}
use Rattle.hum_assemble.proofs.Growing.{missing_none}
use Rattle.hum_assemble.proofs.Steps.{all_going, all_resting, is_giving}
use Rattle.hum_assemble.proofs.Sides.{Takes, takes_fields}
use Rattle.hum_assemble.proofs.Alone.{paths_of}
use Rattle.hum_assemble.proofs.Fitting.{spined_of}
use Rattle.hum_assemble.proofs.Taking.{or_not_false}
use Rattle.hum_assemble.specs.declared.places.Place.TheVariants.{Aside, Begins, Front, Opening}
use Rattle.hum_assemble.specs.declared.places.Place.TheVariants.{Remark, Local as LocalPlace}
use Rattle.hum_assemble.specs.declared.places.Place.TheVariants.{Tandem, Change, Note, Closing}
use Rattle.hum_assemble.specs.declared.places.Place.TheVariants.{Tail, Over}
use Rattle.hum_assemble.specs.Places.{earlier}
use Rattle.hum_assemble.specs.Merge.{text_of_first}
use Rattle.hum_assemble.specs.Groups.{row_like}

abbrev pub merge_of : List Source → ℕ → Merge
merge_of ss given = record { sources = ss; given = given }

-- the number and the rule of the record that isn't given
abbrev pub refused : Merge → Option (ℕ × Rule)
refused m = refusal ((rest m).given + 1) (ahead (rest m))

-- However many records were given before, these parts are what is given from here on.
pub record Meets (ss : List Source) (ps : List (List (Option Row))) : Type 0 where
  pub rows : (given : ℕ) → all_given (merge_of ss given) ≡ written given (paths_of ss) ps
  pub stop : (given : ℕ) → refused (merge_of ss given) ≡ stops_at given (paths_of ss) ps

-- Where nothing can be given, nothing is.
abbrev pub is_still : next.Next → Bool
is_still (Gives p) = false
is_still (Refused rule) = false
is_still (Wants j) = true
is_still NothingMore = true

still_rests : (a : next.Next) → is_still a ≡ true → is_giving a ≡ false
still_rests = grind (arith, nat_tests)

still_refusal : (n : ℕ) (a : next.Next) → is_still a ≡ true → refusal n a ≡ None
still_refusal = grind (arith, nat_tests)

pub still_meets : (ss : List Source) → ((given : ℕ) → is_still (ahead (merge_of ss given)) ≡ true)
    → Meets ss []
still_meets ss h = record {
  rows = λ given. (all_resting (merge_of ss given) (still_rests _ (h given))).0;
  stop = λ given.
      let r = (all_resting (merge_of ss given) (still_rests _ (h given))).1 in
      ap (λ (m : Merge). refusal (m.given + 1) (ahead m)) r ∙ still_refusal _ _ (h given);
}

-- What a source has in the record at a place.
abbrev pub parts_at : Bool → Bool → Place → List Source → List (Option Row)
parts_at free going p [] = []
parts_at free going p (s ∷ ss) =
    cond (takes free going p s) (first_of s.coming) None
    ∷ parts_at (still_free free going p s) going p ss

-- What is known of a source that is asked: what it shows, not before the n-th place, and that a
-- score is still to come.
pub record Sees (going : Bool) (n : ℕ) (s : Source) : Type 0 where
  pub known : is_missing going s ≡ false
  pub later : n ≤ rank (place_at going s)
  pub follow : Follow s.path s.coming

abbrev pub AllSee : Bool → ℕ → List Source → Type 0
AllSee going n = AllByRecursion (Sees going n)

-- The place is the one of its rank.
of_rank : ℕ → Place
of_rank n =
    cond (n == 0) Aside (cond (n == 1) Begins (cond (n == 2) Front (cond (n == 3) Opening
    (cond (n == 4) Remark (cond (n == 5) LocalPlace (cond (n == 6) Tandem (cond (n == 7) Change
    (cond (n == 8) Note (cond (n == 9) Closing (cond (n == 10) Tail Over))))))))))

ranked : (p : Place) → of_rank (rank p) ≡ p
unfolding of_rank
ranked Aside = refl
ranked Begins = refl
ranked Front = refl
ranked Opening = refl
ranked Remark = refl
ranked LocalPlace = refl
ranked Tandem = refl
ranked Change = refl
ranked Note = refl
ranked Closing = refl
ranked Tail = refl
ranked Over = refl

pub same_place : (p q : Place) → rank p ≡ rank q → p ≡ q
same_place p q e = sym (ranked p) ∙ (ap of_rank e ∙ ranked q)

pub rank_most : (p : Place) → rank p ≤ 11
rank_most = grind (arith, nat_tests)

pub earlier_left : (p q : Place) → rank (earlier p q) ≤ rank p
earlier_left = grind (arith, nat_tests)

pub earlier_right : (p q : Place) → rank (earlier p q) ≤ rank q
earlier_right = grind (arith, nat_tests)

pub least : (going : Bool) (n : ℕ) (ss : List Source) → n ≤ 11 → AllSee going n ss
    → n ≤ rank (earliest going ss)
least going n [] l h = l
least going n (s ∷ ss) l h = grind (arith, nat_tests, least going n ss l h.1)

reached : (going : Bool) (p : Place) (ss : List Source) → list_any (is_at going p) ss ≡ true
    → rank (earliest going ss) ≤ rank p
reached going p [] h = cc
reached going p (s ∷ ss) h = grind (arith, nat_tests, reached going p ss)

pub earliest_is : (going : Bool) (p : Place) (ss : List Source) → AllSee going (rank p) ss
    → list_any (is_at going p) ss ≡ true → earliest going ss ≡ p
earliest_is = grind (arith, nat_tests, least, rank_most, reached, same_place)

all_known : (going : Bool) (n : ℕ) (ss : List Source) → AllSee going n ss → AllKnown going ss
all_known going n [] h = tt
all_known going n (s ∷ ss) h = (h.0.known, all_known going n ss h.1)

-- Who takes has a record there.
and_right : (a b : Bool) → (a && b) ≡ true → b ≡ true
and_right = grind (arith, nat_tests)

pub taking : (free going : Bool) (p : Place) (n : ℕ) (s : Source) → is_over p ≡ false
    → Sees going n s → takes free going p s ≡ true → Takes p s
taking = grind (arith, nat_tests, takes_fields, and_right)

-- The paths.
path_moved : (b going : Bool) (p : Place) (s : Source)
    → (moved b going p s).path ≡ path_on s.path (cond b (first_of s.coming) None)
path_moved = grind (arith, nat_tests)

pub paths_moved : (free going : Bool) (p : Place) (ss : List Source)
    → paths_of (all_moved free going p ss) ≡ paths_on (paths_of ss) (parts_at free going p ss)
paths_moved free going p [] = refl
paths_moved free going p (s ∷ ss) =
    rw (path_moved (takes free going p s) going p s, paths_moved (still_free free going p s) going p ss) refl

widths_are : (ss : List Source) → widths (paths_of ss) ≡ spines ss
widths_are [] = refl
widths_are (s ∷ ss) = ap (λ (n : ℕ). width s.path + n) (widths_are ss)

tokens_are : (free going : Bool) (p : Place) (kind : SpinedKind) (n : ℕ) (ss : List Source)
    → is_over p ≡ false → kind_at p ≡ Some kind → AllSee going n ss
    → tokens_given free going p ss ≡ side_by_side kind (paths_of ss) (parts_at free going p ss)
tokens_are free going p kind n [] o k i = refl
tokens_are free going p kind n (s ∷ ss) o k i =
    grind (arith, nat_tests, tokens_are (still_free free going p s) going p kind n ss o k i.1)

-- The record.
like_spined : (row : Row) (kind : SpinedKind) (paths : List Path) (all : List (Option Row))
    → Some kind ≡ spined_of row → row_like row paths all ≡ Spined kind (side_by_side kind paths all)
like_spined = grind (arith, nat_tests)

row_spined : (going : Bool) (p : Place) (kind : SpinedKind) (n : ℕ) (ss : List Source)
    (paths : List Path) (all : List (Option Row))
    → is_over p ≡ false → kind_at p ≡ Some kind → AllSee going n ss
    → list_any (is_at going p) ss ≡ true
    → row_of paths all (parts_at true going p ss) ≡ Spined kind (side_by_side kind paths all)
row_spined going p kind n [] paths all o k i h = cc
row_spined going p kind n (s ∷ ss) paths all o k i h =
    (elim (is_at going p s) as (λ b. is_at going p s ≡ b → (b || list_any (is_at going p) ss) ≡ true
    → row_of paths all (cond b (first_of s.coming) None ∷ parts_at (is_shared p || not b) going p ss)
    ≡ Spined kind (side_by_side kind paths all)) [
      | true ↦ λ e w.
          let t = taking true going p n s o i.0 e in
          rw (ap first_of t.is) (like_spined t.row kind paths all (sym k ∙ t.kind))
      | false ↦ λ e w. rw (or_not_false (is_shared p)) (row_spined going p kind n ss paths all o k i.1 w)
    ]) refl h

like_comment : (row : Row) (paths : List Path) (all : List (Option Row))
    → None ≡ spined_of row → row_like row paths all ≡ Comment (text_of row)
like_comment = grind (arith, nat_tests)

row_comment : (going : Bool) (p : Place) (n : ℕ) (ss : List Source)
    (paths : List Path) (all : List (Option Row))
    → is_over p ≡ false → kind_at p ≡ None → AllSee going n ss
    → list_any (is_at going p) ss ≡ true
    → row_of paths all (parts_at true going p ss) ≡ Comment (comment_given going p ss)
row_comment going p n [] paths all o k i h = cc
row_comment going p n (s ∷ ss) paths all o k i h =
    (elim (is_at going p s) as (λ b. is_at going p s ≡ b → (b || list_any (is_at going p) ss) ≡ true
    → row_of paths all (cond b (first_of s.coming) None ∷ parts_at (is_shared p || not b) going p ss)
    ≡ Comment (cond b (text_of_first s.coming) (comment_given going p ss))) [
      | true ↦ λ e w.
          let t = taking true going p n s o i.0 e in
          rw (ap first_of t.is, ap text_of_first t.is) (like_comment t.row paths all (sym k ∙ t.kind))
      | false ↦ λ e w. rw (or_not_false (is_shared p)) (row_comment going p n ss paths all o k i.1 w)
    ]) refl h

row_made : (going : Bool) (p : Place) (n : ℕ) (ss : List Source) (o : Option SpinedKind)
    → kind_at p ≡ o → is_over p ≡ false → AllSee going n ss → list_any (is_at going p) ss ≡ true
    → row_of_kind o (comment_given going p ss) (tokens_given true going p ss)
    ≡ row_of (paths_of ss) (parts_at true going p ss) (parts_at true going p ss)
row_made going p n ss None k o i h = sym (row_comment going p n ss _ _ o k i h)
row_made going p n ss (Some kind) k o i h =
    ap (Spined kind) (tokens_are true going p kind n ss o k i)
    ∙ sym (row_spined going p kind n ss _ _ o k i h)

pub made_is : (going : Bool) (p : Place) (n : ℕ) (ss : List Source)
    → is_over p ≡ false → AllSee going n ss → list_any (is_at going p) ss ≡ true
    → made going p ss ≡ row_of (paths_of ss) (parts_at true going p ss) (parts_at true going p ss)
made_is going p n ss o i h = row_made going p n ss (kind_at p) refl o i h

-- What can be done next.
pub ahead_is : (going : Bool) (p : Place) (ss : List Source) (given : ℕ)
    → is_over p ≡ false → AllSee going (rank p) ss → list_any (is_at going p) ss ≡ true
    → ahead_of going ss given
    ≡ unless_broken p (rule_at given (paths_of ss) (parts_at true going p ss))
ahead_is going p ss given o i h =
    let k = all_known going (rank p) ss i in
    let m = ap length (ap text_of (made_is going p (rank p) ss o i h)) in
    let w : spines (all_moved true going p ss)
    ≡ widths (paths_on (paths_of ss) (parts_at true going p ss)) =
    sym (widths_are (all_moved true going p ss)) ∙ ap widths (paths_moved true going p ss) in
    rw (known_not_lost going ss k, missing_none going 0 ss k, earliest_is going p ss i h, o, m, w) refl

rows_by : (m : Merge) (p : Place) (o : Option Rule) (row : Row) (rows : List Row)
    → ahead m ≡ unless_broken p o → given_row p m ≡ row → all_given (given_on p m) ≡ rows
    → all_given m ≡ cond (is_none o) (row ∷ rows) []
rows_by = grind (arith, nat_tests, all_going, all_resting, is_giving)

stop_by : (m : Merge) (p : Place) (o : Option Rule) (stop : Option (ℕ × Rule))
    → ahead m ≡ unless_broken p o → refused (given_on p m) ≡ stop
    → refused m ≡ (elim o as (λ x. Option (ℕ × Rule)) [ None ↦ stop | Some rule ↦ Some (m.given + 1, rule) ])
stop_by m p None stop a w = grind (arith, nat_tests, all_going m p a)
stop_by m p (Some rule) stop a w =
    ap (λ (x : Merge). refusal (x.given + 1) (ahead x)) (all_resting m (ap is_giving a)).1
    ∙ ap (refusal (m.given + 1)) a

step_now : (p : Place) (ss : List Source) (ps : List (List (Option Row)))
    → is_over p ≡ false → AllSee (any_due ss) (rank p) ss → list_any (is_at (any_due ss) p) ss ≡ true
    → Meets (all_moved true (any_due ss) p ss) ps
    → Meets ss (parts_at true (any_due ss) p ss ∷ ps)
step_now p ss ps o i h w =
    let e = paths_moved true (any_due ss) p ss in
    record {
      rows = λ given.
          rows_by (merge_of ss given) p (rule_at given (paths_of ss) (parts_at true (any_due ss) p ss))
          (row_of (paths_of ss) (parts_at true (any_due ss) p ss) (parts_at true (any_due ss) p ss))
          (written (given + 1) (paths_on (paths_of ss) (parts_at true (any_due ss) p ss)) ps)
          (ahead_is (any_due ss) p ss given o i h) (made_is (any_due ss) p (rank p) ss o i h)
          (w.rows (given + 1) ∙ ap (λ (paths : List Path). written (given + 1) paths ps) e);
      stop = λ given.
          stop_by (merge_of ss given) p (rule_at given (paths_of ss) (parts_at true (any_due ss) p ss))
          (stops_at (given + 1) (paths_on (paths_of ss) (parts_at true (any_due ss) p ss)) ps)
          (ahead_is (any_due ss) p ss given o i h)
          (w.stop (given + 1) ∙ ap (λ (paths : List Path). stops_at (given + 1) paths ps) e);
    }

-- One record more.
pub meets_step : (going : Bool) (p : Place) (ss : List Source) (ps : List (List (Option Row)))
    → any_due ss ≡ going → is_over p ≡ false → AllSee going (rank p) ss
    → list_any (is_at going p) ss ≡ true → Meets (all_moved true going p ss) ps
    → Meets ss (parts_at true going p ss ∷ ps)
meets_step = grind (arith, nat_tests, step_now)

-- Nothing more.
still_lost : (b : Bool) (o : Option ℕ) (a : next.Next) → (o ≡ None → is_still a ≡ true)
    → is_still (cond b NothingMore (unless_missing o a)) ≡ true
still_lost = grind (arith, nat_tests)

some_missing : (going : Bool) (i : ℕ) (ss : List Source) → list_any (is_missing going) ss ≡ true
    → position_from (is_missing going) i ss ≡ None → ⊥
some_missing going i [] h e = cc
some_missing going i (s ∷ ss) h e =
    (elim (is_missing going s) as (λ b. (b || list_any (is_missing going) ss) ≡ true
    → cond b (Some i) (position_from (is_missing going) (i + 1) ss) ≡ None → ⊥) [
      | true ↦ λ w v. cc
      | false ↦ λ w v. some_missing going (i + 1) ss w v
    ]) h e

pub meets_missing : (ss : List Source) → list_any (is_missing (any_due ss)) ss ≡ true → Meets ss []
meets_missing = grind (arith, nat_tests, still_meets, still_lost, some_missing)

over_still : (going : Bool) (q : Place) (ss : List Source) (given : ℕ) → q ≡ Over
    → is_still (ahead_at going q ss given) ≡ true
over_still = grind (arith, nat_tests)

pub meets_over : (ss : List Source) → AllSee (any_due ss) 11 ss → Meets ss []
meets_over = grind (arith, nat_tests, least, rank_most, same_place, still_meets, still_lost, over_still)
