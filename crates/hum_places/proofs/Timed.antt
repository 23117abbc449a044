-- The time of each record, by the notes that live before its cells.
use Rattle.std.proofs.lemmas.Bool.Decides.{nat_tests}
use Rattle.std.proofs.lemmas.Grind.{common_steps}
use Rattle.std.proofs.Common.{◌≡◌, ◌∙◌, refl, sym, ap, subst, ℕ, zero, suc, ◌<◌, ◌↔◌, arith}
use Rattle.std.proofs.Common.{Bool, true, List, [], ◌∷◌, map, length, get_or}
use Rattle.std.proofs.Common.{Option, None, Some, slice_get}
use Rattle.std.specs.Prelude.{is_some}
use Rattle.std.specs.List.{Contains, list_any}
use Rattle.std.proofs.lemmas.List.{length-map}
use Rattle.hum_score.specs.declared.records.SpinedKind.TheVariants.{Values}
use Rattle.hum_score.specs.Row.{Row, Spined}
use Rattle.hum_score.specs.Spines.{width, exclusives}
use Rattle.hum_score.specs.Score.{IsOpen, path_after}
use Rattle.hum_score.proofs.Cases.{by_bool}
use Rattle.hum_frac.specs.Ratio.{Ratio, IsBefore, is_before}
use Rattle.hum_frac.proofs.Order.{NotBefore, not_before_trans}
use Rattle.hum_path.proofs.Widths.{text_width}
use Rattle.hum_timebase.specs.Notes.{is_timed, note_of, timed_in, notes_of}
use Rattle.hum_timebase.specs.Ends.{Note, end_of, later, latest, next_end, if_timed, living_before}
use Rattle.hum_timebase.specs.Clock.{clock_after}
use Rattle.hum_timebase.proofs.Lasting.{IsSound, AreSound, AllSound, latest_positive, before_sound, all_sound}
use Rattle.hum_places.specs.Grid.{IsLeastAfter}
use Rattle.hum_places.specs.Clock.{name_at, HasNote, Lives, IsEnd, IsNext, TimeIsByPlace, LastIsKept}
use Rattle.hum_places.proofs.Multiples.{before_later}
use Rattle.hum_places.proofs.Times.{all_positive}
use Rattle.hum_places.proofs.LeastEnds.{is_so, is_not, not_both, not_self, next_is_least}
use Rattle.hum_places.proofs.Clocked.{over_length, paired_length, timed_in_is, leading_at, leading_width, before_at, notes_at, leads_by_place}

-- what isn't later is before what that is before
no_later : (a b c : Ratio) → 0 < b.bottom → NotBefore a b → IsBefore a c → IsBefore b c
no_later a b c some late less = by_bool (is_before b c) (is_so b c)
    (λ w. absurd (not_both a c (not_before_trans a b c some late (is_not b c w)) less))

so_not : (a b : Ratio) → ¬ IsBefore a b → NotBefore a b
so_not a b late = by_bool (is_before a b) (λ w. absurd (late (is_so a b w))) (is_not a b)

-- ---- the latest of some ends

-- where the last of some notes ends
record IsLatest (notes : List Note) (end : Ratio) : Type 0 where
  note : Note
  among : Contains notes note
  ends : end_of note ≡ end
  last : (other : Note) → Contains notes other → ¬ IsBefore end (end_of other)

abbrev LatestIs : List Note → Option Ratio → Type 0
LatestIs notes None = (note : Note) → Contains notes note → ⊥
LatestIs notes (Some end) = IsLatest notes end × (0 < end.bottom)

in_more : (x : Note) (xs : List Note) (note : Note) → Contains xs note → Contains (x ∷ xs) note
in_more x xs note h = let less = h.1 in (suc h.0, omega (arith, less), h.2)

in_first : (x : Note) (xs : List Note) → Contains (x ∷ xs) x
in_first x xs = (zero, omega arith, refl)

by_first : {P : Type 0} (x : Note) (xs : List Note) (note : Note) → Contains (x ∷ xs) note → (x ≡ note → P) → (Contains xs note → P) → P
by_first = grind (arith, nat_tests)

latest_is : (notes : List Note) → AreSound notes → LatestIs notes (latest notes)
latest_is [] h = λ note w. let less = w.1 in omega (arith, less)
latest_is (note ∷ notes) h = more (latest notes) (latest_is notes h.1)
  where
    end : Ratio
    end = end_of note

    positive : 0 < (end_of note).bottom
    positive = latest_positive (note ∷ []) (h.0, tt)

    more : (o : Option Ratio) → LatestIs notes o → LatestIs (note ∷ notes) (later (Some (end_of note)) o)
    more None none = (record { note = note; among = in_first note notes; ends = refl; last = last }, positive)
      where
        last : (other : Note) → Contains (note ∷ notes) other → ¬ IsBefore (end_of note) (end_of other)
        last other w less = by_first note notes other w
            (λ e. not_self (end_of note) (subst (λ (n : Note). IsBefore (end_of note) (end_of n)) (sym e) less)) (none other)
    more (Some found) (is, above) = by_bool (is_before (end_of note) found)
        (λ w. rw w (record { note = is.note; among = in_more note notes is.note is.among; ends = is.ends; last = further (is_so (end_of note) found w) }, above))
        (λ w. rw w (record { note = note; among = in_first note notes; ends = refl; last = nearer (is_not (end_of note) found w) }, positive))
      where
        further : IsBefore (end_of note) found → (other : Note) → Contains (note ∷ notes) other → ¬ IsBefore found (end_of other)
        further = grind (arith, nat_tests)

        nearer : NotBefore (end_of note) found → (other : Note) → Contains (note ∷ notes) other → ¬ IsBefore (end_of note) (end_of other)
        nearer late other w less = by_first note notes other w
            (λ e. not_self (end_of note) (subst (λ (n : Note). IsBefore (end_of note) (end_of n)) (sym e) less))
            (λ v. is.last other v (no_later (end_of note) found (end_of other) above late less))

-- ---- the ends before the cells of a record

map_slice : {A B : Type 0} (f : A → B) (xs : List A) (i : ℕ) (a : A) → i < length xs → slice_get (map f xs) i ≡ Some (f (get_or xs i a))
map_slice f [] i a h = absurd (omega (arith, h))
map_slice f (x ∷ xs) zero a h = refl
map_slice f (x ∷ xs) (suc i) a h = map_slice f xs i a (omega (arith, h))

get_within : {X : Type 0} (xs : List X) (i : ℕ) (x : X) → slice_get xs i ≡ Some x → i < length xs
get_within [] i x e = cc
get_within (y ∷ xs) zero x e = omega arith
get_within (y ∷ xs) (suc i) x e = let h = get_within xs i x e in omega (arith, h)

timed_within : (names : List (List ℕ)) (i : ℕ) → is_timed (get_or names i []) ≡ true → i < length names
timed_within = grind (arith, common_steps)

all_at : (living : List (List Note)) → AllSound living → (i : ℕ) → AreSound (get_or living i [])
all_at [] h i = tt
all_at (notes ∷ living) h zero = h.0
all_at (notes ∷ living) h (suc i) = all_at living h.1 i

sound_in : (notes : List Note) → AreSound notes → (note : Note) → Contains notes note → IsSound note
sound_in [] h note (k, less, is) = absurd (omega (arith, less))
sound_in (other ∷ notes) h note w = by_first other notes note w (λ e. subst IsSound e h.0) (sound_in notes h.1 note)

module _ (past : List Row) (h : IsOpen past) where
  abbrev before : List (List Note)
  before = living_before (timed_in (path_after past)) (clock_after past).leading

  abbrev ends : List (Option Ratio)
  ends = map latest before

  abbrev living : ℕ → List Note
  living i = if_timed (is_timed (name_at past i)) (leading_at past i)

  ends_size : length ends ≡ width (path_after past)
  ends_size = length-map before latest ∙ over_length if_timed (timed_in (path_after past)) (clock_after past).leading ∙ leading_width past h

  end_at : (i : ℕ) → i < width (path_after past) → slice_get ends i ≡ Some (latest (living i))
  end_at i below =
      let size = ends_size in
      let same = length-map before latest in
      map_slice latest before i [] (omega (arith, size, same, below)) ∙ ap (λ (notes : List Note). Some (latest notes)) (before_at past h i below)

  all_living : AllSound before
  all_living = before_sound (timed_in (path_after past)) (clock_after past).leading (all_sound past)

  sound_at : (i : ℕ) → i < width (path_after past) → AreSound (living i)
  sound_at i below = subst AreSound (before_at past h i below) (all_at before all_living i)

  lives_in : (i : ℕ) (note : Note) → i < width (path_after past) → Contains (living i) note ↔ Lives past i note
  lives_in = grind (arith, nat_tests, timed_in_is, leading_at, leads_by_place)

  some_end : {a b : Option Ratio} → ◌≡◌ {A = Option (Option Ratio)} (Some a) (Some b) → a ≡ b
  some_end e = cc

  is_end : (i : ℕ) (end : Ratio) → slice_get ends i ≡ Some (Some end) → IsEnd past i end
  is_end i end e =
      let size = ends_size in
      let within = get_within ends i (Some end) e in
      let below : i < width (path_after past) = omega (arith, size, within) in
      let same : latest (living i) ≡ Some end = some_end (sym (end_at i below) ∙ e) in
      let is = rw same at (latest_is (living i) (sound_at i below)) in
      record {
        note = is.0.note;
        lives = (lives_in i is.0.note below).0 is.0.among;
        ends = is.0.ends;
        last = λ other w. is.0.last other ((lives_in i other below).1 w);
      }

  -- the end there, which has the same value
  record EndsThere (i : ℕ) (end : Ratio) : Type 0 where
    found : Ratio
    at : slice_get ends i ≡ Some (Some found)
    above : 0 < end.bottom
    positive : 0 < found.bottom
    no_less : NotBefore found end
    no_more : NotBefore end found

  end_there : (i : ℕ) (end : Ratio) → IsEnd past i end → EndsThere i end
  end_there i end is =
      let below : i < width (path_after past) = timed_within (exclusives (path_after past)) i is.lives.0 in
      let among = (lives_in i is.note below).1 is.lives in
      by_latest below among (latest (living i)) refl (latest_is (living i) (sound_at i below))
    where
      by_latest : i < width (path_after past) → Contains (living i) is.note → (o : Option Ratio) → latest (living i) ≡ o → LatestIs (living i) (latest (living i)) → EndsThere i end
      by_latest below among None e all = absurd ((rw e at all) is.note among)
      by_latest below among (Some found) e all =
          let there = rw e at all in
          let positive = latest_positive (is.note ∷ []) (sound_in (living i) (sound_at i below) is.note among, tt) in
          record {
            found = found;
            at = end_at i below ∙ ap Some e;
            above = subst (λ (r : Ratio). 0 < r.bottom) is.ends positive;
            positive = there.1;
            no_less = so_not found end (λ less. there.0.last is.note among (subst (λ (r : Ratio). IsBefore found r) (sym is.ends) less));
            no_more = so_not end found (λ less. is.last there.0.note ((lives_in i there.0.note below).0 there.0.among) (subst (λ (r : Ratio). IsBefore end r) (sym there.0.ends) less));
          }

  next_is : (time : Ratio) (o : Option Ratio) → IsLeastAfter time ends o → IsNext past time o
  next_is time None none = λ i end is less.
      let there = end_there i end is in
      none i there.found there.at (before_later time end there.found there.above there.positive less there.no_less)
  next_is time (Some least) one = record {
    place = one.place;
    one = is_end one.place least one.one;
    after = one.after;
    first = λ i other is less sooner.
        let there = end_there i other is in
        one.first i there.found there.at (before_later time other there.found there.above there.positive less there.no_less)
        (no_later other there.found least there.positive there.no_more sooner);
  }

  pub next_by_place : (time : Ratio) → IsNext past time (next_end time ends)
  next_by_place time = next_is time (next_end time ends) (next_is_least time ends (all_positive before all_living))

-- ---- the times

any_at : (notes : List (Option Ratio)) → list_any is_some notes ≡ true
    → (i : ℕ) × (lasting : Ratio) × (i < length notes) × (get_or notes i None ≡ Some lasting)
any_at [] e = cc
any_at (Some lasting ∷ notes) e = (zero, lasting, omega arith, refl)
any_at (None ∷ notes) e = let h = any_at notes e in let less = h.2 in (suc h.0, h.1, omega (arith, less), h.3)

some_any : (notes : List (Option Ratio)) (i : ℕ) (lasting : Ratio) → get_or notes i None ≡ Some lasting → list_any is_some notes ≡ true
some_any = grind (arith, common_steps)

module _ (past : List Row) (tokens : List (List ℕ)) (h : IsOpen (Spined Values tokens ∷ past)) where
  abbrev notes : List (Option Ratio)
  notes = notes_of (timed_in (path_after past)) tokens

  as_wide : length tokens ≡ width (path_after past)
  as_wide = text_width (path_after past) tokens h.1

  has_note : HasNote past tokens → list_any is_some notes ≡ true
  has_note (i, lasting, e) =
      let below : i < width (path_after past) = timed_within (exclusives (path_after past)) i (timed_of (is_timed (name_at past i)) (get_or tokens i []) lasting e) in
      let wide = as_wide in
      some_any notes i lasting (notes_at past tokens as_wide i (omega (arith, wide, below)) ∙ e)
    where
      timed_of : (timed : Bool) (token : List ℕ) (lasting : Ratio) → note_of timed token ≡ Some lasting → timed ≡ true
      timed_of = grind (arith, nat_tests)

  from_any : list_any is_some notes ≡ true → HasNote past tokens
  from_any = grind (arith, nat_tests, any_at, paired_length, length-map, as_wide, notes_at)

  pub time_by_place : TimeIsByPlace past tokens
  time_by_place = record {
    silent = λ none. by_bool (list_any is_some notes) (λ w. absurd (none (from_any w))) (λ w. rw w refl);
    first = λ some e. rw (has_note some, e) refl;
    later = λ some last e. rw (has_note some, e) (next_by_place past h.0 last);
  }

pub last_kept : (past : List Row) (row : Row) → LastIsKept past row
last_kept = grind (arith, nat_tests)
