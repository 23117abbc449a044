-- What is given is a score, as far as it goes.
use Rattle.std.proofs.lemmas.Bool.Decides.{nat_tests}
use Rattle.std.proofs.Common.{◌≡◌, ◌∙◌, refl, sym, ap, ℕ, ◌≤◌, ◌<◌, ◌⊎◌, inl, inr}
use Rattle.std.proofs.Common.{Bool, true, false, List, [], ◌∷◌, length}
use Rattle.std.proofs.Common.{arith}
use Rattle.std.specs.Prelude.{None, Some}
use Rattle.std.specs.List.{list_any, find}
use Rattle.hum_score.specs.declared.records.SpinedKind.{SpinedKind}
use Rattle.hum_score.specs.declared.records.SpinedKind.TheVariants.{Local, Interpretation, Values}
use Rattle.hum_score.specs.Row.{Row, Spined}
use Rattle.hum_score.specs.Rules.{fault_of, breaks_as_text, in_order}
use Rattle.hum_score.specs.Spines.{Path, Unopened, Spines, after}
use Rattle.hum_path.proofs.Plain.{plain_stays}
use Rattle.hum_assemble.specs.declared.places.Place.{Place}
use Rattle.hum_assemble.specs.declared.places.Place.TheVariants.{Aside, Begins, Front, Opening}
use Rattle.hum_assemble.specs.declared.places.Place.TheVariants.{Remark, Local as LocalPlace}
use Rattle.hum_assemble.specs.declared.places.Place.TheVariants.{Tandem, Change, Note, Closing}
use Rattle.hum_assemble.specs.declared.places.Place.TheVariants.{Tail, Over}
use Rattle.hum_assemble.specs.Source.{Source, place}
use Rattle.hum_assemble.specs.Places.{rank, kind_at, is_shared, is_over}
use Rattle.hum_assemble.specs.Round.{takes, still_free}
use Rattle.hum_assemble.specs.Merge.{moved, all_moved, tokens_given}
use Rattle.hum_assemble.specs.Taking.{is_at}
use Rattle.hum_assemble.proofs.Sides.{IsSound, taker, taken_path}
use Rattle.hum_assemble.proofs.Rounds.{AllSound, AllShow, IsSettled, AllSettled, IsQuiet}
use Rattle.hum_assemble.proofs.Rounds.{names_of, opened_taker, taken_by, all_wide}
use Rattle.hum_score.specs.Spelling.{is_empty}
use Rattle.hum_score.specs.Spines.{names_after}
use Rattle.hum_assemble.specs.Round.{any_due}
use Rattle.hum_assemble.specs.Merge.{made, spines}
use Rattle.hum_assemble.proofs.Rounds.{none_inside, all_sound, names_spines}
use Rattle.hum_assemble.proofs.Quiet.{comment_stays, quiet_text, quiet_tandem, some_names}
use Rattle.hum_assemble.proofs.Quiet.{tandem_tokens, not_going, opening_path}
use Rattle.hum_path.proofs.Kept.{opening_sound}
use Rattle.hum_assemble.proofs.Sounding.{leads_sound, text_sound, plain_sound, ends_lead}
use Rattle.hum_assemble.proofs.Alone.{paths_of, OneIn, none_one, none_in, others_out}
use Rattle.hum_assemble.proofs.Alone.{OthersOut, named_of}
use Rattle.hum_assemble.proofs.Alone.{begins_out, alone_leads, alone_one, names_in, names_are}
use Rattle.hum_assemble.proofs.Turning.{AllUnopened, all_open, all_close, named_none}
use Rattle.hum_assemble.proofs.Turning.{exclusive_named}

-- How the spines of what is given stand to those of the sources: none as long as no source has
-- any, and then those of the sources side by side.
abbrev pub Side : Path → List Source → Type 0
Side path ss =
    ((path ≡ Unopened) × AllUnopened ss) ⊎ ((path ≡ Spines (names_of ss)) × AllSettled ss)

pub record IsFine (path : Path) (ss : List Source) : Type 0 where
  pub sound : AllSound ss
  pub one : OneIn (paths_of ss)
  pub side : Side path ss

-- Comments.
still_path : (free going : Bool) (p : Place) (s : Source) → is_over p ≡ false → kind_at p ≡ None
    → IsSound s → (moved (takes free going p s) going p s).path ≡ s.path
still_path = grind (arith, nat_tests, taken_by, taken_path, comment_stays)

still_paths : (free going : Bool) (p : Place) (ss : List Source) → is_over p ≡ false
    → kind_at p ≡ None → AllSound ss → paths_of (all_moved free going p ss) ≡ paths_of ss
still_paths free going p [] o k i = refl
still_paths free going p (s ∷ ss) o k i =
    rw (still_path free going p s o k i.0, still_paths (still_free free going p s) going p ss o k i.1) refl

still_unopened : (free going : Bool) (p : Place) (ss : List Source) → is_over p ≡ false
    → kind_at p ≡ None → AllSound ss → AllUnopened ss → AllUnopened (all_moved free going p ss)
still_unopened free going p [] o k i u = tt
still_unopened free going p (s ∷ ss) o k i u =
    grind (arith, nat_tests, still_unopened (still_free free going p s) going p ss o k i.1 u.1, still_path)

settled_one : (free going : Bool) (p : Place) (s : Source) → is_over p ≡ false → IsSound s
    → IsSettled s → IsSettled (moved (takes free going p s) going p s)
settled_one = grind (arith, nat_tests)

pub settled_moved : (free going : Bool) (p : Place) (ss : List Source) → is_over p ≡ false
    → AllSound ss → AllSettled ss → AllSettled (all_moved free going p ss)
settled_moved free going p [] o i e = tt
settled_moved free going p (s ∷ ss) o i e =
    (settled_one free going p s o i.0 e.0, settled_moved (still_free free going p s) going p ss o i.1 e.1)

quiet_path : (free going : Bool) (p : Place) (s : Source) → is_over p ≡ false → IsQuiet p
    → IsSound s
    → IsSettled s → (moved (takes free going p s) going p s).path ≡ s.path
quiet_path = grind (arith, nat_tests, taken_by, taken_path)

quiet_paths : (free going : Bool) (p : Place) (ss : List Source) → is_over p ≡ false → IsQuiet p
    → AllSound ss → AllSettled ss → paths_of (all_moved free going p ss) ≡ paths_of ss
quiet_paths free going p [] o q i e = refl
quiet_paths free going p (s ∷ ss) o q i e =
    rw (quiet_path free going p s o q i.0 e.0, quiet_paths (still_free free going p s) going p ss o q i.1 e.1) refl

same_names : (ss ts : List Source) → paths_of ss ≡ paths_of ts → names_of ss ≡ names_of ts
same_names ss ts h = names_are ss ∙ (ap names_in h ∙ sym (names_are ts))

-- no source without spines has a record elsewhere
unopened_rank : (row : Row) → (2 ≤ rank (place Unopened row)) × (rank (place Unopened row) ≤ 3)
unopened_rank = grind (arith, nat_tests)

unopened_at : (going : Bool) (p : Place) (ss : List Source) → is_over p ≡ false → AllSound ss
    → AllUnopened ss → list_any (is_at going p) ss ≡ true → (2 ≤ rank p) × (rank p ≤ 3)
unopened_at going p [] o i u h = cc
unopened_at going p (s ∷ ss) o i u h =
    grind (arith, nat_tests, unopened_at going p ss o i.1 u.1, taker, unopened_rank)

-- nor is there an opening record once there are spines
no_opening : (going : Bool) (ss : List Source) → AllSound ss → AllSettled ss
    → list_any (is_at going Opening) ss ≡ true → ⊥
no_opening going [] i e h = let v = h in cc
no_opening going (s ∷ ss) i e h =
    grind (arith, nat_tests, no_opening going ss i.1 e.1, taker, opening_path, opened_taker)

-- What a record needs, where it is given.
pub record Here (going : Bool) (p : Place) (ss : List Source) : Type 0 where
  pub idle : going ≡ false → any_due ss ≡ false
  pub show : AllShow going p ss
  pub some : is_over p ≡ false
  pub at : list_any (is_at going p) ss ≡ true
  pub few : spines (all_moved true going p ss) ≤ 4096

-- the record breaks no rule, and all goes on
abbrev pub Goes : Path → Bool → Place → List Source → Type 0
Goes path going p ss =
    (fault_of path (made going p ss) ≡ None)
    × IsFine (after path (made going p ss)) (all_moved true going p ss)

sound_on : (path : Path) (going : Bool) (p : Place) (ss : List Source) → IsFine path ss
    → Here going p ss → AllSound (all_moved true going p ss)
sound_on path going p ss f h = all_sound true going p ss h.some f.sound h.idle (λ e. refl)

comment_fine : (path : Path) (going : Bool) (p : Place) (ss : List Source) → kind_at p ≡ None
    → IsFine path ss → Here going p ss → IsFine path (all_moved true going p ss)
comment_fine path going p ss k f h =
    let paths = still_paths true going p ss h.some k f.sound in
    record {
      sound = sound_on path going p ss f h;
      one = rw paths f.one;
      side = grind (arith, nat_tests, still_unopened, same_names, settled_moved);
    }

few_names : (going : Bool) (p : Place) (ss : List Source) → Here going p ss
    → length (names_of (all_moved true going p ss)) ≤ 4096
few_names = grind (arith, nat_tests, names_spines)

-- local comments and data
text_after : (path : Path) (kind : SpinedKind) (tokens : List (List ℕ))
    → (kind ≡ Interpretation → ⊥)
    → after path (Spined kind tokens) ≡ path
text_after = grind (arith, nat_tests)

text_fault : (path : Path) (kind : SpinedKind) (tokens : List (List ℕ))
    → (kind ≡ Interpretation → ⊥)
    → find (breaks_as_text path tokens) in_order ≡ None → fault_of path (Spined kind tokens) ≡ None
text_fault = grind (arith, nat_tests)

abbrev SpinedGoes : Path → Bool → Place → SpinedKind → List Source → Type 0
SpinedGoes path going p kind ss =
    (fault_of path (Spined kind (tokens_given true going p ss)) ≡ None)
    × IsFine (after path (Spined kind (tokens_given true going p ss))) (all_moved true going p ss)

quiet_goes : (path : Path) (going : Bool) (p : Place) (kind : SpinedKind) (ss : List Source)
    → kind_at p ≡ Some kind → (kind ≡ Interpretation → ⊥) → 3 < rank p
    → IsFine path ss → Here going p ss → SpinedGoes path going p kind ss
quiet_goes path going p kind ss k n late f h =
    elim f.side [
      | inl before ↦ absurd (let r = (unopened_at going p ss h.some f.sound before.1 h.at).1 in omega (arith, r, late))
      | inr behind ↦
          let out = none_in ss (none_inside going p ss f.sound h.show (omega (arith, late))) in
          let wide = all_wide true going p ss kind h.some k f.sound behind.1 in
          let paths = quiet_paths true going p ss h.some (quiet_text p kind k n) f.sound behind.1 in
          let sound = text_fault path kind (tokens_given true going p ss) n
          (rw behind.0 (text_sound (names_of ss) (tokens_given true going p ss) wide (named_of ss out)
          (some_names going p ss kind h.some k f.sound behind.1 h.at))) in (
            sound,
            rw (text_after path kind (tokens_given true going p ss) n) (record {
              sound = sound_on path going p ss f h;
              one = rw paths f.one;
              side = grind (arith, nat_tests, same_names, settled_moved);
            }),
          )
    ]

tandem_goes : (path : Path) (going : Bool) (ss : List Source) → IsFine path ss
    → Here going Tandem ss
    → SpinedGoes path going Tandem Interpretation ss
tandem_goes path going ss f h =
    elim f.side [
      | inl before ↦ absurd (let r = (unopened_at going Tandem ss h.some f.sound before.1 h.at).1 in omega (arith, r))
      | inr behind ↦
          let out = none_in ss (none_inside going Tandem ss f.sound h.show (omega arith)) in
          let tokens = tokens_given true going Tandem ss in
          let wide = all_wide true going Tandem ss Interpretation h.some refl f.sound behind.1 in
          let paths = quiet_paths true going Tandem ss h.some quiet_tandem f.sound behind.1 in
          let names = same_names _ _ paths in
          let few : length (names_of ss) ≤ 4096 = grind (arith, nat_tests, few_names) in
          let plain = tandem_tokens true going ss f.sound in
          let stays = plain_stays (names_of ss) tokens plain (sym wide) in (
            rw behind.0 (plain_sound (names_of ss) tokens wide (named_of ss out)
                (some_names going Tandem ss Interpretation h.some refl f.sound behind.1 h.at) few plain),
            record {
              sound = sound_on path going Tandem ss f h;
              one = rw paths f.one;
              side = inr (
                ap Spines (ap (λ (x : Path). names_after x tokens) behind.0 ∙ (stays ∙ sym names)),
                settled_moved true going Tandem ss h.some f.sound behind.1,
              );
            },
          )
    ]

alone_goes : (path : Path) (going : Bool) (p : Place) (ss : List Source)
    → kind_at p ≡ Some Interpretation → is_shared p ≡ false
    → ((2 ≤ rank p) × (rank p ≤ 3) → ⊥) → OthersOut going p ss
    → IsFine path ss → Here going p ss → SpinedGoes path going p Interpretation ss
alone_goes path going p ss k sh n out f h =
    elim f.side [
      | inl before ↦ absurd (n (unopened_at going p ss h.some f.sound before.1 h.at))
      | inr behind ↦
          let tokens = tokens_given true going p ss in
          let o = alone_leads going p ss h.some k sh f.sound behind.1 out h.at in (
            rw behind.0 (leads_sound (names_of ss) tokens (names_of (all_moved true going p ss)) o
                (few_names going p ss h) (some_names going p ss Interpretation h.some k f.sound behind.1 h.at)),
            record {
              sound = sound_on path going p ss f h;
              one = alone_one going p ss sh out;
              side = grind (arith, nat_tests, settled_moved);
            },
          )
    ]

opening_goes : (path : Path) (going : Bool) (ss : List Source) → going ≡ false → IsFine path ss
    → Here going Opening ss → SpinedGoes path going Opening Interpretation ss
opening_goes path true ss e f h = cc
opening_goes path false ss e f h =
    elim f.side [
      | inl before ↦
          let tokens = tokens_given true false Opening ss in
          let o = all_open ss before.1 f.sound h.show in
          let few : length tokens ≤ 4096 =
          let n = few_names false Opening ss h in let e = ap length o.names in omega (arith, n, e) in (
            rw before.0 (opening_sound tokens (record { exclusive = o.exclusive; bare = o.bare; few = few })),
            record {
              sound = sound_on path false Opening ss f h;
              one = grind (arith, nat_tests, none_one, named_none, names_are, exclusive_named);
              side = inr (ap Spines (ap (λ (x : Path). names_after x tokens) before.0 ∙ sym o.names), o.settled);
            },
          )
      | inr behind ↦ absurd (no_opening false ss f.sound behind.1 h.at)
    ]

closing_goes : (path : Path) (going : Bool) (ss : List Source) → going ≡ false → IsFine path ss
    → Here going Closing ss → SpinedGoes path going Closing Interpretation ss
closing_goes path true ss e f h = cc
closing_goes path false ss e f h =
    elim f.side [
      | inl before ↦ absurd (let r = (unopened_at false Closing ss h.some f.sound before.1 h.at).1 in omega (arith, r))
      | inr behind ↦
          let tokens = tokens_given true false Closing ss in
          let out = none_in ss (none_inside false Closing ss f.sound h.show (omega arith)) in
          let wide = all_wide true false Closing ss Interpretation h.some refl f.sound behind.1 in
          let c = all_close ss f.sound behind.1 h.show in
          let o = ends_lead (names_of ss) tokens wide (named_of ss out) c.bare c.ends in (
            rw behind.0 (leads_sound (names_of ss) tokens [] o (omega arith)
                (some_names false Closing ss Interpretation h.some refl f.sound behind.1 h.at)),
            record {
              sound = sound_on path false Closing ss f h;
              one = none_one _ (named_none _ (ap (list_any is_empty) (sym (names_are (all_moved true false Closing ss)) ∙ c.none)));
              side = grind (arith, nat_tests, settled_moved);
            },
          )
    ]

not_text : Local ≡ Interpretation → ⊥
not_text e = cc

not_data : Values ≡ Interpretation → ⊥
not_data e = cc

pub goes : (path : Path) (going : Bool) (p : Place) (ss : List Source) → IsFine path ss
    → Here going p ss → Goes path going p ss
goes path going Aside ss f h = (refl, comment_fine path going Aside ss refl f h)
goes path going Front ss f h = (refl, comment_fine path going Front ss refl f h)
goes path going Remark ss f h = (refl, comment_fine path going Remark ss refl f h)
goes path going Tail ss f h = (refl, comment_fine path going Tail ss refl f h)
goes path going LocalPlace ss f h = quiet_goes path going LocalPlace Local ss refl not_text (omega arith) f h
goes path going Note ss f h = quiet_goes path going Note Values ss refl not_data (omega arith) f h
goes path going Tandem ss f h = tandem_goes path going ss f h
goes path going Change ss f h =
    alone_goes path going Change ss refl refl (λ r. let q = r.1 in omega (arith, q))
    (others_out going Change ss (none_in ss (none_inside going Change ss f.sound h.show (omega arith)))) f h
goes path going Begins ss f h =
    alone_goes path going Begins ss refl refl (λ r. let q = r.0 in omega (arith, q))
    (begins_out going Begins ss refl (omega arith) f.sound f.one h.at) f h
goes path going Opening ss f h =
    opening_goes path going ss (not_going going Opening ss refl refl f.sound h.at) f h
goes path going Closing ss f h =
    closing_goes path going ss (not_going going Closing ss refl refl f.sound h.at) f h
goes path going Over ss f h = absurd (let o = h.some in cc)
