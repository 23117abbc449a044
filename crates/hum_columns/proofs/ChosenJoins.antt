-- Joins that aren't torn stay joins among the chosen columns.
use Rattle.std.proofs.lemmas.Bool.Decides.{nat_tests}
use Rattle.std.proofs.Common.{◌≡◌, ◌∙◌, refl, ap, ℕ, Bool, true, false, not, ◌&&◌, ◌||◌, List, [], ◌∷◌, length, map, arith}
use Rattle.std.specs.Str.{bytes_eq}
use Rattle.std.proofs.lemmas.Bool.{or_parts, not-false, false≢true}
use Rattle.std.proofs.lemmas.Slice.Eq.{bytes_eq-Decides}
use Rattle.hum_score.specs.declared.spines.Sign.{Sign}
use Rattle.hum_score.specs.declared.spines.Sign.TheVariants.{Plain}
use Rattle.hum_score.specs.Sign.{sign_of, is_join}
use Rattle.hum_score.specs.Rules.{first_is, has_lone_join, has_mixed_join}
use Rattle.hum_path.specs.Onward.{beginnings}
use Rattle.hum_columns.specs.Spread.{tokens_in}
use Rattle.hum_columns.proofs.Spreading.{marks, next_goes_on, Formed}
use Rattle.hum_score.specs.Row.{chosen}
use Rattle.hum_columns.specs.Chosen.{others, differ, is_torn, each_piece}
use Rattle.hum_columns.proofs.ChosenLists.{chosen_map, not_length}
use Rattle.hum_columns.proofs.TornJoins.{torn_start, torn_not}

pub each_tokens : (b : Bool) (ts : List (List ℕ)) → tokens_in (each_piece b ts) ≡ ts
each_tokens b [] = refl
each_tokens b (t ∷ ts) = ap (λ (us : List (List ℕ)). t ∷ us) (each_tokens (is_join (sign_of t)) ts)

pub each_marks : (b : Bool) (ts : List (List ℕ)) → marks (each_piece b ts) ≡ beginnings b (map sign_of ts)
each_marks b [] = refl
each_marks b (t ∷ ts) = ap (λ (bs : List Bool). (is_join (sign_of t) && not b) ∷ bs) (each_marks (is_join (sign_of t)) ts)

pub chosen_tokens : (b : Bool) (fs : List Bool) (ts : List (List ℕ)) → tokens_in (chosen fs (each_piece b ts)) ≡ chosen fs ts
chosen_tokens = grind (arith, nat_tests, chosen_map, each_tokens)

pub chosen_marks : (b : Bool) (fs : List Bool) (ts : List (List ℕ)) → marks (chosen fs (each_piece b ts)) ≡ chosen fs (beginnings b (map sign_of ts))
chosen_marks = grind (arith, nat_tests, chosen_map, each_marks)

-- the join to the right is as this one
pub join_too : (j k f g : Bool) → j ≡ true → k ≡ true → (j && (k && differ f g)) ≡ false → g ≡ f
join_too = grind (arith, nat_tests)

-- and goes on with it
pub goes : (j k : Bool) → j ≡ true → k ≡ true → (k && not (k && not j)) ≡ true
goes = grind (arith, nat_tests)

next_chosen : (s : Sign) (fs : List Bool) (ts : List (List ℕ)) → length fs ≡ length ts → is_join s ≡ true
    → first_is is_join (map sign_of ts) ≡ true
    → is_torn (true ∷ fs) (s ∷ map sign_of ts) ≡ false → next_goes_on (chosen fs (each_piece (is_join s) ts)) ≡ true
next_chosen s fs [] len join first torn = absurd (false≢true first)
next_chosen s [] (t ∷ ts) len join first torn = absurd (omega (arith, len))
next_chosen s (g ∷ fs) (t ∷ ts) len join first torn = grind (arith, nat_tests)

-- a join that begins one has another to its right
pub begins_well : (j p next : Bool) → (j && not (p || next)) ≡ false → (j && not p) ≡ true → (j ≡ true) × (next ≡ true)
begins_well = grind (arith, nat_tests)

-- and one that goes on has one to its left, which is as it is
pub goes_well : (j p f g : Bool) (m n : List ℕ) → (p && (j && differ f g)) ≡ false → (p && (j && not (bytes_eq m n))) ≡ false
    → (j && not (j && not p)) ≡ true
    → (p ≡ true) × ((f ≡ g) × (m ≡ n))
goes_well = grind (arith, nat_tests, bytes_eq-Decides, not-false, false≢true)

formed_from : (f : Bool) (s : Sign) (name : List ℕ) (b : Bool) (before : List ℕ) (fs : List Bool) (ts ns : List (List ℕ))
    → length fs ≡ length ts → length ns ≡ length ts
    → is_torn (f ∷ fs) (s ∷ map sign_of ts) ≡ false → has_lone_join (is_join s) (map sign_of ts) ≡ false
    → has_mixed_join (name ∷ ns) (s ∷ map sign_of ts) ≡ false
    → (f ≡ true → (b ≡ is_join s) × (before ≡ name)) → Formed b before (chosen fs (each_piece (is_join s) ts)) (chosen fs ns)
formed_from f s name b before (true ∷ fs) (t ∷ ts) (n ∷ ns) len wide torn lone mixed at =
    let signs = map sign_of ts in
    let tear = or_parts _ (is_torn (true ∷ fs) (sign_of t ∷ signs)) torn in
    let alone = or_parts _ (has_lone_join (is_join (sign_of t)) signs) lone in
    let mix = or_parts _ (has_mixed_join (n ∷ ns) (sign_of t ∷ signs)) mixed in (
      λ e. let well = begins_well (is_join (sign_of t)) (is_join s) (first_is is_join signs) alone.0 e in
          (well.0, next_chosen (sign_of t) fs ts (omega (arith, len)) well.0 well.1 tear.1),
      (
        λ e. let well = goes_well (is_join (sign_of t)) (is_join s) f true name n tear.0 mix.0 e in
            let left = at well.1.0 in (left.0 ∙ well.0, left.1 ∙ well.1.1),
        formed_from true (sign_of t) n (is_join (sign_of t)) n fs ts ns (omega (arith, len)) (omega (arith, wide)) tear.1 alone.1 mix.1
            (λ e. (refl, refl)),
      ),
    )
formed_from f s name b before (false ∷ fs) (t ∷ ts) (n ∷ ns) len wide torn lone mixed at =
    let signs = map sign_of ts in
    let tear = or_parts _ (is_torn (false ∷ fs) (sign_of t ∷ signs)) torn in
    let alone = or_parts _ (has_lone_join (is_join (sign_of t)) signs) lone in
    let mix = or_parts _ (has_mixed_join (n ∷ ns) (sign_of t ∷ signs)) mixed in
    formed_from false (sign_of t) n b before fs ts ns (omega (arith, len)) (omega (arith, wide)) tear.1 alone.1 mix.1
    (λ e. absurd (false≢true e))
formed_from f s name b before fs ts ns h k w e m q = grind (arith, nat_tests)

-- the same of the others, behind a chosen column
pub others_formed : (s : Sign) (name : List ℕ) (b : Bool) (before : List ℕ) (fs : List Bool) (ts ns : List (List ℕ))
    → length fs ≡ length ts → length ns ≡ length ts
    → is_torn (true ∷ fs) (s ∷ map sign_of ts) ≡ false → has_lone_join (is_join s) (map sign_of ts) ≡ false
    → has_mixed_join (name ∷ ns) (s ∷ map sign_of ts) ≡ false
    → Formed b before (others fs (each_piece (is_join s) ts)) (others fs ns)
others_formed s name b before fs ts ns len wide torn lone mixed =
    formed_from false s name b before (map not fs) ts ns (not_length fs ∙ len) wide (torn_not (true ∷ fs) (s ∷ map sign_of ts) ∙ torn) lone mixed
    (λ e. absurd (false≢true e))

pub mixed_start : (ns : List (List ℕ)) (ss : List Sign) → has_mixed_join ns ss ≡ false → has_mixed_join ([] ∷ ns) (Plain ∷ ss) ≡ false
mixed_start = grind (arith, nat_tests)

-- The chosen tokens are formed, where no join is torn, lone or mixed.
pub chosen_formed : (fs : List Bool) (ts ns : List (List ℕ)) → length fs ≡ length ts → length ns ≡ length ts
    → is_torn fs (map sign_of ts) ≡ false → has_lone_join false (map sign_of ts) ≡ false → has_mixed_join ns (map sign_of ts) ≡ false
    → Formed false [] (chosen fs (each_piece false ts)) (chosen fs ns)
chosen_formed fs ts ns len wide torn lone mixed =
    formed_from false Plain [] false [] fs ts ns len wide (torn_start false fs (map sign_of ts) torn) lone (mixed_start ns (map sign_of ts) mixed)
    (λ e. absurd (false≢true e))
