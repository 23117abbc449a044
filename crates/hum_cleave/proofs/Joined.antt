-- Joins that aren't torn stay joins beside the one column.
use Rattle.std.proofs.lemmas.Bool.Decides.{nat_tests}
use Rattle.std.proofs.Common.{◌≡◌, ◌∙◌, refl, sym, ℕ, Bool, true, false, List, [], ◌∷◌, length, map, arith}
use Rattle.std.proofs.lemmas.Bool.{or_parts, false≢true}
use Rattle.hum_score.specs.declared.spines.Sign.{Sign}
use Rattle.hum_score.specs.declared.spines.Sign.TheVariants.{Plain}
use Rattle.hum_score.specs.Sign.{sign_of, is_join}
use Rattle.hum_score.specs.Rules.{first_is, has_lone_join, has_mixed_join}
use Rattle.hum_columns.specs.Spread.{piece}
use Rattle.hum_columns.proofs.Spreading.{next_goes_on, Formed}
use Rattle.hum_columns.proofs.TornJoins.{torn_start}
use Rattle.hum_columns.proofs.ChosenJoins.{begins_well, goes_well, others_formed, mixed_start}
use Rattle.hum_cleave.specs.Columns.{together}
use Rattle.hum_columns.specs.Chosen.{is_torn, each_piece}

next_together : (one : List ℕ) (s : Sign) (fs : List Bool) (ts : List (List ℕ)) → length fs ≡ length ts → is_join s ≡ true
    → first_is is_join (map sign_of ts) ≡ true
    → is_torn (false ∷ fs) (s ∷ map sign_of ts) ≡ false → next_goes_on (together (piece false one) fs (each_piece (is_join s) ts)) ≡ true
next_together one s fs [] len join first torn = absurd (false≢true first)
next_together one s [] (t ∷ ts) len join first torn = absurd (omega (arith, len))
next_together one s (g ∷ fs) (t ∷ ts) len join first torn = grind (arith, nat_tests)

together_formed : (one new_name : List ℕ) → is_join (sign_of one) ≡ false → (f : Bool) (s : Sign) (name : List ℕ) (b : Bool) (before : List ℕ)
    (fs : List Bool) (ts ns : List (List ℕ))
    → length fs ≡ length ts → length ns ≡ length ts
    → is_torn (f ∷ fs) (s ∷ map sign_of ts) ≡ false → has_lone_join (is_join s) (map sign_of ts) ≡ false
    → has_mixed_join (name ∷ ns) (s ∷ map sign_of ts) ≡ false
    → (f ≡ false → (b ≡ is_join s) × (before ≡ name))
    → Formed b before (together (piece false one) fs (each_piece (is_join s) ts)) (together new_name fs ns)
together_formed one new_name o f s name b before [] [] ns len wide torn lone mixed at = tt
together_formed one new_name o f s name b before (false ∷ fs) (t ∷ ts) (n ∷ ns) len wide torn lone mixed at =
    let signs = map sign_of ts in
    let tear = or_parts _ (is_torn (false ∷ fs) (sign_of t ∷ signs)) torn in
    let alone = or_parts _ (has_lone_join (is_join (sign_of t)) signs) lone in
    let mix = or_parts _ (has_mixed_join (n ∷ ns) (sign_of t ∷ signs)) mixed in (
      λ e. let well = begins_well (is_join (sign_of t)) (is_join s) (first_is is_join signs) alone.0 e in
          (well.0, next_together one (sign_of t) fs ts (omega (arith, len)) well.0 well.1 tear.1),
      (
        λ e. let well = goes_well (is_join (sign_of t)) (is_join s) f false name n tear.0 mix.0 e in
            let left = at well.1.0 in (left.0 ∙ well.0, left.1 ∙ well.1.1),
        together_formed one new_name o false (sign_of t) n (is_join (sign_of t)) n fs ts ns (omega (arith, len)) (omega (arith, wide)) tear.1
            alone.1 mix.1
            (λ e. (refl, refl)),
      ),
    )
together_formed one new_name o f s name b before (true ∷ fs) (t ∷ ts) (n ∷ ns) len wide torn lone mixed at =
    grind (arith, nat_tests, or_parts, false≢true, others_formed)
together_formed one new_name o f s name b before fs ts ns len wide torn lone mixed at = absurd (omega (arith, len, wide))

-- The tokens are formed, where no join is torn, lone or mixed.
pub pieces_formed : (one new_name : List ℕ) (fs : List Bool) (ts ns : List (List ℕ)) → is_join (sign_of one) ≡ false
    → length fs ≡ length ts → length ns ≡ length ts
    → is_torn fs (map sign_of ts) ≡ false → has_lone_join false (map sign_of ts) ≡ false → has_mixed_join ns (map sign_of ts) ≡ false
    → Formed false [] (together (piece false one) fs (each_piece false ts)) (together new_name fs ns)
pieces_formed one new_name fs ts ns o len wide torn lone mixed =
    together_formed one new_name o true Plain [] false [] fs ts ns len wide (torn_start true fs (map sign_of ts) torn) lone
    (mixed_start ns (map sign_of ts) mixed)
    (λ e. absurd (false≢true (sym e)))
