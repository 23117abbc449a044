-- One record of pieces breaks no rule, where no join touches another.
use Rattle.std.proofs.Common.{◌≡◌, refl, ℕ, suc, ◌≤◌, Bool, true, false, not, ◌&&◌, ◌||◌}
use Rattle.std.proofs.Common.{List, [], ◌∷◌, length, arith, None}
use Rattle.std.specs.List.{find}
use Rattle.std.specs.Str.{bytes_eq}
use Rattle.std.proofs.lemmas.Bool.{and_parts, or_parts, or_from, false≢true}
use Rattle.std.proofs.lemmas.Bool.Decides.{nat_tests}
use Rattle.std.proofs.lemmas.List.{length-map}
use Rattle.std.proofs.lemmas.Slice.Eq.{bytes_eq-Decides}
use Rattle.hum_score.specs.declared.records.SpinedKind.TheVariants.{Interpretation}
use Rattle.hum_score.specs.declared.spines.Sign.{Sign}
use Rattle.hum_score.specs.declared.spines.Sign.TheVariants.{Plain}
use Rattle.hum_score.specs.Sign.{sign_of, is_join}
use Rattle.hum_score.specs.Spines.{Spines, exchanges, names_after}
use Rattle.hum_score.specs.Rules.{breaks, in_order, has_unnamed, has_bare, names_and_steers}
use Rattle.hum_score.specs.Rules.{has_lone_join, first_is, is_pair_or_none, has_mixed_join}
use Rattle.hum_score.specs.Score.{Lead}
use Rattle.hum_path.specs.Onward.{beginnings, onward, swapped, renamed_each}
use Rattle.hum_path.proofs.Onwards.{names_onward}
use Rattle.hum_columns.specs.Spread.{JoinedToken, joins, tokens_in, touches, filled}
use Rattle.hum_columns.proofs.Spreading.{marks, signs_in, next_goes_on, Formed, formed_length}

-- what pieces come to at once
abbrev pub come_to : List JoinedToken → List (List ℕ) → List (List ℕ)
come_to pieces names =
    onward (λ _. []) (marks pieces) (signs_in pieces) (swapped (signs_in pieces) (renamed_each names (tokens_in pieces)))

-- pieces that break no rule but that joins may touch
pub record Fits (pieces : List JoinedToken) (names : List (List ℕ)) : Type 0 where
  pub formed : Formed false [] pieces names
  pub unnamed : has_unnamed names (signs_in pieces) ≡ false
  pub bare : has_bare (tokens_in pieces) ≡ false
  pub steers : names_and_steers (signs_in pieces) ≡ false
  pub pair : is_pair_or_none (exchanges 0 (signs_in pieces)) ≡ true

pub pieces_size : (ps : List JoinedToken) → length (tokens_in ps) ≡ length ps
pieces_size ps = length-map ps (λ p. p.token)

-- Where no join touches another, each begins where its piece says.
not_after : (b m j : Bool) → (m ≡ true → j ≡ true) → ((j && not m) ≡ true → b ≡ true) → (b && m) ≡ false → (j && not b) ≡ m
not_after = grind (arith, nat_tests)

pub begins_marks : (b : Bool) (m : List ℕ) (ps : List JoinedToken) (ns : List (List ℕ)) → Formed b m ps ns → touches b ps ≡ false
    → beginnings b (signs_in ps) ≡ marks ps
begins_marks b m (p ∷ ps) (n ∷ ns) f t =
    let both = or_parts (b && p.begins) (touches (joins p) ps) t in
    let here = not_after b p.begins (joins p) (λ e. (f.0 e).0) (λ e. (f.1.0 e).0) both.0 in
    rw (here, begins_marks (joins p) n ps ns f.1.1 both.1) refl
begins_marks b m ps ns h k = grind (arith, nat_tests)

-- no join is lone
next_joins : (ps : List JoinedToken) → next_goes_on ps ≡ true → first_is is_join (signs_in ps) ≡ true
next_joins = grind (arith, nat_tests, and_parts)

beside : (b m j : Bool) (next : Bool) → (m ≡ true → next ≡ true) → ((j && not m) ≡ true → b ≡ true) → (j && not (b || next)) ≡ false
beside = grind (arith, nat_tests)

pub formed_lone : (b : Bool) (m : List ℕ) (ps : List JoinedToken) (ns : List (List ℕ)) → Formed b m ps ns → has_lone_join b (signs_in ps) ≡ false
formed_lone b m (p ∷ ps) (n ∷ ns) f =
    or_from (joins p && not (b || first_is is_join (signs_in ps))) (has_lone_join (joins p) (signs_in ps))
    (beside b p.begins (joins p) (first_is is_join (signs_in ps)) (λ e. next_joins ps (f.0 e).1) (λ e. (f.1.0 e).0))
    (formed_lone (joins p) n ps ns f.1.1)
formed_lone b m ps ns h = grind (arith, nat_tests)

-- no join is mixed
pub same_name : (m n : List ℕ) → m ≡ n → not (bytes_eq m n) ≡ false
same_name m n e = let same = (bytes_eq-Decides m n).1 e in rw same refl

unmixed : (b g j : Bool) (m n : List ℕ) → ((j && not g) ≡ true → (b ≡ true) × (m ≡ n)) → (b && g) ≡ false
    → (b && (j && not (bytes_eq m n))) ≡ false
unmixed = grind (arith, nat_tests, false≢true, same_name)

pub formed_mixed : (s : Sign) (m : List ℕ) (ps : List JoinedToken) (ns : List (List ℕ)) → Formed (is_join s) m ps ns
    → touches (is_join s) ps ≡ false → has_mixed_join (m ∷ ns) (s ∷ signs_in ps) ≡ false
formed_mixed s m (p ∷ ps) (n ∷ ns) f t =
    let both = or_parts (is_join s && p.begins) (touches (joins p) ps) t in
    or_from (is_join s && (joins p && not (bytes_eq m n))) (has_mixed_join (n ∷ ns) (signs_in (p ∷ ps)))
    (unmixed (is_join s) p.begins (joins p) m n f.1.0 both.0)
    (formed_mixed (sign_of p.token) n ps ns f.1.1 both.1)
formed_mixed s m ps ns h k = grind (arith, nat_tests)

-- nothing stands to the left of the first
mixed_first : (ps : List JoinedToken) (ns : List (List ℕ)) → Formed false [] ps ns → touches false ps ≡ false
    → has_mixed_join ns (signs_in ps) ≡ false
mixed_first [] [] f t = refl
mixed_first [] (n ∷ ns) f t = absurd f
mixed_first (p ∷ ps) [] f t = absurd f
mixed_first (p ∷ ps) (n ∷ ns) f t = formed_mixed Plain [] (p ∷ ps) (n ∷ ns) f t

-- One record, where no join touches another.
pub one_comes : (ps : List JoinedToken) (ns : List (List ℕ)) → Fits ps ns → touches false ps ≡ false
    → names_after (Spines ns) (tokens_in ps) ≡ come_to ps ns
one_comes = grind (arith, nat_tests, formed_length, pieces_size, names_onward, signs_in, begins_marks)

pub one_sound : (ps : List JoinedToken) (ns : List (List ℕ)) (k : ℕ) → length ps ≡ suc k → Fits ps ns → touches false ps ≡ false
    → length (come_to ps ns) ≤ 4096
    → find (breaks (Spines ns) (tokens_in ps)) in_order ≡ None
one_sound = grind (arith, nat_tests, length-map, pieces_size, formed_length, one_comes, formed_lone, mixed_first)

-- one record more
pub one_more : (names tokens end : List (List ℕ)) (rows : List (List (List ℕ))) (k : ℕ) → length tokens ≡ suc k
    → find (breaks (Spines names) tokens) in_order ≡ None
    → Lead (names_after (Spines names) tokens) (filled Interpretation rows) end → Lead names (filled Interpretation (tokens ∷ rows)) end
one_more names [] end rows k some sound more = absurd (omega (arith, some))
one_more names (t ∷ ts) end rows k some sound more = (sound, more)

pub one_leads : (ps : List JoinedToken) (ns : List (List ℕ)) → Fits ps ns → touches false ps ≡ false → length (come_to ps ns) ≤ 4096
    → Lead ns (filled Interpretation (tokens_in ps ∷ [])) (come_to ps ns)
one_leads [] [] fits t few = refl
one_leads [] (n ∷ ns) fits t few = absurd fits.formed
one_leads (p ∷ ps) ns fits t few =
    one_more ns (tokens_in (p ∷ ps)) (come_to (p ∷ ps) ns) [] (length ps) (pieces_size (p ∷ ps))
    (one_sound (p ∷ ps) ns (length ps) refl fits t few) (one_comes (p ∷ ps) ns fits t)
