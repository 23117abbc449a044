-- Origins by going up, record by record.
use Rattle.std.proofs.lemmas.Grind.{common_steps}
use Rattle.std.proofs.Common.{◌≡◌, ◌∙◌, ℕ, zero, suc, ◌<◌, List, [], ◌∷◌, length, map, Some, slice_get, get_or, refl, sym, ap, arith}
use Rattle.std.proofs.lemmas.Bool.Decides.{nat_tests}
use Rattle.std.specs.List.{AllByRecursion}
use Rattle.std.proofs.lemmas.List.{length-map}
use Rattle.hum_score.specs.declared.records.Kind.TheVariants.{Interpretation as AnyInterpretation}
use Rattle.hum_score.specs.declared.records.SpinedKind.TheVariants.{Local, Interpretation, Values}
use Rattle.hum_score.specs.Row.{Row, Comment, Spined, kind_of}
use Rattle.hum_score.specs.declared.spines.Move.{Move}
use Rattle.hum_score.specs.Spines.{Path, Unopened, Spines, width, moves, moves_at, source, same_upto}
use Rattle.hum_score.specs.Score.{IsOpen, path_after}
use Rattle.hum_path.specs.Chains.{origin_of, origins}
use Rattle.hum_path.specs.Origins.{up, origin, AreOrigins}
use Rattle.hum_path.proofs.Plain.{sound_width}
use Rattle.hum_path.proofs.Steady.{same_upto_length, get-same_upto_first}
use Rattle.hum_path.proofs.Widths.{moves_width}
use Rattle.hum_path.proofs.Within.{moves_below}

-- Before the opening there is no way up.
unopened : (past : List Row) (j : ℕ) → path_after past ≡ Unopened → origin past j ≡ j
unopened (Comment text ∷ past) j e = unopened past j e
unopened (Spined Local tokens ∷ past) j e = unopened past j e
unopened (Spined Values tokens ∷ past) j e = unopened past j e
unopened past j h = grind (arith, nat_tests)

there : {X : Type 0} (xs : List X) (j : ℕ) → j < length xs → (x : X) × (slice_get xs j ≡ Some x)
there [] j h = absurd (omega (arith, h))
there (z ∷ zs) zero h = (z, refl)
there (z ∷ zs) (suc j) h = there zs j (omega (arith, h))

pub mapped : {X Y : Type 0} (f : X → Y) (xs : List X) (j : ℕ) (x : X) → slice_get xs j ≡ Some x → slice_get (map f xs) j ≡ Some (f x)
mapped f (z ∷ zs) (suc j) x e = mapped f zs j x e
mapped f xs j x h = grind (arith, nat_tests)

stands : (xs : List ℕ) (j d x : ℕ) → slice_get xs j ≡ Some x → get_or xs j d ≡ x
stands (z ∷ zs) (suc j) d x e = stands zs j d x e
stands xs j d x h = grind (arith, nat_tests)

holds : {X : Type 0} (P : X → Type 0) (xs : List X) (j : ℕ) (x : X) → AllByRecursion P xs → slice_get xs j ≡ Some x → P x
holds P (z ∷ zs) (suc j) x h e = holds P zs j x h.1 e
holds P xs j x h k = grind (arith, nat_tests)

empty : (os : List ℕ) → length os ≡ 0 → os ≡ []
empty = grind (arith, common_steps)

module _ (past : List Row) (tokens : List (List ℕ)) (each : List ℕ) (sound : IsOpen (Spined Interpretation tokens ∷ past))
    (h : AreOrigins past each) where
  -- what a spine's origin is by those before it
  goes_up : (j : ℕ) (move : Move) → slice_get (moves_at (path_after past) tokens) j ≡ Some move
      → origin_of each move ≡ origin past (source move)
  goes_up j move e = by_path (path_after past) refl
    where
      by_path : (path : Path) → path_after past ≡ path → origin_of each move ≡ origin past (source move)
      by_path Unopened at = grind (arith, nat_tests, empty, unopened)
      by_path (Spines names) at =
          let below = holds (λ m. source m < length tokens) (moves_at (path_after past) tokens) j move (moves_below (path_after past) tokens) e in
          let wide = sound_width names tokens (rw at at sound.1) ∙ sym (h.width ∙ ap width at) in
          stands each (source move) (source move) (origin past (source move)) (h.at (source move) (omega (arith, below, wide)))

  pub moved : AreOrigins (Spined Interpretation tokens ∷ past) (map (origin_of each) (moves_at (path_after past) tokens))
  moved = record { width = size ∙ moves_width (path_after past) tokens; at = at }
    where
      size : length (map (origin_of each) (moves_at (path_after past) tokens)) ≡ length (moves_at (path_after past) tokens)
      size = length-map (moves_at (path_after past) tokens) (origin_of each)

      at : (j : ℕ) → j < length (map (origin_of each) (moves_at (path_after past) tokens))
          → slice_get (map (origin_of each) (moves_at (path_after past) tokens)) j ≡ Some (origin (Spined Interpretation tokens ∷ past) j)
      at j below =
          let m = there (moves_at (path_after past) tokens) j (omega (arith, below, size)) in
          mapped (origin_of each) (moves_at (path_after past) tokens) j m.0 m.1
          ∙ ap Some (goes_up j m.0 m.1 ∙ ap (λ o. origin past (up o j)) (sym m.1))

-- Where each spine stays, so does its origin.
stays : (past : List Row) (tokens : List (List ℕ)) (each : List ℕ) → AreOrigins past each
    → moves_at (path_after past) tokens ≡ same_upto 0 (length each) → AreOrigins (Spined Interpretation tokens ∷ past) each
stays = grind (arith, nat_tests, same_upto_length, moves_width, slice_get, get-same_upto_first)

-- under a record that moves no spine
pub unmoved : (row : Row) (past : List Row) (each : List ℕ) (found : List Move)
    → (kind_of row ≡ AnyInterpretation → found ≡ same_upto 0 (length each))
    → AreOrigins past each → found ≡ moves (path_after past) row → AreOrigins (row ∷ past) each
unmoved (Comment text) past each found stay h told = record { width = h.width; at = h.at }
unmoved (Spined Local tokens) past each found stay h told = record { width = h.width; at = h.at }
unmoved (Spined Values tokens) past each found stay h told = record { width = h.width; at = h.at }
unmoved (Spined Interpretation tokens) past each found stay h told = stays past tokens each h (sym told ∙ stay refl)

-- under one that moves some
pub steered : (row : Row) (past : List Row) (each next : List ℕ) (found : List Move) → kind_of row ≡ AnyInterpretation
    → next ≡ map (origin_of each) found → AreOrigins past each → IsOpen (row ∷ past) → found ≡ moves (path_after past) row
    → AreOrigins (row ∷ past) next
steered = grind (arith, nat_tests, moved)

pub climbing : (past : List Row) → IsOpen past → AreOrigins past (origins past)
climbing [] h = record { width = refl; at = λ j below. absurd (omega (arith, below)) }
climbing (Comment text ∷ past) h = let up = climbing past h.0 in record { width = up.width; at = up.at }
climbing (Spined Interpretation tokens ∷ past) h = moved past tokens (origins past) h (climbing past h.0)
climbing (Spined Local tokens ∷ past) h = let up = climbing past h.0 in record { width = up.width; at = up.at }
climbing (Spined Values tokens ∷ past) h = let up = climbing past h.0 in record { width = up.width; at = up.at }

-- what stands at a place of the origins is the origin
pub at_place : (past : List Row) (each : List ℕ) (j k : ℕ) → j < length each → k ≡ get_or each j k → AreOrigins past each → k ≡ origin past j
at_place past each j k below is h = is ∙ stands each j k (origin past j) (h.at j below)
