-- A record that asks nothing of the spines leaves them as they are, and is refused as a text is.
use Rattle.std.proofs.lemmas.Grind.{common_steps}
use Rattle.std.proofs.Common.{◌≡◌, ◌≢◌, refl, ℕ, ◌+◌, ◌≤◌, Bool}
use Rattle.std.proofs.Common.{true, false, List, [], ◌∷◌, length, map, None}
use Rattle.std.proofs.Common.{Ok, arith}
use Rattle.std.specs.List.{list_any, list_all, find}
use Rattle.std.specs.Str.{bytes_eq}
use Rattle.std.proofs.lemmas.Bool.{cases_Bool, not-false}
use Rattle.std.proofs.lemmas.Slice.Eq.{bytes_eq-Decides}
use Rattle.std.proofs.lemmas.Bool.Decides.{nat_tests}
use Rattle.std.proofs.lemmas.List.{length-map}
use lib.Chars.{codes}
use Rattle.std.specs.declared.vec.Vec.{Vec}
use Rattle.std.specs.declared.alloc.Global.{Global}
use Rattle.hum_score.specs.declared.records.Kind.TheVariants.{Global as AnyGlobal}
use Rattle.hum_score.specs.declared.records.Kind.TheVariants.{Interpretation as AnyInterpretation}
use Rattle.hum_score.specs.declared.records.SpinedKind.TheVariants.{Local, Interpretation, Values}
use Rattle.hum_score.specs.declared.records.SpinedKind.{SpinedKind}
use Rattle.hum_score.specs.Spelling.{is_empty, IsTextOf}
use Rattle.hum_score.specs.Row.{Row, Comment, Spined, kind_of, tokens_of, text_of}
use Rattle.hum_score.specs.declared.spines.Sign.{Sign}
use Rattle.hum_score.specs.Sign.{sign_of, is_exclusive, is_plain, all_plain, steers}
use Rattle.hum_score.specs.Spines.{Path, Unopened, Spines, width, exchanges, moves}
use Rattle.hum_score.specs.Spines.{same_upto, after, exclusives}
use Rattle.hum_path.specs.Tracked.{path_in}
use Rattle.hum_score.specs.Texts.{texts}
use Rattle.hum_score.specs.Rules.{breaks, breaks_as_text, in_order, fault_of, has_bare, has_unnamed}
use Rattle.hum_score.specs.Rules.{has_lone_join, has_mixed_join}
use Rattle.hum_path.specs.Step.{ComeFrom, IsStay, IsTidy}
use Rattle.hum_path.proofs.Plain.{sound_width, plain_moves, plain_stays}
use Rattle.hum_path.proofs.Steady.{same_upto_length}
use Rattle.hum_path.proofs.Widths.{text_width}
use Rattle.hum_path.proofs.Within.{same_below}

-- signs that ask nothing break no rule of path indicators

plain_exchanges : (j : ℕ) (signs : List Sign) → list_all is_plain signs ≡ true → exchanges j signs ≡ []
plain_exchanges j [] h = refl
plain_exchanges j (s ∷ signs) h = grind (arith, nat_tests, plain_exchanges (j + 1) signs)

plain_lone : (signs : List Sign) → list_all is_plain signs ≡ true → has_lone_join false signs ≡ false
plain_lone [] h = refl
plain_lone (s ∷ signs) h = grind (arith, nat_tests, plain_lone signs)

plain_exclusive : (signs : List Sign) → list_all is_plain signs ≡ true → list_any is_exclusive signs ≡ false
plain_exclusive [] h = refl
plain_exclusive (s ∷ signs) h = grind (arith, nat_tests, plain_exclusive signs)

plain_mixed : (names : List (List ℕ)) (signs : List Sign) → list_all is_plain signs ≡ true
    → has_mixed_join names signs ≡ false
plain_mixed (name ∷ names) (sign ∷ signs) h = grind (arith, nat_tests, plain_mixed names signs)
plain_mixed names signs h = grind (arith, nat_tests)

-- none gets a name, so each that waits goes on waiting
plain_unnamed : (names : List (List ℕ)) (signs : List Sign) → list_all is_plain signs ≡ true
    → length signs ≡ length names → has_unnamed names signs ≡ list_any is_empty names
plain_unnamed (name ∷ names) (s ∷ signs) h e = grind (arith, nat_tests, plain_unnamed names signs)
plain_unnamed names signs h e = grind (arith, nat_tests)

pub bare_exclusive : (t : List ℕ) → is_exclusive (sign_of t) ≡ false → bytes_eq (codes "**") t ≡ false
bare_exclusive = grind (arith, nat_tests, bytes_eq-Decides)

plain_bare : (tokens : List (List ℕ)) → all_plain tokens ≡ true → has_bare tokens ≡ false
plain_bare [] h = refl
plain_bare (t ∷ ts) h = grind (arith, nat_tests, plain_bare ts, bare_exclusive)

-- as wide as the spines, an interpretation that asks nothing breaks a rule just where a text does
plain_as_wide : (names tokens : List (List ℕ)) → all_plain tokens ≡ true → length names ≤ 4096
    → length tokens ≡ length names
    → find (breaks (Spines names) tokens) in_order ≡ find (breaks_as_text (Spines names) tokens) in_order
plain_as_wide names tokens h few e =
    let signs = map sign_of tokens in
    let lone = plain_lone signs h in
    let places = plain_exchanges 0 signs h in
    let named = plain_exclusive signs h in
    let mixed = plain_mixed names signs h in
    let bare = plain_bare tokens h in
    grind (arith, nat_tests, plain_unnamed, plain_moves, same_upto_length, length-map, lone, places, named, mixed, bare)

-- an interpretation that asks nothing breaks a rule just where a text does
pub plain_breaks : (path : Path) (tokens : List (List ℕ)) → all_plain tokens ≡ true → tokens ≢ []
    → width path ≤ 4096 → find (breaks path tokens) in_order ≡ find (breaks_as_text path tokens) in_order
plain_breaks Unopened [] h filled few = absurd (filled refl)
plain_breaks Unopened (t ∷ ts) h filled few = grind (arith, nat_tests)
plain_breaks (Spines names) tokens h filled few = grind (arith, nat_tests, cases_Bool, plain_as_wide)

pub plain_after : (path : Path) (tokens : List (List ℕ)) → all_plain tokens ≡ true → tokens ≢ []
    → find (breaks path tokens) in_order ≡ None
    → (after path (Spined Interpretation tokens) ≡ path) × (moves path (Spined Interpretation tokens) ≡ same_upto 0 (width path)) × (length tokens ≡ width path)
plain_after Unopened [] h filled sound = absurd (filled refl)
plain_after Unopened (t ∷ ts) h filled sound = grind (arith, nat_tests)
plain_after (Spines names) tokens h filled sound = grind (arith, nat_tests, sound_width, length-map, plain_stays, plain_moves)

-- where no rule is broken
pub record Stays (path : Path) (row : Row) : Type 0 where
  pub sound : fault_of path row ≡ None
  pub path_stays : after path row ≡ path
  pub all_stay : moves path row ≡ same_upto 0 (width path)
  pub sources : ComeFrom row (same_upto 0 (width path))

text_stays : (kind : SpinedKind) (path : Path) (tokens : List (List ℕ))
    → fault_of path (Spined kind tokens) ≡ None → length tokens ≡ width path
    → (after path (Spined kind tokens) ≡ path) → (moves path (Spined kind tokens) ≡ same_upto 0 (width path))
    → Stays path (Spined kind tokens)
text_stays = grind (arith, nat_tests, same_below)

-- the first rule that a record of tokens breaks, as a text; and if there is none, nothing changes
pub quiet_stays : (path : Path) (row : Row) → steers row ≡ false → (kind_of row ≡ AnyGlobal → ⊥)
    → IsTextOf row (text_of row) → width path ≤ 4096
    → (fault_of path row ≡ find (breaks_as_text path (tokens_of row)) in_order) × (fault_of path row ≡ None → Stays path row)
quiet_stays path (Comment text) quiet spined lawful few = absurd (spined refl)
quiet_stays path (Spined Local tokens) quiet spined lawful few =
    (refl, λ sound. text_stays Local path tokens sound (text_width path tokens sound) refl refl)
quiet_stays path (Spined Values tokens) quiet spined lawful few =
    (refl, λ sound. text_stays Values path tokens sound (text_width path tokens sound) refl refl)
quiet_stays path (Spined Interpretation tokens) quiet spined lawful few =
    let plain = not-false (all_plain tokens) quiet in (
      plain_breaks path tokens plain lawful.1 few,
      λ sound. let p =
          plain_after path tokens plain lawful.1 sound in text_stays Interpretation path tokens sound p.2 p.0 p.1,
    )

-- A record that is no interpretation and breaks no rule leaves the spines as they are.
pub unsteered : (path : Path) (row : Row) → (kind_of row ≡ AnyInterpretation → ⊥) → fault_of path row ≡ None
    → IsStay path row (Ok (same_upto 0 (width path)))
unsteered = grind (arith, nat_tests, text_stays, text_width)

-- the fields show the names
pub names_in : (opened waits : Bool) (names : List (Vec ℕ Global)) → IsTidy opened waits names
    → exclusives (path_in opened (texts names)) ≡ texts names
names_in = grind (arith, nat_tests)

-- the fields show the width
pub width_in : (opened waits : Bool) (names : List (Vec ℕ Global)) → IsTidy opened waits names
    → width (path_in opened (texts names)) ≡ length names
width_in = grind (arith, common_steps)
