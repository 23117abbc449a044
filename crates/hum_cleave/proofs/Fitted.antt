-- What is written of lawful tokens is lawful, and no longer than they are.
use Rattle.std.proofs.lemmas.Grind.{common_steps}
use Rattle.std.proofs.Common.{◌≡◌, ◌≢◌, refl, ap, ℕ, ◌+◌, ◌≤◌, Bool, true, false, not, cond}
use Rattle.std.proofs.Common.{List, [], ◌∷◌, ◌++◌, length, map, arith, rules}
use Rattle.std.specs.Prelude.{◌==◌, Ok}
use Rattle.std.proofs.lemmas.Bool.Decides.{nat_tests}
use Rattle.std.specs.List.{list_any, AllByRecursion}
use Rattle.std.proofs.lemmas.Bool.{or_parts}
use lib.Chars.{codes}
use Rattle.hum_score.specs.declared.records.SpinedKind.{SpinedKind}
use Rattle.hum_score.specs.declared.records.SpinedKind.TheVariants.{Interpretation, Values}
use Rattle.hum_score.specs.Row.{Row, Spined, tokens_of, text_of, chosen}
use Rattle.hum_score.specs.Spelling.{IsToken, IsTokenOf, IsTextOf, has_byte, is_comment, kind_of_token}
use Rattle.hum_record.specs.Building.{spelled}
use Rattle.hum_score.specs.Sign.{sign_of, is_join}
use Rattle.hum_path.specs.Onward.{beginnings}
use Rattle.hum_columns.specs.Spread.{piece, tokens_in}
use Rattle.hum_columns.specs.Writing.{Fit}
use Rattle.hum_columns.proofs.Spreading.{marks}
use Rattle.hum_columns.proofs.Weights.{weight, no_longer}
use Rattle.hum_columns.proofs.OneByOne.{Lawful, null_lawful}
use Rattle.hum_columns.specs.Chosen.{others}
use Rattle.hum_cleave.specs.Columns.{together}
use Rattle.hum_cleave.specs.Tokens.{leftmost, is_silent, interpretation_of, taken, following, data_of}
use Rattle.hum_columns.specs.Chosen.{each_piece}
use Rattle.hum_choices.specs.Cleave.{fits_in_token, is_name}
use Rattle.hum_cleave.specs.Cleave.{pieces, text_told}
use Rattle.hum_columns.specs.Following.{AsWide, is_interpretation}
use Rattle.hum_columns.proofs.ChosenLists.{chosen_map, chosen_all}
use Rattle.hum_columns.proofs.ChosenJoins.{each_tokens, each_marks}
use Rattle.hum_cleave.proofs.Placewise.{together_none}

-- of each token

pub together_map : {X Y : Type 0} (f : X → Y) (one : X) (fs : List Bool) (xs : List X)
    → map f (together one fs xs) ≡ together (f one) fs (map f xs)
together_map {X} {Y} f one (true ∷ fs) (x ∷ xs) = ap (λ (ys : List Y). f one ∷ ys) (chosen_map f (map not fs) xs)
together_map {X} {Y} f one (false ∷ fs) (x ∷ xs) = ap (λ (ys : List Y). f x ∷ ys) (together_map f one fs xs)
together_map f one fs xs = grind (arith, nat_tests)

pub pieces_tokens : (fs : List Bool) (ts : List (List ℕ)) → tokens_in (pieces fs ts) ≡ together (interpretation_of (chosen fs ts)) fs ts
pieces_tokens = grind (arith, nat_tests, together_map, each_tokens)

pub pieces_marks : (fs : List Bool) (ts : List (List ℕ)) → marks (pieces fs ts) ≡ together false fs (beginnings false (map sign_of ts))
pieces_marks = grind (arith, nat_tests, together_map, each_marks)

-- lawful tokens

leftmost_is : (P : List ℕ → Type 0) (test : List ℕ → Bool) (other : List ℕ) (ts : List (List ℕ)) → P other → AllByRecursion P ts
    → P (leftmost test other ts)
leftmost_is P test other [] o h = o
leftmost_is P test other (t ∷ ts) o h = grind (arith, nat_tests, leftmost_is P test other ts o h.1)

pub lawful_tokens : (kind : SpinedKind) (row : Row) → row ≡ Spined kind (tokens_of row) → IsTextOf row (text_of row)
    → AllByRecursion (IsToken kind) (tokens_of row) × (length (spelled (tokens_of row)) ≤ 1048576)
lawful_tokens = grind (arith, nat_tests)

pub token_lawful : (kind : SpinedKind) (row : Row) (token : List ℕ) → row ≡ Spined kind (tokens_of row) → IsTokenOf row token → IsToken kind token
token_lawful = grind (arith, nat_tests)

-- data

no_byte : (b : ℕ) (xs ys : List ℕ) → has_byte b xs ≡ false → has_byte b ys ≡ false → has_byte b (xs ++ ys) ≡ false
no_byte = grind (arith, common_steps)

none_following : (b : ℕ) (text : List ℕ) (ts : List (List ℕ)) → has_byte b text ≡ false
    → AllByRecursion (λ t. has_byte b t ≡ false) ts → has_byte b (following text ts) ≡ false
none_following b text [] h all = refl
none_following b text (t ∷ ts) h all = grind (arith, common_steps, none_following b text ts h all.1)

taken_all : (P : List ℕ → Type 0) (before ts : List (List ℕ)) → AllByRecursion P ts → AllByRecursion P (taken before ts)
taken_all P before [] h = tt
taken_all P before (t ∷ ts) h = grind (arith, nat_tests, taken_all P (before ++ t ∷ []) ts h.1)

all_map : (P Q : List ℕ → Type 0) (ts : List (List ℕ)) → ((t : List ℕ) → P t → Q t) → AllByRecursion P ts → AllByRecursion Q ts
all_map P Q [] f h = tt
all_map P Q (t ∷ ts) f h = (f t h.0, all_map P Q ts f h.1)

no_exclamation : (b : ℕ) (bs rest : List ℕ) → kind_of_token (b ∷ bs) ≡ Values → is_comment ((b ∷ bs) ++ rest) ≡ false
no_exclamation = grind (arith, nat_tests)

begun : (token rest : List ℕ) → IsToken Values token → has_byte 9 rest ≡ false → has_byte 13 rest ≡ false → has_byte 10 rest ≡ false
    → IsToken Values (token ++ rest)
begun = grind (arith, nat_tests, no_byte, no_exclamation)

null_data : IsToken Values (codes ".")
null_data = record { filled = λ e. cc; one_token = refl; one_line = refl; no_line_end = refl; of_kind = refl; no_comment = refl }

pub data_lawful : (text : List ℕ) (ts : List (List ℕ)) → fits_in_token text ≡ true → AllByRecursion (IsToken Values) ts
    → IsToken Values (data_of text ts)
data_lawful = grind (arith, nat_tests, taken_all, null_data, or_parts, begun, none_following, all_map)

-- interpretations

others_lawful : (b : Bool) (fs : List Bool) (ts : List (List ℕ)) → AllByRecursion (IsToken Interpretation) ts
    → Lawful (others fs (each_piece b ts))
others_lawful b (true ∷ fs) (t ∷ ts) h = others_lawful (is_join (sign_of t)) fs ts h.1
others_lawful b (false ∷ fs) (t ∷ ts) h = (h.0, others_lawful (is_join (sign_of t)) fs ts h.1)
others_lawful b fs ts h = grind (arith, nat_tests)

together_lawful : (b : Bool) (one : List ℕ) (fs : List Bool) (ts : List (List ℕ)) → IsToken Interpretation one
    → AllByRecursion (IsToken Interpretation) ts → Lawful (together (piece false one) fs (each_piece b ts))
together_lawful b one (true ∷ fs) (t ∷ ts) o h = (o, others_lawful (is_join (sign_of t)) fs ts h.1)
together_lawful b one (false ∷ fs) (t ∷ ts) o h = (h.0, together_lawful (is_join (sign_of t)) one fs ts o h.1)
together_lawful b one fs ts h k = grind (arith, nat_tests)

either_weight : (b : Bool) (one t : List ℕ) (ts : List (List ℕ)) → length one + 1 ≤ length t + 1 + weight ts
    → length (cond b one t) + 1 ≤ length t + 1 + weight ts
either_weight = grind (arith, nat_tests)

leftmost_weight : (test : List ℕ → Bool) (other t : List ℕ) (ts : List (List ℕ)) → length other ≤ 1
    → AllByRecursion (IsToken Interpretation) (t ∷ ts) → length (leftmost test other (t ∷ ts)) + 1 ≤ weight (t ∷ ts)
leftmost_weight test other t [] short h = grind (arith, nat_tests)
leftmost_weight test other t (u ∷ us) short h =
    let ih = leftmost_weight test other u us short h.1 in
    either_weight (test t) (leftmost test other (u ∷ us)) t (u ∷ us) (omega (arith, ih))

others_weight : (fs : List Bool) (ts : List (List ℕ)) → weight (others fs ts) + weight (chosen fs ts) ≤ weight ts
others_weight (true ∷ fs) (t ∷ ts) = let ih = others_weight fs ts in omega (arith, ih)
others_weight (false ∷ fs) (t ∷ ts) = let ih = others_weight fs ts in omega (arith, ih)
others_weight fs ts = grind (arith, nat_tests)

together_weight : (one : List ℕ) (fs : List Bool) (ts : List (List ℕ))
    → (1 ≤ length (chosen fs ts) → length one + 1 ≤ weight (chosen fs ts)) → weight (together one fs ts) ≤ weight ts
together_weight one (false ∷ fs) (t ∷ ts) h = let ih = together_weight one fs ts h in omega (arith, ih)
together_weight one fs ts h = grind (arith, nat_tests, others_weight)

one_weight : (ts : List (List ℕ)) → AllByRecursion (IsToken Interpretation) ts → 1 ≤ length ts → length (interpretation_of ts) + 1 ≤ weight ts
one_weight [] h some = absurd (omega (arith, some))
one_weight (t ∷ ts) h some = leftmost_weight is_silent (codes "*") t ts (omega arith) h

pub pieces_fit : (fs : List Bool) (row : Row) → row ≡ Spined Interpretation (tokens_of row) → IsTextOf row (text_of row)
    → Fit (pieces fs (tokens_of row))
pieces_fit fs row e h =
    let all = lawful_tokens Interpretation row e h in
    let inside = chosen_all (IsToken Interpretation) fs (tokens_of row) all.0 in
    let one = interpretation_of (chosen fs (tokens_of row)) in
    let light = together_weight one fs (tokens_of row) (one_weight (chosen fs (tokens_of row)) inside) in
    let less = no_longer (together one fs (tokens_of row)) (tokens_of row) light in
    let most = all.1 in
    let same = ap (λ (us : List (List ℕ)). length (spelled us)) (pieces_tokens fs (tokens_of row)) in
    record {
      lawful = together_lawful false one fs (tokens_of row) (leftmost_is (IsToken Interpretation) is_silent (codes "*") _ null_lawful inside) all.0;
      at_most = omega (arith, same, less, most);
    }

-- a record in which no column is cleaved stays
pub stays : (text : List ℕ) (fs : List Bool) (row : Row) → list_any (λ b. b) fs ≡ false → AsWide fs row → IsTextOf row (text_of row)
    → is_interpretation row ≡ false → text_told text fs row ≡ Ok (row ∷ [])
stays = grind (arith, nat_tests, together_none)

pub some_tokens : (kind : SpinedKind) (row : Row) → row ≡ Spined kind (tokens_of row) → IsTextOf row (text_of row) → tokens_of row ≢ []
some_tokens = grind (arith, nat_tests)

pub no_bytes : (xs : List ℕ) → (length xs == 0) ≡ true → xs ≡ []
no_bytes = grind (arith, common_steps)

pub some_bytes : (xs : List ℕ) → (length xs == 0) ≡ false → xs ≢ []
some_bytes = grind (arith, nat_tests)

pub chosen_lawful : (fs : List Bool) (ts : List (List ℕ)) → AllByRecursion (IsToken Values) ts → AllByRecursion (IsToken Values) (chosen fs ts)
chosen_lawful = chosen_all (IsToken Values)

-- a name can stand in an interpretation
pub name_token : (name : List ℕ) → is_name name ≡ true → IsToken Interpretation name
name_token name h = search rules
