-- Pieces that are written one join after another.
use Rattle.std.proofs.lemmas.Grind.{common_steps}
use Rattle.std.proofs.lemmas.Bool.Decides.{nat_tests}
use Rattle.std.proofs.Common.{◌≡◌, ◌≢◌, ◌∙◌, refl, sym, ap, ℕ, zero, suc, ◌+◌, ◌-◌, ◌<◌, ◌≤◌, Bool, true, false, subst}
use Rattle.std.proofs.Common.{List, [], ◌∷◌, ◌++◌, length, drop, get_or, arith, add-one, append_assoc, drop-cons, inl, inr, ◌&&◌, ◌||◌, ◌==◌}
use Rattle.std.specs.List.{AllByRecursion}
use Rattle.std.proofs.lemmas.Bool.{cases_Bool}
use Rattle.std.proofs.lemmas.List.{drop_all, drop-drop}
use lib.Chars.{codes}
use Rattle.hum_record.specs.declared.TheConstants.{MOST_BYTES}
use Rattle.hum_score.specs.declared.records.SpinedKind.{SpinedKind}
use Rattle.hum_score.specs.declared.records.SpinedKind.TheVariants.{Interpretation}
use Rattle.hum_score.specs.Row.{Row, Spined}
use Rattle.hum_score.specs.Spelling.{IsToken}
use Rattle.hum_record.specs.Building.{Draft, spelled}
use Rattle.hum_record.specs.Nulls.{nulls}
use Rattle.hum_record.proofs.Drafts.{spelled_front}
use Rattle.hum_columns.specs.declared.writing.Phase.{Phase}
use Rattle.hum_columns.specs.declared.writing.Phase.TheVariants.{Before, Inside, After}
use Rattle.hum_columns.specs.Spread.{JoinedToken, piece, joins, goes_on, tokens_in, touches, joins_in, first_alone, join_alone}
use Rattle.hum_columns.specs.Spread.{first_done, join_done, one_by_one, before_last, spread, filled}
use Rattle.hum_columns.specs.Writing.{Fit, draft, behind, null_each, alone_from, next_phase, shown}
use Rattle.hum_columns.proofs.Weights.{weight, no_longer}

abbrev pub Lawful : List JoinedToken → Type 0
Lawful = AllByRecursion (λ p. IsToken Interpretation p.token)

pub null_lawful : IsToken Interpretation (codes "*")
null_lawful = grind (arith, nat_tests)

filled_length : (token : List ℕ) → token ≢ [] → 1 ≤ length token
filled_length = grind (arith, common_steps)

-- one piece more of a join alone
pub alone_step : (phase : Phase) (p : JoinedToken) (ps : List JoinedToken)
    → alone_from phase (p ∷ ps) ≡ shown (next_phase phase p) p ∷ alone_from (next_phase phase p) ps
alone_step Before p ps = grind (arith, nat_tests)
alone_step Inside p ps = grind (arith, nat_tests, cases_Bool (goes_on p))
alone_step After p ps = refl

-- the pieces in front
pub tokens_behind : (front : List (List ℕ)) (ps : List JoinedToken) → tokens_in (behind front ps) ≡ front ++ tokens_in ps
tokens_behind [] ps = refl
tokens_behind (t ∷ front) ps = ap (λ rest. t ∷ rest) (tokens_behind front ps)

pub done_behind : (front : List (List ℕ)) (ps : List JoinedToken) → first_done (behind front ps) ≡ behind front (first_done ps)
done_behind [] ps = refl
done_behind (t ∷ front) ps = ap (λ rest. piece false t ∷ rest) (done_behind front ps)

pub alone_behind : (front : List (List ℕ)) (ps : List JoinedToken) → first_alone (behind front ps) ≡ nulls Interpretation (length front) ++ first_alone ps
alone_behind [] ps = refl
alone_behind (t ∷ front) ps = ap (λ rest. codes "*" ∷ rest) (alone_behind front ps)

pub behind_push : (front : List (List ℕ)) (t : List ℕ) (ps : List JoinedToken) → behind (front ++ t ∷ []) ps ≡ behind front (piece false t ∷ ps)
behind_push = grind (arith, common_steps)

pub lawful_behind : (front : List (List ℕ)) (ps : List JoinedToken) → Lawful (behind front ps) → Lawful ps
lawful_behind [] ps h = h
lawful_behind (t ∷ front) ps h = lawful_behind front ps h.1

-- what becomes of pieces is lawful, and no longer
null_weight : (ps : List JoinedToken) → Lawful ps → weight (null_each ps) ≤ weight (tokens_in ps)
null_weight [] h = omega arith
null_weight (p ∷ ps) h = let ih = null_weight ps h.1 in let one = filled_length p.token h.0.filled in omega (arith, ih, one)

join_alone_weight : (ps : List JoinedToken) → Lawful ps → weight (join_alone ps) ≤ weight (tokens_in ps)
join_alone_weight [] h = omega arith
join_alone_weight (p ∷ ps) h = elim (cases_Bool (goes_on p)) as (λ _. weight (join_alone (p ∷ ps)) ≤ weight (tokens_in (p ∷ ps))) [
  | inl w ↦ rw w (let ih = join_alone_weight ps h.1 in omega (arith, ih))
  | inr w ↦ rw w (null_weight (p ∷ ps) h)
]

pub alone_weight : (ps : List JoinedToken) → Lawful ps → weight (first_alone ps) ≤ weight (tokens_in ps)
alone_weight [] h = omega arith
alone_weight (p ∷ ps) h =
    grind (arith, nat_tests, alone_weight ps h.1, cases_Bool, weight, join_alone_weight, filled_length)

join_done_weight : (ps : List JoinedToken) → weight (tokens_in (join_done ps)) ≤ weight (tokens_in ps)
join_done_weight [] = omega arith
join_done_weight (p ∷ ps) = elim (cases_Bool (goes_on p)) as (λ _. weight (tokens_in (join_done (p ∷ ps))) ≤ weight (tokens_in (p ∷ ps))) [
  | inl w ↦ rw w (let ih = join_done_weight ps in omega (arith, ih))
  | inr w ↦ rw w (omega arith)
]

done_weight : (ps : List JoinedToken) → Lawful ps → weight (tokens_in (first_done ps)) ≤ weight (tokens_in ps)
done_weight [] h = omega arith
done_weight (p ∷ ps) h =
    grind (arith, nat_tests, done_weight ps h.1, cases_Bool, weight, join_done_weight, filled_length)

join_done_lawful : (ps : List JoinedToken) → Lawful ps → Lawful (join_done ps)
join_done_lawful [] h = tt
join_done_lawful (p ∷ ps) h = grind (arith, nat_tests, join_done_lawful ps h.1, cases_Bool (goes_on p))

done_lawful : (ps : List JoinedToken) → Lawful ps → Lawful (first_done ps)
done_lawful [] h = tt
done_lawful (p ∷ ps) h =
    grind (arith, nat_tests, done_lawful ps h.1, cases_Bool, null_lawful, join_done_lawful)

pub done_fit : (ps : List JoinedToken) → Fit ps → Fit (first_done ps)
done_fit = grind (arith, nat_tests, done_lawful, no_longer, done_weight)

pub alone_fits : (ps : List JoinedToken) → Fit ps → length (spelled (first_alone ps)) ≤ MOST_BYTES
alone_fits = grind (arith, nat_tests, no_longer, alone_weight)

-- no record is empty
pub alone_filled : (ps : List JoinedToken) → ps ≢ [] → first_alone ps ≢ []
alone_filled [] h e = h refl
alone_filled (p ∷ ps) h e = grind (arith, nat_tests)

pub done_filled : (ps : List JoinedToken) → ps ≢ [] → first_done ps ≢ []
done_filled [] h e = h refl
done_filled (p ∷ ps) h e = grind (arith, nat_tests)

pub tokens_filled : (ps : List JoinedToken) → ps ≢ [] → tokens_in ps ≢ []
tokens_filled [] h e = h refl
tokens_filled (p ∷ ps) h e = cc

pub filled_more : (kind : SpinedKind) (x : List (List ℕ)) (xs : List (List (List ℕ))) → x ≢ [] → filled kind (x ∷ xs) ≡ Spined kind x ∷ filled kind xs
filled_more = grind (arith, nat_tests)

-- as many as one more than those before the last
pub filled_count : (n : ℕ) (ps : List JoinedToken) → ps ≢ [] → length (filled Interpretation (one_by_one n ps)) ≡ suc n
filled_count zero ps h = ap length (filled_more Interpretation (tokens_in ps) [] (tokens_filled ps h))
filled_count (suc n) ps h =
    ap length (filled_more Interpretation (first_alone ps) (one_by_one n (first_done ps)) (alone_filled ps h))
    ∙ ap suc (filled_count n (first_done ps) (done_filled ps h))

pub touches_some : (after : Bool) (ps : List JoinedToken) → touches after ps ≡ true → 1 ≤ joins_in ps
touches_some after [] h = cc
touches_some after (p ∷ ps) h = elim (cases_Bool p.begins) as (λ _. 1 ≤ joins_in (p ∷ ps)) [
  | inl w ↦ rw w (omega arith)
  | inr w ↦ rw w (touches_some (joins p) ps (later after (touches (joins p) ps) (rw w at h)))
]
  where
    later : (a b : Bool) → ((a && false) || b) ≡ true → b ≡ true
    later = grind (arith, nat_tests)

-- records in the making

pub front_of : (xs : List (List ℕ)) (x : List ℕ) (rest all : List (List ℕ)) → xs ++ (x ∷ rest) ≡ all
    → length (spelled all) ≤ MOST_BYTES → length (spelled (xs ++ x ∷ [])) ≤ MOST_BYTES
front_of xs x rest all e fits =
    let more : length (spelled (xs ++ x ∷ [])) ≤ length (spelled all) =
    subst (λ (ys : List (List ℕ)). length (spelled (xs ++ x ∷ [])) ≤ length (spelled ys)) (append_assoc xs (x ∷ []) rest
    ∙ e) (spelled_front (xs ++ x ∷ []) rest) in
    omega (arith, more, fits)

pub draft_push : (b new : Draft) (t : List ℕ) → b ≡ draft b.tokens → new ≡ record b { tokens = b.tokens ++ t ∷ [] }
    → new ≡ draft (b.tokens ++ t ∷ [])
draft_push b new t made is = is ∙ ap (λ (d : Draft). record d { tokens = b.tokens ++ t ∷ [] }) made

pub drafted : (new : Draft) (ts : List (List ℕ)) → new ≡ draft ts → new ≡ draft new.tokens
drafted new ts e = rw e refl

pub list_push : (new : Draft) (xs : List (List ℕ)) (x : List ℕ) (rest rest' all : List (List ℕ)) → new ≡ draft (xs ++ x ∷ [])
    → rest ≡ x ∷ rest' → xs ++ rest ≡ all → new.tokens ++ rest' ≡ all
list_push new xs x rest rest' all e next list = rw (e, append_assoc) (ap (λ ys. xs ++ ys) (sym next) ∙ list)

pub alone_at : (phase : Phase) (ps : List JoinedToken) (i : ℕ) (p : JoinedToken) → i < length ps → p ≡ get_or ps i p
    → alone_from phase (drop i ps) ≡ shown (next_phase phase p) p ∷ alone_from (next_phase phase p) (drop (i + 1) ps)
alone_at phase ps i p h e = rw (drop-cons ps i p h, ← e, add-one) (alone_step phase p (drop (suc i) ps))

pub tokens_at : (ps : List JoinedToken) (i : ℕ) (p : JoinedToken) → i < length ps → p ≡ get_or ps i p
    → tokens_in (drop i ps) ≡ p.token ∷ tokens_in (drop (i + 1) ps)
tokens_at ps i p h e = rw (drop-cons ps i p h, ← e, add-one) refl

pub lawful_at : (ps : List JoinedToken) (i : ℕ) (p : JoinedToken) → i < length ps → p ≡ get_or ps i p → Lawful (drop i ps)
    → IsToken Interpretation p.token × Lawful (drop (i + 1) ps)
lawful_at = grind (arith, common_steps)

-- the text of a front
pub nulls_fit : (n : ℕ) (ps : List JoinedToken) → length (spelled (nulls Interpretation n ++ first_alone ps)) ≤ MOST_BYTES → length (spelled (nulls Interpretation n)) ≤ MOST_BYTES
nulls_fit n ps fits = let less = spelled_front (nulls Interpretation n) (first_alone ps) in omega (arith, less, fits)

-- passing a join

here : (ps : List JoinedToken) (i : ℕ) (p : JoinedToken) → i < length ps → p ≡ get_or ps i p → drop i ps ≡ p ∷ drop (i + 1) ps
here ps i p h e = rw (drop-cons ps i p h, ← e, add-one) refl

pub fit_here : (first front : List (List ℕ)) (ps : List JoinedToken) (i : ℕ) (p : JoinedToken) → i < length ps → p ≡ get_or ps i p
    → behind front (drop i ps) ≡ behind first ps → Fit (behind first ps) → Fit (behind front (p ∷ drop (i + 1) ps))
fit_here = grind (arith, common_steps)

pub token_lawful : (front : List (List ℕ)) (p : JoinedToken) (rest : List JoinedToken) → Fit (behind front (p ∷ rest)) → IsToken Interpretation p.token
token_lawful front p rest fit = (lawful_behind front (p ∷ rest) fit.lawful).0

pub token_fits : (front : List (List ℕ)) (p : JoinedToken) (rest : List JoinedToken) → Fit (behind front (p ∷ rest))
    → length (spelled (front ++ p.token ∷ [])) ≤ MOST_BYTES
token_fits = grind (arith, nat_tests, front_of, tokens_behind)

pub null_fits : (front : List (List ℕ)) (p : JoinedToken) (rest : List JoinedToken) → p.begins ≡ true → Fit (behind front (p ∷ rest))
    → length (spelled (front ++ codes "*" ∷ [])) ≤ MOST_BYTES
null_fits front p rest begins fit =
    let done = done_fit (behind front (p ∷ rest)) fit in
    let next : first_done (p ∷ rest) ≡ piece false (codes "*") ∷ join_done rest = rw begins refl in
    let list : front ++ (codes "*" ∷ tokens_in (join_done rest)) ≡ tokens_in (first_done (behind front (p ∷ rest))) =
    ap (λ ps. front ++ tokens_in ps) (sym next) ∙ sym (tokens_behind front (first_done (p ∷ rest))) ∙ ap tokens_in (sym (done_behind front (p ∷ rest))) in
    front_of front (codes "*") (tokens_in (join_done rest)) _ list done.at_most

pub passed_join : (first front : List (List ℕ)) (ps : List JoinedToken) (i n : ℕ) (p : JoinedToken) → i < length ps → p ≡ get_or ps i p
    → behind front (drop i ps) ≡ behind first ps → p.begins ≡ true → drop n (drop (i + 1) ps) ≡ join_done (drop (i + 1) ps)
    → behind (front ++ codes "*" ∷ []) (drop (i + 1 + n) ps) ≡ behind first (first_done ps)
passed_join first front ps i n p h e same begins done =
    let next : first_done (p ∷ drop (i + 1) ps) ≡ piece false (codes "*") ∷ join_done (drop (i + 1) ps) = rw begins refl in
    behind_push front (codes "*") (drop (i + 1 + n) ps)
    ∙ ap (λ (rest : List JoinedToken). behind front (piece false (codes "*") ∷ rest)) (sym (drop-drop n (i + 1) ps) ∙ done)
    ∙ ap (λ (rest : List JoinedToken). behind front rest) (sym next)
    ∙ sym (done_behind front (p ∷ drop (i + 1) ps))
    ∙ ap first_done (ap (λ (rest : List JoinedToken). behind front rest) (sym (here ps i p h e)) ∙ same)
    ∙ done_behind first ps

pub passed_all : (first front : List (List ℕ)) (ps : List JoinedToken) (i : ℕ) → length ps ≤ i
    → behind front (drop i ps) ≡ behind first ps → behind front (drop (length ps) ps) ≡ behind first (first_done ps)
passed_all first front ps i h same =
    let all : drop i ps ≡ [] = drop_all i ps h in
    let end : drop (length ps) ps ≡ [] = drop_all (length ps) ps (omega arith) in
    ap (λ (rest : List JoinedToken). behind front rest) end
    ∙ sym (done_behind front [])
    ∙ ap first_done (ap (λ (rest : List JoinedToken). behind front rest) (sym all) ∙ same)
    ∙ done_behind first ps

one_more : (n : ℕ) → 1 ≤ n → suc (before_last n) ≡ n
one_more = grind (arith, nat_tests)

-- so many records have no room
pub too_many : (room n : ℕ) (ps : List JoinedToken) → ps ≢ [] → 1 ≤ n → spread ps ≡ one_by_one (before_last n) ps → room < n
    → room < length (filled Interpretation (spread ps))
too_many room n ps some h is over = rw (is, filled_count (before_last n) ps some, one_more n h) over

pub few_enough : (room n : ℕ) (ps : List JoinedToken) → ps ≢ [] → 1 ≤ n → spread ps ≡ one_by_one (before_last n) ps → n ≤ room
    → length (filled Interpretation (spread ps)) ≤ room
few_enough room n ps some h is under = rw (is, filled_count (before_last n) ps some, one_more n h) under

-- one record more

pub alone_fits_behind : (front : List (List ℕ)) (ps : List JoinedToken) → Fit (behind front ps)
    → length (spelled (nulls Interpretation (length front) ++ first_alone ps)) ≤ MOST_BYTES
alone_fits_behind front ps fit =
    subst (λ (ts : List (List ℕ)). length (spelled ts) ≤ MOST_BYTES) (alone_behind front ps) (alone_fits (behind front ps) fit)

pub alone_filled_behind : (front : List (List ℕ)) (ps : List JoinedToken) → behind front ps ≢ []
    → nulls Interpretation (length front) ++ first_alone ps ≢ []
alone_filled_behind front ps some none = alone_filled (behind front ps) some (alone_behind front ps ∙ none)

pub left_behind : (front front' : List (List ℕ)) (ps : List JoinedToken) (start n : ℕ)
    → behind front' (drop n (drop start ps)) ≡ behind front (first_done (drop start ps))
    → behind front' (drop (start + n) ps) ≡ first_done (behind front (drop start ps))
left_behind = grind (arith, nat_tests, drop-drop, done_behind)

pub one_written : (out : List Row) (n i : ℕ) (front : List (List ℕ)) (ps left : List JoinedToken) → i < n → behind front ps ≢ []
    → left ≡ first_done (behind front ps)
    → (out ++ Spined Interpretation (nulls Interpretation (length front) ++ first_alone ps) ∷ []) ++ filled Interpretation (one_by_one (n - (i + 1)) left)
    ≡ out ++ filled Interpretation (one_by_one (n - i) (behind front ps))
one_written out n i front ps left h some is =
    let e : n - i ≡ suc (n - (i + 1)) = omega arith in
    let all = behind front ps in
    let next = filled_more Interpretation (first_alone all) (one_by_one (n - (i + 1)) (first_done all)) (alone_filled all some) in
    rw (append_assoc, ← alone_behind front ps, is, e, next) refl

pub last_written : (out : List Row) (n i : ℕ) (front : List (List ℕ)) (ps : List JoinedToken) → n ≤ i → behind front ps ≢ []
    → out ++ Spined Interpretation (front ++ tokens_in ps) ∷ [] ≡ out ++ filled Interpretation (one_by_one (n - i) (behind front ps))
last_written = grind (arith, nat_tests, filled_more, tokens_filled, tokens_behind)

pub all_fits_behind : (front : List (List ℕ)) (ps : List JoinedToken) → Fit (behind front ps) → length (spelled (front ++ tokens_in ps)) ≤ MOST_BYTES
all_fits_behind front ps fit = subst (λ (ts : List (List ℕ)). length (spelled ts) ≤ MOST_BYTES) (tokens_behind front ps) fit.at_most

pub all_filled_behind : (front : List (List ℕ)) (ps : List JoinedToken) → behind front ps ≢ [] → front ++ tokens_in ps ≢ []
all_filled_behind front ps some none = tokens_filled (behind front ps) some (tokens_behind front ps ∙ none)

pub not_empty : {X : Type 0} (xs : List X) (b : Bool) → b ≡ length xs == 0 → b ≡ false → xs ≢ []
not_empty = grind (arith, nat_tests)
