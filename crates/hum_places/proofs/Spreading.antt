-- The records of the spread rule, token by token.
use Rattle.std.proofs.lemmas.Bool.Decides.{nat_tests}
use Rattle.std.proofs.Common.{◌≡◌, ◌∙◌, refl, sym, ap, ℕ, zero, suc, ◌+◌, ◌<◌, arith}
use Rattle.std.proofs.Common.{◌==◌, Bool, true, false, not, ◌&&◌, ◌||◌, List, [], ◌∷◌, length, cond}
use Rattle.std.proofs.Common.{Some, slice_get}
use Rattle.std.specs.Prelude.{nat_le}
use lib.Chars.{codes}
use Rattle.hum_score.proofs.Cases.{by_bool}
use Rattle.hum_columns.specs.Spread.{JoinedToken, goes_on, joins_in}
use Rattle.hum_places.specs.Spreading.{piece_at, is_joined, begun, is_gone, place_in, join_number}

abbrev pub one : Bool → ℕ
one b = cond b 1 0

-- the same as the words of the specification, with a join to the left and some that began there
abbrev joined : Bool → List JoinedToken → ℕ → Bool
joined inside ps zero = (piece_at ps 0).begins || (inside && goes_on (piece_at ps 0))
joined inside ps (suc q) = (piece_at ps (suc q)).begins || (joined inside ps q && goes_on (piece_at ps (suc q)))

abbrev gone : ℕ → ℕ → Bool → List JoinedToken → ℕ → Bool
gone t b inside ps q =
    joined inside ps q && (not (piece_at ps q).begins && nat_le (b + begun ps (suc q)) t)

abbrev seat : ℕ → ℕ → Bool → List JoinedToken → ℕ → ℕ
seat t b inside ps zero = 0
seat t b inside ps (suc q) = cond (gone t b inside ps q) (seat t b inside ps q) (seat t b inside ps q + 1)

-- by the first token and those behind it
begun_more : (p : JoinedToken) (ps : List JoinedToken) (q : ℕ) → begun (p ∷ ps) (suc q) ≡ one p.begins + begun ps q
begun_more p ps zero = by_bool p.begins (λ w. rw w refl) (λ w. rw w refl)
begun_more p ps (suc q) = grind (arith, nat_tests, begun_more p ps q)

joined_more : (inside : Bool) (p : JoinedToken) (ps : List JoinedToken) (q : ℕ)
    → joined inside (p ∷ ps) (suc q) ≡ joined (joined inside (p ∷ ps) 0) ps q
joined_more inside p ps zero = refl
joined_more inside p ps (suc q) = grind (arith, nat_tests, joined_more inside p ps q)

gone_more : (t b : ℕ) (inside : Bool) (p : JoinedToken) (ps : List JoinedToken) (q : ℕ)
    → gone t b inside (p ∷ ps) (suc q) ≡ gone t (b + one p.begins) (joined inside (p ∷ ps) 0) ps q
gone_more = grind (arith, nat_tests, begun_more, not, joined_more)

seat_more : (t b : ℕ) (inside : Bool) (p : JoinedToken) (ps : List JoinedToken) (q : ℕ)
    → seat t b inside (p ∷ ps) (suc q)
    ≡ cond (gone t b inside (p ∷ ps) 0) 0 1 + seat t (b + one p.begins) (joined inside (p ∷ ps) 0) ps q
seat_more t b inside p ps zero = by_bool (gone t b inside (p ∷ ps) 0) (λ w. rw w refl) (λ w. rw w refl)
seat_more t b inside p ps (suc q) =
    let h = seat_more t b inside p ps q in
    let g = gone_more t b inside p ps q in
    by_bool (gone t (b + one p.begins) (joined inside (p ∷ ps) 0) ps q)
    (λ w. rw (g, w) h)
    (λ w. rw (g, w) (omega (arith, h)))

-- what is written of a token of join number n, or of none
abbrev pub shown : ℕ → Bool → ℕ → Bool → List ℕ → List ℕ
shown t last n true token = cond (n == t + 1) token (codes "*")
shown t last n false token = cond last token (codes "*")

-- a whole record
abbrev pub row : ℕ → Bool → ℕ → Bool → List JoinedToken → List (List ℕ)
row t last b inside [] = []
row t last b inside (p ∷ ps) =
    let n = b + one p.begins in
    let j = p.begins || (inside && goes_on p) in
    let rest = row t last n j ps in
    cond (j && (not p.begins && nat_le n t)) rest (shown t last n j p.token ∷ rest)

row_gone : (t : ℕ) (last : Bool) (b : ℕ) (inside : Bool) (p : JoinedToken) (ps : List JoinedToken) → gone t b inside (p ∷ ps) 0 ≡ true
    → row t last b inside (p ∷ ps) ≡ row t last (b + one p.begins) (joined inside (p ∷ ps) 0) ps
row_gone = grind (arith, nat_tests)

row_kept : (t : ℕ) (last : Bool) (b : ℕ) (inside : Bool) (p : JoinedToken) (ps : List JoinedToken) → gone t b inside (p ∷ ps) 0 ≡ false
    → row t last b inside (p ∷ ps)
    ≡ shown t last (b + one p.begins) (joined inside (p ∷ ps) 0) p.token ∷ row t last (b + one p.begins) (joined inside (p ∷ ps) 0) ps
row_kept = grind (arith, nat_tests)

-- Each token that isn't gone stands at its place.
row_at : (t : ℕ) (last : Bool) (b : ℕ) (inside : Bool) (ps : List JoinedToken) (q : ℕ) → q < length ps → gone t b inside ps q ≡ false
    → slice_get (row t last b inside ps) (seat t b inside ps q)
    ≡ Some (shown t last (b + begun ps (suc q)) (joined inside ps q) (piece_at ps q).token)
row_at t last b inside [] q h g = absurd (omega (arith, h))
row_at t last b inside (p ∷ ps) zero h g = grind (arith, nat_tests)
row_at t last b inside (p ∷ ps) (suc q) h g =
    let n = b + one p.begins in
    let j = joined inside (p ∷ ps) 0 in
    let rest = row t last n j ps in
    let place = seat t n j ps q in
    let size = seat_more t b inside p ps q in
    let count = begun_more p ps (suc q) in
    let more = row_at t last n j ps q (omega (arith, h)) (sym (gone_more t b inside p ps q) ∙ g) in
    let same : n + begun ps (suc q) ≡ b + begun (p ∷ ps) (suc (suc q)) = omega (arith, count) in
    let told : slice_get rest place ≡ Some (shown t last (b + begun (p ∷ ps) (suc (suc q))) (joined inside (p ∷ ps) (suc q)) (piece_at ps q).token) =
    more
    ∙ ap (λ (k : ℕ). Some (shown t last k (joined j ps q) (piece_at ps q).token)) same
    ∙ ap (λ (i : Bool). Some (shown t last (b + begun (p ∷ ps) (suc (suc q))) i (piece_at ps q).token)) (sym (joined_more inside p ps q)) in
    by_bool (gone t b inside (p ∷ ps) 0)
    (λ w.
    let sum : seat t b inside (p ∷ ps) (suc q) ≡ 0 + place = rw w at size in
    let at : seat t b inside (p ∷ ps) (suc q) ≡ place = omega (arith, sum) in
    ap (slice_get (row t last b inside (p ∷ ps))) at
    ∙ ap (λ (xs : List (List ℕ)). slice_get xs place) (row_gone t last b inside p ps w)
    ∙ told)
    (λ w.
    let sum : seat t b inside (p ∷ ps) (suc q) ≡ 1 + place = rw w at size in
    let at : seat t b inside (p ∷ ps) (suc q) ≡ suc place = omega (arith, sum) in
    ap (slice_get (row t last b inside (p ∷ ps))) at
    ∙ ap (λ (xs : List (List ℕ)). slice_get xs (suc place)) (row_kept t last b inside p ps w)
    ∙ told)

row_width : (t : ℕ) (last : Bool) (b : ℕ) (inside : Bool) (ps : List JoinedToken)
    → length (row t last b inside ps) ≡ seat t b inside ps (length ps)
row_width t last b inside [] = refl
row_width t last b inside (p ∷ ps) =
    let size = seat_more t b inside p ps (length ps) in
    let more = row_width t last (b + one p.begins) (joined inside (p ∷ ps) 0) ps in
    by_bool (gone t b inside (p ∷ ps) 0)
    (λ w. let s = rw w at size in let r = ap length (row_gone t last b inside p ps w) in omega (arith, s, r, more))
    (λ w. let s = rw w at size in let r = ap length (row_kept t last b inside p ps w) in omega (arith, s, r, more))

-- The same in the words of the specification.
is_joined_is : (ps : List JoinedToken) (q : ℕ) → is_joined ps q ≡ joined false ps q
is_joined_is ps zero = by_bool (piece_at ps 0).begins (λ w. rw w refl) (λ w. rw w refl)
is_joined_is ps (suc q) = grind (arith, nat_tests, is_joined_is ps q)

is_gone_is : (ps : List JoinedToken) (t q : ℕ) → is_gone ps t q ≡ gone t 0 false ps q
is_gone_is = grind (arith, nat_tests, not, is_joined_is)

place_in_is : (ps : List JoinedToken) (t q : ℕ) → place_in ps t q ≡ seat t 0 false ps q
place_in_is ps t zero = refl
place_in_is ps t (suc q) = grind (arith, nat_tests, place_in_is ps t q, is_gone_is)

pub stand : (ps : List JoinedToken) (t q : ℕ) (last : Bool) → q < length ps → is_gone ps t q ≡ false
    → slice_get (row t last 0 false ps) (place_in ps t q)
    ≡ Some (shown t last (join_number ps q) (is_joined ps q) (piece_at ps q).token)
stand ps t q last h g =
    let next : q + 1 ≡ suc q = omega arith in
    let count : begun ps (q + 1) ≡ begun ps (suc q) = ap (begun ps) next in
    let same : 0 + begun ps (suc q) ≡ begun ps (q + 1) = omega (arith, count) in
    ap (slice_get (row t last 0 false ps)) (place_in_is ps t q)
    ∙ row_at t last 0 false ps q h (sym (is_gone_is ps t q) ∙ g)
    ∙ ap (λ (n : ℕ). Some (shown t last n (joined false ps q) (piece_at ps q).token)) same
    ∙ ap (λ (j : Bool). Some (shown t last (join_number ps q) j (piece_at ps q).token)) (sym (is_joined_is ps q))

pub wide : (ps : List JoinedToken) (t : ℕ) (last : Bool) → length (row t last 0 false ps) ≡ place_in ps t (length ps)
wide ps t last = row_width t last 0 false ps ∙ sym (place_in_is ps t (length ps))

pub begun_all : (ps : List JoinedToken) → begun ps (length ps) ≡ joins_in ps
begun_all [] = refl
begun_all (p ∷ ps) =
    let h = begun_more p ps (length ps) in
    let more = begun_all ps in
    by_bool p.begins (λ w. let v = rw w at h in rw w (omega (arith, v, more))) (λ w. let v = rw w at h in rw w (omega (arith, v, more)))
