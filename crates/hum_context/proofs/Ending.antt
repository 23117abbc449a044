-- In a closed score every spine comes to an end.
use Rattle.std.proofs.Common.{◌≡◌, ◌∙◌, refl, sym, ap, ℕ, zero, suc, ◌+◌, ◌≤◌, ◌<◌, Bool, true}
use Rattle.std.proofs.Common.{false, ◌||◌, List, [], ◌∷◌, ◌++◌, map, length}
use Rattle.std.proofs.Common.{None, inl, inr, ◌⊎◌, arith, cond, get_or}
use Rattle.std.specs.Prelude.{nat_le, ◌==◌}
use Rattle.std.specs.List.{list_any, find}
use Rattle.std.proofs.lemmas.Bool.Decides.{nat_tests}
use Rattle.std.proofs.lemmas.List.Folds.{list_any-append}
use Rattle.hum_score.specs.declared.spines.Sign.{Sign}
use Rattle.hum_score.specs.declared.spines.Sign.TheVariants.{Split, Join, Exchange, Add, End}
use Rattle.hum_score.specs.declared.spines.Sign.TheVariants.{Exclusive, Plain}
use Rattle.hum_score.specs.Sign.{sign_of, is_join, is_exchange}
use Rattle.hum_score.specs.Spines.{Spines, joins_at_front, exchanges, partner, heirs}
use Rattle.hum_score.specs.Spines.{heirs_from, moves_under}
use Rattle.hum_score.specs.Rules.{breaks, in_order, is_pair_or_none}
use Rattle.hum_path.proofs.Obeyed.{obeys}
use Rattle.hum_context.specs.Context.{is_last, is_last_sign}
use Rattle.std.proofs.lemmas.List.{length-map}
use Rattle.std.proofs.Common.{length-append}
use Rattle.hum_path.specs.Chains.{goes_on}

pub or_left : (a b : Bool) → a ≡ true → (a || b) ≡ true
or_left a b e = rw e refl

pub or_right : (a b : Bool) → b ≡ true → (a || b) ≡ true
or_right true b e = refl
or_right false b e = e

same_here : (j : ℕ) → (j == j) ≡ true
same_here j = grind (arith, nat_tests)

-- whether the spine at place c goes on by one of the moves from place j on
abbrev Goes : List ℕ → ℕ → Bool → List Sign → ℕ → Type 0
Goes pair j after signs c = list_any (goes_on c) (heirs_from pair j after signs) ≡ true

first_goes : (pair : List ℕ) (j : ℕ) (after : Bool) (s : Sign) (ss : List Sign) (c : ℕ)
    → list_any (goes_on c) (heirs pair j after s ss) ≡ true → Goes pair j after (s ∷ ss) c
first_goes pair j after s ss c e = rw (list_any-append (goes_on c) (heirs pair j after s ss)
    (heirs_from pair (j + 1) (is_join s) ss))
    (or_left (list_any (goes_on c) (heirs pair j after s ss)) _ e)

later_goes : (pair : List ℕ) (j : ℕ) (after : Bool) (s : Sign) (ss : List Sign) (c : ℕ)
    → Goes pair (j + 1) (is_join s) ss c → Goes pair j after (s ∷ ss) c
later_goes pair j after s ss c e = rw (list_any-append (goes_on c) (heirs pair j after s ss)
    (heirs_from pair (j + 1) (is_join s) ss))
    (or_right (list_any (goes_on c) (heirs pair j after s ss)) _ e)

-- a spine that isn't joined, exchanged or ended goes on at its place
abbrev Stays : Sign → Type 0
Stays Split = Unit {0}
Stays Add = Unit {0}
Stays Plain = Unit {0}
Stays _ = ⊥

stays_here : (pair : List ℕ) (j : ℕ) (after : Bool) (s : Sign) (ss : List Sign) → Stays s
    → list_any (goes_on j) (heirs pair j after s ss) ≡ true
stays_here pair j after Split ss h = rw (same_here j) refl
stays_here pair j after Add ss h = rw (same_here j) refl
stays_here pair j after Plain ss h = rw (same_here j) refl
stays_here pair j after Join ss h = absurd h
stays_here pair j after Exchange ss h = absurd h
stays_here pair j after End ss h = absurd h
stays_here pair j after Exclusive ss h = absurd h

pub plain_goes : (pair : List ℕ) (j : ℕ) (after : Bool) (signs : List Sign) (k : ℕ)
    → k < length signs → Stays (get_or signs k Plain) → Goes pair j after signs (j + k)
plain_goes pair j after [] k h s = absurd (omega (arith, h))
plain_goes pair j after (s ∷ ss) zero h st = first_goes pair j after s ss (j + 0)
    (ap (λ (c : ℕ). list_any (goes_on c) (heirs pair j after s ss)) (omega arith)
    ∙ stays_here pair j after s ss st)
plain_goes pair j after (s ∷ ss) (suc k) h st =
    later_goes pair j after s ss (j + suc k)
    (ap (λ (c : ℕ). list_any (goes_on c) (heirs_from pair (j + 1) (is_join s) ss)) (omega arith)
    ∙ plain_goes pair (j + 1) (is_join s) ss k (omega (arith, h)) st)

-- a joined spine goes on by its run's first
join_here : (pair : List ℕ) (j : ℕ) (ss : List Sign) (c : ℕ) → j ≤ c → c ≤ j + joins_at_front ss
    → list_any (goes_on c) (heirs pair j false Join ss) ≡ true
join_here pair j ss c from to =
    let a : nat_le j c ≡ true = grind (arith, nat_tests, from) in
    let b : nat_le c (j + joins_at_front ss) ≡ true = grind (arith, nat_tests, to) in
    rw (a, b) refl

abbrev JoinGoes : List ℕ → ℕ → Bool → List Sign → ℕ → Type 0
JoinGoes pair j after signs k = Goes pair j after signs (j + k) ⊎
    ((after ≡ true) × (k < joins_at_front signs))

join_goes : (pair : List ℕ) (j : ℕ) (after : Bool) (signs : List Sign) (k : ℕ) → k < length signs
    → get_or signs k Plain ≡ Join → JoinGoes pair j after signs k
join_goes pair j after [] k h e = absurd (omega (arith, h))
join_goes pair j true (s ∷ ss) zero h e = rw e (inr (refl, omega arith))
join_goes pair j false (s ∷ ss) zero h e =
    rw e (inl (first_goes pair j false Join ss (j + 0) (join_here pair j ss (j + 0) (omega arith)
    (omega arith))))
join_goes pair j after (s ∷ ss) (suc k) h e = on s after (join_goes pair (j + 1) (is_join s) ss k
    (omega (arith, h)) e)
  where
    shift : (s : Sign) (after : Bool) → Goes pair (j + 1) (is_join s) ss (j + 1 + k)
        → Goes pair j after (s ∷ ss) (j + suc k)
    shift s after g = later_goes pair j after s ss (j + suc k)
        (ap (λ (c : ℕ). list_any (goes_on c) (heirs_from pair (j + 1) (is_join s) ss)) (omega arith)
        ∙ g)

    on : (s : Sign) (after : Bool) → JoinGoes pair (j + 1) (is_join s) ss k
        → JoinGoes pair j after (s ∷ ss) (suc k)
    on s after (inl g) = inl (shift s after g)
    on Join true (inr r) = let m = r.1 in inr (refl, omega (arith, m))
    on Join false (inr r) = let m = r.1 in
        inl (first_goes pair j false Join ss (j + suc k) (join_here pair j ss (j + suc k)
        (omega arith) (omega (arith, m))))
    on Split after (inr r) = let f = r.0 in cc
    on Exchange after (inr r) = let f = r.0 in cc
    on Add after (inr r) = let f = r.0 in cc
    on End after (inr r) = let f = r.0 in cc
    on Exclusive after (inr r) = let f = r.0 in cc
    on Plain after (inr r) = let f = r.0 in cc

pub joined_goes : (pair : List ℕ) (signs : List Sign) (c : ℕ) → c < length signs
    → get_or signs c Plain ≡ Join → Goes pair 0 false signs c
joined_goes pair signs c h e = by (join_goes pair 0 false signs c h e)
  where
    by : JoinGoes pair 0 false signs c → Goes pair 0 false signs c
    by (inl g) = ap (λ (m : ℕ). list_any (goes_on m) (heirs_from pair 0 false signs)) (omega arith)
        ∙ g
    by (inr r) = let f = r.0 in cc

-- an exchanged spine goes on at the place of the other
pub exchange_goes : (pair : List ℕ) (j : ℕ) (after : Bool) (signs : List Sign) (k : ℕ)
    → k < length signs → get_or signs k Plain ≡ Exchange
    → Goes pair j after signs (partner pair (j + k))
exchange_goes pair j after [] k h e = absurd (omega (arith, h))
exchange_goes pair j after (s ∷ ss) zero h e =
    let same : j + 0 ≡ j = omega arith in
    rw e (ap (λ (m : ℕ). list_any (goes_on (partner pair m))
    (heirs_from pair j after (Exchange ∷ ss))) same ∙ first_goes pair j after Exchange ss
    (partner pair j) (rw (same_here (partner pair j)) refl))
exchange_goes pair j after (s ∷ ss) (suc k) h e =
    let same : j + suc k ≡ j + 1 + k = omega arith in
    rw same (later_goes pair j after s ss (partner pair (j + 1 + k))
    (exchange_goes pair (j + 1) (is_join s) ss k (omega (arith, h)) e))

-- the places of exchanged spines
exchange_split : (j : ℕ) (signs : List Sign) (k : ℕ) → k < length signs
    → get_or signs k Plain ≡ Exchange
    → (front : List ℕ) × (back : List ℕ) × (exchanges j signs ≡ front ++ (j + k) ∷ back)
exchange_split j [] k h e = absurd (omega (arith, h))
exchange_split j (s ∷ ss) zero h e =
    rw e ([], exchanges (j + 1) ss, ap (λ (n : ℕ). n ∷ exchanges (j + 1) ss) (omega arith))
exchange_split j (s ∷ ss) (suc k) h e =
    by (is_exchange s) (exchange_split (j + 1) ss k (omega (arith, h)) e)
  where
    same : j + 1 + k ≡ j + suc k
    same = omega arith

    by : (b : Bool)
        → (front : List ℕ) × (back : List ℕ) × (exchanges (j + 1) ss ≡ front ++ (j + 1 + k) ∷ back)
        → (front : List ℕ) × (back : List ℕ) × (cond b (j ∷ exchanges (j + 1) ss)
        (exchanges (j + 1) ss) ≡ front ++ (j + suc k) ∷ back)
    by true ih = (
      j ∷ ih.0,
      ih.1,
      ap (λ (xs : List ℕ). j ∷ xs) (ih.2
          ∙ ap (λ (n : ℕ). ih.0 ++ n ∷ ih.1) same),
    )
    by false ih = (ih.0, ih.1, ih.2 ∙ ap (λ (n : ℕ). ih.0 ++ n ∷ ih.1) same)

pub record ExchangeAt (j p : ℕ) (signs : List Sign) : Type 0 where
  pub k : ℕ
  pub is : p ≡ j + k
  pub within : k < length signs
  pub sign : get_or signs k Plain ≡ Exchange

is_exchange_sign : (s : Sign) → is_exchange s ≡ true → s ≡ Exchange
is_exchange_sign Exchange e = refl
is_exchange_sign Split e = cc
is_exchange_sign Join e = cc
is_exchange_sign Add e = cc
is_exchange_sign End e = cc
is_exchange_sign Exclusive e = cc
is_exchange_sign Plain e = cc

exchange_is : (j : ℕ) (signs : List Sign) (p : ℕ) (front back : List ℕ)
    → exchanges j signs ≡ front ++ p ∷ back → ExchangeAt j p signs
exchange_is j [] p [] back e = cc
exchange_is j [] p (a ∷ front) back e = cc
exchange_is j (s ∷ ss) p front back e = by (is_exchange s) refl front e
    (λ front k. exchange_is (j + 1) ss p front back k)
  where
    later : ExchangeAt (j + 1) p ss → ExchangeAt j p (s ∷ ss)
    later h = let at = h.is in let within = h.within in
        record {
          k = suc h.k;
          is = omega (arith, at);
          within = omega (arith, within);
          sign =
              h.sign;
        }

    by : (b : Bool) → is_exchange s ≡ b → (front : List ℕ)
        → cond b (j ∷ exchanges (j + 1) ss) (exchanges (j + 1) ss) ≡ front ++ p ∷ back
        → ((front : List ℕ) → exchanges (j + 1) ss ≡ front ++ p ∷ back → ExchangeAt (j + 1) p ss)
        → ExchangeAt j p (s ∷ ss)
    by true w [] k more = let here : j ≡ p = cc in
        record {
          k = 0;
          is = omega (arith, here);
          within = omega arith;
          sign = is_exchange_sign s w;
        }
    by true w (a ∷ front) k more =
        later (more front (let t : exchanges (j + 1) ss ≡ front ++ p ∷ back = cc in t))
    by false w front k more = later (more front k)

two_places : (xs : List ℕ) → 0 < length xs → is_pair_or_none xs ≡ true → length xs ≡ 2
two_places xs some e = grind (arith, nat_tests, some, e)

other_goes : (signs : List Sign) (c p : ℕ) → ExchangeAt 0 p signs
    → partner (exchanges 0 signs) p ≡ c → Goes (exchanges 0 signs) 0 false signs c
other_goes signs c p h e =
    let at = h.is in
    let same : 0 + h.k ≡ p = omega (arith, at) in
    ap (λ (n : ℕ). list_any (goes_on n) (heirs_from (exchanges 0 signs) 0 false signs)) (sym e
    ∙ ap (partner (exchanges 0 signs)) (sym same))
    ∙ exchange_goes (exchanges 0 signs) 0 false signs h.k h.within h.sign

partner_second : (a b : ℕ) → partner (a ∷ b ∷ []) b ≡ a
partner_second a b = by (b == a) refl
  where
    by : (x : Bool) → (b == a) ≡ x → cond x b a ≡ a
    by true w = grind (arith, nat_tests, w)
    by false w = refl

partner_first : (a b : ℕ) → partner (a ∷ b ∷ []) a ≡ b
partner_first a b = rw (same_here a) refl

pub exchanged_goes : (signs : List Sign) (c : ℕ) → c < length signs
    → get_or signs c Plain ≡ Exchange → is_pair_or_none (exchanges 0 signs) ≡ true
    → Goes (exchanges 0 signs) 0 false signs c
exchanged_goes signs c h e pair =
    let split = exchange_split 0 signs c h e in
    by split.0 split.1 (split.2 ∙ ap (λ (n : ℕ). split.0 ++ n ∷ split.1) (omega arith))
  where
    by : (front back : List ℕ) → exchanges 0 signs ≡ front ++ c ∷ back
        → Goes (exchanges 0 signs) 0 false signs c
    by [] [] w = absurd (let two = two_places (c ∷ []) (omega arith) (rw w at pair) in
        omega (arith, two))
    by [] (b ∷ []) w = other_goes signs c b (exchange_is 0 signs b (c ∷ []) [] w)
        (rw w (partner_second c b))
    by [] (b ∷ d ∷ more) w = absurd (let two = two_places (c ∷ b ∷ d ∷ more) (omega arith)
        (rw w at pair) in omega (arith, two))
    by (a ∷ []) [] w = other_goes signs c a (exchange_is 0 signs a [] (c ∷ []) w)
        (rw w (partner_first a c))
    by (a ∷ []) (b ∷ more) w = absurd (let two = two_places (a ∷ c ∷ b ∷ more) (omega arith)
        (rw w at pair) in omega (arith, two))
    by (a ∷ b ∷ front) back w =
        absurd (let two = two_places (a ∷ b ∷ (front ++ c ∷ back)) (omega arith) (rw w at pair) in
        let sum = length-append front (c ∷ back) in omega (arith, two, sum))

sign_at : (tokens : List (List ℕ)) (c : ℕ)
    → get_or (map sign_of tokens) c Plain ≡ sign_of (get_or tokens c [])
sign_at [] c = refl
sign_at (t ∷ ts) zero = refl
sign_at (t ∷ ts) (suc c) = sign_at ts c

-- a spine that doesn't end goes on
pub goes_below : (names tokens : List (List ℕ)) (c : ℕ)
    → find (breaks (Spines names) tokens) in_order ≡ None → c < length names
    → is_last (get_or tokens c []) ≡ false
    → list_any (goes_on c) (moves_under (map sign_of tokens)) ≡ true
goes_below names tokens c h below last = by (get_or (map sign_of tokens) c Plain) refl
  where
    signs : List Sign
    signs = map sign_of tokens

    wide : c < length signs
    wide = let o = obeys names tokens h in let w = o.wide in let m = length-map tokens sign_of in
        omega (arith, w, m, below)

    not_last : is_last_sign (get_or signs c Plain) ≡ false
    not_last = ap is_last_sign (sign_at tokens c) ∙ last

    plain : Stays (get_or signs c Plain) → Goes (exchanges 0 signs) 0 false signs c
    plain s = ap (λ (n : ℕ). list_any (goes_on n) (heirs_from (exchanges 0 signs) 0 false signs))
        (omega arith) ∙ plain_goes (exchanges 0 signs) 0 false signs c wide s

    by : (s : Sign) → get_or signs c Plain ≡ s → Goes (exchanges 0 signs) 0 false signs c
    by Split e = plain (rw e tt)
    by Add e = plain (rw e tt)
    by Plain e = plain (rw e tt)
    by Join e = joined_goes (exchanges 0 signs) signs c wide e
    by Exchange e = exchanged_goes signs c wide e (obeys names tokens h).pair
    by End e = let k : true ≡ false = sym (ap is_last_sign e) ∙ not_last in cc
    by Exclusive e = let k : true ≡ false = sym (ap is_last_sign e) ∙ not_last in cc
