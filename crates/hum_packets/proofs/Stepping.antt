-- One piece behind another.
use Rattle.std.proofs.lemmas.Grind.{common_steps}
use Rattle.std.proofs.lemmas.Bool.Decides.{nat_tests}
use Rattle.std.proofs.Common.{◌≡◌, ℕ, ◌+◌, ◌<◌, ◌≤◌, List, [], ◌∷◌, ◌++◌, length, take, drop, refl, sym, ap, subst, ◌∙◌, arith, Bool, true, false, Ok, Err, Option, Some, None, append_assoc, append-nil, length-append, take-append-drop}
use Rattle.std.proofs.lemmas.List.{length-take-le}
use Rattle.std.proofs.lemmas.List.Folds.{concat-append}
use Rattle.std.specs.List.{concat}
use Rattle.std.specs.Io.KnownBytes.{Consumes, prepend_known}
use Rattle.std.proofs.KnownBytes.{Consumes-trans}
use Rattle.hum_text.specs.declared.calls.Source.{Ghosts as Source}
use Rattle.hum_packets.specs.declared.stop.Stop.{Stop}
use Rattle.hum_packets.specs.declared.stop.Stop.TheVariants.{Broken, Read}
use Rattle.hum_packets.specs.Packets.{size_at, front, neither}
use Rattle.hum_packets.specs.Lists.{Then, Chain, IsPacket, IsEnd, Stops}
use Rattle.hum_packets.specs.Streams.{Reading, coming, further, Is, IsFront, Took, HasFailed, Lost}
use Rattle.hum_packets.specs.Held.{HoldsPacket, IsFed, Fed, LostAhead, TookOne}
use Rattle.hum_packets.proofs.Fronts.{front-wrong, front-short, front-cut, front-end, front-held, size-least, size_at-append}
use Rattle.hum_packets.proofs.Feeding.{pending-front, kept-is, kept-front, or_none, all-coming}

pub consumes-is : (a b : Option (List ℕ)) (xs ys : List ℕ) → Consumes a b xs → Is b ys → Is a (xs ++ ys)
consumes-is = grind (arith, nat_tests)

pub consumes-front : (a b : Option (List ℕ)) (xs ys : List ℕ) → Consumes a b xs → IsFront b ys → IsFront a (xs ++ ys)
consumes-front = grind (arith, common_steps)

passed-on : (a : Option (List ℕ)) (bs : List ℕ) (n : ℕ) → Consumes (prepend_known bs a) (prepend_known (drop n bs) a) (take n bs)
passed-on None bs n = tt
passed-on (Some x) bs n =
    ap (λ (zs : List ℕ). zs ++ x) (sym (take-append-drop n bs)) ∙ append_assoc (take n bs) (drop n bs) x

ahead-then : (a b c p q : ℕ) → (0 < a → 0 < p + b) → (0 < b → 0 < q + c) → 0 < a → 0 < p + q + c
ahead-then = grind (arith, nat_tests)

further-twice : (a b c m n : ℕ) → b ≡ further a m → c ≡ further b n → c ≡ further a (m + n)
further-twice a b c m n h k = omega arith

-- what stands behind what
abbrev pub Step : Type 1
Step = List ℕ → List ℕ → Type 0

module _ {R : Type 0} (source : Source R) where
  -- nothing is taken
  pub took-none : (r : Reading R) → Took source (λ all rest. all ≡ rest) r r
  took-none = grind (arith, nat_tests)

  pub took-then : {P Q : Step} {a b c : Reading R} → Took source P a b → Took source Q b c → Took source (Then P Q) a c
  took-then {P} {Q} {a} {b} {c} x y = record {
    piece = x.piece ++ y.piece;
    steps = λ rest. (
      y.piece ++ rest,
      subst (λ all. P all (y.piece ++ rest)) (sym (append_assoc x.piece y.piece rest)) (x.steps (y.piece ++ rest)),
      y.steps rest,
    );
    consumes = Consumes-trans _ _ _ x.piece y.piece x.consumes y.consumes;
    counts = grind (arith, nat_tests, further-twice, length-append);
    ahead = grind (arith, nat_tests, ahead-then, length-append);
  }

  pub took-as : {P Q : Step} {a b : Reading R} → ((all rest : List ℕ) → P all rest → Q all rest) → Took source P a b → Took source Q a b
  took-as = grind (arith, nat_tests)

  pub lost-as : (P Q : Step) (a : Reading R) (stop : Stop) → ((all rest : List ℕ) → P all rest → Q all rest) → Lost source P a stop
      → Lost source Q a stop
  lost-as = grind (arith, nat_tests)

  pub lost-then : (P Q : Step) (a b : Reading R) (stop : Stop) → Took source P a b → Lost source Q b stop → Lost source (Then P Q) a stop
  lost-then P Q a b (Broken at) x y = record {
    before = x.piece ++ y.before;
    behind = y.behind;
    is = subst (Is (coming source a)) (sym (append_assoc x.piece y.before y.behind)) (consumes-is _ _ _ _ x.consumes y.is);
    steps = grind (arith, nat_tests, append_assoc);
    counts = grind (arith, nat_tests, further-twice, length-append);
    ahead = grind (arith, nat_tests, ahead-then, append_assoc, length-append);
  }
  lost-then P Q a b Read x y = record {
    part = x.piece ++ y.part;
    behind = y.behind;
    is = consumes-front _ _ _ _ x.consumes y.is;
    steps = (y.part, x.steps y.part, y.steps);
    failed = y.failed;
  }
  lost-then P Q a b stop h k = grind (arith, nat_tests)

  -- what was read ahead changes nothing of it
  pub fed-took : {P : Step} {a b c : Reading R} → IsFed source a b → Took source P b c → Took source P a c
  fed-took = grind (arith, common_steps)

  pub fed-lost : (P : Step) (a b : Reading R) (stop : Stop) → IsFed source a b → Lost source P b stop → Lost source P a stop
  fed-lost = grind (arith, nat_tests, kept-is, length-append, kept-front)

  -- what is pending is no packet, whatever is still to come
  stays : (r : Reading R) (all : List ℕ) (at : ℕ) → at ≡ r.passed → Is (coming source r) all → front all ≡ neither
      → (0 < length r.pending → 0 < length all) → Lost source Stops r (Broken at)
  stays r all at here is none some = record {
    before = [];
    behind = all;
    is = is;
    steps = (refl, none);
    counts = omega (arith, here);
    ahead = some;
  }

  pub lost-short : (r : Reading R) (at : ℕ) → at ≡ r.passed → length r.pending < 4
      → Is (coming source r) r.pending → Lost source Stops r (Broken at)
  lost-short r at here few is = stays r r.pending at here is (front-short r.pending few) (λ h. h)

  pub lost-cut : (r : Reading R) (at n : ℕ) → at ≡ r.passed → 4 ≤ length r.pending → size_at r.pending ≡ Some n
      → length r.pending < n → Is (coming source r) r.pending → Lost source Stops r (Broken at)
  lost-cut r at n here four says less is =
      stays r r.pending at here is (front-cut r.pending n four says less) (λ h. h)

  pub lost-wrong : (r : Reading R) (at : ℕ) → at ≡ r.passed → 4 ≤ length r.pending → size_at r.pending ≡ None
      → Lost source Stops r (Broken at)
  lost-wrong r at here four none =
      let rest = or_none (source.remaining r.source) in
      stays r (r.pending ++ rest) at here (all-coming (source.remaining r.source) r.pending) (front-wrong r.pending rest four none)
      (λ h. omega (arith, h, length-append r.pending rest))

  pub lost-read : (r : Reading R) → front r.pending ≡ neither → HasFailed source → Lost source Stops r Read
  lost-read r none failed = grind (arith, nat_tests, pending-front (source.remaining r.source) r.pending)

  took-held : {P : Step} (r : Reading R) (n : ℕ) (last : List ℕ) → 0 < n → n ≤ length r.pending
      → ((rest : List ℕ) → P (take n r.pending ++ rest) rest)
      → Took source P r (record r { last = last; pending = drop n r.pending; passed = further r.passed n })
  took-held r n last some held steps = record {
    piece = take n r.pending;
    steps = steps;
    consumes = passed-on (source.remaining r.source) r.pending n;
    counts = ap (further r.passed) (sym (length-take-le n r.pending held));
    ahead = λ h. omega (arith, some, length-take-le n r.pending held);
  }

  pub took-packet : (r new : Reading R) (n : ℕ) → HoldsPacket r.pending n → 4 ≤ n
      → new ≡ record r { last = drop 4 (take n r.pending); pending = drop n r.pending; passed = further r.passed n }
      → TookOne source true r new
  took-packet = grind (arith, nat_tests, took-held, front-held)

  pub took-end : (r new : Reading R) → HoldsPacket r.pending 0
      → new ≡ record r { last = drop 4 (take 4 r.pending); pending = drop 4 r.pending; passed = further r.passed 4 }
      → TookOne source false r new
  took-end r new held is =
      let here = took-held {P = IsEnd} r 4 (drop 4 (take 4 r.pending)) (omega arith) held.digits
      (λ rest. front-end r.pending rest held.digits held.says) in
      subst (λ to. TookOne source false r to) (sym is) here

  -- what keeps a packet from being held
  pub lost-unheld : (r : Reading R) (n : ℕ) (stop : Stop) → (length r.pending < n → front r.pending ≡ neither) → Fed source n r (Err stop)
      → Lost source Stops r stop
  lost-unheld = grind (arith, nat_tests, lost-read)

  pub lost-ahead : (a b : Reading R) (stop : Stop) → IsFed source a b → Fed source 1 b (Err stop) → LostAhead source a stop
  lost-ahead = grind (arith, nat_tests, fed-lost, lost-unheld, front-short)

  -- the size that was pending is still
  pub still-says : {a b : Reading R} (n : ℕ) → IsFed source a b → 4 ≤ length a.pending → size_at a.pending ≡ Some n
      → (4 ≤ length b.pending) × (size_at b.pending ≡ Some n)
  still-says = grind (arith, nat_tests, length-append, size_at-append)

  pub fed-true : (n : ℕ) (r : Reading R) (b : Bool) → b ≡ true → Fed source n r (Ok b) → n ≤ length r.pending
  fed-true n r b is fed = subst (λ x. Fed source n r (Ok x)) is fed

  pub fed-false : (n : ℕ) (r : Reading R) (b : Bool) → b ≡ false → Fed source n r (Ok b)
      → (length r.pending < n) × Is (coming source r) r.pending
  fed-false n r b is fed = subst (λ x. Fed source n r (Ok x)) is fed

  pub took-true : (a b : Reading R) (one : Bool) → one ≡ true → TookOne source one a b → Took source (IsPacket b.last) a b
  took-true a b one is took = subst (λ x. TookOne source x a b) is took

  pub took-false : (a b : Reading R) (one : Bool) → one ≡ false → TookOne source one a b → Took source IsEnd a b
  took-false a b one is took = subst (λ x. TookOne source x a b) is took

pub least-size : (bs : List ℕ) (n : ℕ) → HoldsPacket bs n → (n ≡ 0 → ⊥) → 4 ≤ n
least-size = grind (arith, nat_tests, size-least)

-- one more behind a chain
pub chain-more : {A : Type 0} (S : A → List ℕ → List ℕ → Type 0) (xs : List A) (x : A) (all middle rest : List ℕ)
    → Chain S xs all middle → S x middle rest → Chain S (xs ++ x ∷ []) all rest
unfolding Chain
chain-more S [] x all middle rest chain one = (rest, subst (λ from. S x from rest) (sym chain) one, refl)
chain-more S (y ∷ xs) x all middle rest chain one = (chain.0, chain.1, chain-more S xs x chain.0 middle rest chain.2 one)

pub chain-none : {A : Type 0} (S : A → List ℕ → List ℕ → Type 0) (all : List ℕ) → Chain S [] all all
unfolding Chain
chain-none S all = refl

-- the data of one packet more
pub concat-one : (xs : List (List ℕ)) (x y : List ℕ) → y ≡ x → concat xs ++ y ≡ concat (xs ++ x ∷ [])
concat-one = grind (arith, nat_tests, append-nil, concat-append)

pub took-chain : {R : Type 0} (source : Source R) {A : Type 0} (S : A → List ℕ → List ℕ → Type 0) (r : Reading R)
    → Took source (Chain S []) r r
took-chain source S r = took-as source (λ all rest same. subst (λ to. Chain S [] all to) same (chain-none S all)) (took-none source r)
