-- What is read ahead.
use Rattle.std.proofs.lemmas.Grind.{common_steps}
use Rattle.std.proofs.lemmas.Bool.Decides.{nat_tests}
use Rattle.std.proofs.Common.{◌≡◌, ℕ, ◌+◌, ◌-◌, ◌≤◌, List, [], ◌++◌, length, take, drop, arith, Bool, false, ◌||◌, Option, Some, None, slice_range}
use Rattle.std.specs.Io.KnownBytes.{Appends, Consumes, Keeps, prepend_known}
use Rattle.std.proofs.KnownBytes.{Keeps-refl, Appends-nil, Appends-trans}
use Rattle.std.specs.List.{copy_within}
use Rattle.hum_text.proofs.WindowLemmas.{moved-window, window-front, grow-window}
use Rattle.hum_text.specs.declared.calls.Source.{Ghosts as Source}
use Rattle.hum_text.specs.declared.calls.Sink.{Ghosts as Sink}
use Rattle.hum_packets.specs.Streams.{Reading, Writing, going, Is, IsFront, Grows, Hands, Serves}
use Rattle.hum_packets.specs.Held.{IsFed}

or_chain : (p q r f : Bool) → q ≡ (p || false) → r ≡ (q || f) → r ≡ (p || f)
or_chain = grind (arith, nat_tests)

or_none-same : (p : Bool) → p ≡ (p || false)
or_none-same = grind (arith, nat_tests)

pub grows-refl : (a : Option (List ℕ)) → Grows a a
grows-refl a = ([], Appends-nil a)

pub grows-trans : (a b c : Option (List ℕ)) → Grows a b → Grows b c → Grows a c
grows-trans a b c x y = (x.0 ++ y.0, Appends-trans a b c x.0 y.0 x.1 y.1)

pub hands-refl : {W : Type 0} {sink : Sink W} (w : Writing W) → Hands sink w w false
hands-refl {sink} w = record { grown = grows-refl (sink.contents w.sink); marked = or_none-same (sink.failed w.sink) }

pub hands-trans : {W : Type 0} {sink : Sink W} {a b c : Writing W} {f : Bool} → Hands sink a b false → Hands sink b c f
    → Hands sink a c f
hands-trans {sink} {a} {b} {c} {f} x y = record {
  grown = grows-trans _ _ _ x.grown y.grown;
  marked = or_chain (sink.failed a.sink) _ _ f x.marked y.marked;
}

pub serves-refl : {W : Type 0} {sink : Sink W} (w : Writing W) → Serves sink w w false
serves-refl {sink} w = record { kept = Keeps-refl (going sink w); hands = hands-refl w }

pub serves-trans : {W : Type 0} {sink : Sink W} {a b c : Writing W} {f : Bool} → Serves sink a b false → Serves sink b c f
    → Serves sink a c f
serves-trans {sink} {a} {b} {c} {f} x y = grind (arith, nat_tests, hands-trans x.hands y.hands)

pub fed-trans : {R : Type 0} {source : Source R} {a b c : Reading R} → IsFed source a b → IsFed source b c → IsFed source a c
fed-trans = grind (arith, common_steps)

pub fed-read : {R : Type 0} {source : Source R} (old new : Reading R) (more : List ℕ) → new.pending ≡ old.pending ++ more
    → Consumes (source.remaining old.source) (source.remaining new.source) more → new.passed ≡ old.passed → IsFed source old new
fed-read = grind (arith, common_steps)

-- the pending bytes were moved to the front, and more were read behind them
pub refilled : (xs ys zs : List ℕ) (s e n : ℕ) → e ≤ length xs → ys ≡ copy_within xs s e 0 → take (e - s) zs ≡ take (e - s) ys
    → slice_range zs 0 (e - s + n) ≡ slice_range xs s e ++ slice_range zs (e - s) (e - s + n)
refilled xs ys zs s e n fits moved same =
    grind (arith, nat_tests, grow-window zs 0, slice_range zs, window-front ys zs 0, moved-window xs s e fits)

-- the pending bytes are in front of all
pub pending-front : (a : Option (List ℕ)) (bs : List ℕ) → IsFront (prepend_known bs a) bs
pending-front = grind (arith, nat_tests)

pub kept-is : (a b : Option (List ℕ)) (bs : List ℕ) → Keeps a b → Is b bs → Is a bs
kept-is = grind (arith, nat_tests)

pub kept-front : (a b : Option (List ℕ)) (bs : List ℕ) → Keeps a b → IsFront b bs → IsFront a bs
kept-front = grind (arith, nat_tests)

-- all that comes, where it is known, and else what is pending
pub or_none : Option (List ℕ) → List ℕ
or_none None = []
or_none (Some x) = x

pub all-coming : (a : Option (List ℕ)) (bs : List ℕ) → Is (prepend_known bs a) (bs ++ or_none a)
unfolding or_none
all-coming = grind (arith, nat_tests)

pub same-reading : {R : Type 0} {s t : R} {a b p q : List ℕ} {m n : ℕ} → s ≡ t → a ≡ b → p ≡ q → m ≡ n
    → ◌≡◌ {A = Reading R} (record { source = s; last = a; pending = p; passed = m }) (record { source = t; last = b; pending = q; passed = n })
same-reading h i j k = cc

-- the first of those that wait were written
pub handed : {W : Type 0} (sink : Sink W) (s t : W) (waiting : List ℕ) (n : ℕ) (f : Bool)
    → Appends (sink.contents s) (sink.contents t) (take n waiting) → sink.failed t ≡ (sink.failed s || f)
    → Serves sink (record { sink = s; waiting = waiting }) (record { sink = t; waiting = drop n waiting }) f
handed = grind (arith, common_steps)
