-- Scores that are held.
use Rattle.std.proofs.Common.{◌≡◌, ℕ, ◌+◌, ◌-◌, ◌<◌, ◌≤◌, List, [], ◌∷◌, ◌++◌, length, drop, get_or, refl, sym, ap, ◌∙◌, arith, Bool, true, false, ltb, Some, None}
use Rattle.std.specs.Str.{bytes_eq}
use Rattle.std.proofs.lemmas.List.{at_drop_more, at_drop_all}
use Rattle.std.proofs.lemmas.Bool.{ltb-true, lt-ltb}
use Rattle.std.proofs.lemmas.Bool.Decides.{nat_tests}
use Rattle.hum_words.specs.Bundle.{largest}
use Rattle.hum_packets.specs.Lists.{Then, Chain, IsPacket, IsText, Stops, StopsInList}
use Rattle.hum_packets.proofs.Stepping.{chain-none}
use Rattle.hum_many.specs.Cases.{Named, size, size_of, score_in, HoldsCase, IsScore, StopsInCase}

pub holds-none : (xs : List Named) → xs ≡ [] → HoldsCase [] xs largest false
unfolding size
holds-none xs none = record { large = refl; all = λ f. (none, omega arith) }

size-more : (case : List Named) (it : Named) → size (case ++ it ∷ []) ≡ size case + size_of it
unfolding size
size-more [] it = omega arith
size-more (score ∷ scores) it = let more = size-more scores it in omega (arith, more)

larger : (m n more : ℕ) → true ≡ ltb m n → true ≡ ltb m (n + more)
larger m n more h = sym (lt-ltb m (n + more) (omega (arith, ltb-true m n (sym h))))

no-larger : (m left n more : ℕ) → left + n ≡ m → more ≤ left → false ≡ ltb m (n + more)
no-larger m left n more sum fits = grind (arith, nat_tests)

too-large : (m left n more : ℕ) → left + n ≡ m → left < more → true ≡ ltb m (n + more)
too-large m left n more sum less = sym (lt-ltb m (n + more) (omega (arith, sum, less)))

-- a score more is held
pub holds-one : (case held : List Named) (it score : Named) (left : ℕ) (large : Bool) → HoldsCase case held left large
    → (score ≡ it) × (size_of it ≤ left) → HoldsCase (case ++ it ∷ []) (held ++ score ∷ []) (left - size_of score) large
holds-one case held it score left true h is = record {
  large = larger largest (size case) (size_of it) h.large ∙ ap (λ n. ltb largest n) (sym (size-more case it));
  all = λ f. absurd (cc);
}
holds-one case held it score left false h is =
    let all = h.all refl in
    let size_same : size_of score ≡ size_of it = ap size_of is.0 in record {
      large = no-larger largest left (size case) (size_of it) all.1 is.1 ∙ ap (λ n. ltb largest n) (sym (size-more case it));
      all = λ f. (
        ap (λ (xs : List Named). xs ++ score ∷ []) all.0 ∙ ap (λ (x : Named). case ++ x ∷ []) is.0,
        omega (arith, all.1, is.1, size_same, size-more case it),
      );
    }

-- a score more is too large
pub holds-less : (case held : List Named) (it : Named) (left : ℕ) (large : Bool) → HoldsCase case held left large
    → left < size_of it → HoldsCase (case ++ it ∷ []) held 0 true
holds-less case held it left true h less = record {
  large = larger largest (size case) (size_of it) h.large ∙ ap (λ n. ltb largest n) (sym (size-more case it));
  all = λ f. absurd (cc);
}
holds-less case held it left false h less = record {
  large = too-large largest left (size case) (size_of it) (h.all refl).1 less ∙ ap (λ n. ltb largest n) (sym (size-more case it));
  all = λ f. absurd (cc);
}

-- the first score of a name, from one that has another on
pub score_in-next : (score : Named) (scores : List Named) (name : List ℕ) → bytes_eq score.name name ≡ false
    → score_in (score ∷ scores) name ≡ score_in scores name
unfolding score_in
score_in-next score scores name other = rw other refl

pub score_in-here : (score : Named) (scores : List Named) (name : List ℕ) → bytes_eq score.name name ≡ true
    → score_in (score ∷ scores) name ≡ Some score.text
unfolding score_in
score_in-here score scores name same = rw same refl

pub score_in-none : (name : List ℕ) → score_in [] name ≡ None
unfolding score_in
score_in-none name = refl

-- a name, and the list behind it
pub score-read : (name text all rest : List ℕ) → Then (IsPacket name) (IsText text) all rest
    → IsScore (record { name = name; text = text }) all rest
unfolding Chain
score-read name text all rest is =
    let behind = is.2 in
    record { packets = behind.packets; is = (behind.is.0, (is.0, is.1, behind.is.1), behind.is.2); joined = behind.joined }

-- what stops behind scores, stops in their case
pub stops-next : (scores : List Named) (all rest : List ℕ) → Then (Chain IsScore scores) Stops all rest → StopsInCase all rest
stops-next scores all rest is = record {
  scores = scores;
  packets = [];
  stops = (is.0, is.1, (is.0, chain-none IsPacket is.0, is.2));
}

pub stops-score : (scores : List Named) (name all rest : List ℕ)
    → Then (Then (Chain IsScore scores) (IsPacket name)) StopsInList all rest → StopsInCase all rest
unfolding Chain
stops-score scores name all rest is =
    let first = is.1 in
    let behind = is.2 in record {
      scores = scores;
      packets = name ∷ behind.packets;
      stops = (first.0, first.1, (behind.stops.0, (is.0, first.2, behind.stops.1), behind.stops.2));
    }

-- a loop over scores: the first of a name is in front, or among those behind
pub find-here : (scores : List Named) (name text : List ℕ) (i : ℕ) (score : Named) → score_in scores name ≡ score_in (drop i scores) name
    → i < length scores → score ≡ get_or scores i score → bytes_eq score.name name ≡ true → text ≡ score.text → score_in scores name ≡ Some text
find-here scores name text i score before less is same said =
    before ∙ at_drop_more (λ xs. score_in xs name) scores i score less ∙ ap (λ s. score_in (s ∷ drop (i + 1) scores) name) (sym is)
    ∙ score_in-here score (drop (i + 1) scores) name same ∙ ap Some (sym said)

pub find-next : (scores : List Named) (name : List ℕ) (i : ℕ) (score : Named) → score_in scores name ≡ score_in (drop i scores) name
    → i < length scores → score ≡ get_or scores i score → bytes_eq score.name name ≡ false
    → score_in scores name ≡ score_in (drop (i + 1) scores) name
find-next scores name i score before less is other =
    before ∙ at_drop_more (λ xs. score_in xs name) scores i score less ∙ ap (λ s. score_in (s ∷ drop (i + 1) scores) name) (sym is)
    ∙ score_in-next score (drop (i + 1) scores) name other

pub find-none : (scores : List Named) (name : List ℕ) (i : ℕ) → score_in scores name ≡ score_in (drop i scores) name → length scores ≤ i
    → score_in scores name ≡ None
find-none scores name i before all = before ∙ at_drop_all (λ xs. score_in xs name) scores i all ∙ score_in-none name
