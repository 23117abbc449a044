-- Cases: scores by their names.
use Rattle.std.specs.Prelude.{◌≡◌, ℕ, ◌+◌, ◌<◌, ◌≤◌, Bool, false, nat_lt, if◌then◌else◌}
use Rattle.std.specs.Prelude.{List, [], ◌∷◌, ◌++◌, length, take, Option, None, Some, MatchOption}
use Rattle.std.specs.List.{concat}
use Rattle.std.specs.Str.{bytes_eq}
use Rattle.hum_text.specs.declared.calls.Source.{Ghosts as Source}
use Rattle.hum_words.specs.Bundle.{largest}
use Rattle.hum_words.specs.declared.text.TheConstants.{LONGEST_PLAN}
use Rattle.hum_packets.specs.Lists.{Then, Chain, IsPacket, IsEnd, IsList, IsText, Stops}
use Rattle.hum_packets.specs.Streams.{Reading, Took, Ceases, Is, coming, further}
use Rattle.hum_packets.specs.declared.stop.Stop.{Stop}
use Rattle.hum_packets.specs.declared.stop.Stop.TheVariants.{Broken, Read, Write, Memory}

-- A score, and what it is called.
pub record Named : Type 0 where
  pub name : List ℕ
  pub text : List ℕ

-- the first score of a name
unfoldable pub score_in : List Named → List ℕ → Option (List ℕ)
score_in [] name = None
score_in (score ∷ scores) name = if bytes_eq score.name name then Some score.text else score_in scores name

-- how many bytes names and scores are
abbrev pub size_of : Named → ℕ
size_of score = length score.name + length score.text

unfoldable pub size : List Named → ℕ
size [] = 0
size (score ∷ scores) = size_of score + size scores

-- a list whose first packet is the name, and the others are the score
pub record IsScore (score : Named) (all rest : List ℕ) : Type 0 where
  pub packets : List (List ℕ)
  pub is : IsList (score.name ∷ packets) all rest
  pub joined : score.text ≡ concat packets

-- scores, and an empty list
abbrev pub IsCase : List Named → List ℕ → List ℕ → Type 0
IsCase scores = Then (Chain IsScore scores) IsEnd

-- The plan is the text of a list; of one that is longer than a plan may be, so much that this is seen.
pub record IsPlan (plan all rest : List ℕ) : Type 0 where
  pub text : List ℕ
  pub is : IsText text all rest
  pub held : plan ≡ take (LONGEST_PLAN + 1) text

-- What is read stops in a case, or behind all cases.
pub record StopsInCase (all rest : List ℕ) : Type 0 where
  pub scores : List Named
  pub packets : List (List ℕ)
  pub stops : Then (Chain IsScore scores) (Then (Chain IsPacket packets) Stops) all rest

-- so many bytes of a case may still come; it may be too large already
pub record HoldsCase (case held : List Named) (left : ℕ) (is_too_large : Bool) : Type 0 where
  pub large : is_too_large ≡ nat_lt largest (size case)
  pub all : is_too_large ≡ false → (held ≡ case) × (left + size case ≡ largest)

-- a score that is held, where so many bytes may still come
abbrev pub HoldsScore : ℕ → Named → Option Named → Type 0
HoldsScore left score held = MatchOption held (left < size_of score) (λ it. (it ≡ score) × (size_of score ≤ left))

module _ {R : Type 0} (source : Source R) where
  -- A score was read behind its name, and is held.
  pub record TookScore (left : ℕ) (old new : Reading R) (held : Option Named) : Type 0 where
    pub text : List ℕ
    pub took : Took source (IsText text) old new
    pub holds : HoldsScore left (record { name = old.last; text = text }) held

  -- A case was read, and is held.
  pub record TookCase (old new : Reading R) (held : List Named) (is_too_large : Bool) : Type 0 where
    pub case : List Named
    pub took : Took source (IsCase case) old new
    pub large : is_too_large ≡ nat_lt largest (size case)
    pub all : is_too_large ≡ false → held ≡ case

  -- The input ends here.
  abbrev pub EndsHere : Reading R → Type 0
  EndsHere old = Is (coming source old) []

  -- The input doesn't end here, and what is read stops in a case.
  pub record BreaksCase (old : Reading R) (at : ℕ) : Type 0 where
    pub before : List ℕ
    pub behind : List ℕ
    pub is : Is (coming source old) (before ++ behind)
    pub steps : StopsInCase (before ++ behind) behind
    pub counts : at ≡ further old.passed (length before)
    pub some : 0 < length (before ++ behind)

  abbrev pub LostCase : Reading R → Stop → Type 0
  LostCase old (Broken at) = BreaksCase old at
  LostCase old Read = Ceases source StopsInCase old
  LostCase old Write = Unit {0}
  LostCase old Memory = Unit {0}
