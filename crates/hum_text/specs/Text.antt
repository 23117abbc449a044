-- The lines of bytes, the rules of a text, and its first fault.
use Rattle.std.specs.Prelude.{◌≡◌, ℕ, ◌+◌, ◌-◌, ◌<◌, Bool, true, false}
use Rattle.std.specs.Prelude.{◌&&◌, ◌||◌, ◌==◌}
use Rattle.std.specs.Prelude.{nat_lt}
use Rattle.std.specs.Prelude.{if◌then◌else◌, List, [], ◌∷◌, ◌++◌, length, take, map}
use Rattle.std.specs.Prelude.{Option, None, Some, slice_index, slice_index_or}
use Rattle.hum_text.specs.declared.Limits.{Limits}
use Rattle.hum_text.specs.declared.TextFault.{TextFault}
use Rattle.hum_text.specs.declared.TextFault.TheVariants.{S1, S2, S3, S7, Read, Memory}

-- the byte that ends a line
abbrev pub lf : ℕ
lf = 10

-- the byte that is dropped where it ends a line's text
abbrev pub cr : ℕ
cr = 13

-- a byte in front of the first piece of what follows it
abbrev pub onto : ℕ → List (List ℕ) → List (List ℕ)
onto b [] = (b ∷ []) ∷ []
onto b (p ∷ ps) = (b ∷ p) ∷ ps

-- The pieces that LF ends, each without its LF, and the last piece if it isn't empty.
unfoldable pub pieces : List ℕ → List (List ℕ)
pieces [] = []
pieces (b ∷ bs) = if b == lf then [] ∷ pieces bs else onto b (pieces bs)

-- whether CR is the last byte
abbrev pub ends_in_cr : List ℕ → Bool
ends_in_cr p = slice_index p (length p - 1) == cr

-- whether LF is the last byte
abbrev pub ends_in_lf : List ℕ → Bool
ends_in_lf p = slice_index p (length p - 1) == lf

-- a piece without one CR at its end
abbrev pub without_cr : List ℕ → List ℕ
without_cr p = if ends_in_cr p then take (length p - 1) p else p

-- the lines of bytes
abbrev pub lines : List ℕ → List (List ℕ)
lines bytes = map without_cr (pieces bytes)

-- The rule that breaks in line n, of which the piece has come, its LF too where it has ended, and
-- which is the end of a prefix of this size. At one byte the lowest number decides.
abbrev pub rule_in : Limits → ℕ → List ℕ → Bool → ℕ → Option TextFault
rule_in l n piece ended size =
    if ended && length (without_cr piece) == 0 then Some S1
    else if nat_lt l.line (length (without_cr piece)) then Some S2
    else if nat_lt l.records n then Some S3
    else if nat_lt l.bytes size then Some S7
    else None

-- the piece of the last byte
abbrev pub last_piece : List ℕ → List ℕ
last_piece p = slice_index_or (pieces p) (length (pieces p) - 1) []

-- the rule that a prefix breaks, whatever follows it
unfoldable pub rule_at : Limits → List ℕ → Option TextFault
rule_at l p = rule_in l (length (pieces p)) (last_piece p) (ends_in_lf p) (length p)

-- the rule that breaks at the end of the input: the last piece is one CR, and LF doesn't end it
unfoldable pub rule_at_end : List ℕ → Option TextFault
rule_at_end p =
    if length p == 0 || ends_in_lf p then None
    else if length (without_cr (last_piece p)) == 0 then Some S1 else None

-- a fault by its line and its rule, or else a later one
abbrev pub or_later : Option TextFault → ℕ → Option (ℕ × TextFault) → Option (ℕ × TextFault)
or_later None n later = later
or_later (Some rule) n later = Some (n, rule)

-- The fault at the shortest prefix that breaks a rule, of those that are longer than `before`.
unfoldable pub fault_after : Limits → List ℕ → List ℕ → Option (ℕ × TextFault)
fault_after l before [] = or_later (rule_at_end before) (length (pieces before)) None
fault_after l before (b ∷ bs) =
    or_later (rule_at l (before ++ b ∷ [])) (length (pieces (before ++ b ∷ [])))
    (fault_after l (before ++ b ∷ []) bs)

-- The first fault of a text: the line, counted from 1, and the rule.
abbrev pub fault_of : Limits → List ℕ → Option (ℕ × TextFault)
fault_of l bytes = fault_after l [] bytes

-- a fault of the text, and not of its source or of memory
abbrev pub IsOfText : TextFault → Type 0
IsOfText Read = ⊥
IsOfText Memory = ⊥
IsOfText S1 = Unit {0}
IsOfText S2 = Unit {0}
IsOfText S3 = Unit {0}
IsOfText S7 = Unit {0}

-- The rule that breaks at byte k of a line, of which only the last byte can be LF. It is line n,
-- and t bytes stand before it.
abbrev pub rule_of_line : Limits → ℕ → ℕ → List ℕ → ℕ → Option TextFault
rule_of_line l n t held k =
    if slice_index held k == lf then rule_in l n (take k held) true (t + (k + 1))
    else rule_in l n (take (k + 1) held) false (t + (k + 1))

-- no byte of the line so far breaks a rule
abbrev pub IsLawful : Limits → ℕ → ℕ → List ℕ → Type 0
IsLawful l n t held = (k : ℕ) → k < length held → rule_of_line l n t held k ≡ None

-- A byte of the line breaks this rule, and none before it breaks any.
pub record BreaksFirst (l : Limits) (n t : ℕ) (held : List ℕ) (fault : TextFault) : Type 0 where
  pub place : ℕ
  pub within : place < length held
  pub breaks : rule_of_line l n t held place ≡ Some fault
  pub before : (j : ℕ) → j < place → rule_of_line l n t held j ≡ None

-- what ends where a line begins: nothing, or an LF
unfoldable pub IsAtStart : List ℕ → Type 0
IsAtStart [] = Unit {0}
IsAtStart (b ∷ []) = b ≡ lf
IsAtStart (b ∷ c ∷ bs) = IsAtStart (c ∷ bs)
