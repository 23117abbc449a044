-- Texts of plain data: no token is empty, and none begins with the mark of another kind.
use Rattle.std.specs.Prelude.{◌≡◌, ◌≤◌, ◌==◌, ◌&&◌, ◌||◌, ◌+◌, ◌*◌, ℕ, Bool, false, List, [], ◌∷◌}
use Rattle.std.specs.Prelude.{◌++◌, length, take, drop, map, bit_and, Ok}
use Rattle.std.specs.Simd.Lanes.{chunk, mask_l}
use Rattle.hum_score.specs.declared.records.SpinedKind.TheVariants.{Values}
use Rattle.hum_score.specs.Spelling.{has_byte, is_comment, kind_of_tokens, parts}
use Rattle.hum_record.specs.Cutting.{bits_of}
use Rattle.hum_record.specs.Fields.{ends_from}
use Rattle.hum_record.specs.Lines.{IsBehind}

-- a byte with which no token of data begins: a tab, since then it is empty, `!` and `*`
abbrev pub is_mark : ℕ → Bool
is_mark byte = byte == 9 || (byte == 33 || byte == 42)

-- Some token that begins in a text is none of data; with the text's first byte begins one, or not.
abbrev pub has_mark : Bool → List ℕ → Bool
has_mark head [] = false
has_mark head (byte ∷ text) = (head && is_mark byte) || has_mark (byte == 9) text

-- Behind a text a token begins.
abbrev pub head_after : Bool → List ℕ → Bool
head_after head [] = head
head_after head (byte ∷ text) = head_after (byte == 9) text

-- a byte that seldom stands in data: `!`, `*` and CR
abbrev pub is_rare : ℕ → Bool
is_rare byte = (byte == 33 || byte == 42) || byte == 13

-- a byte at which a look at data stops: LF, or one that seldom stands in it
abbrev pub is_stop : ℕ → Bool
is_stop byte = is_rare byte || byte == 10

-- Some bytes begin with 64 at none of which a look at data stops.
abbrev pub HasNoStop : List ℕ → Type 0
HasNoStop held = (64 ≤ length held) × (mask_l (map is_stop (chunk 0 64 held)) ≡ 0)

-- A text is plain data.
pub record IsPlain (text : List ℕ) : Type 0 where
  pub unbroken : has_byte 13 text ≡ false
  pub spined : is_comment text ≡ false
  pub lawful : kind_of_tokens (parts text) ≡ Ok Values

-- These bits say where its tokens end, as if a tab stood behind it.
pub record HasEnds (text : List ℕ) (ends : ℕ) : Type 0 where
  pub plain : IsPlain text
  pub bits : ends ≡ bits_of 9 (text ++ 9 ∷ [])

-- These are the places where its tokens end.
pub record HasPlaces (text places : List ℕ) : Type 0 where
  pub plain : IsPlain text
  pub cut : places ≡ ends_from 0 (parts text)

-- A line ends among the bytes from a place on. None of these that stand in front of its end is a stop, these
-- bits say where its tokens end among them, as if a tab stood behind it, and none that begins among them is
-- empty; with the first of them begins one, or not. With its line end the line has so many bytes.
pub record EndsLine (held : List ℕ) (at head len size ends : ℕ) : Type 0 where
  pub rest : ℕ
  pub lf : ℕ
  pub place : len ≡ at + rest
  pub behind : IsBehind held len lf
  pub whole : size ≡ lf + 1
  pub free : mask_l (map is_stop (take rest (drop at held))) ≡ 0
  pub bits : ends ≡ bits_of 9 (take rest (drop at held) ++ 9 ∷ [])
  pub apart : bit_and (head + 2 * ends) ends ≡ 0
