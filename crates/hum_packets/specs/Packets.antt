-- Packets: four hexadecimal digits, which count themselves and the bytes behind them; `0000` ends a list of packets.
use Rattle.std.specs.Prelude.{ℕ, ◌+◌, ◌-◌, ◌*◌, ◌/◌, ◌%◌, ◌==◌, ◌&&◌, ◌||◌, nat_le, nat_lt, if◌then◌else◌}
use Rattle.std.specs.Prelude.{List, [], ◌∷◌, ◌++◌, length, take, drop, map, Option, None, Some}
use Rattle.std.specs.List.{concat}

-- the digit that a byte writes
abbrev pub digit_of : ℕ → Option ℕ
digit_of b =
    if nat_le 48 b && nat_le b 57 then Some (b - 48)
    else if nat_le 97 b && nat_le b 102 then Some (b - 97 + 10)
    else if nat_le 65 b && nat_le b 70 then Some (b - 65 + 10)
    else None

-- the number that two digits write, each of which counts so much
abbrev pub joined : ℕ → Option ℕ → Option ℕ → Option ℕ
joined base None low = None
joined base (Some high) None = None
joined base (Some high) (Some low) = Some (high * base + low)

abbrev pub pair_of : ℕ → ℕ → Option ℕ
pair_of a b = joined 16 (digit_of a) (digit_of b)

-- A size is 0, at the end of a list, or that of a packet with its digits.
abbrev pub size_by : Option ℕ → Option ℕ
size_by None = None
size_by (Some n) = if n == 0 || (nat_le 4 n && nat_le n 65520) then Some n else None

-- the size that the first four of some bytes write
unfoldable pub size_at : List ℕ → Option ℕ
size_at [] = None
size_at (a ∷ []) = None
size_at (a ∷ b ∷ []) = None
size_at (a ∷ b ∷ c ∷ []) = None
size_at (a ∷ b ∷ c ∷ d ∷ rest) = size_by (joined 256 (pair_of a b) (pair_of c d))

-- What some bytes begin with: a packet of these data, or the end of a list, and what stands behind it; or neither.
pub data Front : Type 0 where
  packet : (bytes rest : List ℕ) → Front
  end : (rest : List ℕ) → Front
  neither : Front

abbrev pub front_by : Option ℕ → List ℕ → Front
front_by None rest = neither
front_by (Some n) rest =
    if n == 0 then end rest
    else if nat_le (n - 4) (length rest) then packet (take (n - 4) rest) (drop (n - 4) rest)
    else neither

abbrev pub front : List ℕ → Front
front bytes = front_by (size_at bytes) (drop 4 bytes)

-- the byte that writes a digit
abbrev pub hex : ℕ → ℕ
hex d = if nat_lt d 10 then 48 + d else 87 + d

-- the four digits of a number
unfoldable pub digits : ℕ → List ℕ
digits n = hex (n / 4096 % 16) ∷ hex (n / 256 % 16) ∷ hex (n / 16 % 16) ∷ hex (n % 16) ∷ []

-- a packet of these data, and a list of packets
abbrev pub packet_of : List ℕ → List ℕ
packet_of bytes = digits (length bytes + 4) ++ bytes

abbrev pub zeros : List ℕ
zeros = 48 ∷ 48 ∷ 48 ∷ 48 ∷ []

abbrev pub list_of : List (List ℕ) → List ℕ
list_of packets = concat (map packet_of packets) ++ zeros
