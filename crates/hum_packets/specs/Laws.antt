-- What holds of every list of packets.
use Rattle.std.specs.Prelude.{◌≡◌, ℕ, ◌≤◌, List, ◌++◌, length}
use Rattle.std.specs.List.{All}
use Rattle.hum_packets.specs.Packets.{list_of}
use Rattle.hum_packets.specs.Lists.{IsList}

-- what a packet may have
abbrev pub IsShort : List ℕ → Type 0
IsShort bytes = length bytes ≤ 65516

-- A list that was written is read as its packets, whatever stands behind it.
abbrev pub IsReadBack : List (List ℕ) → Type 0
IsReadBack packets = All IsShort packets → (rest : List ℕ) → IsList packets (list_of packets ++ rest) rest

-- Bytes are read in one way.
abbrev pub IsReadInOneWay : List ℕ → Type 0
IsReadInOneWay all =
    (packets others : List (List ℕ)) (rest left : List ℕ) → IsList packets all rest → IsList others all left
    → (packets ≡ others) × (rest ≡ left)
