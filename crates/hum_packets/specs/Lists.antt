-- Lists of packets, as they are read from some bytes: each relation says what stands behind.
use Rattle.std.specs.Prelude.{◌≡◌, ℕ, ◌<◌, ◌≤◌, List, [], ◌∷◌, length}
use Rattle.std.specs.List.{concat, All}
use Rattle.hum_packets.specs.Packets.{packet, end, neither, front}

-- The first is read of these bytes, and then the second.
abbrev pub Then : (List ℕ → List ℕ → Type 0) → (List ℕ → List ℕ → Type 0) → List ℕ → List ℕ → Type 0
Then First Second all rest = (middle : List ℕ) × First all middle × Second middle rest

-- Each of a list is read, one behind the other.
unfoldable pub Chain : {A : Type 0} → (A → List ℕ → List ℕ → Type 0) → List A → List ℕ → List ℕ → Type 0
Chain Step [] all rest = all ≡ rest
Chain Step (x ∷ xs) all rest = (middle : List ℕ) × Step x all middle × Chain Step xs middle rest

-- a packet of these data
abbrev pub IsPacket : List ℕ → List ℕ → List ℕ → Type 0
IsPacket bytes all rest = front all ≡ packet bytes rest

-- the end of a list
abbrev pub IsEnd : List ℕ → List ℕ → Type 0
IsEnd all rest = front all ≡ end rest

-- packets of these data, and the end of their list
abbrev pub IsList : List (List ℕ) → List ℕ → List ℕ → Type 0
IsList packets = Then (Chain IsPacket packets) IsEnd

-- a list whose data, one behind the other, are these bytes
pub record IsText (bytes all rest : List ℕ) : Type 0 where
  pub packets : List (List ℕ)
  pub is : IsList packets all rest
  pub joined : bytes ≡ concat packets

-- What is read stops here: there is no packet and no end of a list.
abbrev pub Stops : List ℕ → List ℕ → Type 0
Stops all rest = (all ≡ rest) × (front rest ≡ neither)

-- it stops so in a list
pub record StopsInList (all rest : List ℕ) : Type 0 where
  pub packets : List (List ℕ)
  pub stops : Then (Chain IsPacket packets) Stops all rest

-- Bytes are cut into packets, none of which is empty: in one, if one may have so many.
abbrev pub IsDataSize : List ℕ → Type 0
IsDataSize bytes = (0 < length bytes) × (length bytes ≤ 65516)

pub record IsCut (bytes : List ℕ) (packets : List (List ℕ)) : Type 0 where
  pub joined : bytes ≡ concat packets
  pub sizes : All IsDataSize packets
  pub whole : 0 < length bytes → length bytes ≤ 65516 → packets ≡ bytes ∷ []
