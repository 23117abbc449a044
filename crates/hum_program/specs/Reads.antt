-- What is read of files and of streams.
use Rattle.std.specs.Prelude.{◌≡◌, ℕ, ◌+◌, List, take, Option, None, Some, Result, Ok, Err, IfSome}

-- So many of the bytes that a reader has, and one more, or all if it has fewer. Of a reader that doesn't tell
-- its bytes any may come.
abbrev pub AreRead : ℕ → Option (List ℕ) → List ℕ → Type 0
AreRead most remaining bytes = IfSome remaining (λ all. bytes ≡ take (most + 1) all)

-- A file is opened by its name: it tells its bytes, or there is none.
abbrev pub IsOpened : {F E : Type 0} → (F → Option (List ℕ)) → Option (List ℕ) → Result F E → Type 0
IsOpened remaining (Some bytes) (Ok file) = remaining file ≡ Some bytes
IsOpened remaining None (Err error) = Unit {0}
IsOpened remaining (Some bytes) (Err error) = ⊥
IsOpened remaining None (Ok file) = ⊥

-- The same bytes of the file of a name, which is there.
abbrev pub AreReadOf : ℕ → Option (List ℕ) → List ℕ → Type 0
AreReadOf most None bytes = ⊥
AreReadOf most (Some all) bytes = bytes ≡ take (most + 1) all
