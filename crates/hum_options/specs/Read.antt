-- What a text is read as, and as nothing else.
use Rattle.std.specs.Prelude.{◌≡◌, Option, Some, IfSome}

-- What was found is what the text is read as. It is such a value, and each such value is found: so a
-- text has one reading or none.
pub record IsReadAs {A : Type 0} (Is : A → Type 0) (reading found : Option A) : Type 0 where
  pub read : found ≡ reading
  pub is : IfSome found Is
  pub alone : (value : A) → Is value → found ≡ Some value
