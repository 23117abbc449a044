-- Writing the pieces of a record.
use Rattle.std.specs.Prelude.{◌≡◌, ℕ, zero, suc, ◌+◌, ◌<◌, ◌≤◌, Bool, true, false}
use Rattle.std.specs.Prelude.{if◌then◌else◌}
use Rattle.std.specs.Prelude.{List, [], ◌∷◌, ◌++◌, map, length, drop}
use Rattle.std.specs.List.{AllByRecursion}
use lib.Chars.{codes}
use Rattle.hum_record.specs.declared.TheConstants.{MOST_BYTES}
use Rattle.hum_score.specs.declared.records.SpinedKind.TheVariants.{Interpretation}
use Rattle.hum_score.specs.Row.{Row}
use Rattle.hum_score.specs.Spelling.{IsToken}
use Rattle.hum_record.specs.Building.{Draft, spelled}
use Rattle.hum_columns.specs.declared.writing.Phase.{Phase}
use Rattle.hum_columns.specs.declared.writing.Phase.TheVariants.{Before, Inside, After}
use Rattle.hum_columns.specs.declared.writing.Passed.{Passed}
use Rattle.hum_columns.specs.Spread.{JoinedToken, piece, goes_on, tokens_in, first_alone, first_done}
use Rattle.hum_columns.specs.Spread.{join_alone}
use Rattle.hum_columns.specs.Spread.{spread, filled}

-- tokens of an interpretation that isn't too long
pub record Fit (pieces : List JoinedToken) : Type 0 where
  pub lawful : AllByRecursion (λ piece. IsToken Interpretation piece.token) pieces
  pub at_most : length (spelled (tokens_in pieces)) ≤ MOST_BYTES

-- an interpretation in the making
abbrev pub draft : List (List ℕ) → Draft
draft tokens = record { kind = Interpretation; tokens = tokens; spent = false }

-- tokens of these pieces may be added to a record in the making
pub record MayAdd (before : Draft) (added : List (List ℕ)) (pieces : List JoinedToken) : Type 0 where
  pub made : before ≡ draft before.tokens
  pub lawful : AllByRecursion (λ piece. IsToken Interpretation piece.token) pieces
  pub fits : length (spelled (before.tokens ++ added)) ≤ MOST_BYTES

-- pieces of which those in front, that begin no join, are known by their tokens
abbrev pub behind : List (List ℕ) → List JoinedToken → List JoinedToken
behind front pieces = map (piece false) front ++ pieces

abbrev pub null_each : List JoinedToken → List (List ℕ)
null_each = map (λ _. codes "*")

-- what is left to write of a record with the first join alone
abbrev pub alone_from : Phase → List JoinedToken → List (List ℕ)
alone_from Before pieces = first_alone pieces
alone_from Inside pieces = join_alone pieces
alone_from After pieces = null_each pieces

-- where a piece stands, after one that stands there
abbrev pub next_phase : Phase → JoinedToken → Phase
next_phase Before piece = if piece.begins then Inside else Before
next_phase Inside piece = if goes_on piece then Inside else After
next_phase After piece = After

-- what is written of a piece that stands there
abbrev pub shown : Phase → JoinedToken → List ℕ
shown Before piece = codes "*"
shown Inside piece = piece.token
shown After piece = codes "*"

-- What of some pieces was added to a record in the making, when the first join was passed: their
-- tokens before and after.
abbrev pub HasPassed : List JoinedToken → Draft → Draft → Passed → Type 0
HasPassed pieces before after passed =
    (behind after.tokens (drop passed.pieces pieces) ≡ behind before.tokens (first_done pieces))
    × (after ≡ draft after.tokens)
    × (length after.tokens ≡ length before.tokens + passed.tokens)
    × (passed.tokens ≤ passed.pieces)
    × (passed.pieces ≤ length pieces)
