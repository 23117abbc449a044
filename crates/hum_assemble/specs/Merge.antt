-- Sources side by side: the record that they give next, and how they go on.
use Rattle.std.specs.Prelude.{ℕ, ◌+◌, nat_lt, Bool, true, if◌then◌else◌}
use Rattle.std.specs.Prelude.{List, [], ◌∷◌, ◌++◌, length, replicate, Option, None, Some}
use Rattle.std.specs.List.{list_any, position_from}
use Rattle.hum_score.specs.declared.records.SpinedKind.{SpinedKind}
use Rattle.hum_score.specs.Row.{Row, Comment, Spined, text_of, tokens_of}
use Rattle.hum_score.specs.Spines.{Path, width, after}
use Rattle.hum_stage.specs.declared.faults.Rule.{Rule}
use Rattle.hum_stage.specs.declared.faults.Rule.TheVariants.{A1}
use Rattle.hum_stage.specs.Limits.{limit_broken}
use Rattle.hum_stage.specs.declared.faults.End as end
use Rattle.hum_assemble.specs.declared.places.Place.{Place}
use Rattle.hum_assemble.specs.declared.places.Next as next
use Rattle.hum_assemble.specs.declared.places.Next.TheVariants.{Gives, Refused, Wants, Over}
use Rattle.hum_assemble.specs.Source.{Source, is_inside}
use Rattle.hum_assemble.specs.Places.{kind_at, null_at, is_over}
use Rattle.hum_assemble.specs.Round.{any_due, is_lost, is_missing, earliest, takes, still_free}
use Rattle.hum_assemble.specs.Round.{in_round}
use Rattle.hum_path.specs.declared.TheConstants.{MOST_SPINES}

abbrev pub tokens_of_first : List Row → List (List ℕ)
tokens_of_first [] = []
tokens_of_first (row ∷ rows) = tokens_of row

-- a null token at each current spine of a source
abbrev pub nulls : Place → Source → List (List ℕ)
nulls p s = replicate (width s.path) (null_at (kind_at p))

-- what a source has in the record that is given: its tokens, or null tokens
abbrev pub part_given : Bool → Place → Source → List (List ℕ)
part_given taken p s = if taken then tokens_of_first s.coming else nulls p s

-- The tokens of the record that is given at this place.
abbrev pub tokens_given : Bool → Bool → Place → List Source → List (List ℕ)
tokens_given free going p [] = []
tokens_given free going p (s ∷ ss) =
    part_given (takes free going p s) p s
    ++ tokens_given (still_free free going p s) going p ss

abbrev pub text_of_first : List Row → List ℕ
text_of_first [] = []
text_of_first (row ∷ rows) = text_of row

-- The text of the global comment that is given.
abbrev pub comment_given : Bool → Place → List Source → List ℕ
comment_given going p [] = []
comment_given going p (s ∷ ss) =
    if takes true going p s then text_of_first s.coming else comment_given going p ss

abbrev pub row_of_kind : Option SpinedKind → List ℕ → List (List ℕ) → Row
row_of_kind None text tokens = Comment text
row_of_kind (Some kind) text tokens = Spined kind tokens

-- The record that is given at this place. Global comments aren't filled.
abbrev pub made : Bool → Place → List Source → Row
made going p ss = row_of_kind (kind_at p) (comment_given going p ss) (tokens_given true going p ss)

-- A source whose next record is given stays in the round until its added spines are begun.
abbrev pub advanced : Path → Bool → List Row → Option end.End → Source
advanced path due [] ended = record { path = path; due = due; coming = []; ended = ended }
advanced path due (row ∷ rows) ended = record {
  path = after path row;
  due = is_inside (after path row);
  coming = rows;
  ended = ended;
}

abbrev pub moved : Bool → Bool → Place → Source → Source
moved taken going p s =
    if taken then advanced s.path s.due s.coming s.ended
    else record s { due = in_round going p s }

abbrev pub all_moved : Bool → Bool → Place → List Source → List Source
all_moved free going p [] = []
all_moved free going p (s ∷ ss) =
    moved (takes free going p s) going p s ∷ all_moved (still_free free going p s) going p ss

-- how many spines stand side by side
abbrev pub spines : List Source → ℕ
spines [] = 0
spines (s ∷ ss) = width s.path + spines ss

-- The sources, and how many records were given.
pub record Merge : Type 0 where
  pub sources : List Source
  pub given : ℕ

-- The first rule that the next record would break, by the spines after it, its bytes, and how many
-- were given before.
abbrev pub rule_broken : ℕ → ℕ → ℕ → Option Rule
rule_broken spines bytes given =
    if nat_lt MOST_SPINES spines then Some A1 else limit_broken bytes given

abbrev pub unless_broken : Place → Option Rule → next.Next
unless_broken p None = Gives p
unless_broken p (Some rule) = Refused rule

abbrev pub ahead_at : Bool → Place → List Source → ℕ → next.Next
ahead_at going p ss given =
    if is_over p then Over
    else unless_broken p (rule_broken
    (spines (all_moved true going p ss)) (length (text_of (made going p ss))) given)

abbrev pub unless_missing : Option ℕ → next.Next → next.Next
unless_missing (Some j) known = Wants j
unless_missing None known = known

-- Where all that is asked can still be known: where it isn't known yet the leftmost such source is
-- wanted, else the records at the earliest place are given.
abbrev pub ahead_open : Bool → List Source → ℕ → next.Next
ahead_open going ss given =
    unless_missing (position_from (is_missing going) 0 ss)
    (ahead_at going (earliest going ss) ss given)

-- What can be done next: nothing any more where what is asked of a source can't be known.
abbrev pub ahead_of : Bool → List Source → ℕ → next.Next
ahead_of going ss given =
    if list_any (is_lost going) ss then Over else ahead_open going ss given

abbrev pub ahead : Merge → next.Next
ahead m = ahead_of (any_due m.sources) m.sources m.given

abbrev pub given_row : Place → Merge → Row
given_row p m = made (any_due m.sources) p m.sources

abbrev pub given_on : Place → Merge → Merge
given_on p m =
    record { sources = all_moved true (any_due m.sources) p m.sources; given = m.given + 1 }
