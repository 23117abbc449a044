-- The records of chosen passages.
use Rattle.std.specs.Prelude.{ℕ, ◌+◌, Bool, true, false, ◌&&◌, nat_lt, nat_le}
use Rattle.std.specs.Prelude.{List, [], ◌∷◌, if◌then◌else◌, Option, Some, None, Result, Ok}
use Rattle.std.specs.List.{list_any, list_all}
use Rattle.hum_score.specs.declared.records.SpinedKind.TheVariants.{Local, Interpretation, Values}
use Rattle.hum_score.specs.Row.{Row, Comment, Spined}
use Rattle.hum_stage.specs.declared.faults.Rule.{Rule}
use Rattle.hum_score.specs.Rules.{is_unfinished, is_closed}
use Rattle.hum_score.specs.Score.{path_after, passed}
use Rattle.hum_choices.specs.declared.yank.YankRange.{YankRange}
use Rattle.hum_choices.specs.declared.yank.YankRange.TheVariants.{Through, Onward, ToEnd, FromEnd}
use Rattle.hum_yank.specs.Passages.{Form, passage_of, last_of}

-- how passages are marked, and which are chosen
pub record Choice : Type 0 where
  pub form : Form
  pub ranges : List YankRange

-- whether a range that doesn't look at the last number chooses a number
abbrev pub chooses_early : ℕ → YankRange → Bool
chooses_early x (Through first last) = nat_le first x && nat_le x last
chooses_early x (Onward first) = nat_le first x
chooses_early x (ToEnd first before) = false
chooses_early x (FromEnd from to) = false

-- whether one that looks at the last number chooses it, once that is known
abbrev pub chooses_late : ℕ → ℕ → YankRange → Bool
chooses_late last x (Through a b) = false
chooses_late last x (Onward a) = false
chooses_late last x (ToEnd first before) = nat_le first x && nat_le (x + before) last
chooses_late last x (FromEnd from to) = nat_le last (x + from) && nat_le (x + to) last

-- whether it chooses it whatever follows, where the last number is no less than this
abbrev pub chooses_now : ℕ → ℕ → YankRange → Bool
chooses_now least x (Through a b) = false
chooses_now least x (Onward a) = false
chooses_now least x (ToEnd first before) = nat_le first x && nat_le (x + before) least
chooses_now least x (FromEnd from to) = false

-- whether it drops it whatever follows
abbrev pub drops_now : ℕ → ℕ → YankRange → Bool
drops_now least x (Through a b) = true
drops_now least x (Onward a) = true
drops_now least x (ToEnd first before) = nat_lt x first
drops_now least x (FromEnd from to) = nat_lt (x + from) least

-- Whether ranges from the end choose a number, given whether the last spine has ended and the last
-- number so far; None while that is open.
abbrev pub is_chosen : List YankRange → Bool → ℕ → ℕ → Option Bool
is_chosen ranges true last x = Some (list_any (chooses_late last x) ranges)
is_chosen ranges false least x =
    if list_any (chooses_now least x) ranges then Some true
    else if list_all (drops_now least x) ranges then Some false
    else None

-- the records through the last that isn't a global comment: in a closed score that is the one that
-- ends the last spine
abbrev pub to_spined : List Row → List Row
to_spined [] = []
to_spined (Comment text ∷ past) = to_spined past
to_spined (Spined kind tokens ∷ past) = Spined kind tokens ∷ past

-- The last number so far; comments after the end of the last spine add nothing to it.
abbrev pub last_at : Form → List Row → ℕ
last_at form seen =
    if is_closed (path_after seen) then last_of form (to_spined seen) else last_of form seen

-- the same by the records so far
abbrev pub chosen_by : Choice → List Row → ℕ → Option Bool
chosen_by o seen x = is_chosen o.ranges (is_closed (path_after seen)) (last_at o.form seen) x

-- Whether a record of a passage with a number is chosen, given the records before it, itself and
-- those behind it. Ranges from the end choose no comment before the opening record or after the one
-- that ends the last spine.
abbrev pub is_yanked : Choice → List Row → Row → List Row → ℕ → Option Bool
is_yanked o past row rows x =
    if list_any (chooses_early x) o.ranges then Some true
    else if is_unfinished (path_after past) then chosen_by o (passed (row ∷ past) rows) x
    else Some false

abbrev pub kept : Row → Option Bool → Option (Result (List Row) Rule)
kept row None = None
kept row (Some true) = Some (Ok (row ∷ []))
kept row (Some false) = Some (Ok [])

-- one that lies in no passage with a number is dropped
abbrev pub yank_numbered : Choice → List Row → Row → List Row → Option ℕ
    → Option (Result (List Row) Rule)
yank_numbered o past row rows None = Some (Ok [])
yank_numbered o past row rows (Some x) = kept row (is_yanked o past row rows x)

-- What is decided of a record, given the records before it and behind it. Interpretations stay.
abbrev pub yank : Choice → List Row → Row → List Row → Option (Result (List Row) Rule)
yank o past (Spined Interpretation tokens) rows = Some (Ok (Spined Interpretation tokens ∷ []))
yank o past (Spined Local tokens) rows =
    yank_numbered o past (Spined Local tokens) rows (passage_of o.form past (Spined Local tokens))
yank o past (Spined Values tokens) rows =
    yank_numbered o past (Spined Values tokens) rows (passage_of o.form past (Spined Values tokens))
yank o past (Comment text) rows =
    yank_numbered o past (Comment text) rows (passage_of o.form past (Comment text))
