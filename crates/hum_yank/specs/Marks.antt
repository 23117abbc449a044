-- What a record begins, and what is remembered of passages.
use Rattle.std.specs.Prelude.{ℕ, ◌+◌, max, Bool, ◌||◌, List, if◌then◌else◌}
use Rattle.std.specs.Prelude.{Option, Some, None, unwrap_or}
use Rattle.hum_score.specs.Row.{Row}
use Rattle.hum_yank.specs.declared.marking.Mark.{Mark}
use Rattle.hum_yank.specs.declared.marking.Mark.TheVariants.{Inside, Counted, Bears}
use Rattle.hum_yank.specs.Passages.{Form, Lines, Numbers, Occurrences, Labels, number_after}
use Rattle.hum_yank.specs.declared.passages.Passages.{Passages}
use Rattle.hum_yank.specs.Passages.{has_value, first_value, has_match, is_named, label_of}
use Rattle.hum_yank.specs.Passages.{number_above, has_ended, counted, greatest}

-- by the token that bears a number, if there is one
abbrev pub marked : (List ℕ → Option ℕ) → Option (List ℕ) → Mark
marked end_of None = Inside
marked end_of (Some token) = Bears (number_after end_of token)

-- by the label, if there is one
abbrev pub labelled : List ℕ → Option (List ℕ) → Mark
labelled name None = Inside
labelled name (Some label) = if is_named name (Some label) then Counted else Bears None

abbrev pub mark_of : Form → Row → Mark
mark_of Lines row = Counted
mark_of (Numbers end_of) row = marked end_of (first_value (has_match end_of) row)
mark_of (Occurrences begins ends) row = if has_value begins row then Counted else Inside
mark_of (Labels name) row = labelled name (label_of row)

-- after a record in the passage at hand
abbrev pub inside : Passages → Bool → Passages
inside p ends = record {
  number = p.number;
  ended = ends || p.ended;
  counted = p.counted;
  greatest = max (unwrap_or p.number 0) p.greatest;
}

-- after one that begins a passage
abbrev pub begun : Passages → Option ℕ → ℕ → Bool → Passages
begun p number counted ends = record {
  number = number;
  ended = ends;
  counted = counted;
  greatest = max (unwrap_or number 0) p.greatest;
}

-- after a record, by what it begins and whether a passage ends with it
abbrev pub next_passages : Passages → Mark → Bool → Passages
next_passages p Inside ends = inside p ends
next_passages p Counted ends = begun p (Some (p.counted + 1)) (p.counted + 1) ends
next_passages p (Bears number) ends = begun p number p.counted ends

-- the number of the passage in which it lies
abbrev pub number_in : Passages → Mark → Option ℕ
number_in p Inside = if p.ended then None else p.number
number_in p Counted = Some (p.counted + 1)
number_in p (Bears number) = number

abbrev pub last_in : Form → Passages → ℕ
last_in Lines p = p.counted
last_in (Numbers end_of) p = p.greatest
last_in (Occurrences begins ends) p = p.counted
last_in (Labels name) p = p.counted

-- what is remembered of passages after some records, the newest first
abbrev pub passages_of : Form → List Row → Passages
passages_of form seen = record {
  number = number_above form seen;
  ended = has_ended form seen;
  counted = counted form seen;
  greatest = greatest form seen;
}
