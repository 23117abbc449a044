-- Which cells go on as the spine of a move: from a first place to before another.
use Rattle.std.specs.Prelude.{ℕ, ◌+◌}
use Rattle.hum_score.specs.declared.spines.Move.{Move}
use Rattle.hum_score.specs.declared.spines.Move.TheVariants.{Same, Left, Right, Join as Joined, Added}

abbrev pub low_of : Move → ℕ
low_of (Same j) = j
low_of (Left j) = j
low_of (Right j) = 0
low_of (Joined first last) = first
low_of (Added j) = 0

abbrev pub high_of : Move → ℕ
high_of (Same j) = j + 1
high_of (Left j) = j + 1
high_of (Right j) = 0
high_of (Joined first last) = last + 1
high_of (Added j) = 0
