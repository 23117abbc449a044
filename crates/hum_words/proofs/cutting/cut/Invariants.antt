use Rattle.std.proofs.Common.{◌≡◌, ℕ, ◌+◌, ◌≤◌, false, List, length}
use denote.Text.{Utf8}
use denote.Shadow.{shadow}
use Rattle.hum_words.specs.Characters.{begins_blank, trimmed}
use Rattle.hum_words.specs.Pieces.{items_of}
use Rattle.hum_words.specs.Writing.{GoesOn}
use Rattle.hum_words.proofs.cutting.cut.Given as goal

abbrev pub invariant-loop-rest : goal.invariant-loop-rest
invariant-loop-rest l = record {
  text : shadow (Utf8 l.rest);
  first : begins_blank l.rest ≡ false;
  count : l.words + length l.rest ≤ length l.line;
  goes : (behind : List ℕ) × GoesOn 0 (items_of l.pieces.items) l.words behind l.line
      × (l.rest ≡ trimmed behind);
}

abbrev pub decreases-loop-rest : goal.decreases-loop-rest
decreases-loop-rest l = length l.rest
