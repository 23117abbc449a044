use Rattle.std.proofs.Common.{◌≡◌, ℕ, ◌<◌, true, get_or}
use Rattle.hum_words.specs.Characters.{is_bare}
use Rattle.hum_words.proofs.characters.bare_len.Given as goal

abbrev pub invariant-loop-index : goal.invariant-loop-index
invariant-loop-index l = (k : ℕ) → k < l.index → is_bare (get_or l.line k 0) ≡ true
