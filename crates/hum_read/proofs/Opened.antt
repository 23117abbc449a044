-- A reader of which nothing was read yet.
use Rattle.std.proofs.lemmas.Bool.Decides.{nat_tests}
use Rattle.std.proofs.Common.{◌≡◌, ℕ, ◌^◌, List, [], false, None, arith}
use Rattle.hum_text.specs.declared.Limits.{Limits}
use Rattle.hum_text.specs.Reading.{Reader, Holds, opening}
use Rattle.hum_score.specs.Spines.{Unopened}
use Rattle.hum_path.specs.Tracked.{Tracked}
use Rattle.hum_read.specs.Denoted.{standard}
use Rattle.hum_read.specs.Reading.{Scores, IsFresh, HasRead}
use Rattle.hum_read.specs.Steps.{IsTidy}

-- limits with these numbers are the standard ones
pub standard-of : (l : Limits) → l.line ≡ 1048576 → l.records ≡ 4294967295 → l.bytes ≡ 2 ^ 40 → l ≡ standard
standard-of = grind (arith, nat_tests)

-- what its clauses say, in their order
abbrev pub Opens : {R : Type 0} → R → ℕ → Scores R → Type 0
Opens source stage v = record {
  fresh : IsFresh v;
  opening : (all : List ℕ) → HasRead v all [] all;
  stage : v.stage ≡ stage;
  source : v.lines.source ≡ source;
}

pub opens : {R : Type 0} (source : R) (stage : ℕ) (lines : Reader R) (limits : Limits) (spines : Tracked)
    → lines ≡ opening source limits → limits ≡ standard → ((all : List ℕ) → Holds lines all [] all)
    → spines ≡ record { path = Unopened; spent = false }
    → Opens source stage (record { stage = stage; lines = lines; spines = spines; stopped = None })
opens = grind (arith, nat_tests)

pub opens-tidy : {R : Type 0} (source : R) (lines : Reader R) (limits : Limits) → lines ≡ opening source limits
    → limits ≡ standard → IsTidy lines None
opens-tidy = grind (arith, nat_tests)
