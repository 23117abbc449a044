use Rattle.std.proofs.Common.{◌∙◌, sym, ap, subst, ℕ, List, ◌≤◌, take, length}
use Rattle.hum_tones.specs.IntervalNames.{size_at}
use Rattle.hum_tones.proofs.IntervalNames.{room}
use Rattle.hum_tones.proofs.interval_names.ShortName.as_bytes.Goals as goal

pub split_at-requires-2 : goal.split_at-requires-2
split_at-requires-2 c =
    subst (λ (xs : List ℕ). size_at c.args.self.place ≤ length xs) (sym c.split_at.ensures.back) (room c.args.self.place c.args.self.within)

pub returns : goal.returns
returns c = c.split_at-2.ensures.front ∙ ap (λ (xs : List ℕ). take (size_at c.args.self.place) xs) c.split_at.ensures.back
