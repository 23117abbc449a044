use Rattle.std.proofs.Common.{◌∙◌, sym}
use Rattle.hum_context.proofs.Shorter.{shared_stand}
use Rattle.hum_context.proofs.sharing.share_one.Goals as goal

pub returns-in_ok-place-in-Some : goal.returns-in_ok-place-in-Some
returns-in_ok-place-in-Some c o path first row rows want known s h =
    c.in_ok-place-in-Some.ensures o _ _ rows h
    (shared_stand o path first row rows c.args.j c.in-Some.i c.args.kept.now c.args.walk
    c.lose.new.self known (sym c.below.ensures ∙ c.in-Some.is) s c.lose.ensures.at
    (λ front below has at. c.lose.ensures.has o path row front c.in-Some.i want known below has at))
