use Rattle.std.proofs.Common.{◌≡◌, ◌∙◌, sym, ap, List, ℕ, Some, None, true, false, rules}
use Rattle.std.proofs.lemmas.Result.{err_from_is_err_and}
use Rattle.hum_packets.specs.Packets.{size_at}
use Rattle.hum_packets.proofs.Fronts.{front-short, front-cut}
use Rattle.hum_packets.proofs.Feeding.{serves-trans}
use Rattle.hum_packets.proofs.Stepping.{lost-unheld, lost-short, lost-cut, lost-wrong, still-says, fed-true, fed-false}
use Rattle.hum_packets.proofs.packets.Packets.hold_packet.Goals as goal

pub returns-in_err-hold-clause-lost : goal.returns-in_err-hold-clause-lost
returns-in_err-hold-clause-lost g c =
    let p = err_from_is_err_and c.from_residual.result c.from_residual.ensures.1 in
    rw (p.1, p.2) (lost-unheld g.R.Source c.hold.new.self 4 c.in_err-hold.field-0.0 (λ few. front-short c.hold.new.self.pending few) c.in_err-hold.ensures.held)

pub returns-then-not-branch-clause-lost : goal.returns-then-not-branch-clause-lost
returns-then-not-branch-clause-lost g c =
    let is : c.in_ok-hold.field-0 ≡ false = search rules in
    let few = fed-false g.R.Source 4 c.hold.new.self c.in_ok-hold.field-0 is c.in_ok-hold.ensures.held in
    lost-short g.R.Source c.hold.new.self _ (ap (λ h. h.passed) c.self.view_is) few.0 few.1

pub returns-in_default-clause-lost : goal.returns-in_default-clause-lost
returns-in_default-clause-lost g c =
    let is : c.in_ok-hold.field-0 ≡ true = search rules in
    let four = fed-true g.R.Source 4 c.hold.new.self c.in_ok-hold.field-0 is c.in_ok-hold.ensures.held in
    let says : size_at c.hold.new.self.pending ≡ None =
    ap (λ (bs : List ℕ). size_at bs) (sym c.pending.ensures) ∙ sym c.size_at.ensures.is ∙ c.in_default.is in
    lost-wrong g.R.Source c.hold.new.self _ (ap (λ h. h.passed) c.self.view_is) four says

pub returns-in_err-hold-2-clause-lost : goal.returns-in_err-hold-2-clause-lost
returns-in_err-hold-2-clause-lost g c =
    let p = err_from_is_err_and c.from_residual-in_err-hold-2.result c.from_residual-in_err-hold-2.ensures.1 in
    let n = c.in-Some.size in
    let is : c.in_ok-hold.field-0 ≡ true = search rules in
    let four = fed-true g.R.Source 4 c.hold.new.self c.in_ok-hold.field-0 is c.in_ok-hold.ensures.held in
    let says : size_at c.hold.new.self.pending ≡ Some n =
    ap (λ (bs : List ℕ). size_at bs) (sym c.pending.ensures) ∙ sym c.size_at.ensures.is ∙ c.in-Some.is in
    let still = still-says g.R.Source n c.in_err-hold-2.ensures.fed four says in
    rw (p.1, p.2) (lost-unheld g.R.Source c.hold-2.new.self n c.in_err-hold-2.field-0.0
    (λ less. front-cut c.hold-2.new.self.pending n still.0 still.1 less) c.in_err-hold-2.ensures.held)

pub returns-then-not-branch-2-clause-lost : goal.returns-then-not-branch-2-clause-lost
returns-then-not-branch-2-clause-lost g c =
    let n = c.in-Some.size in
    let is : c.in_ok-hold.field-0 ≡ true = search rules in
    let four = fed-true g.R.Source 4 c.hold.new.self c.in_ok-hold.field-0 is c.in_ok-hold.ensures.held in
    let says : size_at c.hold.new.self.pending ≡ Some n =
    ap (λ (bs : List ℕ). size_at bs) (sym c.pending.ensures) ∙ sym c.size_at.ensures.is ∙ c.in-Some.is in
    let still = still-says g.R.Source n c.in_ok-hold-2.ensures.fed four says in
    let cut : c.in_ok-hold-2.field-0 ≡ false = search rules in
    let less = fed-false g.R.Source n c.hold-2.new.self c.in_ok-hold-2.field-0 cut c.in_ok-hold-2.ensures.held in
    lost-cut g.R.Source c.hold-2.new.self _ n (ap (λ h. h.passed) c.self-2.view_is) still.0 still.1 less.0 less.1

pub returns-clause-held : goal.returns-clause-held
returns-clause-held g c =
    let n = c.in-Some.size in
    let is : c.in_ok-hold.field-0 ≡ true = search rules in
    let four = fed-true g.R.Source 4 c.hold.new.self c.in_ok-hold.field-0 is c.in_ok-hold.ensures.held in
    let says : size_at c.hold.new.self.pending ≡ Some n =
    ap (λ (bs : List ℕ). size_at bs) (sym c.pending.ensures) ∙ sym c.size_at.ensures.is ∙ c.in-Some.is in
    let still = still-says g.R.Source n c.in_ok-hold-2.ensures.fed four says in
    let all : c.in_ok-hold-2.field-0 ≡ true = search rules in
    record { digits = still.0; says = still.1; whole = fed-true g.R.Source n c.hold-2.new.self c.in_ok-hold-2.field-0 all c.in_ok-hold-2.ensures.held }

pub returns-in_err-hold-2-clause-serves : goal.returns-in_err-hold-2-clause-serves
returns-in_err-hold-2-clause-serves g c =
    let p = err_from_is_err_and c.from_residual-in_err-hold-2.result c.from_residual-in_err-hold-2.ensures.1 in
    rw (p.1, p.2) (serves-trans c.in_ok-hold.ensures.serves c.in_err-hold-2.ensures.serves)

pub returns-then-not-branch-2-clause-serves : goal.returns-then-not-branch-2-clause-serves
returns-then-not-branch-2-clause-serves g c = serves-trans c.in_ok-hold.ensures.serves c.in_ok-hold-2.ensures.serves

pub returns-clause-serves : goal.returns-clause-serves
returns-clause-serves g c = serves-trans c.in_ok-hold.ensures.serves c.in_ok-hold-2.ensures.serves
