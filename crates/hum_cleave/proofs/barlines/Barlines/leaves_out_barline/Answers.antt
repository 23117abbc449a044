use Rattle.std.proofs.Common.{sym, ◌∙◌, map}
use Rattle.std.proofs.lemmas.Result.{err_from_is_err_and}
use Rattle.hum_cleave.proofs.Known.{tells_again, tells_other, bytes_eq_sym}
use Rattle.hum_cleave.proofs.barlines.Barlines.leaves_out_barline.Goals as goal

pub returns-then-eq : goal.returns-then-eq
returns-then-eq c =
    rw (← c.self.view_is, c.in-Some.is) (tells_again c.in-Some.first.now c.args.token.now
    (map (λ k. k.now) c.self.inside.others.keys) (sym c.eq.ensures ∙ c.if-eq.true)
    c.requires.filled c.requires.barline)

pub returns-in_ok-is_new-in-Some : goal.returns-in_ok-is_new-in-Some
returns-in_ok-is_new-in-Some c =
    rw (← c.self.view_is, c.in-Some.is) (tells_other c.in-Some.first.now c.self.inside.others.keys
    c.insert.new.self.keys c.args.token c.in_ok-is_new-in-Some.is_new
    (bytes_eq_sym c.args.token.now c.in-Some.first.now ∙ (sym c.eq.ensures ∙ c.if-eq.false))
    c.in_ok-is_new-in-Some.ensures.updates.0 c.in_ok-is_new-in-Some.ensures.added
    c.requires.filled c.requires.barline)

pub returns-in_err-is_new-in-Some : goal.returns-in_err-is_new-in-Some
returns-in_err-is_new-in-Some c =
    let p = err_from_is_err_and c.from_residual.result c.from_residual.ensures.1 in rw p.1 tt
