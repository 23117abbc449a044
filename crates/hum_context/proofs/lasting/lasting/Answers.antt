use Rattle.std.proofs.Common.{◌≡◌, ◌∙◌, sym, ap, arith, ◌+◌, ◌∷◌, ℕ}
use Rattle.hum_stage.specs.Settles.{lasting}
use Rattle.hum_context.specs.Context.{context}
use Rattle.hum_context.proofs.Lasts.{here_at, sound_all}
use Rattle.hum_context.proofs.lasting.lasting.Goals as goal

pub returns-then-is_refused : goal.returns-then-is_refused
returns-then-is_refused c o past rows want none knows =
    let size = c.args.held.now.ok.0 in
    let end = c.len-k-end.ensures in
    let test = c.loop-k-test.true in
    let h = here_at o past rows c.loop-k.k c.args.held.now.items knows
    (c.loop-k.invariant.sound o past rows want none knows) (omega (arith, size, end, test)) in
    let stops = c.is_refused.ensures o h.before h.row h.behind want none h.knows
    (lasting (context o) (h.row ∷ h.before) h.behind) in
    sym (h.is ∙ (ap (λ (n : ℕ). c.loop-k.k + n) (rw c.if-is_refused.true at stops) ∙ omega arith))

pub loop-k-preserved : goal.loop-k-preserved
loop-k-preserved c =
    let size = c.args.held.now.ok.0 in
    let end = c.len-k-end.ensures in
    let test = c.loop-k-test.true in
    record {
      within = omega (arith, size, end, test);
      sound = λ o past rows want none knows.
          let h = here_at o past rows c.loop-k.k c.args.held.now.items knows
          (c.loop-k.invariant.sound o past rows want none knows) (omega (arith, size, end, test)) in
          let stops = c.is_refused.ensures o h.before h.row h.behind want none h.knows
          (lasting (context o) (h.row ∷ h.before) h.behind) in
          h.next (rw c.if-is_refused.false at stops);
    }

pub returns : goal.returns
returns c o past rows want none knows =
    let size = c.args.held.now.ok.0 in
    let end = c.len-k-end.ensures in
    let len = c.len.ensures in
    let test = c.loop-k-test.false in
    let within = c.loop-k.invariant.within in
    let same : c.len.result ≡ c.loop-k.k = omega (arith, size, end, len, test, within) in
    same ∙ sound_all o past rows c.loop-k.k c.args.held.now.items knows
    (c.loop-k.invariant.sound o past rows want none knows) (omega (arith, size, len, same))
