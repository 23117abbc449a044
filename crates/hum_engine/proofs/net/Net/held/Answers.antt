use Rattle.std.proofs.Common.{◌∙◌, ◌+◌, ◌<◌, length, is_some, refl, arith, ⊎_elim, sym, le-ltb}
use Rattle.std.proofs.lemmas.Bool.{cases_lt, cond-false}
use Rattle.hum_turns.specs.Links.{given}
use Rattle.hum_engine.specs.Scene.{moved}
use Rattle.hum_engine.proofs.Netting.{web_at}
use Rattle.hum_engine.proofs.Wanting.{held_few}
use Rattle.hum_engine.proofs.net.Net.held.Goals as goal

pub returns-clause-held : goal.returns-clause-held
returns-clause-held g c start s now h going within = ⊎_elim
    (λ less. c.held.ensures.held (moved s now.links) (record { stand = h.going going; less = less }))
    (λ past. c.held.ensures.none (omega (arith, past, (h.going going).count))
    ∙ sym (cond-false _ _ _ (le-ltb c.args.k s.count past)))
    (cases_lt c.args.k s.count)

pub returns-clause-few : goal.returns-clause-few
returns-clause-few g c start s now h going =
    let own = λ (less : c.args.k < s.count).
    c.held.ensures.held (moved s now.links) (record { stand = h.going going; less = less }) in
    let few = held_few (moved s now.links) c.args.k in
    let reached = (web_at h going).reached in
    record {
      own = λ from n m less is lawful lags.
          let few = few from (n + 1) m reached less is (λ score wanted.
          lawful.holds (now.links from).taken (length (given (now.links c.args.k))) n (is_some (now.links from).heard) score
          wanted lags) in
          omega (arith, own less, few);
      within = λ from n m less is lag.
          let few = few from (n + 1) m reached less is (λ score wanted.
          lag.holds (record {
            meaning = m;
            put = (now.links from).taken;
            given = length (given (now.links c.args.k));
            ended = (now.links from).heard;
          }) refl score wanted) in
          omega (arith, own less, few);
      each = λ less. c.held.ensures.few (moved s now.links) (record { stand = h.going going; less = less });
    }
