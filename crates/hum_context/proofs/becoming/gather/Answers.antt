use Rattle.std.proofs.Common.{◌≡◌, ◌∙◌, ◌+◌, sym, ap, refl, arith, inl, List, ℕ}
use Rattle.std.specs.List.{join_with_byte}
use Rattle.hum_context.specs.declared.links.Sought.TheVariants.{Any}
use Rattle.hum_context.specs.Leads.{is_found}
use Rattle.hum_context.proofs.Gathering.{gathers_none, gathers_take, gathers_all, gathers_long}
use Rattle.hum_context.proofs.Gathering.{gathers_stop, gathers_end, text_grows}
use Rattle.hum_context.proofs.Jumping.{gathers_skip}
use Rattle.hum_context.proofs.Ways.{skips_here}
use Rattle.hum_context.proofs.becoming.gather.Goals as goal

-- a text is that of some tokens
abbrev IsText : List ℕ → List (List ℕ) → Type 0
IsText text tokens = text ≡ join_with_byte 32 tokens

pub loop-here-init : goal.loop-here-init
loop-here-init c = record {
  few = omega arith;
  text = λ o path rows want none knows. gathers_none o path rows c.args.j 0 (IsText c.clear.new.self) none refl
      c.clear.ensures;
}

pub returns-then-is_enough : goal.returns-then-is_enough
returns-then-is_enough c o path rows want none knows tokens e =
    let size = c.args.held.now.ok.0 in
    let end = c.len.ensures in
    let below = c.loop-here-test.true in
    let r = gathers_all o path rows c.args.j _ c.loop-here.here.c _ (IsText c.add.new.self) _ tokens
    (gathers_take o path rows c.args.j c.loop-here.here.n c.loop-here.here.c c.loop-here.count (IsText c.loop-here.text)
    (IsText c.add.new.self) c.args.held.now.items c.index-next.result.now c.args.wanted
    c.in-Taken.begins c.in-Taken.ends want knows
    (c.loop-here.invariant.text o path rows want none knows) (omega (arith, size, end, below))
    c.index-next.ensures (sym c.heard.ensures ∙ c.in-Taken.is)
    (text_grows c.loop-here.text c.add.new.self _
    (rw c.token.ensures.token at c.in_ok-add-in-Taken.ensures)))
    (sym c.is_enough.ensures ∙ c.if-is_enough.true) none e in
    (λ k. r.1 (sym r.0 ∙ k), inl r.0)

pub returns-then-is_long : goal.returns-then-is_long
returns-then-is_long c o path rows want none knows tokens e =
    let size = c.args.held.now.ok.0 in
    let end = c.len.ensures in
    let below = c.loop-here-test.true in
    gathers_long o path rows c.args.j _ c.loop-here.here.c _ c.add.new.self _ tokens
    (gathers_take o path rows c.args.j c.loop-here.here.n c.loop-here.here.c c.loop-here.count (IsText c.loop-here.text)
    (IsText c.add.new.self) c.args.held.now.items c.index-next.result.now c.args.wanted
    c.in-Taken.begins c.in-Taken.ends want knows
    (c.loop-here.invariant.text o path rows want none knows) (omega (arith, size, end, below))
    c.index-next.ensures (sym c.heard.ensures ∙ c.in-Taken.is)
    (text_grows c.loop-here.text c.add.new.self _
    (rw c.token.ensures.token at c.in_ok-add-in-Taken.ensures)))
    (sym c.is_enough.ensures ∙ c.if-is_enough.false)
    (sym c.is_long.ensures ∙ c.if-is_long.true) e

pub returns-in_default : goal.returns-in_default
returns-in_default c o path rows want none knows tokens e =
    let size = c.args.held.now.ok.0 in
    let end = c.len.ensures in
    let below = c.loop-here-test.true in
    absurd (gathers_stop o path rows c.args.j c.loop-here.here.n c.loop-here.here.c c.loop-here.count
    (IsText c.loop-here.text) c.args.held.now.items c.index-next.result.now tokens knows
    (c.loop-here.invariant.text o path rows want none knows) (omega (arith, size, end, below))
    c.index-next.ensures (sym c.heard.ensures ∙ c.in-Passed.is)
    (c.step.ensures.none c.in_default.is) e)

pub loop-here-preserved-in-Taken : goal.loop-here-preserved-in-Taken
loop-here-preserved-in-Taken c =
    let size = c.args.held.now.ok.0 in
    let end = c.len.ensures in
    let below = c.loop-here-test.true in
    let few = c.loop-here.invariant.few in
    record {
      few = omega (arith, few);
      text = λ o path rows want none knows.
          let more = gathers_take o path rows c.args.j c.loop-here.here.n c.loop-here.here.c c.loop-here.count
          (IsText c.loop-here.text) (IsText c.add.new.self) c.args.held.now.items c.index-next.result.now
          c.args.wanted c.in-Taken.begins c.in-Taken.ends want knows
          (c.loop-here.invariant.text o path rows want none knows) (omega (arith, size, end, below))
          c.index-next.ensures (sym c.heard.ensures ∙ c.in-Taken.is)
          (text_grows c.loop-here.text c.add.new.self _
          (rw c.token.ensures.token at c.in_ok-add-in-Taken.ensures)) in
          let short = sym c.is_enough.ensures ∙ c.if-is_enough.false in
          rw short at more;
    }

pub loop-here-preserved : goal.loop-here-preserved
loop-here-preserved c =
    let size = c.args.held.now.ok.0 in
    let end = c.len.ensures in
    let below = c.loop-here-test.true in
    let few = c.loop-here.invariant.few in
    let here = c.loop-here.here in
    let to = c.in-Some.to in
    let e = c.step.ensures in
    let inside = e.within to c.in-Some.is in
    record {
      few = omega (arith, few, inside);
      text = λ o path rows want none knows.
          gathers_skip o path rows c.args.j here.n here.c (here.n + to.n) to.c
          c.loop-here.count (IsText c.loop-here.text) c.args.held.now.items knows
          (c.loop-here.invariant.text o path rows want none knows) (omega (arith, inside))
          (skips_here o Any c.args.held.now.items here.n here.c to.n to.c c.index-next.result.now
          (omega (arith, size, end, below)) c.index-next.ensures
          (ap (is_found Any) (sym c.heard.ensures ∙ c.in-Passed.is))
          (λ q row more known linked quiet. e.leads o q row more known linked quiet to c.in-Some.is));
    }

pub returns : goal.returns
returns c o path rows want none knows tokens e =
    let size = c.args.held.now.ok.0 in
    let end = c.len.ensures in
    let over = c.loop-here-test.false in
    absurd (gathers_end o path rows c.args.j c.loop-here.here.n c.loop-here.here.c c.loop-here.count
    (IsText c.loop-here.text) c.args.held.now.items tokens knows
    (c.loop-here.invariant.text o path rows want none knows) (omega (arith, size, end, over)) e)
