use Rattle.std.proofs.Common.{◌≡◌, ◌∙◌, ◌+◌, ◌-◌, ap, sym, refl, arith, drop, List, ℕ}
use Rattle.hum_context.specs.declared.links.Sought.TheVariants.{Any}
use Rattle.hum_context.specs.Leads.{is_found}
use Rattle.hum_context.specs.Walking.{bytes_of}
use Rattle.hum_context.proofs.Gathering.{gathers_none, gathers_take, gathers_all}
use Rattle.hum_context.proofs.Gathering.{gathers_stop, gathers_end, size_grows}
use Rattle.hum_context.proofs.Jumping.{gathers_skip, skip_behind}
use Rattle.hum_context.proofs.Queues.{behind_at, drop_below}
use Rattle.hum_context.proofs.Ways.{skips_here}
use Rattle.std.proofs.lemmas.List.{length-drop}
use Rattle.hum_context.proofs.measuring.measure.Goals as goal

-- so many bytes are those of some tokens
abbrev IsSize : ℕ → List (List ℕ) → Type 0
IsSize size tokens = size ≡ bytes_of tokens

pub loop-here-init : goal.loop-here-init
loop-here-init c =
    let within = c.requires.within in
    let none_yet : c.args.k - c.args.k ≡ 0 = omega arith in
    record {
      over = omega arith;
      within = omega (arith, within);
      few = omega arith;
      short = omega arith;
      counts = λ o path rows want none knows.
          rw none_yet (gathers_none o path rows c.args.j 0 (IsSize 0) none refl refl);
    }

pub returns-then-is_enough-clause-size : goal.returns-then-is_enough-clause-size
returns-then-is_enough-clause-size c o path rows want none knows tokens e =
    let size = c.args.held.now.ok.0 in
    let len = c.len.ensures in
    let test = c.loop-here-test.true in
    let k = c.args.k in
    let n = c.loop-here.here.n in
    let over = c.loop-here.invariant.over in
    let held = drop k c.args.held.now.items in
    let next = c.index-next.result.now in
    let below = drop_below k (n - k) c.args.held.now.items (omega (arith, size, len, test, over)) in
    let is = behind_at k n c.args.held.now.items next over c.index-next.ensures in
    (gathers_all o path rows c.args.j _ c.loop-here.here.c _ (IsSize _) _ tokens
    (gathers_take o path rows c.args.j (n - k) c.loop-here.here.c c.loop-here.count (IsSize c.loop-here.size)
    (IsSize _) held next c.args.wanted c.in-Taken.begins c.in-Taken.ends want knows
    (c.loop-here.invariant.counts o path rows want none knows) below is (sym c.heard.ensures ∙ c.in-Taken.is)
    (size_grows c.loop-here.size _ _ (ap (λ (m : ℕ). c.loop-here.size + m) c.bytes-size.ensures.bytes)))
    (sym c.is_enough.ensures ∙ c.if-is_enough.true) none e).0

pub returns-in_default-clause-size : goal.returns-in_default-clause-size
returns-in_default-clause-size c o path rows want none knows tokens e =
    let size = c.args.held.now.ok.0 in
    let len = c.len.ensures in
    let test = c.loop-here-test.true in
    let k = c.args.k in
    let n = c.loop-here.here.n in
    let over = c.loop-here.invariant.over in
    let held = drop k c.args.held.now.items in
    let next = c.index-next.result.now in
    let below = drop_below k (n - k) c.args.held.now.items (omega (arith, size, len, test, over)) in
    let is = behind_at k n c.args.held.now.items next over c.index-next.ensures in
    absurd (gathers_stop o path rows c.args.j (n - k) c.loop-here.here.c c.loop-here.count
    (IsSize c.loop-here.size) held next tokens knows
    (c.loop-here.invariant.counts o path rows want none knows) below is
    (sym c.heard.ensures ∙ c.in-Passed.is)
    (c.step.ensures.none c.in_default.is) e)

pub loop-here-preserved-in-Taken : goal.loop-here-preserved-in-Taken
loop-here-preserved-in-Taken c =
    let size = c.args.held.now.ok.0 in
    let len = c.len.ensures in
    let test = c.loop-here-test.true in
    let k = c.args.k in
    let n = c.loop-here.here.n in
    let over = c.loop-here.invariant.over in
    let few = c.loop-here.invariant.few in
    let short = c.loop-here.invariant.short in
    let one = c.bytes-size.ensures.few in
    let next = c.index-next.result.now in
    let more_one : (n - k) + 1 ≡ (n + 1) - k = omega (arith, over) in
    record {
      over = omega (arith, over);
      within = omega (arith, size, len, test);
      few = omega (arith, few);
      short = omega (arith, short, one);
      counts = λ o path rows want none knows.
          let more = gathers_take o path rows c.args.j (n - k) c.loop-here.here.c c.loop-here.count
          (IsSize c.loop-here.size) (IsSize _) (drop k c.args.held.now.items) next c.args.wanted
          c.in-Taken.begins c.in-Taken.ends want knows
          (c.loop-here.invariant.counts o path rows want none knows)
          (drop_below k (n - k) c.args.held.now.items (omega (arith, size, len, test, over)))
          (behind_at k n c.args.held.now.items next over c.index-next.ensures)
          (sym c.heard.ensures ∙ c.in-Taken.is)
          (size_grows c.loop-here.size _ _ (ap (λ (m : ℕ). c.loop-here.size + m) c.bytes-size.ensures.bytes)) in
          let few_of = sym c.is_enough.ensures ∙ c.if-is_enough.false in
          rw more_one at (rw few_of at more);
    }

pub loop-here-preserved : goal.loop-here-preserved
loop-here-preserved c =
    let size = c.args.held.now.ok.0 in
    let len = c.len.ensures in
    let len-2 = c.len-in-Passed.ensures in
    let test = c.loop-here-test.true in
    let k = c.args.k in
    let here = c.loop-here.here in
    let over = c.loop-here.invariant.over in
    let few = c.loop-here.invariant.few in
    let short = c.loop-here.invariant.short in
    let to = c.in-Some.to in
    let e = c.step.ensures in
    let inside = e.within to c.in-Some.is in
    record {
      over = omega (arith, over, inside);
      within = omega (arith, size, len, len-2, test, inside);
      few = omega (arith, few, inside);
      short = omega (arith, short, inside);
      counts = λ o path rows want none knows.
          gathers_skip o path rows c.args.j (here.n - k) here.c ((here.n + to.n) - k) to.c c.loop-here.count
          (IsSize c.loop-here.size) (drop k c.args.held.now.items) knows
          (c.loop-here.invariant.counts o path rows want none knows) (omega (arith, over, inside))
          (skip_behind o k here.n (here.n + to.n) here.c to.c c.args.held.now.items over
          (omega (arith, inside))
          (skips_here o Any c.args.held.now.items here.n here.c to.n to.c c.index-next.result.now
          (omega (arith, size, len, test)) c.index-next.ensures
          (ap (is_found Any) (sym c.heard.ensures ∙ c.in-Passed.is))
          (λ q row more known linked quiet. e.leads o q row more known linked quiet to c.in-Some.is)));
    }

pub returns-clause-size : goal.returns-clause-size
returns-clause-size c o path rows want none knows tokens e =
    let size = c.args.held.now.ok.0 in
    let len = c.len.ensures in
    let over = c.loop-here-test.false in
    let left = length-drop c.args.k c.args.held.now.items in
    absurd (gathers_end o path rows c.args.j (c.loop-here.here.n - c.args.k) c.loop-here.here.c c.loop-here.count
    (IsSize c.loop-here.size) (drop c.args.k c.args.held.now.items) tokens knows
    (c.loop-here.invariant.counts o path rows want none knows) (omega (arith, size, len, over, left)) e)
