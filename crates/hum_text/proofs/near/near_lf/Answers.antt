use Rattle.std.proofs.lemmas.Bool.Decides.{nat_tests}
use Rattle.std.proofs.Common.{◌+◌, ◌<◌, ◌≤◌, length, refl, arith}
use Rattle.hum_text.proofs.NearLemmas.{first-near, none-near}
use Rattle.hum_text.proofs.near.near_lf.Goals as goal

pub loop-at-preserved : goal.loop-at-preserved
loop-at-preserved = grind (arith, nat_tests, none-near)

pub returns-then-near-ne0 : goal.returns-then-near-ne0
returns-then-near-ne0 c =
    let bytes = c.args.bytes.now in
    let l = c.loop-at in
    let within = l.invariant.1 in
    let there = c.if-bytes-at-ge-STEP.true in
    let room : l.at + 32 ≤ length bytes = omega (arith, within, there) in
    let test = c.if-near-ne0.true in
    let some : 0 < c.near_bits-near.result = omega (arith, test) in
    first-near bytes l.at c.near_bits-near.result _ room l.invariant.0 c.near_bits-near.ensures some refl
