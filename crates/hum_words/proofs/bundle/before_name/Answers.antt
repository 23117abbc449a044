use Rattle.std.proofs.lemmas.Bool.Decides.{nat_tests}
use Rattle.std.proofs.Common.{arith}
use Rattle.std.proofs.Common.{◌≡◌, ◌∙◌, ◌++◌, ap, sym, take, is_some, true, false, rules, append_assoc}
use Rattle.std.proofs.lemmas.List.{append-nil, take-append-drop, nil_from_length}
use Rattle.hum_words.specs.Bundle.{before_name, lines, name_in}
use Rattle.hum_words.proofs.BundleCuts.{passed, met, none_left, front_on}
use Rattle.hum_words.proofs.bundle.before_name.Goals as goal

pub returns-then-is_some : goal.returns-then-is_some
returns-then-is_some c =
    let bytes = c.args.bytes.now in
    let named : is_some (name_in c.cut_line.result.0.now) ≡ true = search rules in
    let here = ap before_name c.cut_line.ensures.first ∙ met c.cut_line.result.0.now (lines c.cut_line.result.1.now) named in
    sym (c.loop-rest.invariant.before ∙ ap (λ more. take c.loop-rest.len bytes ++ more) here ∙ append-nil (take c.loop-rest.len bytes))

pub loop-rest-preserved : goal.loop-rest-preserved
loop-rest-preserved c =
    let bytes = c.args.bytes.now in
    let line = c.cut_line.result.0.now in
    let rest = c.cut_line.result.1.now in
    let plain : is_some (name_in line) ≡ false = search rules in
    let here = ap before_name c.cut_line.ensures.first ∙ passed line (lines rest) plain in
    let on = front_on bytes line rest c.loop-rest.len c.loop-rest.invariant.within (sym c.loop-rest.invariant.rest ∙ c.cut_line.ensures.whole) in
    record {
      within = on.0;
      rest = on.1;
      before = c.loop-rest.invariant.before ∙ ap (λ more. take c.loop-rest.len bytes ++ more) here
          ∙ sym (append_assoc (take c.loop-rest.len bytes) line (before_name (lines rest)))
          ∙ ap (λ front. front ++ before_name (lines rest)) (sym on.2);
    }

pub returns : goal.returns
returns = grind (arith, nat_tests, none_left, nil_from_length, take-append-drop)
