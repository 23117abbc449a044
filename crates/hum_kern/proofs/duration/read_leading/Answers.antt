use Rattle.std.proofs.lemmas.Bool.Decides.{nat_tests}
use Rattle.std.proofs.Common.{◌≡◌, ◌∙◌, sym, ap, refl, false, ℕ, List, [], arith}
use Rattle.std.specs.List.{list_any}
use Rattle.hum_kern.specs.declared.runs.Class.TheVariants.{Digit}
use Rattle.hum_kern.specs.Classes.{is_in, is_divider}
use Rattle.hum_kern.specs.Duration.{is_empty, said, spelling}
use Rattle.hum_kern.specs.Runs.{front, behind}
use Rattle.hum_kern.proofs.Leading.{leading_plain, leading_duration, leads_by, empty_is, not_empty}
use Rattle.std.proofs.lemmas.Bool.{and_right}
use Rattle.hum_kern.proofs.duration.read_leading.Goals as goal

pub returns-clause-read : goal.returns-clause-read
returns-clause-read c =
    let token = c.args.token.now in
    let digits = c.split_run.ensures.front in
    let rest = c.split_run.ensures.behind in
    let some : is_empty (front (is_in Digit) token) ≡ false =
    ap is_empty (sym digits) ∙ not_empty c.split_run.result.0.now (sym c.is_empty.ensures ∙ c.if-is_empty.false) in
    let none : list_any is_divider (behind (is_in Digit) token) ≡ false =
    ap (list_any is_divider) (sym rest) ∙ sym c.has_divider.ensures ∙ c.if-has_divider.false in (
      c.read_digits.ensures
          ∙ ap (λ (xs : List ℕ). said (spelling [] xs c.split_run.result.1.now)) digits
          ∙ ap (λ (xs : List ℕ). said (spelling [] (front (is_in Digit) token) xs)) rest
          ∙ leading_duration token some none,
      (leading_plain token none).alone,
    )

pub returns-clause-which : goal.returns-clause-which
returns-clause-which c =
    let token = c.args.token.now in
    let some : is_empty (front (is_in Digit) token) ≡ false =
    ap is_empty (sym c.split_run.ensures.front) ∙ not_empty c.split_run.result.0.now (sym c.is_empty.ensures ∙ c.if-is_empty.false) in
    let none : list_any is_divider (behind (is_in Digit) token) ≡ false =
    ap (list_any is_divider) (sym c.split_run.ensures.behind) ∙ sym c.has_divider.ensures ∙ c.if-has_divider.false in
    rw (leads_by token, some, none) refl

pub returns-then-is_empty-clause-which : goal.returns-then-is_empty-clause-which
returns-then-is_empty-clause-which = grind (arith, nat_tests, leads_by, empty_is, and_right)
