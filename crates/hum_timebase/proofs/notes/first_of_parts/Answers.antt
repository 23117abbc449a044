use Rattle.std.proofs.Common.{◌≡◌, ◌∙◌, sym, ap, ◌∷◌, not}
use Rattle.std.proofs.lemmas.Result.{err_from_is_err_and}
use Rattle.hum_kern.specs.Duration.{value_in}
use Rattle.hum_timebase.specs.Notes.{subtokens, first_duration, some_refused, or_else}
use Rattle.hum_timebase.specs.Reading.{rest_parts}
use Rattle.hum_timebase.proofs.Firsts.{first_is, others_refused, first_refused, behind_space, none_parts}
use Rattle.hum_timebase.proofs.Firsts.{none_found, found_stays, or_none}
use Rattle.hum_timebase.proofs.notes.first_of_parts.Goals as goal

pub returns-in_err-found : goal.returns-in_err-found
returns-in_err-found c =
    let p = err_from_is_err_and c.from_residual.result c.from_residual.ensures.1 in
    rw p.1 (first_refused c.cut.result.0.now (rest_parts c.cut.result.1.now) (subtokens c.args.token.now) c.cut.ensures.parts
    (rw c.read_duration.ensures.read at c.in_err-found.ensures))

pub loop-left-init : goal.loop-left-init
loop-left-init c =
    let part = c.cut.result.0.now in
    let parts = rest_parts c.cut.result.1.now in
    let all = subtokens c.args.token.now in
    record {
      value = first_is c.in_ok-found.found part parts all c.cut.ensures.parts
          (c.in_ok-found.ensures.0 ∙ ap value_in c.read_duration.ensures.read);
      read = others_refused part parts all c.cut.ensures.parts (rw c.read_duration.ensures.read at c.in_ok-found.ensures.1);
    }

pub returns-in_err-value : goal.returns-in_err-value
returns-in_err-value c =
    let left = c.loop-left.left.now in
    let p = err_from_is_err_and c.from_residual-in_err-value.result c.from_residual-in_err-value.ensures.1 in
    rw p.1 (sym c.loop-left.invariant.read ∙ first_refused c.cut-in-len1-up.result.0.now
    (rest_parts c.cut-in-len1-up.result.1.now) (rest_parts left)
    (behind_space left _ _ c.in-len1-up.len_at_least c.cut-in-len1-up.ensures.parts)
    (rw c.read_duration-in-len1-up.ensures.read at c.in_err-value.ensures))

pub loop-left-preserved-then-is_none : goal.loop-left-preserved-then-is_none
loop-left-preserved-then-is_none c =
    let left = c.loop-left.left.now in
    let part = c.cut-in-len1-up.result.0.now in
    let parts = rest_parts c.cut-in-len1-up.result.1.now in
    let is : rest_parts left ≡ part ∷ parts = behind_space left _ _ c.in-len1-up.len_at_least c.cut-in-len1-up.ensures.parts in
    let none = none_found c.loop-left.found (c.is_none.ensures ∙ ap not c.if-is_none.true) in
    record {
      value = first_is c.in_ok-value.value part parts (rest_parts left) is
          (c.in_ok-value.ensures.0 ∙ ap value_in c.read_duration-in-len1-up.ensures.read)
          ∙ sym (ap (λ found. or_else found (first_duration (rest_parts left))) none) ∙ c.loop-left.invariant.value;
      read = others_refused part parts (rest_parts left) is
          (rw c.read_duration-in-len1-up.ensures.read at c.in_ok-value.ensures.1) ∙ c.loop-left.invariant.read;
    }

pub loop-left-preserved : goal.loop-left-preserved
loop-left-preserved c =
    let left = c.loop-left.left.now in
    let part = c.cut-in-len1-up.result.0.now in
    let parts = rest_parts c.cut-in-len1-up.result.1.now in
    let is : rest_parts left ≡ part ∷ parts = behind_space left _ _ c.in-len1-up.len_at_least c.cut-in-len1-up.ensures.parts in
    record {
      value = found_stays c.loop-left.found (first_duration parts) (first_duration (rest_parts left))
          (c.is_none.ensures ∙ ap not c.if-is_none.false) ∙ c.loop-left.invariant.value;
      read = others_refused part parts (rest_parts left) is
          (rw c.read_duration-in-len1-up.ensures.read at c.in_ok-value.ensures.1) ∙ c.loop-left.invariant.read;
    }

pub returns : goal.returns
returns c =
    let none = none_parts c.loop-left.left.now c.in_default.len_below in (
      sym (or_none c.loop-left.found) ∙ ap (λ parts. or_else c.loop-left.found (first_duration parts)) (sym none)
          ∙ c.loop-left.invariant.value,
      sym c.loop-left.invariant.read ∙ ap some_refused none,
    )
