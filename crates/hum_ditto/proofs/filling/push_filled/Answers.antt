use Rattle.std.proofs.Common.{◌∙◌, sym, refl, true, false}
use Rattle.hum_ditto.proofs.Tokens.{same_token, repeats, in_parentheses, pushes}
use Rattle.hum_ditto.proofs.filling.push_filled.Goals as goal

pub push-requires : goal.push-requires
push-requires c = rw c.requires.kind c.requires.lawful

pub returns-then-not-is_null : goal.returns-then-not-is_null
returns-then-not-is_null c = record {
  kind = c.push.ensures.kind ∙ c.requires.kind;
  pushed = pushes _ _ _ _ _ _ _ (same_token _ _ _ (sym c.is_null.ensures ∙ c.if-not-is_null.true)) c.push.ensures.pushed;
}

pub push-requires-in-None : goal.push-requires-in-None
push-requires-in-None c = rw c.requires.kind c.requires.lawful

pub returns-in-None : goal.returns-in-None
returns-in-None c = record {
  kind = c.push-in-None.ensures.kind ∙ c.requires.kind;
  pushed = pushes _ _ _ _ _ _ _ (rw (← c.in-None.ensures.token) refl) c.push-in-None.ensures.pushed;
}

pub push-requires-then-parentheses : goal.push-requires-then-parentheses
push-requires-then-parentheses c =
    rw (c.requires.kind, c.deref.ensures.value, c.in_ok-parenthesize-in-Some.ensures) (in_parentheses c.in-Some.source.now c.in-Some.ensures.lawful)

pub returns-in_ok-parenthesize-in-Some : goal.returns-in_ok-parenthesize-in-Some
returns-in_ok-parenthesize-in-Some c = record {
  kind = c.push-then-parentheses.ensures.kind ∙ c.requires.kind;
  pushed = pushes _ _ _ _ _ _ _
      (rw (c.deref.ensures.value, c.in_ok-parenthesize-in-Some.ensures) (repeats _ _ _ _ true c.in-Some.ensures.token
      (sym c.is_null.ensures ∙ c.if-not-is_null.false) (sym c.if-parentheses.true ∙ c.parentheses.ensures)))
      c.push-then-parentheses.ensures.pushed;
}

pub push-requires-else-parentheses : goal.push-requires-else-parentheses
push-requires-else-parentheses c = rw c.requires.kind c.in-Some.ensures.lawful

pub returns-else-parentheses : goal.returns-else-parentheses
returns-else-parentheses c = record {
  kind = c.push-else-parentheses.ensures.kind ∙ c.requires.kind;
  pushed = pushes _ _ _ _ _ _ _
      (repeats _ _ _ _ false c.in-Some.ensures.token (sym c.is_null.ensures ∙ c.if-not-is_null.false)
      (sym c.if-parentheses.false ∙ c.parentheses.ensures))
      c.push-else-parentheses.ensures.pushed;
}
