use Rattle.std.proofs.lemmas.Bool.Decides.{nat_tests}
use Rattle.std.proofs.Common.{◌≡◌, ◌∙◌, ℕ, List, length, take, ap₂, rules, arith}
use Rattle.std.proofs.lemmas.List.{take_all}
use Rattle.hum_record.proofs.reading.Record.parse.Goals as goal

-- all of what is held
whole : (len : ℕ) (held text : List ℕ) → len ≡ length text → held ≡ text → take len held ≡ text
whole len held text size is = ap₂ take size is ∙ take_all (length text) text (omega arith)

pub parse_into-requires-clause-one_line : goal.parse_into-requires-clause-one_line
parse_into-requires-clause-one_line = grind (arith, nat_tests, whole)

pub returns-clause-found : goal.returns-clause-found
returns-clause-found c =
    rw (whole c.len.result c.deref.result.now c.args.text.items (search rules) c.deref.ensures.value) at c.parse_into.ensures.found

pub returns-clause-only : goal.returns-clause-only
returns-clause-only c =
    rw (whole c.len.result c.deref.result.now c.args.text.items (search rules) c.deref.ensures.value) at c.parse_into.ensures.only

pub returns-clause-broken : goal.returns-clause-broken
returns-clause-broken c =
    rw (whole c.len.result c.deref.result.now c.args.text.items (search rules) c.deref.ensures.value) at c.parse_into.ensures.broken

pub returns-clause-exact : goal.returns-clause-exact
returns-clause-exact c =
    rw (whole c.len.result c.deref.result.now c.args.text.items (search rules) c.deref.ensures.value) at c.parse_into.ensures.exact
