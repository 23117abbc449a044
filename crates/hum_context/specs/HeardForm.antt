-- What is heard of a token, in one byte.
use Rattle.std.specs.Prelude.{true, false}
use Rattle.hum_context.specs.declared.heard.Heard.{Heard}
use Rattle.hum_context.specs.declared.heard.Heard.TheVariants.{Passed as IsPassed, Taken}
use Rattle.hum_context.specs.declared.heard.HeardForm.{HeardForm}
use Rattle.hum_context.specs.declared.heard.HeardForm.TheVariants.{Passed, Within, Begins, Ends, Alone}

abbrev pub heard_in : HeardForm → Heard
heard_in Passed = IsPassed
heard_in Within = Taken false false
heard_in Begins = Taken true false
heard_in Ends = Taken false true
heard_in Alone = Taken true true
