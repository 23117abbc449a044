use Rattle.std.proofs.Common.{Err, refl}
use Rattle.hum_pattern.specs.declared.PatternFault.TheVariants.{Memory}
use Rattle.hum_pattern.proofs.Exits.{out_of_memory}
use Rattle.hum_pattern.proofs.Reading.{searches, is_expression_of, is_none, is_too_large}
use Rattle.hum_pattern.proofs.expression_of.Goals as goal

pub lasting-requires : goal.lasting-requires
lasting-requires c =
    let made = c.in-Ok.ensures in
    rw made.source (searches c.in-Ok.regex c.args.text.now made.source made.config made.read)

pub returns-in-Ok-lasting-clause-valid : goal.returns-in-Ok-lasting-clause-valid
returns-in-Ok-lasting-clause-valid c =
    let made = c.in-Ok.ensures in
    is_expression_of c.in-Ok.regex c.args.text.now made.source made.config made.read

pub returns-in-Err-Syntax-clause-refused : goal.returns-in-Err-Syntax-clause-refused
returns-in-Err-Syntax-clause-refused c = λ _.
    let fault = c.in-Err-Syntax.ensures in
    is_none c.args.text.now _ _ c.in-Err-Syntax.field-0-is fault.refused fault.kind

pub returns-in-Err-CompiledTooBig-clause-too_large :
    goal.returns-in-Err-CompiledTooBig-clause-too_large
returns-in-Err-CompiledTooBig-clause-too_large c = λ _.
    is_too_large c.args.text.now _ c.in-Err-CompiledTooBig.field-0-is c.in-Err-CompiledTooBig.ensures.kind

pub returns-in-Err : goal.returns-in-Err
returns-in-Err c = out_of_memory c.args.text.now (Err Memory) refl

pub returns-in-Err-OutOfMemory : goal.returns-in-Err-OutOfMemory
returns-in-Err-OutOfMemory c = out_of_memory c.args.text.now (Err Memory) refl
