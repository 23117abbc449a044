-- Where memory ran out nothing is said of the text.
use Rattle.std.proofs.Common.{◌≡◌, ◌∙◌, ℕ, List, Result, Ok, Err, sym}
use Rattle.std.specs.Prelude.{IfOk, OnOk, IfErr, IsErrAnd}
use Rattle.hum_pattern.specs.Meaning.{IsExpression, IsNone}
use Rattle.hum_pattern.specs.declared.PatternFault.{PatternFault}
use Rattle.hum_pattern.specs.declared.PatternFault.TheVariants.{Refused, TooLarge, Memory}

-- what is said of a pattern that was asked for
abbrev pub Answered : List ℕ → Result (List ℕ) PatternFault → Type 0
Answered given result = record {
  text : IfOk result (λ pattern. pattern ≡ given);
  valid : OnOk result (IsExpression given);
  refused : IfErr result (λ fault. fault ≡ Refused → IsNone given);
  too_large : IfErr result (λ fault. fault ≡ TooLarge → IsExpression given);
}

not_refused : Memory ≡ Refused → ⊥
not_refused e = cc

not_large : Memory ≡ TooLarge → ⊥
not_large e = cc

pub out_of_memory : (given : List ℕ) (result : Result (List ℕ) PatternFault) → IsErrAnd result (λ fault. fault ≡ Memory) → Answered given result
out_of_memory given (Ok pattern) none = absurd none
out_of_memory given (Err fault) is = record {
  text = tt;
  valid = tt;
  refused = λ e. absurd (not_refused (sym is ∙ e));
  too_large = λ e. absurd (not_large (sym is ∙ e));
}
