-- From what is compiled to the pattern's text.
use Rattle.std.proofs.Common.{◌≡◌, ◌≢◌, ◌<◌, inl, inr, ℕ, List, Option, None, Some, IsSomeAnd, get_or, is_some, option_map, false, refl, sym, ap, ◌∙◌}
use Rattle.std.specs.Prelude.{chars}
use Rattle.regex.specs.Patterns.{Re, Match, Reads, Refuses, span, find}
use Rattle.regex.specs.Bytes.{regex_source, regex_config, regex_pattern, IsReadFromSource}
use Rattle.regex.specs.declared.bytes.regex.Regex.{Regex}
use Rattle.regex.proofs.OnLiterals.{same_refl}
use Rattle.regex.proofs.ForCallers.{bytes_alike_as_written, is_match_alike, span_alike}
use Rattle.regex_hir.specs.declared.hir.Hir.{Hir}
use Rattle.regex_syntax.specs.Brackets.{Nested}
use Rattle.regex_syntax.specs.Grammar.{Names, read}
use Rattle.regex_syntax.specs.Same.{SameTree}
use Rattle.regex.specs.Failures.{IsRightKind, IsPattern}
use Rattle.regex.specs.Sources.{IsRefusal}
use Rattle.regex.specs.declared.error.Error.{Error}
use Rattle.regex.specs.declared.error.Error.TheVariants.{Syntax, CompiledTooBig}
use Rattle.regex_syntax.specs.declared.error.Error as parser
use Rattle.regex_syntax.specs.declared.error.ErrorKind.{ErrorKind}
use Rattle.regex_syntax.specs.declared.error.ErrorKind.TheVariants.{OutOfMemory}
use Rattle.hum_pattern.specs.Meaning.{over_bytes, IsExpression, IsNone, expression_in, expression, matched, first_end}
use Rattle.hum_pattern.specs.Searching.{SearchesFor}

itself : (P : Nested Re × Names → Type 0) (o : Option (Nested Re × Names)) → IsSomeAnd o P
    → IsSomeAnd o (λ (found, _). SameTree found.value (expression_in o))
itself P None h = absurd h
itself P (Some (found, names)) h = same_refl _

-- what a regex searches for is the expression of its text
pub searches : (r : Regex) (text : List ℕ) → regex_source r ≡ text → regex_config r ≡ over_bytes → IsReadFromSource r
    → SearchesFor text (regex_pattern r)
unfolding Reads
searches r text is_text is_config is_read =
    bytes_alike_as_written r over_bytes text is_text is_config is_read (expression text)
    (itself _ (read over_bytes (chars text)) (rw (is_text, is_config) at is_read))

weaker : {A : Type 0} (P Q : A → Type 0) (o : Option A) → ((x : A) → P x → Q x) → IsSomeAnd o P → IsSomeAnd o Q
weaker P Q None f h = absurd h
weaker P Q (Some x) f h = f x h

-- what the grammar reads is an expression
pub is_expression : (hir : Hir) (names : Names) (text : List ℕ) → Reads over_bytes text hir names → IsExpression text
unfolding Reads
is_expression hir names text h = weaker _ _ (read over_bytes (chars text)) (λ x all. all.0) h

pub is_expression_of : (r : Regex) (text : List ℕ) → regex_source r ≡ text → regex_config r ≡ over_bytes → IsReadFromSource r
    → IsExpression text
is_expression_of r text is_text is_config is_read = is_expression _ _ text (rw (is_text, is_config) at is_read)

none_by_kind : (text : List ℕ) (kind : ErrorKind) → kind ≢ OutOfMemory → Refuses over_bytes text kind → IsNone text
unfolding Refuses
none_by_kind text kind other (inl memory) = absurd (other memory)
none_by_kind text kind other (inr (inl none)) = inl none
none_by_kind text kind other (inr (inr deep)) = inr deep.1

-- and what it refuses but for memory is none
pub is_none : (text : List ℕ) (error : Error) (e : parser.Error) → error ≡ Syntax e → IsRefusal over_bytes text error
    → IsRightKind over_bytes text error → IsNone text
is_none text error e is refusal right = none_by_kind text e.kind (rw is at right) (refusal e is)

pub is_too_large : (text : List ℕ) (error : Error) → error ≡ CompiledTooBig → IsRightKind over_bytes text error → IsExpression text
is_too_large text error is right =
    let pattern : IsPattern over_bytes text = rw is at right in
    is_expression pattern.0 pattern.1 text pattern.2

module _ (text token : List ℕ) (searched : Re) (same : SearchesFor text searched) (bytes : (k : ℕ) → get_or token k 0 < 256) where
  pub same_test : is_some (find searched token 0) ≡ matched text token
  unfolding matched
  same_test = is_match_alike same token bytes false 0

  pub same_end : option_map (λ m. (span m).1) (find searched token 0) ≡ first_end text token
  unfolding first_end
  same_end = ends _ ∙ ap (option_map (λ (s : ℕ × ℕ). s.1)) (span_alike same token bytes false 0) ∙ sym (ends _)
    where
      ends : (o : Option Match) → option_map (λ m. (span m).1) o ≡ option_map (λ (s : ℕ × ℕ). s.1) (option_map span o)
      ends None = refl
      ends (Some m) = refl
