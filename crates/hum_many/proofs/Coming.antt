-- What comes of a case.
use Rattle.std.proofs.Common.{◌≡◌, ℕ, List, [], refl, sym, subst, ◌∙◌, Bool, true, false, nat_lt, Some, Option, inl, inr}
use Rattle.std.specs.Prelude.{codes}
use Rattle.hum_net.specs.Outcomes.{status_of}
use Rattle.hum_words.specs.Bundle.{largest}
use Rattle.hum_turns.specs.declared.result.RunResult.TheVariants as ends
use Rattle.hum_net.specs.declared.outcome.Outcome.{Outcome}
use Rattle.hum_net.specs.declared.outcome.Outcome.TheVariants as outcome
use Rattle.hum_net.specs.Bundles.{Comes, ComesOfBundle, is_refused}
use Rattle.hum_many.specs.Cases.{Named, size, score_in}
use Rattle.hum_many.specs.Answers.{CaseComes, held_outcome, told}

-- a failed write of a text that is held is told as what it is
comes-held : (plan : List ℕ) (score : List ℕ → Option (List ℕ)) (old new : Option (List ℕ)) (flushed : Bool) (is : Outcome)
    → Comes plan score old new flushed is → Comes plan score old new flushed (held_outcome is)
comes-held plan score old new flushed (outcome.Run ends.Write) (inl run) =
    inl (record { stages = run.stages; plan = run.plan; scores = run.scores; written = run.written })
comes-held plan score old new flushed (outcome.Run ends.Write) (inr none) = absurd none
comes-held plan score old new flushed (outcome.Run ends.Finished) h = h
comes-held plan score old new flushed (outcome.Run (ends.Fault fault)) h = h
comes-held plan score old new flushed (outcome.Run (ends.Read number)) h = h
comes-held plan score old new flushed (outcome.Run ends.Memory) h = h
comes-held plan score old new flushed (outcome.Plan fault) h = h
comes-held plan score old new flushed (outcome.NoScore number) h = h
comes-held plan score old new flushed outcome.TooLarge h = h

refused-held : (is : Outcome) → is_refused (held_outcome is) ≡ is_refused is
refused-held (outcome.Run ends.Write) = refl
refused-held (outcome.Run ends.Finished) = refl
refused-held (outcome.Run (ends.Fault fault)) = refl
refused-held (outcome.Run (ends.Read number)) = refl
refused-held (outcome.Run ends.Memory) = refl
refused-held (outcome.Plan fault) = refl
refused-held (outcome.NoScore number) = refl
refused-held outcome.TooLarge = refl

pub case-large : (plan text : List ℕ) (case : List Named) → true ≡ nat_lt largest (size case) → text ≡ []
    → CaseComes plan case text outcome.TooLarge
case-large plan text case large none = record {
  flushed = false;
  comes = subst (λ b. ComesOfBundle b plan (score_in case) (Some []) (Some text) false outcome.TooLarge) large refl;
  refused = λ h. none;
}

pub case-comes : (plan old text : List ℕ) (held case : List Named) (flushed : Bool) (is : Outcome)
    → false ≡ nat_lt largest (size case) → held ≡ case → old ≡ []
    → Comes plan (score_in held) (Some old) (Some text) flushed is → (is_refused is ≡ true → text ≡ old)
    → CaseComes plan case text (held_outcome is)
case-comes plan old text held case flushed is small same none comes refused =
    let here = comes-held plan (score_in held) (Some old) (Some text) flushed is comes in
    let of_case = subst (λ xs. Comes plan (score_in xs) (Some old) (Some text) flushed (held_outcome is)) same here in
    let from_none = subst (λ bs. Comes plan (score_in case) (Some bs) (Some text) flushed (held_outcome is)) none of_case in record {
      flushed = flushed;
      comes = subst (λ b. ComesOfBundle b plan (score_in case) (Some []) (Some text) flushed (held_outcome is)) small from_none;
      refused = λ h. refused (sym (refused-held is) ∙ h) ∙ none;
    }

-- what is told where all went well
pub told-well : (is : Outcome) → status_of is ≡ 0 → told is ≡ codes "0"
told-well is well = rw well refl
