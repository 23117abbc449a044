-- Contexts of one token.
use Rattle.std.proofs.lemmas.Bool.Decides.{nat_tests}
use Rattle.std.proofs.Common.{◌≡◌, ◌∙◌, refl, ap, ℕ, suc, ◌+◌, Bool, ◌⊎◌, inl, inr, List, [], ◌∷◌, length, cond, get_or, take, arith}
use Rattle.std.specs.Prelude.{Option, None, Some, Ok, Err, filter}
use Rattle.hum_score.specs.declared.records.SpinedKind.TheVariants.{Values}
use Rattle.hum_score.specs.Row.{Row, Spined}
use Rattle.hum_score.specs.Spines.{Path}
use Rattle.hum_path.specs.Chains.{future}
use Rattle.hum_score.proofs.Cases.{by_bool}
use Rattle.hum_stage.specs.declared.faults.Rule.{Rule}
use Rattle.hum_words.specs.declared.commands.Command.{Command}
use Rattle.hum_stage.specs.declared.faults.End.TheVariants.{Closed}
use Rattle.hum_stage.specs.Outcome.{settled, refusal}
use Rattle.hum_stage.specs.Look.{Look, outcomes_from, looking}
use Rattle.hum_context.specs.Context.{Choice, First, is_collectable, is_last, to_last, new_token, new_tokens, all_some, context}
use Rattle.hum_laws.specs.declared.given.Given.{Given}
use Rattle.hum_laws.specs.Piped.{IsAlone}
use Rattle.hum_laws.proofs.Plain.{fits}
use Rattle.hum_laws.proofs.Runs.{closed_by}

-- each record stays, or is refused
abbrev pub StaysOrFails : Look → Type 0
StaysOrFails look = (past : List Row) (row : Row) (rows : List Row)
    → (look past row rows ≡ Some (Ok (row ∷ []))) ⊎ ((rule : Rule) × (look past row rows ≡ Some (Err rule)))

fine_settled : (room : ℕ) (look : Look) (line : ℕ) (past p : List Row) → StaysOrFails look → refusal line (outcomes_from room look past p) ≡ None
    → settled (outcomes_from room look past p) ≡ p
fine_settled room look line past [] h none = refl
fine_settled room look line past (row ∷ p) h none = elim (h past row (take room p)) [
  | inl stays ↦ rw stays (ap (λ (x : List Row). row ∷ x) (fine_settled room look (line + 1) (row ∷ past) p h (rw stays at none)))
  | inr fails ↦ absurd (refused fails.0 (rw fails.1 at none))
]
  where
    refused : (rule : Rule) → ◌≡◌ {A = Option (ℕ × Rule)} (Some (line, rule)) None → ⊥
    refused rule e = cc

pub fine_whole : (room stage : ℕ) (command : Command) (look : Look) (p : List Row) (given : Given) → StaysOrFails look
    → IsAlone (looking room stage command look) p given
    → given.end ≡ Closed → given.records.items ≡ p
fine_whole = grind (arith, nat_tests, closed_by, fine_settled)

-- a token is its own context
module _ (omits : List ℕ → Bool) where
  abbrev pub one : Choice
  one = record { extent = First 1; omits = omits }

  own_token : (token : List ℕ) (rest : List (List ℕ)) → new_token one token (token ∷ rest) ≡ Some token
  own_token token rest = by_bool (is_collectable one token)
      (λ w. rw w (rw (fits 1 (suc (length (filter (is_collectable one) rest))) (omega arith)) refl))
      (λ w. rw w refl)

  own_tokens : (path : Path) (all : List (List ℕ)) (rows : List Row) (j : ℕ) (tokens : List (List ℕ)) → ((k : ℕ) → get_or all (j + k) [] ≡ get_or tokens k [])
      → all_some (new_tokens one path (Spined Values all) rows j tokens) ≡ Some tokens
  own_tokens path all rows j [] at = refl
  own_tokens path all rows j (t ∷ tokens) at =
      let here : get_or all j [] ≡ t = ap (λ (n : ℕ). get_or all n []) (omega arith) ∙ at 0 in
      let rest = own_tokens path all rows (j + 1) tokens (λ k. ap (λ (n : ℕ). get_or all n []) (omega arith) ∙ at (suc k)) in
      rw (here, own_token t (cond (is_last t) [] (to_last (future path rows j))), rest) refl

  pub own_context : StaysOrFails (context one)
  own_context = grind (arith, nat_tests, own_tokens, get_or)
