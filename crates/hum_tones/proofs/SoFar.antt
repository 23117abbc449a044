-- A token whose first parts have given their texts.
use Rattle.std.proofs.lemmas.Grind.{common_steps}
use Rattle.std.proofs.lemmas.Bool.Decides.{nat_tests}
use Rattle.std.proofs.Common.{◌≡◌, refl, sym, ◌∙◌, ℕ, ◌+◌, ◌<◌, ◌≤◌, List, [], ◌∷◌, ◌++◌}
use Rattle.std.proofs.Common.{append-nil, length, drop, get_or, Option, None, Some, arith}
use Rattle.std.specs.Prelude.{Result, Ok, Err}
use Rattle.std.proofs.lemmas.List.{drop_all}
use lib.Chars.{codes}
use Rattle.hum_stage.specs.declared.faults.Rule.{Rule}
use Rattle.hum_tones.specs.Subtokens.{with_first, given_by, if_given, HasAdded}
use Rattle.hum_tones.proofs.Joined.{spaced, fronts, spaced_joined}

-- what some parts give, behind what others gave
abbrev pub onto : List (List ℕ) → Result (List (List ℕ)) Rule → Result (List (List ℕ)) Rule
onto done (Ok texts) = Ok (done ++ texts)
onto done (Err rule) = Err rule

-- so many parts have given texts
pub record SoFar (gives : List ℕ → Result (Option (List ℕ)) Rule) (parts : List (List ℕ)) (n : ℕ) (text : List ℕ) : Type 0 where
  pub done : List (List ℕ)
  pub made : text ≡ spaced done
  pub rest : given_by gives parts ≡ onto done (given_by gives (drop n parts))

onto_nothing : (r : Result (List (List ℕ)) Rule) → r ≡ onto [] r
onto_nothing = grind (arith, nat_tests)

onto_one_more : (done : List (List ℕ)) (text : List ℕ) (r : Result (List (List ℕ)) Rule)
    → onto done (with_first (Ok (Some text)) r) ≡ onto (done ++ text ∷ []) r
onto_one_more = grind (arith, common_steps)

spaced_one_more : (done : List (List ℕ)) (text : List ℕ) → spaced (done ++ text ∷ []) ≡ spaced done ++ (text ++ codes " ")
spaced_one_more [] text = refl
spaced_one_more (first ∷ done) text = grind (arith, common_steps, spaced_one_more done text)

no_end : (xs : List ℕ) (last : ℕ) → [] ≡ xs ++ last ∷ [] → ⊥
no_end = grind (arith, common_steps)

no_space : (xs ys : List ℕ) → xs ++ (32 ∷ ys) ≡ [] → ⊥
no_space [] ys e = cc
no_space (x ∷ xs) ys e = cc

pub nothing_yet : (gives : List ℕ → Result (Option (List ℕ)) Rule) (parts : List (List ℕ)) → SoFar gives parts 0 []
nothing_yet gives parts = record { done = []; made = refl; rest = onto_nothing (given_by gives parts) }

module _ (gives : List ℕ → Result (Option (List ℕ)) Rule) (parts : List (List ℕ)) (n : ℕ) (text : List ℕ) (h : SoFar gives parts n text) where
  -- the next part
  split : (part : List ℕ) → n < length parts → part ≡ get_or parts n part
      → given_by gives parts ≡ onto h.done (with_first (gives part) (given_by gives (drop (n + 1) parts)))
  split = grind (arith, common_steps)

  pub one_more : (part after : List ℕ) → (n < length parts) × (part ≡ get_or parts n part) →
      HasAdded (gives part) text after None → SoFar gives parts (n + 1) after
  one_more part after at added = go (gives part) refl added
    where
      go : (given : Result (Option (List ℕ)) Rule) → gives part ≡ given → HasAdded given text after None → SoFar gives parts (n + 1) after
      go (Ok None) is added = record { done = h.done; made = added ∙ h.made; rest = rw is at (split part at.0 at.1) }
      go (Ok (Some more)) is added = record {
        done = h.done ++ more ∷ [];
        made = added ∙ rw h.made (sym (spaced_one_more h.done more));
        rest = (rw is at (split part at.0 at.1)) ∙ onto_one_more h.done more (given_by gives (drop (n + 1) parts));
      }
      go (Err rule) is added = absurd added

  pub refused : (part after : List ℕ) (rule : Rule) → (n < length parts) × (part ≡ get_or parts n part) → HasAdded (gives part) text after (Some rule)
      → given_by gives parts ≡ Err rule
  refused = grind (arith, common_steps)

  -- Where all parts have given their texts, the token is what they make without the last space.
  pub some_given : length parts ≤ n → (after : List ℕ) (last : ℕ) → text ≡ after ++ last ∷ [] → if_given (given_by gives parts) ≡ Ok after
  some_given = grind (arith, nat_tests, drop_all, append-nil, spaced, no_end, fronts, spaced_joined)

  pub none_given : length parts ≤ n → text ≡ [] → if_given (given_by gives parts) ≡ Ok (codes ".")
  none_given = grind (arith, nat_tests, drop_all, append-nil, spaced, no_space)
