-- A stage further down makes the same, and its fault bears its number there.
use Rattle.std.proofs.Common.{◌≡◌, ◌∙◌, refl, sym, ap, ℕ, ◌+◌, Bool, true, false, cond, List, [], ◌∷◌, map, length, Option, None, Some, arith}
use Rattle.std.specs.Prelude.{nat_lt, unwrap_or}
use Rattle.std.specs.Option.{option_map}
use Rattle.std.proofs.lemmas.Bool.Decides.{nat_tests}
use Rattle.hum_score.specs.Row.{Row}
use Rattle.hum_score.specs.Spines.{Path, Unopened}
use Rattle.hum_stage.specs.declared.faults.Rule.{Rule}
use Rattle.hum_words.specs.declared.commands.Command.{Command}
use Rattle.hum_words.specs.declared.commands.Command.TheVariants.{Assemble}
use Rattle.hum_stage.specs.declared.faults.Fault.{Fault}
use Rattle.hum_stage.specs.declared.faults.End.{End}
use Rattle.hum_stage.specs.declared.faults.End.TheVariants.{Closed, Broken}
use Rattle.hum_stage.specs.Meaning.{fault_at, output}
use Rattle.hum_stage.specs.Outcome.{refusal}
use Rattle.hum_assemble.specs.Meaning.{AreScores, output as merged}
use Rattle.hum_assemble.specs.Groups.{Cut, cut, cut_of, is_closed_end, merged as parts_of_cuts, unopened, all_parts, written, stops_at, by_groups}
use Rattle.hum_assemble.proofs.Fronts.{gives_by_groups}
use Rattle.hum_turns.specs.Flow.{Flow, AllFine}
use Rattle.hum_turns.specs.Plan.{lower, inputs_end, or_own, whole}
use Rattle.hum_read.specs.Denoted.{end_at}
use Rattle.hum_nodes.specs.Fine.{fine}
use Rattle.hum_nodes.specs.Single.{items_of, own_end}
use Rattle.hum_nodes.specs.Merging.{inputs_of}
use Rattle.hum_nodes.specs.Reading.{settled_at}
use Rattle.hum_nodes.specs.Trees.{Part, Reads, Through, Beside, kind_of}
use Rattle.hum_nodes.proofs.Fining.{fine_is}
use Rattle.hum_pipes.specs.Piped.{moved_part, moved_fault, moved_end, moved_flow}

-- Two lists of flows, of which those at one place are related.
abbrev pub AllRelated : (Flow Row → Flow Row → Type 0) → List (Flow Row) → List (Flow Row) → Type 0
AllRelated Related [] [] = Unit {0}
AllRelated Related [] (b ∷ ys) = ⊥
AllRelated Related (a ∷ xs) [] = ⊥
AllRelated Related (a ∷ xs) (b ∷ ys) = Related a b × AllRelated Related xs ys

abbrev pub IsMoved : ℕ → Flow Row → Flow Row → Type 0
IsMoved n a b = a ≡ moved_flow n b

-- scores, as inputs of assemble
pub are_scores : (a : List (Flow Row)) → AllFine fine a → AreScores (inputs_of a)
are_scores [] h = tt
are_scores (x ∷ a) h = let f = fine_is 4294967295 x h.0 in ((f.score, f.closed), are_scores a h.1)

-- What assemble gives depends on an end only by whether it is closed.

abbrev pub closes : Flow Row → Bool
closes a = is_closed_end a.end

abbrev pub IsAlike : Flow Row → Flow Row → Type 0
IsAlike a b = (a.items ≡ b.items) × (closes a ≡ closes b)

same_cuts : (xs ys : List (Flow Row)) → AllRelated IsAlike xs ys
    → (map cut_of (inputs_of xs) ≡ map cut_of (inputs_of ys)) × (unopened (inputs_of xs) ≡ unopened (inputs_of ys))
same_cuts [] [] h = (refl, refl)
same_cuts [] (b ∷ ys) h = absurd h
same_cuts (a ∷ xs) [] h = absurd h
same_cuts (a ∷ xs) (b ∷ ys) h =
    let rest = same_cuts xs ys h.1 in
    let one : cut (closes a) a.items ≡ cut (closes b) b.items = rw (h.0.0, h.0.1) refl in (
      ap (λ (c : Cut). c ∷ map cut_of (inputs_of xs)) one ∙ ap (λ (cs : List Cut). cut (closes b) b.items ∷ cs) rest.0,
      ap (λ (ps : List Path). Unopened ∷ ps) rest.1,
    )

pub same_merge : (xs ys : List (Flow Row)) → AllFine fine xs → AllFine fine ys → AllRelated IsAlike xs ys
    → merged (inputs_of xs) ≡ merged (inputs_of ys)
same_merge xs ys f g h =
    let cuts = same_cuts xs ys h in
    let same : by_groups (inputs_of xs) ≡ by_groups (inputs_of ys) =
    ap (λ (cs : List Cut). written 0 (unopened (inputs_of xs)) (parts_of_cuts cs).parts) cuts.0
    ∙ ap (λ (ps : List Path). written 0 ps (all_parts (inputs_of ys))) cuts.1 in
    (gives_by_groups 0 (inputs_of xs) (are_scores xs f)).rows ∙ same ∙ sym (gives_by_groups 0 (inputs_of ys) (are_scores ys g)).rows

same_stop : (xs ys : List (Flow Row)) → AllRelated IsAlike xs ys
    → stops_at 0 (unopened (inputs_of xs)) (all_parts (inputs_of xs)) ≡ stops_at 0 (unopened (inputs_of ys)) (all_parts (inputs_of ys))
same_stop xs ys h =
    let cuts = same_cuts xs ys h in
    ap (λ (cs : List Cut). stops_at 0 (unopened (inputs_of xs)) (parts_of_cuts cs).parts) cuts.0
    ∙ ap (λ (ps : List Path). stops_at 0 ps (all_parts (inputs_of ys))) cuts.1

module _ (n : ℕ) where
  -- Ends that are moved.

  less_moved : (f g : ℕ) → nat_lt (g + n) (f + n) ≡ nat_lt g f
  less_moved f g = by (nat_lt g f) refl
    where
      by : (b : Bool) → nat_lt g f ≡ b → nat_lt (g + n) (f + n) ≡ b
      by true w = grind (arith, nat_tests, w)
      by false w = grind (arith, nat_tests, w)

  lower_moved : (a b : End) → lower (moved_end n a) (moved_end n b) ≡ moved_end n (lower a b)
  lower_moved Closed b = refl
  lower_moved (Broken f) Closed = refl
  lower_moved (Broken f) (Broken g) = rw (less_moved f.stage g.stage) (by (nat_lt g.stage f.stage))
    where
      by : (b : Bool) → cond b (Broken (moved_fault n g)) (Broken (moved_fault n f)) ≡ moved_end n (cond b (Broken g) (Broken f))
      by true = refl
      by false = refl

  or_moved : (a b : End) → or_own (moved_end n a) (moved_end n b) ≡ moved_end n (or_own a b)
  or_moved Closed b = refl
  or_moved (Broken f) b = refl

  unwrapped : (o : Option End) → unwrap_or (option_map (moved_end n) o) Closed ≡ moved_end n (unwrap_or o Closed)
  unwrapped None = refl
  unwrapped (Some e) = refl

  inputs_moved : (xs ys : List (Flow Row)) → AllRelated (IsMoved n) xs ys → inputs_end xs ≡ moved_end n (inputs_end ys)
  inputs_moved [] [] h = refl
  inputs_moved [] (b ∷ ys) h = absurd h
  inputs_moved (a ∷ xs) [] h = absurd h
  inputs_moved (a ∷ xs) (b ∷ ys) h =
      let one : unwrap_or a.end Closed ≡ moved_end n (unwrap_or b.end Closed) =
      ap (λ (f : Flow Row). unwrap_or f.end Closed) h.0 ∙ unwrapped b.end in
      ap (λ (e : End). lower e (inputs_end xs)) one
      ∙ ap (λ (e : End). lower (moved_end n (unwrap_or b.end Closed)) e) (inputs_moved xs ys h.1)
      ∙ lower_moved (unwrap_or b.end Closed) (inputs_end ys)

  end_at_moved : (stage : ℕ) (o : Option (ℕ × Rule)) → end_at (stage + n) o ≡ moved_end n (end_at stage o)
  end_at_moved stage None = refl
  end_at_moved stage (Some (line, rule)) = refl

  own_moved : (stage : ℕ) (command : Command) (o : Option (ℕ × Rule))
      → own_end (fault_at (stage + n) command o) ≡ moved_end n (own_end (fault_at stage command o))
  own_moved stage command None = refl
  own_moved stage command (Some r) = refl

  first_items : (xs ys : List (Flow Row)) → AllRelated (IsMoved n) xs ys → items_of xs ≡ items_of ys
  first_items [] [] h = refl
  first_items [] (b ∷ ys) h = absurd h
  first_items (a ∷ xs) [] h = absurd h
  first_items (a ∷ xs) (b ∷ ys) h = ap (λ (f : Flow Row). f.items) h.0

  closes_moved : (o : Option End) → is_closed_end (option_map (moved_end n) o) ≡ is_closed_end o
  closes_moved None = refl
  closes_moved (Some Closed) = refl
  closes_moved (Some (Broken f)) = refl

  alike : (xs ys : List (Flow Row)) → AllRelated (IsMoved n) xs ys → AllRelated IsAlike xs ys
  alike [] [] h = tt
  alike [] (b ∷ ys) h = absurd h
  alike (a ∷ xs) [] h = absurd h
  alike (a ∷ xs) (b ∷ ys) h = (
    (
      ap (λ (f : Flow Row). f.items) h.0,
      ap (λ (f : Flow Row). is_closed_end f.end) h.0 ∙ closes_moved b.end,
    ),
    alike xs ys h.1,
  )

  -- what a flow is by its records and its end
  flow_by : (xs ys : List Row) (e f : End) → xs ≡ ys → e ≡ moved_end n f
      → ◌≡◌ {A = Flow Row} (record { items = xs; end = Some e }) (moved_flow n (record { items = ys; end = Some f }))
  flow_by xs ys e f p q = rw (p, q) refl

  ends_by : (xs ys : List (Flow Row)) (x y : End) → AllRelated (IsMoved n) xs ys → x ≡ moved_end n y
      → or_own (inputs_end xs) x ≡ moved_end n (or_own (inputs_end ys) y)
  ends_by xs ys x y h e =
      ap (λ (z : End). or_own z x) (inputs_moved xs ys h)
      ∙ ap (λ (z : End). or_own (moved_end n (inputs_end ys)) z) e
      ∙ or_moved (inputs_end ys) y

  -- Of moved inputs it makes what it made, moved.
  pub moved_whole : (number : ℕ) (part : Part) (xs ys : List (Flow Row)) → AllFine fine xs → AllFine fine ys
      → AllRelated (IsMoved n) xs ys
      → IsMoved n (whole (kind_of (number + n) (moved_part n part)).stage xs) (whole (kind_of number part).stage ys)
  moved_whole number (Reads bytes) xs ys f g h =
      flow_by (settled_at bytes (length bytes + 1)).rows (settled_at bytes (length bytes + 1)).rows _ _ refl
      (ends_by xs ys _ _ h (end_at_moved number (settled_at bytes (length bytes + 1)).fault))
  moved_whole number (Through from m) xs ys f g h =
      let same = first_items xs ys h in
      flow_by (output m (items_of xs)) (output m (items_of ys)) _ _ (ap (output m) same)
      (ends_by xs ys _ _ h
      (ap (λ (xs : List Row). own_end (fault_at (m.stage + n) m.command (refusal 1 (m.outcomes xs)))) same
      ∙ own_moved m.stage m.command (refusal 1 (m.outcomes (items_of ys)))))
  moved_whole number (Beside from) xs ys f g h =
      let like = alike xs ys h in
      flow_by (merged (inputs_of xs)) (merged (inputs_of ys)) _ _ (same_merge xs ys f g like)
      (ends_by xs ys _ _ h
      (ap own_end (gives_by_groups (number + n) (inputs_of xs) (are_scores xs f)).fault
      ∙ ap (λ (o : Option (ℕ × Rule)). own_end (fault_at (number + n) Assemble o)) (same_stop xs ys like)
      ∙ own_moved number Assemble (stops_at 0 (unopened (inputs_of ys)) (all_parts (inputs_of ys)))
      ∙ ap (λ (o : Option Fault). moved_end n (own_end o)) (sym (gives_by_groups number (inputs_of ys) (are_scores ys g)).fault)))
