-- A stage that is broken off makes a prefix of what it makes else.
use Rattle.std.proofs.Common.{◌≡◌, ◌∙◌, refl, sym, ap, subst, ℕ, ◌+◌, true, List, [], ◌∷◌, map, length, append-nil, Option, None, Some, arith}
use Rattle.std.specs.Prelude.{unwrap_or}
use Rattle.std.proofs.lemmas.List.{length-map}
use Rattle.std.proofs.lemmas.Option.{same_Some}
use Rattle.hum_assemble.specs.Groups.{is_closed_end}
use Rattle.std.specs.Option.{option_map}
use Rattle.hum_score.specs.Row.{Row}
use Rattle.hum_stage.specs.declared.faults.End.{End}
use Rattle.hum_stage.specs.declared.faults.End.TheVariants.{Closed, Broken}
use Rattle.hum_stage.specs.Meaning.{IsLawful, output}
use Rattle.hum_assemble.specs.Meaning.{output as merged}
use Rattle.hum_turns.specs.Flow.{Flow, Begins, Later, AllLater, AllOver, AllFine}
use Rattle.hum_turns.specs.Plan.{inputs_end, whole}
use Rattle.hum_nodes.specs.Fine.{fine}
use Rattle.hum_nodes.specs.Single.{items_of}
use Rattle.hum_nodes.specs.Merging.{inputs_of}
use Rattle.hum_nodes.specs.Reading.{settled_at}
use Rattle.hum_nodes.specs.Trees.{Part, Reads, Through, Beside, kind_of}
use Rattle.hum_nodes.proofs.Fining.{fine_is, is_fine_by}
use Rattle.hum_nodes.proofs.SingleLaws as single
use Rattle.hum_nodes.proofs.MergingLaws as merging
use Rattle.hum_pipes.specs.Piped.{moved_part, moved_end, moved_flow}
use Rattle.hum_pipes.proofs.Moving.{AllRelated, IsMoved, IsAlike, same_merge, moved_whole}

-- The first is a prefix of the second, and all of it where it ends closed.
pub record IsUnder (a b : Flow Row) : Type 0 where
  pub front : Begins a.items b.items
  pub closed : a.end ≡ Some Closed → b ≡ a

-- A flow without a fault at its end goes on to the other.

abbrev unbroken_end : Option End → Option End
unbroken_end None = None
unbroken_end (Some Closed) = Some Closed
unbroken_end (Some (Broken f)) = None

abbrev unbroken : Flow Row → Flow Row
unbroken a = record { items = a.items; end = unbroken_end a.end }

unbroken_fine : (a : Flow Row) → fine a ≡ true → fine (unbroken a) ≡ true
unbroken_fine a h =
    let f = fine_is 4294967295 a h in
    is_fine_by 4294967295 (unbroken a) (record { score = f.score; closed = λ e. f.closed (was_closed a.end e); few = f.few })
  where
    was_closed : (o : Option End) → unbroken_end o ≡ Some Closed → o ≡ Some Closed
    was_closed None e = e
    was_closed (Some Closed) e = refl
    was_closed (Some (Broken f)) e = cc

all_unbroken : (xs : List (Flow Row)) → AllFine fine xs → AllFine fine (map unbroken xs)
all_unbroken [] h = tt
all_unbroken (x ∷ xs) h = (unbroken_fine x h.0, all_unbroken xs h.1)

later : (a b : Flow Row) → IsUnder a b → Later (unbroken a) b
later a b h = record { items = h.front; over = λ e ends. over a.end refl e ends }
  where
    over : (o : Option End) → a.end ≡ o → (e : End) → unbroken_end o ≡ Some e → b ≡ unbroken a
    over None is e ends = cc
    over (Some Closed) is e ends =
        h.closed is ∙ ap (λ (x : Option End). flow a.items x) (is ∙ sym (ap unbroken_end is))
      where
        flow : List Row → Option End → Flow Row
        flow xs x = record { items = xs; end = x }
    over (Some (Broken f)) is e ends = cc

all_later : (xs ys : List (Flow Row)) → AllRelated IsUnder xs ys → AllLater (map unbroken xs) ys
all_later [] [] h = tt
all_later [] (y ∷ ys) h = absurd h
all_later (x ∷ xs) [] h = absurd h
all_later (x ∷ xs) (y ∷ ys) h = (later x y h.0, all_later xs ys h.1)

unbroken_items : (xs : List (Flow Row)) → items_of (map unbroken xs) ≡ items_of xs
unbroken_items [] = refl
unbroken_items (x ∷ xs) = refl

unbroken_alike : (xs : List (Flow Row)) → AllRelated IsAlike xs (map unbroken xs)
unbroken_alike [] = tt
unbroken_alike (x ∷ xs) = ((refl, by x.end), unbroken_alike xs)
  where
    by : (o : Option End) → is_closed_end o ≡ is_closed_end (unbroken_end o)
    by None = refl
    by (Some Closed) = refl
    by (Some (Broken f)) = refl

size : (xs : List (Flow Row)) → length (map unbroken xs) ≡ length xs
size xs = length-map xs unbroken

-- Inputs that end closed are all there.

closed_in : (xs ys : List (Flow Row)) → AllRelated IsUnder xs ys → AllOver xs → inputs_end xs ≡ Closed → (n : ℕ)
    → (ys ≡ xs) × AllRelated (IsMoved n) xs ys
closed_in [] [] h over e n = (refl, tt)
closed_in [] (y ∷ ys) h over e n = absurd h
closed_in (x ∷ xs) [] h over e n = absurd h
closed_in (x ∷ xs) (y ∷ ys) h over e n =
    let both = single.lower_closed (unwrap_or x.end Closed) (inputs_end xs) e in
    let ended = single.over_closed x over.0 both.0 in
    let same : y ≡ x = h.0.closed ended in
    let rest = closed_in xs ys h.1 over.1 both.1 n in
    let stays : x ≡ moved_flow n x = ap (λ (o : Option End). flow x.items o) (ended ∙ sym (ap (option_map (moved_end n)) ended)) in (
      ap (λ (z : Flow Row). z ∷ ys) same ∙ ap (λ (zs : List (Flow Row)). x ∷ zs) rest.0,
      (stays ∙ ap (moved_flow n) (sym same), rest.1),
    )
  where
    flow : List Row → Option End → Flow Row
    flow xs o = record { items = xs; end = o }

-- what is asked of a part
abbrev pub IsSound : Part → Type 0
IsSound (Reads bytes) = Unit {0}
IsSound (Through from command) = IsLawful command
IsSound (Beside from) = Unit {0}

-- as many inputs as it reads from
abbrev pub IsFull : Part → List (Flow Row) → Type 0
IsFull part xs = length xs ≡ length (kind_of 0 part).stage.sources

front_whole : (number n : ℕ) (part : Part) (xs ys : List (Flow Row)) → IsSound part → IsFull part xs → IsFull part ys
    → AllFine fine xs → AllFine fine ys → AllRelated IsUnder xs ys
    → Begins (whole (kind_of (number + n) (moved_part n part)).stage xs).items (whole (kind_of number part).stage ys).items
front_whole number n (Reads bytes) xs ys sound full full' f g h = ([], append-nil (settled_at bytes (length bytes + 1)).rows)
front_whole number n (Through from m) xs ys sound full full' f g h =
    subst (λ (rows : List Row). Begins rows (output m (items_of ys))) (ap (output m) (unbroken_items xs))
    ((single.lawful from m sound).grows 0 0 (map unbroken xs) ys (record {
      more = omega arith;
      within = omega arith;
      inputs = record {
        before = record { count = size xs ∙ full; each = all_unbroken xs f };
        after = record { count = full'; each = g };
        later = all_later xs ys h;
      };
    }))
front_whole number n (Beside from) xs ys sound full full' f g h =
    subst (λ (rows : List Row). Begins rows (merged (inputs_of ys)))
    (sym (same_merge xs (map unbroken xs) f (all_unbroken xs f) (unbroken_alike xs)))
    ((merging.lawful number from).grows 0 0 (map unbroken xs) ys (record {
      more = omega arith;
      within = omega arith;
      inputs = record {
        before = record { count = size xs ∙ full; each = all_unbroken xs f };
        after = record { count = full'; each = g };
        later = all_later xs ys h;
      };
    }))

-- a flow that is moved and ends closed is as it was
moved_closed : (n : ℕ) (a b : Flow Row) → IsMoved n a b → a.end ≡ Some Closed → b ≡ a
moved_closed n a b is e = by b.end refl (ap (λ (f : Flow Row). f.end) (sym is) ∙ e)
  where
    flow : Option End → Flow Row
    flow o = record { items = b.items; end = o }

    by : (o : Option End) → b.end ≡ o → option_map (moved_end n) o ≡ Some Closed → b ≡ a
    by None at ends = cc
    by (Some Closed) at ends = ap flow (at ∙ sym (ap (option_map (moved_end n)) at)) ∙ sym is
    by (Some (Broken f)) at ends = cc

pub under_whole : (number n : ℕ) (part : Part) (xs ys : List (Flow Row)) → IsSound part → IsFull part xs → IsFull part ys
    → AllFine fine xs → AllFine fine ys → AllOver xs → AllRelated IsUnder xs ys
    → IsUnder (whole (kind_of (number + n) (moved_part n part)).stage xs) (whole (kind_of number part).stage ys)
under_whole number n part xs ys sound full full' f g over h = record {
  front = front_whole number n part xs ys sound full full' f g h;
  closed = λ e.
      let ends = single.or_closed (inputs_end xs) ((kind_of (number + n) (moved_part n part)).stage.own _ xs) (same_Some _ _ e) in
      let all = closed_in xs ys h over ends.0 n in
      moved_closed n _ _ (moved_whole n number part xs ys f g all.1) e;
}
