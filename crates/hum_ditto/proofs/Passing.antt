-- What the memory holds behind a record.
use Rattle.std.proofs.lemmas.Grind.{common_steps}
use Rattle.std.proofs.lemmas.Bool.Decides.{nat_tests}
use Rattle.std.proofs.Common.{◌≡◌, ◌∙◌, refl, sym, ap, ℕ, Bool, true, false, List, [], ◌∷◌, ◌≤◌, length, map, Option, None, Some, arith}
use Rattle.std.specs.Prelude.{Result, Ok, Err, OnOk, OnErr, IfSome}
use Rattle.std.specs.List.{list_any}
use Rattle.std.proofs.lemmas.List.{length-map}
use Rattle.hum_score.specs.declared.records.Kind.TheVariants.{Interpretation as AnyInterpretation, Values as AnyValues}
use Rattle.hum_score.specs.declared.records.SpinedKind.TheVariants.{Values}
use Rattle.hum_record.specs.Contents.{filled_from}
use Rattle.hum_record.specs.RecordDraft.{IsMade}
use Rattle.hum_score.specs.Row.{Row, Spined, kind_of, tokens_of, width_of, text_of}
use Rattle.hum_score.specs.Spelling.{IsTextOf}
use Rattle.hum_score.specs.declared.spines.Move.{Move}
use Rattle.hum_score.specs.Sign.{sign_of, is_exclusive}
use Rattle.hum_score.specs.Spines.{same_upto, moves}
use Rattle.hum_score.specs.Score.{path_after}
use Rattle.hum_path.specs.Memories.{Remember}
use Rattle.hum_path.specs.Step.{ComeFrom}
use Rattle.hum_choices.specs.declared.ditto.DittoOptions.{DittoOptions}
use Rattle.hum_ditto.specs.declared.memory.Holding.{Holding}
use Rattle.hum_ditto.specs.declared.memory.Holding.TheVariants.{Given}
use Rattle.hum_ditto.specs.Ditto.{all_filled}
use Rattle.hum_ditto.specs.Memory.{last_seen}
use Rattle.hum_ditto.specs.Held.{seen_alone, remembered_in, Remembered, IsWhole, MayFollow, HasFollowed, HasSeen, IsGivenFor}
use Rattle.hum_ditto.proofs.Above.{made_under}
use Rattle.hum_ditto.proofs.Whole.{data_width, data_stays, steered_width, data_followed, plain_followed}
use Rattle.hum_ditto.proofs.Whole.{seen_behind, stays_behind, comes_same, given_width, given_some}

abbrev pub seen_in : DittoOptions → Holding → Remembered
seen_in options holding = record { options = options; each = remembered_in holding }

-- a data record that is the first to be held whole
pub begins_whole : (memory : Remembered) (options : DittoOptions) (holding : Holding) (row given new : Row) (found : List Move)
    → seen_in options holding ≡ memory → options.skip ≡ None → options.parentheses ≡ false
    → kind_of row ≡ AnyValues → IsTextOf row (text_of row) → MayFollow memory row found → IsGivenFor memory row given → new ≡ given
    → IsWhole options new found
begins_whole memory options holding row given new found view none bare k lawful may becomes is = rw is (record {
  skips_none = none;
  bare = bare;
  kind = (becomes k).0;
  some = given_some memory row given k lawful becomes;
  stays = data_stays may.past row found may.moved may.score k ∙ ap (same_upto 0) (sym (given_width memory row given k becomes));
})

pub begins_followed : (memory : Remembered) (options : DittoOptions) (holding : Holding) (row given new : Row) (found : List Move)
    → seen_in options holding ≡ memory → options.skip ≡ None → options.parentheses ≡ false
    → kind_of row ≡ AnyValues → IsTextOf row (text_of row) → ComeFrom row found → IsGivenFor memory row given → new ≡ given
    → HasFollowed memory row found (map seen_alone (tokens_of new))
begins_followed memory options holding row given new found view none bare k lawful come becomes is =
    grind (arith, nat_tests, data_followed memory (map seen_alone (tokens_of new)) row given found)

module _ (memory : Remembered) (options : DittoOptions) (holding : Holding) (old : Row) (stays : List Move)
    (view : seen_in options holding ≡ memory) (is : holding ≡ Given old stays) (whole : IsWhole options old stays) where
  none : memory.options.skip ≡ None
  none = ap (λ m. m.options.skip) (sym view) ∙ whole.skips_none

  each : memory.each ≡ map seen_alone (tokens_of old)
  each = ap (λ m. m.each) (sym view) ∙ ap remembered_in is

  size : length memory.each ≡ width_of old
  size = ap length each ∙ length-map (tokens_of old) seen_alone

  -- what null tokens become under it
  held_filled : (row made : Row) → IsTextOf old (text_of old)
      → made ≡ Spined Values (filled_from (tokens_of old) (tokens_of row)) → length (text_of made) ≤ 1048576
      → IsMade Values (all_filled memory.options.parentheses memory.each (tokens_of row)) (Some made)
  held_filled row made =
      grind (arith, nat_tests, made_under memory.options.parentheses memory.each old row made each)

  pub held_filled_if : (row : Row) (result : Option Row) → IsTextOf old (text_of old)
      → IfSome result (λ made. made ≡ Spined Values (filled_from (tokens_of old) (tokens_of row)))
      → IfSome result (λ made. length (text_of made) ≤ 1048576)
      → IfSome result (λ made. IsMade Values (all_filled memory.options.parentheses memory.each (tokens_of row)) (Some made))
  held_filled_if = grind (arith, nat_tests, held_filled)

  -- a data record in the place of the one before
  in_place : (row given new : Row) → kind_of row ≡ AnyValues → IsTextOf row (text_of row) → length memory.each ≡ width_of row
      → IsGivenFor memory row given → new ≡ given → IsWhole options new stays
  in_place row given new k lawful wide becomes made =
      let same : width_of old ≡ width_of given = sym size ∙ wide ∙ sym (given_width memory row given k becomes) in
      rw made (record {
        skips_none = whole.skips_none;
        bare = whole.bare;
        kind = (becomes k).0;
        some = given_some memory row given k lawful becomes;
        stays = whole.stays ∙ ap (same_upto 0) same;
      })

  pub goes_on_whole : (row given new : Row) (found : List Move) {A E : Type 0} (result : Result A E) → kind_of row ≡ AnyValues → IsTextOf row (text_of row)
      → MayFollow memory row found → IsGivenFor memory row given → OnOk result (new ≡ given) → OnErr result (new ≡ old)
      → IsWhole options new stays
  goes_on_whole row given new found (Err fault) k lawful may becomes made kept = rw kept whole
  goes_on_whole row given new found (Ok done) k lawful may becomes made kept =
      in_place row given new k lawful (data_width memory.options.skip may.past row memory.each may.remembered may.score k) becomes made

  pub sees_whole : (row given new : Row) (b : Bool) → kind_of row ≡ AnyValues → IsTextOf row (text_of row) → length memory.each ≡ width_of row
      → IsGivenFor memory row given → (b ≡ true → new ≡ given) → (b ≡ false → new ≡ old) → IsWhole options new stays
  sees_whole row given new false k lawful wide becomes made kept = rw (kept refl) whole
  sees_whole row given new true k lawful wide becomes made kept = in_place row given new k lawful wide becomes (made refl)

  pub goes_on_followed : (row given new : Row) (found : List Move) → kind_of row ≡ AnyValues → IsTextOf row (text_of row)
      → ComeFrom row found → IsGivenFor memory row given → new ≡ given → HasFollowed memory row found (map seen_alone (tokens_of new))
  goes_on_followed row given new found k lawful come becomes made =
      grind (arith, nat_tests, data_followed memory (map seen_alone (tokens_of new)) row given found none)

  pub sees_followed : (row given new : Row) → kind_of row ≡ AnyValues → IsTextOf row (text_of row) → IsGivenFor memory row given → new ≡ given
      → HasSeen memory row (map seen_alone (tokens_of new))
  sees_followed row given new k lawful becomes made past remember sound =
      grind (arith, nat_tests, goes_on_followed row given new, comes_same row, data_stays past row)

  pub sees_kept : (new : Row) → new ≡ old → seen_in options (Given new stays) ≡ memory
  sees_kept new kept = rw kept (ap (seen_in options) (sym is) ∙ view)

  -- an interpretation that moves and names nothing
  pub stays_followed : (row : Row) (found : List Move) (wide : ℕ) → kind_of row ≡ AnyInterpretation → IsTextOf row (text_of row) → ComeFrom row found
      → wide ≡ width_of old → found ≡ same_upto 0 wide → list_any (λ t. is_exclusive (sign_of t)) (tokens_of row) ≡ false
      → HasFollowed memory row found (map seen_alone (tokens_of old))
  stays_followed = grind (arith, nat_tests, plain_followed, each, size)

  -- one that does is as wide
  pub steers_width : (row : Row) (found : List Move) → kind_of row ≡ AnyInterpretation → MayFollow memory row found → width_of row ≡ width_of old
  steers_width row found k may =
      steered_width memory.options.skip may.past row memory.each may.remembered may.score k
      (λ no. whole.some (empty (tokens_of old) (sym size ∙ no))) ∙ size
    where
      empty : (tokens : List (List ℕ)) → length tokens ≡ 0 → tokens ≡ []
      empty = grind (arith, common_steps)

  pub steers_followed : (row : Row) (found : List Move) (skip : Option (List ℕ)) (old' new : List (Option (List ℕ)))
      → skip ≡ options.skip → old' ≡ map seen_alone (tokens_of old)
      → ((past : List Row) → Remember (last_seen skip) None past old' → found ≡ moves (path_after past) row
      → Remember (last_seen skip) None (row ∷ past) new)
      → HasFollowed memory row found new
  steers_followed = grind (arith, nat_tests)

-- each column's own memory goes on
pub each_followed : (memory : Remembered) (options : DittoOptions) (holding : Holding) (each new : List (Option (List ℕ))) (row : Row) (found : List Move)
    → seen_in options holding ≡ memory → remembered_in holding ≡ each
    → ((past : List Row) → Remember (last_seen options.skip) None past each → found ≡ moves (path_after past) row
    → Remember (last_seen options.skip) None (row ∷ past) new)
    → HasFollowed memory row found new
each_followed = grind (arith, nat_tests)

-- memories that open under an interpretation, and see a data record
pub each_alone : (skip skip' : Option (List ℕ)) (row next : Row) (stays : List Move) (fresh first last : List (Option (List ℕ)))
    → skip ≡ None → skip' ≡ skip → fresh ≡ [] → kind_of row ≡ AnyValues → kind_of next ≡ AnyInterpretation → IsTextOf next (text_of next)
    → width_of next ≡ width_of row → stays ≡ same_upto 0 (width_of row)
    → ((past : List Row) → Remember (last_seen skip) None past fresh → stays ≡ moves (path_after past) next
    → Remember (last_seen skip) None (next ∷ past) first)
    → ((past : List Row) → Remember (last_seen skip') None past first → stays ≡ moves (path_after past) row
    → Remember (last_seen skip') None (row ∷ past) last)
    → last ≡ map seen_alone (tokens_of row)
each_alone skip skip' row next stays fresh first last none kept empty k n lawful same stay opens sees =
    let told = stays_behind row next stays k n same stay in
    let begun : Remember (last_seen skip') None (next ∷ []) first = rw kept (opens [] empty told.0) in
    seen_behind row next k n lawful same last (rw (kept ∙ none) at (sees (next ∷ []) begun told.1))
