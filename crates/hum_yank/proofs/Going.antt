-- The state goes on with one record more.
use Rattle.std.proofs.lemmas.Bool.Decides.{nat_tests}
use Rattle.std.proofs.Common.{◌≡◌, ◌∙◌, sym, ap, ℕ, ◌<◌, Bool, not, List, []}
use Rattle.std.proofs.Common.{◌∷◌, ◌++◌, length, cond, arith}
use Rattle.hum_score.specs.Row.{Row}
use Rattle.hum_score.specs.Spines.{Path, after}
use Rattle.hum_score.specs.Rules.{is_unfinished, is_closed}
use Rattle.hum_score.specs.Score.{path_after, passed}
use Rattle.hum_stage.specs.Look.{Look}
use Rattle.hum_stage.specs.Order.{passed-push}
use Rattle.hum_choices.specs.declared.yank.YankOptions.{YankOptions}
use Rattle.hum_yank.specs.declared.passages.Passages.{Passages}
use Rattle.hum_yank.specs.declared.held.Held.{Held}
use Rattle.hum_yank.specs.Passages.{is_last, last_of}
use Rattle.hum_yank.specs.Options.{form_of, choice_of}
use Rattle.hum_yank.specs.Marks.{mark_of, passages_of, next_passages, number_in, last_in}
use Rattle.hum_yank.specs.Memory.{adds, held_of, Tells, Follows}
use Rattle.hum_yank.proofs.Next.{next_is, number_is, last_is, counted_few}
use Rattle.hum_yank.proofs.Telling.{tells, tell_more, last_next, is_of, are_more}

not_not : (b : Bool) → not (not b) ≡ b
not_not = grind (arith, nat_tests)

-- no more are counted than there are
pub few : (options : YankOptions) (path : Path) (marks : Passages) (last : ℕ) (held : List Held)
    (look : Look) (past rows : List Row) (n : ℕ)
    → Follows options path marks last held look past rows → length (passed past rows) < n
    → marks.counted < n
few = grind (arith, nat_tests, counted_few)

pub goes_on : (options : YankOptions) (path path' : Path) (marks marks' : Passages) (last last' : ℕ)
    (held held' : List Held) (kept : Held) (look : Look) (past rows : List Row) (row : Row)
    → Follows options path marks last held look past rows → path' ≡ after path row
    → marks' ≡ next_passages marks (mark_of (form_of options.markers) row)
    (is_last (form_of options.markers) row)
    → last' ≡ cond (adds (is_closed path) row) (last_in (form_of options.markers) marks') last
    → kept ≡ held_of options.ranges.items (not (is_closed path)) row
    (number_in marks (mark_of (form_of options.markers) row))
    → held' ≡ held ++ kept ∷ []
    → Follows options path' marks' last' held' look past (rows ++ row ∷ [])
goes_on options path path' marks marks' last last' held held' kept look past rows row h spines
    at_hand ends keeps more =
    let form = form_of options.markers in
    let o = choice_of options in
    let seen = passed past rows in
    let push : passed past (rows ++ row ∷ []) ≡ row ∷ seen = passed-push past rows row in
    let now : marks' ≡ passages_of form (row ∷ seen) = grind (arith, nat_tests, next_is) in
    let newest : last_in form marks' ≡ last_of form (row ∷ seen) = ap (last_in form) now ∙ last_is
    form (row ∷ seen) in
    let within : not (is_closed path) ≡ is_unfinished (path_after seen) = grind (arith, nat_tests, not_not) in
    let number = ap (λ m. number_in m (mark_of form row)) h.at_hand ∙ number_is form row seen in
    let one : Tells o seen row kept = rw (keeps, within, number) (tells o seen row) in
    record {
      command = h.command;
      spines = rw push (spines ∙ ap (λ (p : Path). after p row) h.spines);
      at_hand = rw push now;
      last = rw push ((rw (h.spines, newest, h.last) at ends) ∙ sym (last_next form row seen));
      tell = rw more (tell_more o past rows held row kept h.tell one);
      kept = grind (arith, nat_tests, are_more, is_of);
    }
