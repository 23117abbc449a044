-- What was read of a line.
use Rattle.std.proofs.Common.{◌≡◌, ◌∙◌, refl, ap, sym, subst, true, arith, List, []}
use Rattle.std.specs.Prelude.{ℕ, ◌≤◌, Option, None, Some, option_map, codes}
use Rattle.std.specs.Borrow.{Bor}
use Rattle.clap.proofs.WalkLemmas.{first_value-rows}
use Rattle.hum_turns.specs.declared.order.Side.{Side}
use Rattle.clap.specs.Words.{App, Text, fault_of, first_value, first_of, matches_of, HasMatchesOf, rows_of, found_of, is_simple, is_simple_and_free}
use Rattle.clap.specs.declared.parser.matches.ArgMatches.{ArgMatches}
use Rattle.clap.proofs.OnLiterals.{clap_on_literals}
use Rattle.hum_program.specs.Line.{line, Says, Asks, AskNothing, IsLink, IsOrder}
use Rattle.hum_program.specs.declared.line.Choice.{Choice}

line_is_simple : is_simple line ≡ true
unfolding clap_on_literals
line_is_simple = refl

line_is_free : is_simple_and_free line ≡ true
unfolding clap_on_literals
line_is_free = refl

abbrev text_of : Option (Bor (List ℕ)) → Option Text
text_of = option_map (λ text. text.now)

-- What was found by name is what the rows say.
pub says : (m : ArgMatches) {link : ℕ} {order : Side} {file : Option (Bor (List ℕ))} (l o : Option (Bor (List ℕ)))
    → text_of l ≡ first_value (found_of m) (codes "link")
    → text_of o ≡ first_value (found_of m) (codes "order")
    → text_of file ≡ first_value (found_of m) (codes "PIPELINE")
    → IsLink (text_of l) link → IsOrder (text_of o) order
    → Says (λ name. first_of name (rows_of (found_of m))) (record { link = link; order = order; file = file })
says m {link} {order} l o by_link by_order by_file is_link is_order = record {
  link = subst (λ v. IsLink v link) (by_link ∙ first_value-rows (found_of m) (codes "link")) is_link;
  order = subst (λ v. IsOrder v order) (by_order ∙ first_value-rows (found_of m) (codes "order")) is_order;
  file = by_file ∙ first_value-rows (found_of m) (codes "PIPELINE");
}

pub no_link : (m : ArgMatches) (l : Option (Bor (List ℕ)))
    → text_of l ≡ first_value (found_of m) (codes "link") → ((n : ℕ) → IsLink (text_of l) n → ⊥)
    → (choice : Choice) → Says (λ name. first_of name (rows_of (found_of m))) choice → ⊥
no_link m l by_link none choice h = none choice.link
    (subst (λ v. IsLink v choice.link) (sym (by_link ∙ first_value-rows (found_of m) (codes "link"))) h.link)

pub no_order : (m : ArgMatches) (o : Option (Bor (List ℕ)))
    → text_of o ≡ first_value (found_of m) (codes "order") → ((side : Side) → IsOrder (text_of o) side → ⊥)
    → (choice : Choice) → Says (λ name. first_of name (rows_of (found_of m))) choice → ⊥
no_order m o by_order none choice h = none choice.order
    (subst (λ v. IsOrder v choice.order) (sym (by_order ∙ first_value-rows (found_of m) (codes "order"))) h.order)

pub within : (o : Option Text) (n : ℕ) → IsLink o n → (1 ≤ n) × (n ≤ 4096)
within None n h = (omega (arith, h), omega (arith, h))
within (Some text) n h = (h.1, h.2)

-- What was found are the rows of the words.
pub asks : {app : App} (words : List Text) (m : ArgMatches) {choice : Choice} → app ≡ line
    → HasMatchesOf app words m → (is_simple_and_free app ≡ true → fault_of app words ≡ [])
    → Says (λ name. first_of name (rows_of (found_of m))) choice → Asks words choice
asks words m {choice} is has none h =
    let rows : rows_of (found_of m) ≡ matches_of line words =
    (has (ap is_simple is ∙ line_is_simple)).0 ∙ ap (λ a. matches_of a words) is in
    record {
      is_line = ap (λ a. fault_of a words) (sym is) ∙ none (ap is_simple_and_free is ∙ line_is_free);
      says = subst (λ rs. Says (λ name. first_of name rs) choice) rows h;
    }

pub asks_nothing : {app : App} (words : List Text) (m : ArgMatches) → app ≡ line
    → HasMatchesOf app words m
    → ((choice : Choice) → Says (λ name. first_of name (rows_of (found_of m))) choice → ⊥) → AskNothing words
asks_nothing words m is has none choice h =
    let rows : rows_of (found_of m) ≡ matches_of line words =
    (has (ap is_simple is ∙ line_is_simple)).0 ∙ ap (λ a. matches_of a words) is in
    none choice (subst (λ rs. Says (λ name. first_of name rs) choice) (sym rows) h.says)
