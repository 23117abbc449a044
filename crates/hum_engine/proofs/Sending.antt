-- What the sink writes.
use Rattle.std.proofs.lemmas.Bool.Decides.{nat_tests}
use Rattle.std.proofs.Common.{◌≡◌, ◌∙◌, ℕ, List, [], ◌∷◌, ◌++◌, Option, Some, None, refl, sym, ap, append-nil, true, false}
use Rattle.std.proofs.Common.{Bool, is_some, if◌then◌else◌, arith}
use Rattle.std.proofs.lemmas.Bool.{and_parts}
use Rattle.std.proofs.lemmas.Option.{none-some}
use Rattle.std.specs.Io.KnownBytes.{Appends}
use Rattle.hum_text.specs.declared.calls.Sink.{Ghosts as Sink}
use Rattle.hum_score.specs.Row.{Row, text_of}
use Rattle.hum_stage.specs.declared.contract.Stage.{Ghosts as Stage}
use Rattle.hum_turns.specs.declared.result.RunResult.{RunResult}
use Rattle.hum_turns.specs.declared.result.RunResult.TheVariants as ends
use Rattle.hum_turns.specs.Flow.{Flow}
use Rattle.hum_turns.specs.Plan.{last}
use Rattle.hum_turns.specs.Links.{Link, has_some}
use Rattle.hum_turns.specs.Turns.{Takes}
use Rattle.hum_turns.proofs.Writing.{text_append}
use Rattle.hum_engine.specs.Links.{next_of}
use Rattle.hum_engine.specs.declared.net.Net.{Net}
use Rattle.hum_engine.specs.declared.web.Web.{Web}
use Rattle.hum_engine.specs.Scene.{Scene, plan_of, Done}
use Rattle.hum_engine.specs.Nets.{HasSent, Sent, SinkWent}
use Rattle.hum_engine.proofs.Netting.{none_by}
use Rattle.hum_engine.proofs.Taking.{next_record, next_end, some_mark}

-- how the run has failed, where a record wasn't written whole
abbrev pub failed_so : Bool → Option RunResult
failed_so is_over = if is_over then Some ends.Write else None

pub not_heard : (l : Link Row) → has_some l ≡ true → l.heard ≡ None
not_heard l some = none_by l.heard (and_parts _ _ some).0

module _ {S R W : Type 0} {writer : Sink W} {row : Row} {old new : Net S R W}
    {is_over : Bool} (none : old.failure ≡ None) (h : HasSent writer row old new is_over) where
  pub sent_net : new ≡ record old { sink = new.sink; failure = failed_so is_over }
  sent_net = h.net ∙ ap (λ f. record old { sink = new.sink; failure = if is_over then Some ends.Write else f }) none

-- The record that comes next was written, or a prefix of it.
pub sent_record : {S R W : Type 0} {stage : Stage S} {writer : Sink W} {row : Row} {old new : Net S R W} (flushed is_over : Bool)
    → HasSent writer row old new is_over → {s : Scene} {web : Web S R}
    → Done stage s.count (Takes (last (plan_of s))) web s
    → Some row ≡ next_of (s.links (last (plan_of s))).waiting → (s.links (last (plan_of s))).heard ≡ None
    → SinkWent stage (failed_so is_over) (writer.contents old.sink) (writer.contents new.sink) flushed is_over web s
sent_record {row = row} flushed true h {s} d next none = grind (arith, nat_tests)
sent_record {row = row} flushed false h {s} d next none =
    let l = s.links (last (plan_of s)) in
    let v = next_record l l.waiting row next in
    let still : (d.new (last (plan_of s))).heard ≡ None =
    ap (λ (j : Link Row). j.heard) d.does.here ∙ ap (λ (f : Flow Row). f.end) v ∙ none in
    record {
      done = d;
      sent = text_of row ++ 10 ∷ [];
      appends = h.whole refl;
      taken = grind (arith, nat_tests, text_append, append-nil);
      over = λ e h. absurd (none-some e (sym still ∙ h));
      tells = sym (ap is_some still);
    }

-- It was flushed at the end.
pub sent_end : {S R : Type 0} {stage : Stage S} {web : Web S R} (s : Scene)
    {old new : Option (List ℕ)} {flushed : Bool} → Done stage s.count (Takes (last (plan_of s))) web s
    → None ≡ next_of (s.links (last (plan_of s))).waiting → has_some (s.links (last (plan_of s))) ≡ true
    → Appends old new [] → flushed ≡ true → Sent stage old new flushed true web s
sent_end s d next some appends done =
    let l = s.links (last (plan_of s)) in
    let e = some_mark l l.waiting refl next some in
    let v = next_end l l.waiting e.0 next e.1 in
    record {
      done = d;
      sent = [];
      appends = appends;
      taken = grind (arith, nat_tests, append-nil);
      over = λ e h. done;
      tells = sym (ap is_some (ap (λ (j : Link Row). j.heard) d.does.here ∙ ap (λ (f : Flow Row). f.end) v));
    }
