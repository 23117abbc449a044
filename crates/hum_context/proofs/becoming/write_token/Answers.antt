use lib.Chars.{codes}
use Rattle.std.proofs.Common.{◌∷◌, refl}
use Rattle.std.specs.List.{join_with_byte}
use Rattle.hum_score.specs.declared.records.SpinedKind.TheVariants.{Values}
use Rattle.hum_score.specs.Row.{Spined}
use Rattle.hum_path.proofs.Carry.{on_ok}
use Rattle.hum_context.proofs.Written.{joined_added, held_width, held_token, stays_written}
use Rattle.hum_context.proofs.becoming.write_token.Goals as goal

pub token-requires : goal.token-requires
token-requires c = held_width c.args.held.now.items _ c.args.j c.requires.first c.requires.token

pub push-requires : goal.push-requires
push-requires c =
    rw c.requires.kind (held_token c.args.held.now.items _ c.args.j _ c.requires.first c.requires.token
    c.token.ensures.lawful)

pub push-requires-in-Collects : goal.push-requires-in-Collects
push-requires-in-Collects c = rw c.requires.kind c.token-in-Collects.ensures.lawful

pub returns-in-Stays-clause-grown : goal.returns-in-Stays-clause-grown
returns-in-Stays-clause-grown c =
    on_ok c.push.result (λ pushed made h. (c.token.result.now, pushed Values made h)) c.push.ensures.pushed

pub returns-in-Stays-clause-written : goal.returns-in-Stays-clause-written
returns-in-Stays-clause-written c =
    on_ok c.push.result (λ pushed o path tokens rows want none knows stand becomes.
    stays_written o path tokens rows c.args.j c.args.held.now.items _ _ _ _ c.requires.first knows
    c.token.ensures.token (rw c.in-Stays.is at becomes) (pushed Values)) c.push.ensures.pushed

pub returns-in-Null-clause-grown : goal.returns-in-Null-clause-grown
returns-in-Null-clause-grown c =
    on_ok c.push-in-Null.result (λ pushed made h. (codes ".", pushed Values made h)) c.push-in-Null.ensures.pushed

pub returns-in-Null-clause-written : goal.returns-in-Null-clause-written
returns-in-Null-clause-written c =
    on_ok c.push-in-Null.result (λ pushed o path tokens rows want none knows stand becomes. record {
      new = codes ".";
      is = rw c.in-Null.is at becomes;
      added = pushed Values;
    }) c.push-in-Null.ensures.pushed

pub returns-in-Some-clause-grown : goal.returns-in-Some-clause-grown
returns-in-Some-clause-grown c =
    on_ok c.push-in-Some.result (λ pushed made h. (c.in-Some.told.now, pushed Values made h))
    c.push-in-Some.ensures.pushed

pub returns-in-Some-clause-written : goal.returns-in-Some-clause-written
returns-in-Some-clause-written c =
    on_ok c.push-in-Some.result (λ pushed o path tokens rows want none knows stand becomes.
    let b = rw c.in-Collects.is at becomes in
    let text = c.in-Some.ensures.joined o path (Spined Values tokens ∷ rows) want stand b.0 b.1 in
    record {
      new = join_with_byte 32 b.0;
      is = b.2;
      added = λ made h. joined_added _ _ made _ _ (join_with_byte 32 b.0) text.1 refl (pushed Values made h);
    }) c.push-in-Some.ensures.pushed

pub returns-in_ok-gather-in-Collects-clause-grown : goal.returns-in_ok-gather-in-Collects-clause-grown
returns-in_ok-gather-in-Collects-clause-grown c =
    on_ok c.push-in-Collects.result (λ pushed made h. (c.token-in-Collects.result.now, pushed Values made h)) c.push-in-Collects.ensures.pushed

pub returns-in_ok-gather-in-Collects-clause-written : goal.returns-in_ok-gather-in-Collects-clause-written
returns-in_ok-gather-in-Collects-clause-written c =
    on_ok c.push-in-Collects.result (λ pushed o path tokens rows want none knows stand becomes.
    let b = rw c.in-Collects.is at becomes in
    let text = c.in_ok-gather-in-Collects.ensures o path (Spined Values tokens ∷ rows) want none knows b.0 b.1 in
    let token = c.token-in-Collects.ensures.joined text.0 in
    record {
      new = join_with_byte 32 b.0;
      is = b.2;
      added = λ made h. joined_added _ _ made _ _ (join_with_byte 32 b.0) text.1 token (pushed Values made h);
    }) c.push-in-Collects.ensures.pushed
