use Rattle.std.proofs.Common.{◌≡◌, ◌≤◌, ◌+◌, ◌*◌, ◌/◌, ◌^◌, ◌++◌, ◌∙◌, ℕ, List, length, take, drop, subst, ap, arith, rules}
use Rattle.hum_record.specs.Cutting.{set_places}
use Rattle.hum_record.proofs.Held.{front_written, front_kept}
use Rattle.hum_record.proofs.Short.{most_places}
use Rattle.hum_record.proofs.Words.{Words, head_few, whole_word, last_word}
use Rattle.hum_record.proofs.wide.put_line.Goals as goal

pub line_end-requires-clause-head : goal.line_end-requires-clause-head
line_end-requires-clause-head c = head_few _ _ _ c.loop-words.invariant.0

pub put_places-requires-clause-room : goal.put_places-requires-clause-room
put_places-requires-clause-room c =
    let room = c.in-Ok.ensures.room in
    let places = c.give_places.new.places in
    omega (arith, most_places 64 (64 * c.loop-words.words) c.in_ok-end.end.ends, room, places.ok.0, c.deref_mut.ensures.len)

pub put_places-count-requires-clause-room : goal.put_places-count-requires-clause-room
put_places-count-requires-clause-room c =
    let room = c.in-Ok.ensures.room in
    let places = c.give_places.new.places in
    omega (arith, most_places 64 (64 * c.loop-words.words) c.bits_at-ends.result, room, places.ok.0, c.deref_mut-in-loop-words.ensures.len)

pub returns-then-stops-ne0 : goal.returns-then-stops-ne0
returns-then-stops-ne0 c =
    let l = c.loop-words in
    let end = c.in_ok-end.end in
    let at = 64 * l.words in
    let new = c.give_places.new.places in
    let written = c.put_places.new.places in
    let size : length written ≡ new.len = omega (arith, c.put_places.auto.places, c.deref_mut.ensures.len) in
    let put = rw c.deref_mut.ensures.value at c.put_places.ensures.places in
    let kept = front_kept l.count l.places.len l.places.items new.items l.invariant.2 c.in-Ok.ensures.kept in
    let count = c.put_places.ensures.count in
    let last = last_word c.args.held.now (take l.count l.places.items) _ at l.head end.len end.size end.ends
    c.in_ok-end.ensures.near l.invariant.0 c.in_ok-end.ensures.ends
    (front_written _ new.len written new.items size ∙ put ∙ ap (λ (xs : List ℕ). xs ++ set_places 64 at end.ends) kept) in
    record {
      line = last.line;
      within = omega (arith, count, most_places 64 at end.ends, c.in-Ok.ensures.room);
      plain = last.plain;
      words = search rules;
      last = search rules;
      few = let place = c.in_ok-end.ensures.ends.place in omega (arith, place);
      at_most = search rules;
    }

pub returns-in_default : goal.returns-in_default
returns-in_default c = record { line = tt; within = tt; plain = tt; words = tt; last = tt; few = tt; at_most = tt }

pub returns-then-not-is_apart : goal.returns-then-not-is_apart
returns-then-not-is_apart c = record { line = tt; within = tt; plain = tt; words = tt; last = tt; few = tt; at_most = tt }

pub returns-else-held-words-ge-NEAR : goal.returns-else-held-words-ge-NEAR
returns-else-held-words-ge-NEAR c = record { line = tt; within = tt; plain = tt; words = tt; last = tt; few = tt; at_most = tt }

pub returns-after-loop-words : goal.returns-after-loop-words
returns-after-loop-words c = record { line = tt; within = tt; plain = tt; words = tt; last = tt; few = tt; at_most = tt }

pub loop-words-preserved : goal.loop-words-preserved
loop-words-preserved c =
    let l = c.loop-words in
    let held = c.args.held.now in
    let at = 64 * l.words in
    let ends = c.bits_at-ends.result in
    let within = l.invariant.1 in
    let test = c.if-held-words-ge-NEAR.true in
    let room : at + 64 ≤ length held = omega (arith, within, test) in
    let new = c.give_places.new.places in
    let written = c.put_places-count.new.places in
    let size : length written ≡ new.len = omega (arith, c.put_places-count.auto.places, c.deref_mut-in-loop-words.ensures.len) in
    let put = rw c.deref_mut-in-loop-words.ensures.value at c.put_places-count.ensures.places in
    let kept = front_kept l.count l.places.len l.places.items new.items l.invariant.2 c.in-Ok.ensures.kept in
    let next = take c.put_places-count.result (take new.len (written ++ drop (length written) new.items)) in
    let more = whole_word held (take l.count l.places.items) next at l.head ends c.stop_bits-stops.result room l.invariant.0
    c.bits_at-ends.ensures c.stop_bits-stops.ensures c.if-stops-ne0.false (c.is_apart.ensures c.if-not-is_apart.false)
    (front_written _ new.len written new.items size ∙ put ∙ ap (λ (xs : List ℕ). xs ++ set_places 64 at ends) kept) in
    let place : at + 64 ≡ 64 * (l.words + 1) = omega arith in (
      subst (λ n. Words (take n held) next (ends / 2 ^ 63)) place more,
      omega (arith, room),
      let count = c.put_places-count.ensures.count in
          omega (arith, count, most_places 64 at ends, c.in-Ok.ensures.room),
    )
