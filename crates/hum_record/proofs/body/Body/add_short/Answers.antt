use Rattle.std.proofs.Common.{◌≡◌, ◌<◌, ◌≤◌, length, vec_len, arith}
use Rattle.std.proofs.lemmas.Result.{err_from_is_err_and}
use Rattle.hum_record.specs.Lines.{IsEnded}
use Rattle.hum_record.specs.Room.{most_bytes, most_places}
use Rattle.hum_record.proofs.Held.{ended_kept}
use Rattle.hum_record.proofs.Added.{Counts, counts, more_bytes, more_places, added_text, added_ends}
use Rattle.hum_record.proofs.body.Body.add_short.Goals.{then-len-self+in_ok-fill_places, else-len-self}
use Rattle.hum_record.proofs.body.Body.add_short.Goals.{then-len-self-2+in_ok-fill_bytes, else-len-self-2}
use Rattle.hum_record.proofs.body.Body.add_short.Goals as goal

pub returns : goal.returns
returns c =
    let first = c.if-len-self.self-inside in
    let then = c.if-len-self-2.self-inside in
    let text = c.args.self.now.text in
    let ends = c.args.self.now.ends in
    let held = c.self.inside.held in
    let places = c.self.inside.places in
    let before = counts _ _ _ _ held.items places.items _ c.self.view_is c.self.invariant.0 c.self.invariant.1 held.ok.0 places.ok.0 in
    let wider : Counts first.len first.count first.held.items first.places.items text ends = elim c.if-len-self.branch [
      | then-len-self+in_ok-fill_places w ↦
          let more = w.fill_places.ensures.more in
          let new = w.fill_places.new.places in
          rw w.self-inside-is
          (more_places _ _ _ _ places.items _ _ new.items places.ok.0 w.fill_places.ensures.kept (omega (arith, more, new.ok.0)) before)
      | else-len-self w ↦ rw w.self-inside-is before
    ] in
    let longer : Counts then.len then.count then.held.items then.places.items text ends = elim c.if-len-self-2.branch [
      | then-len-self-2+in_ok-fill_bytes w ↦
          let more = w.fill_bytes.ensures.more in
          let new = w.fill_bytes.new.held in
          rw w.self-inside-is
          (more_bytes _ _ _ first.held.items _ _ _ new.items first.held.ok.0 w.fill_bytes.ensures.kept (omega (arith, more, new.ok.0)) wider)
      | else-len-self-2 w ↦ rw w.self-inside-is wider
    ] in
    let room : first.count < length first.places.items = elim c.if-len-self.branch [
      | then-len-self+in_ok-fill_places w ↦
          let room = w.in_ok-fill_places.ensures.room in
          rw w.self-inside-is (omega (arith, room, w.fill_places.new.places.ok.0))
      | else-len-self w ↦
          let some = w.if-len-self.false in
          let len = c.len.ensures in
          let few = before.few in
          rw w.self-inside-is (omega (arith, some, len, few, places.ok.0))
    ] in
    let still : then.count < length then.places.items = elim c.if-len-self-2.branch [
      | then-len-self-2+in_ok-fill_bytes w ↦ rw w.self-inside-is room
      | else-len-self-2 w ↦ rw w.self-inside-is room
    ] in
    let new = c.put_behind-end.new.text in
    let size : length new ≡ then.held.len = omega (arith, c.put_behind-end.auto.text, c.deref_mut.ensures.len) in
    let put = rw c.deref_mut.ensures.value at c.put_behind-end.ensures.text in
    record {
      text = added_text _ _ _ then.held.len then.held.items then.places.items _ _ new c.args.token.now longer size put;
      ends = added_ends _ _ _ then.held.len then.held.items then.places.items _ _ new c.args.token.now longer size put still c.put_behind-end.ensures.end;
    }

pub returns-in_err-fill_places : goal.returns-in_err-fill_places
returns-in_err-fill_places c =
    let p = err_from_is_err_and c.from_residual.result c.from_residual.ensures.1 in rw p.1 (record { text = tt; ends = tt })

pub returns-in_err-fill_bytes : goal.returns-in_err-fill_bytes
returns-in_err-fill_bytes c =
    let p = err_from_is_err_and c.from_residual-in_err-fill_bytes.result c.from_residual-in_err-fill_bytes.ensures.1 in
    rw p.1 (record { text = tt; ends = tt })

pub invariant_of-self-in_err-fill_bytes : goal.invariant_of-self-in_err-fill_bytes
invariant_of-self-in_err-fill_bytes c =
    let first = c.if-len-self.self-inside in
    let old = c.self.invariant in
    let kept : (first.len ≤ vec_len first.held) × (first.count ≤ vec_len first.places) × IsEnded first.held.items first.len
    × (vec_len first.held ≤ most_bytes first.len) × (vec_len first.places ≤ most_places first.count) = elim c.if-len-self.branch [
      | then-len-self+in_ok-fill_places w ↦
          let few = old.1 in
          let room = old.4 in
          let wider = w.fill_places.ensures.more in
          let most = w.fill_places.ensures.most in
          rw w.self-inside-is (old.0, omega (arith, few, wider), old.2, old.3, omega (arith, room, most))
      | else-len-self w ↦ rw w.self-inside-is old
    ] in
    let short = kept.0 in
    let room = kept.3 in
    let more = c.fill_bytes.ensures.more in
    let full = c.in_err-fill_bytes.ensures.full in (
      omega (arith, short, more),
      kept.1,
      ended_kept first.held.len _ first.held.items _ first.held.ok.0 c.fill_bytes.ensures.kept kept.2,
      omega (arith, room, full),
      kept.4,
    )
