-- A poll of a reader is a turn of its node.
use Rattle.std.proofs.lemmas.Bool.Decides.{nat_tests}
use Rattle.std.proofs.Common.{◌≡◌, ◌∙◌, refl, sym, ap, subst, ℕ, ◌+◌, ◌≤◌, ◌<◌, inr, Bool, true, false, ◌||◌, List, [], ◌∷◌}
use Rattle.std.proofs.Common.{◌++◌, length, slice_get, arith, Option, Some, None, Result, Ok, Err, append_assoc}
use Rattle.std.proofs.Common.{append-nil, length-append, lt-ltb}
use Rattle.std.specs.Prelude.{◌≢◌, is_some, IfSome}
use Rattle.std.proofs.lemmas.Bool.{false≢true}
use Rattle.hum_score.specs.Row.{Row}
use Rattle.hum_stage.specs.declared.faults.End.{End}
use Rattle.hum_text.specs.Reading.{Reader, NeedsRead, IsUnread, IsFed, bytes_read, left_to_do}
use Rattle.hum_read.specs.declared.ReadError.{ReadError}
use Rattle.hum_read.specs.Denoted.{Score, end_at}
use Rattle.hum_read.specs.Reading.{Scores, Polled, Gave, ReadOn, Ended, IsFresh, HasRead, GivesNext, Gives, Denotes}
use Rattle.hum_read.specs.Reading.{Nears, answer_of, stop_of}
use Rattle.hum_turns.specs.Flow.{Begins}
use Rattle.hum_nodes.specs.Doing as does
use Rattle.hum_nodes.specs.At.{At, fresh, doing_of, output_of, read_to, after_take}
use Rattle.hum_nodes.specs.Polls.{GoesOn, PollsBy, Polls, most_bytes}
use Rattle.hum_nodes.specs.Reading.{is_ended, is_done, settled_at, reading, HasGiven, StandsBy, IsReading}
use Rattle.hum_nodes.proofs.Fronting.{front_is}
use Rattle.hum_nodes.proofs.Polling.{polls_goes}
use Rattle.hum_nodes.proofs.ReadingLaws.{all_settled}
use Rattle.hum_nodes.proofs.Readings.{so_far_at, upto, upto_range, given_at, needs_at}
use Rattle.hum_nodes.proofs.Stops.{told_settled}

-- What stands at a place behind a front.
there : (a b : List Row) (row : Row) → Begins (a ++ row ∷ []) b → slice_get b (length a) ≡ Some row
there a b row h = ap (λ l. slice_get l (length a)) (sym h.1) ∙ by a
  where
    by : (a : List Row) → slice_get ((a ++ row ∷ []) ++ h.0) (length a) ≡ Some row
    by [] = refl
    by (x ∷ a) = by a

-- What a reader stands for after a poll.
stands_so : {R : Type 0} {v w : Scores R} {before rest : List ℕ} {t : At} {r g : ℕ}
    {o : Option (Result End ReadError)} (a : IsReading v before t) → w.stage ≡ v.stage → r ≤ most_bytes → w.stopped ≡ o
    → StandsBy o (HasGiven w a.all rest (record t { read = r; given = g })) (record t { read = r; given = g })
    → IsReading w rest (record t { read = r; given = g })
stands_so = grind (arith, nat_tests)

-- A poll that read no byte: the bytes so far are those from before, and perhaps their end was read.
module _ {R : Type 0} {v : Scores R} (w : Scores R) (bs rest : List ℕ) {t : At} (a : IsReading v (bs ++ rest) t)
    (h : HasGiven v a.all (bs ++ rest) t) (stage : w.stage ≡ v.stage)
    (unread : (NeedsRead v.lines → ⊥) → IsUnread v.lines w.lines) (over : w.lines.ended ≡ true → rest ≡ [])
    (none : bs ≡ []) where
  abbrev r : ℕ
  r = upto w.lines.ended h.seen

  whole : a.all ≡ h.seen ++ rest
  whole = h.whole ∙ ap (λ z. h.seen ++ (z ++ rest)) none

  unread_same : IsUnread v.lines w.lines → t.read ≡ r
  unread_same u = h.read ∙ ap (λ b. upto b h.seen) (sym u.1)

  no_less : (b : Bool) → v.lines.ended ≡ b → t.read ≤ r
  no_less = grind (arith, nat_tests)

  few : r ≤ most_bytes
  few = omega (arith, upto_range w.lines.ended h.seen, h.few)

  -- where it has read, it was the end
  last : (b c : Bool) → v.lines.ended ≡ b → w.lines.ended ≡ c → t.read < r → t.read + 1 ≡ t.kind.stage.bytes
  last = grind (arith, nat_tests, unread_same, false≢true, upto, whole, length-append)

  goes : (p : Polled) (after : At → Type 0) → GoesOn (read_to r t) p after → Polls t p after
  goes p after on =
      let all = ap length whole ∙ length-append h.seen rest in
      polls_goes t r p after (no_less v.lines.ended refl)
      (omega (arith, upto_range w.lines.ended h.seen, ap (λ k. k.stage.bytes) a.kind))
      (λ other. unread_same (unread (λ n. other (needs_at h v.stage a.kind a.inputs n))))
      (last v.lines.ended w.lines.ended refl refl) on

  -- a record
  gave : (row : Row) → w.stopped ≡ None
      → ((more : List ℕ) → (w.lines.ended ≡ true → more ≡ [])
      → HasRead w (h.seen ++ more) (h.rows ++ row ∷ []) more)
      → Polls t (Gave row) (IsReading w rest)
  gave row going has =
      let now : HasGiven w a.all rest (after_take (read_to r t)) = record {
        rows = h.rows ++ row ∷ [];
        seen = h.seen;
        whole = whole;
        few = h.few;
        has = has;
        over = over;
        read = refl;
        given = omega (arith, h.given, length-append h.rows (row ∷ []));
      } in
      let next : slice_get (output_of (read_to r t)) t.given ≡ Some row =
      ap (λ k. slice_get (k.stage.output r t.inputs) t.given) a.kind
      ∙ ap (slice_get (settled_at a.all r).rows) h.given
      ∙ there h.rows (settled_at a.all r).rows row (given_at now) in
      goes (Gave row) (IsReading w rest) (next, stands_so a stage few going now)

  -- an end
  told_at : {s : Score} {end : End} → settled_at a.all r ≡ s → s.rows ≡ h.rows → end_at v.stage s.fault ≡ end
      → is_done a.all r ≡ true → doing_of (read_to r t) ≡ does.Done end
  told_at = grind (arith, nat_tests)

  done : (b : Bool) → w.lines.ended ≡ b → (end : End)
      → ((more : List ℕ) → (w.lines.ended ≡ true → more ≡ []) → Denotes v.stage (h.seen ++ more) h.rows end)
      → doing_of (read_to r t) ≡ does.Done end
  done true is end told = grind (arith, nat_tests, append-nil, whole, upto, told_at, all_settled, lt-ltb)
  done false is end told =
      let front = front_is (h.has (97 ∷ []) (λ e. absurd (false≢true (sym is ∙ stays e)))) in
      let d = told_settled front (λ more. told more (λ e. absurd (false≢true (sym is ∙ e)))) in
      let s = ap (λ b. settled_at a.all (upto b h.seen)) is ∙ so_far_at a.all h.seen rest whole in
      told_at s d.2 d.3
      (or_right (is_ended a.all r) _ (ap (λ (x : Score). is_some x.fault) s ∙ ap is_some d.1))
    where
      stays : v.lines.ended ≡ true → w.lines.ended ≡ true
      stays e = (unread (λ n. false≢true (sym n.going ∙ e))).1 ∙ e

      or_right : (a b : Bool) → b ≡ true → (a || b) ≡ true
      or_right a b e = grind (arith, e)

  ended : (end : End) → w.stopped ≡ Some (Ok end)
      → ((more : List ℕ) → (w.lines.ended ≡ true → more ≡ []) → Denotes v.stage (h.seen ++ more) h.rows end)
      → Polls t (Ended end) (IsReading w rest)
  ended end stopped told =
      let is = done w.lines.ended refl end told in
      goes (Ended end) (IsReading w rest) (is, stands_so a stage few stopped is)

-- A poll that read some bytes.
read_on : {R : Type 0} {v w : Scores R} {rest : List ℕ} {t : At}
    (a : IsReading v (bytes_read v.lines w.lines ++ rest) t)
    (h : HasGiven v a.all (bytes_read v.lines w.lines ++ rest) t)
    → w.stage ≡ v.stage → w.stopped ≡ None → (w.lines.ended ≡ true → rest ≡ [])
    → IsFed v.lines w.lines → left_to_do w.lines < left_to_do v.lines
    → w.lines.taken ≤ w.lines.limits.bytes → length (bytes_read v.lines w.lines) ≤ 65536
    → ((more : List ℕ) → (w.lines.ended ≡ true → more ≡ [])
    → HasRead w ((h.seen ++ bytes_read v.lines w.lines) ++ more) h.rows more)
    → Polls t ReadOn (IsReading w rest)
read_on {v = v} {w} {rest} {t} a h stage going over fed nears within asked has =
    let bs = bytes_read v.lines w.lines in
    let seen = h.seen ++ bs in
    let opened : v.lines.ended ≡ false = fed.needed.going in
    let stays : w.lines.ended ≡ false = ap (λ (l : Reader _). l.ended) fed.behind ∙ opened in
    let whole : a.all ≡ seen ++ rest = h.whole ∙ sym (append_assoc h.seen bs rest) in
    let all = ap length whole ∙ length-append seen rest in
    let bytes = ap (λ k. k.stage.bytes) a.kind in
    let longer = length-append h.seen bs in
    let read = h.read ∙ ap (λ b. upto b h.seen) opened in
    let now = (has [] (λ _. refl)).holds.stands in
    let parts = ap length (simp append-nil at now.whole) ∙ length-append now.before w.lines.pending in
    let limit = ap (λ l. l.bytes) (has [] (λ _. refl)).limits in
    let same = ap (λ (l : Reader _). l.limits.bytes) fed.behind in
    let held = ap (λ (l : Reader _). length l.pending) fed.behind ∙ length-append v.lines.pending bs in
    let taken = ap (λ (l : Reader _). l.taken) fed.behind in
    let few : length seen ≤ 2199023321088 = omega (arith, now.size) in
    subst (λ d. PollsBy d t ReadOn (IsReading w rest)) (sym (needs_at h v.stage a.kind a.inputs fed.needed)) (record {
      upto = length seen;
      more = omega (arith, fed.some);
      within = omega arith;
      goes = inr (
        refl,
        omega arith,
        stands_so a stage (omega arith) going (record {
          rows = h.rows;
          seen = seen;
          whole = whole;
          few = few;
          has = has;
          over = over;
          read = sym (ap (λ b. upto b seen) stays);
          given = h.given;
        }),
      );
    })

-- The polls of a reader that may have stopped.
module _ {R : Type 0} (v w : Scores R) (stage : w.stage ≡ v.stage)
    (unread : (NeedsRead v.lines → ⊥) → IsUnread v.lines w.lines)
    (taken : v.stopped ≡ None → w.lines.taken ≤ w.lines.limits.bytes)
    (asked : length (bytes_read v.lines w.lines) ≤ 65536) where
  abbrev bs : List ℕ
  bs = bytes_read v.lines w.lines

  -- what it gives of the bytes so far, however they go on
  next : {all : List ℕ} (rest : List ℕ) {t : At} (h : HasGiven v all (bs ++ rest) t) (result : Result Polled ReadError)
      → GivesNext v result w → (more : List ℕ) → (w.lines.ended ≡ true → more ≡ [])
      → Gives v.stage ((h.seen ++ bs) ++ more) h.rows result (λ after. HasRead w ((h.seen ++ bs) ++ more) after more)
  next rest h result gives more end =
      gives ((h.seen ++ bs) ++ more) h.rows more
      (subst (λ z. HasRead v z h.rows (bs ++ more)) (sym (append_assoc h.seen bs more))
      (h.has (bs ++ more) (λ e.
      let u = unread (λ n. false≢true (sym n.going ∙ e)) in
      ap (λ z. z ++ more) u.2 ∙ end (u.1 ∙ e))))
      end

  going_on : (p : Polled) {t : At} (rest : List ℕ) (a : IsReading v (bs ++ rest) t)
      → HasGiven v a.all (bs ++ rest) t → (w.lines.ended ≡ true → rest ≡ []) → v.stopped ≡ None
      → GivesNext v (Ok p) w → w.stopped ≡ stop_of (Ok p)
      → (◌≡◌ {A = Result Polled ReadError} (Ok p) (Ok ReadOn) → IsFed v.lines w.lines)
      → (◌≢◌ {A = Result Polled ReadError} (Ok p) (Ok ReadOn) → bs ≡ [])
      → Nears p (left_to_do v.lines) (left_to_do w.lines) → Polls t p (IsReading w rest)
  going_on ReadOn rest a h over going gives stops more unfed nears =
      read_on a h stage stops over (more refl) nears (taken going) asked (next rest h (Ok ReadOn) gives)
  going_on (Gave row) rest a h over going gives stops more unfed nears =
      let none = unfed (λ e. cc) in
      gave w bs rest a h stage unread over none row stops
      (λ more e. rw (none, append-nil) at (next rest h (Ok (Gave row)) gives more e).0)
  going_on (Ended end) rest a h over going gives stops more unfed nears =
      let none = unfed (λ e. cc) in
      ended w bs rest a h stage unread over none end stops
      (λ more e. rw (none, append-nil) at (next rest h (Ok (Ended end)) gives more e))

  pub polled_by : (p : Polled) (t : At) (rest : List ℕ) → IsReading v (bs ++ rest) t
      → (w.lines.ended ≡ true → rest ≡ []) → (v.stopped ≡ None → GivesNext v (Ok p) w) → w.stopped ≡ stop_of (Ok p)
      → IfSome v.stopped (λ s. (Ok p ≡ answer_of s) × (w ≡ v))
      → (◌≡◌ {A = Result Polled ReadError} (Ok p) (Ok ReadOn) → IsFed v.lines w.lines)
      → (◌≢◌ {A = Result Polled ReadError} (Ok p) (Ok ReadOn) → bs ≡ [])
      → Nears p (left_to_do v.lines) (left_to_do w.lines) → Polls t p (IsReading w rest)
  polled_by p t rest a over gives stops again more unfed nears = by v.stopped refl a.stands again
    where
      told : (end : End) → doing_of t ≡ does.Done end → Ok p ≡ answer_of (Ok end) → Polls t p (IsReading w rest)
      told end is_done e =
          let is : p ≡ Ended end = cc in
          subst (λ p. Polls t p (IsReading w rest)) (sym is)
          (subst (λ d. PollsBy d t (Ended end) (IsReading w rest)) (sym is_done)
          (is_done, stands_so a stage a.few (stops ∙ ap (λ p. stop_of (Ok p)) is) is_done))

      by : (o : Option (Result End ReadError)) → v.stopped ≡ o → StandsBy o (HasGiven v a.all (bs ++ rest) t) t
          → IfSome o (λ s. (Ok p ≡ answer_of s) × (w ≡ v)) → Polls t p (IsReading w rest)
      by None e h x = going_on p rest a h over e (gives e) stops more unfed nears
      by (Some (Ok end)) e h x = told end h x.0
      by (Some (Err error)) e h x = absurd h

-- Nothing was read yet.
pub new_stands : {R : Type 0} {v : Scores R} (stage : ℕ) (all : List ℕ) → IsFresh v
    → ((all : List ℕ) → HasRead v all [] all) → v.stage ≡ stage → IsReading v all (fresh (reading stage all))
new_stands {v = v} stage all new has numbered =
    let going = ap (λ l. l.ended) new.lines in
    let u = fresh (reading stage all) in
    let now : HasGiven v all all u = record {
      rows = [];
      seen = [];
      whole = refl;
      few = omega arith;
      has = λ more e. has more;
      over = λ e. absurd (false≢true (sym going ∙ e));
      read = sym (ap (λ b. upto b []) going);
      given = refl;
    } in
    record {
      all = all;
      kind = ap (λ s. reading s all) (sym numbered);
      inputs = refl;
      few = omega arith;
      stands = subst (λ o. StandsBy o (HasGiven v all all u) u) (sym new.going) now;
    }
