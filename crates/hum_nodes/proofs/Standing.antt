-- What nodes of each kind stand for, and what they show.
use Rattle.std.proofs.lemmas.Bool.Decides.{nat_tests}
use Rattle.std.proofs.Common.{◌≡◌, ◌∙◌, ℕ, ◌<◌, ◌≤◌, Bool, true, false, List, [], ◌++◌, Option, None, Some, refl, sym}
use Rattle.std.proofs.Common.{ap, Global, subst, arith, length, Result, Ok, Err, ◌⊎◌}
use Rattle.std.specs.Prelude.{◌≢◌, IfOk, IfSome, MatchOption}
use Rattle.std.proofs.lemmas.Bool.{false≢true}
use Rattle.std.specs.Io.KnownBytes.{Consumes, IsAtEnd}
use Rattle.std.specs.declared.vec.Vec.{Vec}
use Rattle.hum_score.specs.Row.{Row}
use Rattle.hum_read.specs.declared.ReadError.{ReadError}
use Rattle.hum_read.specs.Reading.{Scores, Polled, ReadOn, GivesNext, Nears, answer_of, stop_of}
use Rattle.hum_text.specs.Reading.{NeedsRead, IsUnread, IsFed, bytes_read, left_to_do}
use Rattle.hum_stage.specs.declared.faults.Readiness.{Readiness}
use Rattle.hum_stage.specs.Meaning.{Moment, HasPutAndTaken, ShowsReadiness, TookFirst, after_put, readiness_by}
use Rattle.hum_assemble.specs.Meaning as merge
use Rattle.hum_assemble.specs.Standing.{Assembler, Stands}
use Rattle.hum_nodes.specs.At.{At, doing_of, readiness_of, waits_of, MayChange, with_record, after_change}
use Rattle.hum_nodes.specs.Reading.{IsReading}
use Rattle.hum_nodes.specs.Polls.{most_bytes, HasPolled}
use Rattle.hum_nodes.specs.Doing as does
use Rattle.hum_nodes.specs.Doing.{Doing}
use Rattle.hum_nodes.specs.declared.node.Node.{Node}
use Rattle.hum_nodes.specs.declared.node.Work.{Work}
use Rattle.hum_nodes.specs.declared.node.Work.TheVariants.{Read, Command, Assemble}
use Rattle.hum_nodes.specs.Nodes.{reads, is_source, commands, readiness_at}
use Rattle.hum_nodes.specs.Nodes.{WorksAs, KnowsSource, StandsAs, remaining_by}
use Rattle.hum_nodes.specs.Nodes.{remaining_of, ended_by, ended_of, calls_by, calls_of, failed_by, failed_of}
use Rattle.hum_record.specs.Room.{room_for, rooms_for}
use Rattle.hum_nodes.specs.Single.{IsSingle, IsAhead}
use Rattle.hum_nodes.specs.Merging.{IsMerging}
use Rattle.hum_nodes.proofs.Polling.{gives_if, polls_as}
use Rattle.hum_nodes.proofs.Mergings.{readiness_is as merging_readiness}
use Rattle.hum_nodes.proofs.Singles.{takes_none, changes, room_ahead, took_ahead}
use Rattle.hum_nodes.proofs.Turns.{polled_by}

module _ {S R : Type 0} (stands : S → Moment → Type 0) where
  bytes_by : (node : Node S R) (rest : List ℕ) (t : At) (work : Work S R)
      → WorksAs stands work node.from node.ahead node.behind rest t
      → (reads work ≡ true → 0 < t.kind.stage.bytes) × (reads work ≡ false → t.kind.stage.bytes ≡ 0)
      × (0 < t.kind.stage.bytes → t.read ≤ most_bytes)
  bytes_by = grind (arith, nat_tests)

  -- a source reads bytes, or their end
  pub source_bytes : (node : Node S R) (rest : List ℕ) (t : At) → is_source node ≡ true
      → StandsAs stands node rest t → 0 < t.kind.stage.bytes
  source_bytes node rest t e h = (bytes_by node rest t node.work h.works).0 e

  -- another stage reads none
  pub stage_bytes : (node : Node S R) (rest : List ℕ) (t : At) → is_source node ≡ false
      → StandsAs stands node rest t → t.kind.stage.bytes ≡ 0
  stage_bytes node rest t e h = (bytes_by node rest t node.work h.works).1 e

  pub reads_few : (node : Node S R) (rest : List ℕ) (t : At) → StandsAs stands node rest t
      → 0 < t.kind.stage.bytes → t.read ≤ most_bytes
  reads_few node rest t h some = (bytes_by node rest t node.work h.works).2 some

  -- what is still to come of bytes is nothing to a stage that isn't a source
  pub any_rest : (node : Node S R) → is_source node ≡ false → (a b : List ℕ) (t : At)
      → StandsAs stands node a t → StandsAs stands node b t
  any_rest = grind (arith, nat_tests)

-- A command that isn't about to give has no record ahead.
pub alone_as : {S R : Type 0} {stands : S → Moment → Type 0} {node : Node S R} {stage : S} {rest : List ℕ} {t : At}
    {d : Doing} → node.work ≡ Command stage → StandsAs stands node rest t → doing_of t ≡ d → (d ≡ does.Gives → ⊥)
    → (node.ahead ≡ None) × IsSingle (stands stage) node.from t
alone_as = grind (arith, nat_tests)

pub as_merging : {S R : Type 0} {stands : S → Moment → Type 0} {node : Node S R} {stage : Assembler}
    {sources : Vec ℕ Global} {rest : List ℕ} {t : At} → node.work ≡ Assemble stage sources
    → StandsAs stands node rest t → IsMerging (Stands stage) sources.items t
as_merging = grind (arith, nat_tests)

-- What was taken ahead of a command waits in the node.
pub ahead_room : {S R : Type 0} {stands : S → Moment → Type 0} {node : Node S R} {stage : S} {row : Row}
    {rest : List ℕ} {t : At} → node.work ≡ Command stage → node.ahead ≡ Some row → StandsAs stands node rest t
    → room_for row ≤ rooms_for (waits_of t)
ahead_room {stands = stands} {node} {stage} {row} {rest} {t} is some h =
    room_ahead (subst (λ a. IsAhead (stands stage) node.from a node.behind t) some
    (subst (λ w. WorksAs stands w node.from node.ahead node.behind rest t) is h.works))

-- What a command is as a node, without a record ahead,
pub single_stands : {S R : Type 0} (stands : S → Moment → Type 0) {stage : S} {from : ℕ} {ahead : Option Row}
    {is : Readiness} {rest : List ℕ} {t : At}
    → IsSingle (stands stage) from t → ahead ≡ None → ShowsReadiness (stands stage) is
    → StandsAs {S = S} {R = R} stands
    (record { work = Command stage; ahead = ahead; behind = is; from = from }) rest t
single_stands = grind (arith, nat_tests)

-- and what it is once a record was put, whether the first one of what it gives was taken ahead or not.
pub put_stands : {S R : Type 0} {stands : S → Moment → Type 0} {node : Node S R} {old new : S} {row : Row}
    {ahead : Option Row} {is : Readiness} {rest : List ℕ} {t : At} (place : ℕ)
    → node.work ≡ Command old → StandsAs stands node rest t → MayChange t (with_record row) place
    → HasPutAndTaken (stands old) (stands new) row ahead → ShowsReadiness (stands new) is
    → StandsAs {S = S} {R = R} stands
    (record { work = Command new; ahead = ahead; behind = is; from = node.from }) rest
    (after_change (with_record row) place t)
put_stands {S} {R} {stands} {node} {old} {new} {row} {ahead} {is} {rest} {t} place command h may ok shows =
    let w = (alone_as command h may.wants (λ e. cc)).1 in
    let k = changes w (with_record row) place may in
    by ahead (record {
      moment = after_put w.moment row;
      stand = ok w.moment w.stand k.ended k.fine.score;
      kind = w.kind;
      inputs = k.inputs;
      given = w.given;
    })
  where
    later : At
    later = after_change (with_record row) place t

    by : (ahead : Option Row)
        → IsSingle (λ m. MatchOption ahead (stands new m) (TookFirst (stands new) m)) node.from later
        → StandsAs {S = S} {R = R} stands
        (record { work = Command new; ahead = ahead; behind = is; from = node.from }) rest later
    by None works = single_stands stands works refl shows
    by (Some first) works =
        let next = took_ahead works shows in
        let does = gives_if later first next.next in
        record {
          works = next;
          alone = λ other. cc;
          knows = sym (ap readiness_of does);
          takes = λ other. takes_none node.from later does;
        }

-- What assemble is.
pub merging_stands : {S R : Type 0} (stands : S → Moment → Type 0) {stage : Assembler} {sources : Vec ℕ Global}
    {items : List ℕ} {from : ℕ} {ahead : Option Row} {behind : Readiness} {rest : List ℕ} {t : At}
    → IsMerging (Stands stage) sources.items t → ahead ≡ None
    → ((m : merge.Moment) → Stands stage m → behind ≡ readiness_by (merge.state_of m))
    → ((t : At) → IsMerging (Stands stage) items t → KnowsSource from t) → items ≡ sources.items
    → StandsAs {S = S} {R = R} stands (record { work = Assemble stage sources; ahead = ahead; behind = behind; from = from })
    rest t
merging_stands stands {stage} {sources} {behind = behind} {t = t} works none shows takes same =
    grind (arith, nat_tests, merging_readiness works behind shows)

-- A stage that isn't a source has no reader.

module _ {S R : Type 0} (remaining : R → Option (List ℕ)) (calls : R → ℕ) (failed : R → Bool) where
  shows : (w : Work S R) → reads w ≡ false
      → (failed_by failed w ≡ false) × (calls_by calls w ≡ 0) × (ended_by w ≡ false) × (remaining_by remaining w ≡ None)
  shows w e = grind (arith, e)

  pub no_mark : (n : Node S R) → is_source n ≡ false → failed_of failed n ≡ false
  no_mark n e = (shows n.work e).0

  pub no_call : (n : Node S R) → is_source n ≡ false → calls_of calls n ≡ 0
  no_call n e = (shows n.work e).1

  pub no_end : (n : Node S R) → is_source n ≡ false → ended_of n ≡ false
  no_end n e = (shows n.work e).2

  pub no_rest : (n : Node S R) → is_source n ≡ false → remaining_of remaining n ≡ None
  no_rest n e = (shows n.work e).3

  pub nothing_read : (a b : Node S R) → is_source a ≡ false
      → Consumes (remaining_of remaining a) (remaining_of remaining b) []
  nothing_read a b e = rw (no_rest a e) tt

-- where no reader can fail, none has
pub never_failed : {S R : Type 0} (failed : R → Bool) → ((r : R) → failed r ≡ false) → (n : Node S R)
    → failed_of failed n ≡ false
never_failed = grind (arith, nat_tests)

-- What a poll of its reader has read and given.
pub polled : {S R : Type 0} (stands : S → Moment → Type 0) (remaining : R → Option (List ℕ)) (node : Node S R)
    (v w : Scores R) (result : Result Polled ReadError) → node.work ≡ Read v → w.stage ≡ v.stage
    → ((NeedsRead v.lines → ⊥) → IsUnread v.lines w.lines)
    → (v.stopped ≡ None → w.lines.taken ≤ w.lines.limits.bytes) → length (bytes_read v.lines w.lines) ≤ 65536
    → (v.stopped ≡ None → GivesNext v result w) → w.stopped ≡ stop_of result
    → IfSome v.stopped (λ s. (result ≡ answer_of s) × (w ≡ v))
    → (result ≡ Ok ReadOn → IsFed v.lines w.lines) → (result ≢ Ok ReadOn → bytes_read v.lines w.lines ≡ [])
    → IfOk result (λ p. Nears p (left_to_do v.lines) (left_to_do w.lines))
    → Consumes (remaining v.lines.source) (remaining w.lines.source) (bytes_read v.lines w.lines)
    → (w.lines.ended ≡ true → (v.lines.ended ≡ true) ⊎ IsAtEnd (remaining w.lines.source))
    → IfOk result (HasPolled (StandsAs stands node) (StandsAs stands (record node { work = Read w }))
    (ended_of node) w.lines.ended (remaining_of remaining node) (remaining w.lines.source))
polled stands remaining node v w (Err e) is stage unread taken asked gives stops again more unfed nears consumes
    at_end = tt
polled stands remaining node v w (Ok p) is stage unread taken asked gives stops again more unfed nears consumes
    at_end = record {
      read = bytes_read v.lines w.lines;
      consumes = rw is consumes;
      at_end = rw is at_end;
      still = rw is (λ e. let u = unread (λ n. false≢true (sym n.going ∙ e)) in (u.2, u.1 ∙ e));
      polls = λ rest t over before.
          let all = bytes_read v.lines w.lines ++ rest in
          let works = subst (λ x. WorksAs stands x node.from node.ahead node.behind all t) is before.works in
          polls_as t p (IsReading w rest) (StandsAs stands (record node { work = Read w }) rest)
          (λ u at. record {
            works = at;
            alone = λ e. before.alone (ap commands is);
            knows = before.knows ∙ ap (λ x. readiness_at (reads x) (doing_of t)) is;
            takes = λ other. cc;
          })
          (polled_by v w stage unread taken asked p t rest works over gives stops again more unfed nears);
    }
