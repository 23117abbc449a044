use Rattle.std.proofs.Common.{◌≡◌, ◌∙◌, sym, ap, arith, subst, ◌∷◌, []}
use Rattle.std.specs.Prelude.{Ok, Err}
use Rattle.hum_stage.proofs.Telling.{answered_none}
use Rattle.hum_score.specs.declared.records.SpinedKind.TheVariants.{Values}
use Rattle.hum_score.specs.Row.{Row, Spined, tokens_of}
use Rattle.hum_score.specs.Score.{path_after}
use Rattle.hum_stage.specs.declared.faults.Rule.TheVariants.{L1}
use Rattle.hum_context.specs.Options.{choice_of}
use Rattle.hum_context.specs.Queue.{Knows}
use Rattle.hum_context.specs.Walking.{AllStand}
use Rattle.hum_context.proofs.Weighing.{quiet_stays, fits_is, long_is, bytes_fit, bytes_long}
use Rattle.hum_context.proofs.Following.{few_held, first_known, first_data, none_heard, get_first}
use Rattle.hum_context.proofs.Following.{first_is_data, follows_linked, follows_on, undecided, decided_by, one_fewer}
use Rattle.hum_context.proofs.memory.CollectingLooksAhead.settle.Goals as goal

pub returns-then-is_quiet-clause-settles : goal.returns-then-is_quiet-clause-settles
returns-then-is_quiet-clause-settles c look past row rows h =
    let o = choice_of c.args.self.now.options in
    let size = c.args.held.now.ok.0 in
    let some = c.requires.filled in
    let known = first_known o _ _ _ _ look past row rows c.index.result.now h
    (omega (arith, size, some)) c.index.ensures in
    let e = c.in_ok-row.ensures in
    let given : c.in_ok-row.row ≡ row =
    e.row c.index.result.now (get_first _ c.index.result.now c.index.ensures (omega (arith, size, some)))
    ∙ known.is in
    rw (e.kept, c.in_ok-into_record.ensures ∙ given) (
      ap (λ l. l past row rows) h.command
          ∙ quiet_stays o past row rows c.index.result.now known
          (none_heard _ (sym c.is_quiet.ensures ∙ c.if-is_quiet.true)),
      follows_on o _ _ _ _ _ _ _ look past row rows h e.gone e.held
          (e.stand (path_after past) row rows h.waits h.stand),
    )

pub returns-then-saturating_add-gt-MOST_RECORDS-clause-settles :
    goal.returns-then-saturating_add-gt-MOST_RECORDS-clause-settles
returns-then-saturating_add-gt-MOST_RECORDS-clause-settles c look past row rows h =
    let few = few_held _ _ _ _ _ look past (row ∷ rows) h in
    let size = c.args.held.now.ok.0 in
    let len = c.len.ensures in
    let sum = c.saturating_add.ensures in
    let over = c.if-saturating_add-gt-MOST_RECORDS.true in
    absurd (omega (arith, few, size, len, sum, over))

pub returns-then-not-known-clause-settles : goal.returns-then-not-known-clause-settles
returns-then-not-known-clause-settles c look past row rows h =
    let o = choice_of c.args.self.now.options in
    let path = path_after past in
    let size = c.args.held.now.ok.0 in
    let some = c.requires.filled in
    let known = first_known o _ _ _ _ look past row rows c.index.result.now h
    (omega (arith, size, some)) c.index.ensures in
    let is = first_data o path row c.index.result.now known
    (sym c.is_quiet.ensures ∙ c.if-is_quiet.false) in
    let want = c.wanted-wanted.ensures in
    let stand = c.in_ok-known.ensures.stand o path (row ∷ rows) want h.some_wanted h.waits h.stand in
    let are = c.in_ok-known.ensures.known o path (tokens_of row) rows want h.some_wanted
    (subst (λ (r : Row). Knows o path c.args.held.now.items (r ∷ rows)) is h.waits)
    (subst (λ (r : Row). AllStand o path c.args.self.now.gone (r ∷ rows) c.args.self.now.walks.items) is
    h.stand) in (
      ap (λ l. l past row rows) h.command
          ∙ undecided o past row rows is (rw c.if-not-known.true at are),
      follows_linked o _ _ _ _ _ _ look past (row ∷ rows) h
          (c.in_ok-link.ensures.knows o path (row ∷ rows) h.waits)
          (c.in_ok-link.ensures.stand o path c.args.self.now.gone (row ∷ rows) stand),
    )

pub returns-in_default-clause-settles : goal.returns-in_default-clause-settles
returns-in_default-clause-settles c look past row rows h =
    let o = choice_of c.args.self.now.options in
    let path = path_after past in
    let size = c.args.held.now.ok.0 in
    let some = c.requires.filled in
    let known = first_known o _ _ _ _ look past row rows c.index.result.now h
    (omega (arith, size, some)) c.index.ensures in
    let is = first_data o path row c.index.result.now known
    (sym c.is_quiet.ensures ∙ c.if-is_quiet.false) in
    let want = c.wanted-wanted.ensures in
    let stand = c.in_ok-known.ensures.stand o path (row ∷ rows) want h.some_wanted h.waits h.stand in
    let knows = subst (λ (r : Row). Knows o path c.args.held.now.items (r ∷ rows)) is h.waits in
    let linked = c.in_ok-link.ensures.knows o path _ knows in
    let stands =
    subst (λ (r : Row). AllStand o path c.args.self.now.gone (r ∷ rows) c.link.new.walks.items) is
    (c.in_ok-link.ensures.stand o path c.args.self.now.gone (row ∷ rows) stand) in
    let are = rw c.if-not-known.false at (c.in_ok-known.ensures.known o path (tokens_of row) rows want
    h.some_wanted knows
    (subst (λ (r : Row). AllStand o path c.args.self.now.gone (r ∷ rows) c.args.self.now.walks.items) is
    h.stand)) in
    let long = rw c.in_default.is at
    (c.in_ok-made.ensures o path (tokens_of row) are.0 rows want h.some_wanted linked
    (rw c.deref.ensures.value stands) are.1) in
    ap (λ l. l past row rows) h.command
    ∙ decided_by o past row rows are.0 (Err L1) is are.1 (long_is are.0 (bytes_long are.0 long))

pub returns-clause-settles : goal.returns-clause-settles
returns-clause-settles c look past row rows h =
    let o = choice_of c.args.self.now.options in
    let path = path_after past in
    let size = c.args.held.now.ok.0 in
    let some = c.requires.filled in
    let known = first_known o _ _ _ _ look past row rows c.index.result.now h
    (omega (arith, size, some)) c.index.ensures in
    let is = first_data o path row c.index.result.now known
    (sym c.is_quiet.ensures ∙ c.if-is_quiet.false) in
    let want = c.wanted-wanted.ensures in
    let stand = c.in_ok-known.ensures.stand o path (row ∷ rows) want h.some_wanted h.waits h.stand in
    let knows = subst (λ (r : Row). Knows o path c.args.held.now.items (r ∷ rows)) is h.waits in
    let waits = c.in_ok-link.ensures.knows o path (row ∷ rows) h.waits in
    let linked = c.in_ok-link.ensures.knows o path _ knows in
    let here = c.in_ok-link.ensures.stand o path c.args.self.now.gone (row ∷ rows) stand in
    let stands =
    subst (λ (r : Row). AllStand o path c.args.self.now.gone (r ∷ rows) c.link.new.walks.items) is here in
    let are = rw c.if-not-known.false at (c.in_ok-known.ensures.known o path (tokens_of row) rows want
    h.some_wanted knows
    (subst (λ (r : Row). AllStand o path c.args.self.now.gone (r ∷ rows) c.args.self.now.walks.items) is
    h.stand)) in
    let made = rw c.in-Some.is at
    (c.in_ok-made.ensures o path (tokens_of row) are.0 rows want h.some_wanted linked
    (rw c.deref.ensures.value stands) are.1) in
    let e = c.in_ok-row-2.ensures in
    rw (e.kept, made.0) (
      ap (λ l. l past row rows) h.command
          ∙ decided_by o past row rows are.0 (Ok (Spined Values are.0 ∷ [])) is are.1
          (fits_is are.0 (bytes_fit are.0 made.1)),
      follows_on o _ _ _ _ _ _ _ look past row rows
          (follows_linked o _ _ _ _ _ _ look past (row ∷ rows) h waits here) e.gone e.held
          (e.stand path row rows waits here),
    )

pub write-requires-clause-data : goal.write-requires-clause-data
write-requires-clause-data c =
    let size = c.args.held.now.ok.0 in
    let some = c.requires.filled in
    c.in_ok-link.ensures.valued (first_is_data c.args.held.now.items c.index.result.now c.index.ensures
    (omega (arith, size, some)) (sym c.is_quiet.ensures ∙ c.if-is_quiet.false))

pub index-requires : goal.index-requires
index-requires c = c.requires.filled

pub let_go-requires-clause-few : goal.let_go-requires-clause-few
let_go-requires-clause-few c =
    let len = c.len.ensures in
    let sum = c.saturating_add.ensures in
    let under = c.if-saturating_add-gt-MOST_RECORDS.false in
    let some = c.requires.filled in
    omega (arith, len, sum, under, some)

pub let_go-requires-clause-some : goal.let_go-requires-clause-some
let_go-requires-clause-some c = c.requires.filled

pub let_go-requires-2-clause-few : goal.let_go-requires-2-clause-few
let_go-requires-2-clause-few c =
    let len = c.len.ensures in
    let sum = c.saturating_add.ensures in
    let under = c.if-saturating_add-gt-MOST_RECORDS.false in
    let some = c.requires.filled in
    omega (arith, len, sum, under, some)

pub let_go-requires-2-clause-some : goal.let_go-requires-2-clause-some
let_go-requires-2-clause-some c =
    let size = c.args.held.now.ok.0 in
    let some = c.requires.filled in
    let same = c.in_ok-link.ensures.size in
    let new = c.link.new.held.ok.0 in
    omega (arith, size, some, same, new)

pub advance-requires-clause-few : goal.advance-requires-clause-few
advance-requires-clause-few c =
    let size = c.args.held.now.ok.0 in
    let len = c.len.ensures in
    let sum = c.saturating_add.ensures in
    let under = c.if-saturating_add-gt-MOST_RECORDS.false in
    omega (arith, size, len, sum, under)

pub advance-requires-clause-within : goal.advance-requires-clause-within
advance-requires-clause-within c =
    let size = c.args.held.now.ok.0 in
    let some = c.requires.filled in
    omega (arith, size, some)

pub write-requires-clause-few : goal.write-requires-clause-few
write-requires-clause-few c =
    let size = c.args.held.now.ok.0 in
    let len = c.len.ensures in
    let sum = c.saturating_add.ensures in
    let under = c.if-saturating_add-gt-MOST_RECORDS.false in
    let same = c.in_ok-link.ensures.size in
    omega (arith, size, len, sum, under, same)

pub write-requires-clause-within : goal.write-requires-clause-within
write-requires-clause-within c =
    let size = c.args.held.now.ok.0 in
    let some = c.requires.filled in
    let same = c.in_ok-link.ensures.size in
    omega (arith, size, some, same)

pub returns-then-is_quiet-clause-fewer : goal.returns-then-is_quiet-clause-fewer
returns-then-is_quiet-clause-fewer c =
    one_fewer c.args.held.now.items c.let_go.new.held.items c.in_ok-row.ensures.held
    c.args.held.now.ok.0 c.let_go.new.held.ok.0 c.requires.filled

pub returns-clause-fewer : goal.returns-clause-fewer
returns-clause-fewer c =
    one_fewer c.link.new.held.items c.let_go-2.new.held.items c.in_ok-row-2.ensures.held
    (c.args.held.now.ok.0 ∙ sym c.in_ok-link.ensures.size) c.let_go-2.new.held.ok.0 c.requires.filled

pub returns-in_err-row-clause-fewer : goal.returns-in_err-row-clause-fewer
returns-in_err-row-clause-fewer c =
    answered_none c.from_residual.result _ c.from_residual.ensures.1

pub returns-in_err-row-clause-settles : goal.returns-in_err-row-clause-settles
returns-in_err-row-clause-settles c =
    answered_none c.from_residual.result _ c.from_residual.ensures.1

pub returns-in_err-into_record-clause-fewer : goal.returns-in_err-into_record-clause-fewer
returns-in_err-into_record-clause-fewer c =
    answered_none c.from_residual-in_err-into_record.result _ c.from_residual-in_err-into_record.ensures.1

pub returns-in_err-into_record-clause-settles : goal.returns-in_err-into_record-clause-settles
returns-in_err-into_record-clause-settles c =
    answered_none c.from_residual-in_err-into_record.result _ c.from_residual-in_err-into_record.ensures.1

pub returns-in_err-known-clause-fewer : goal.returns-in_err-known-clause-fewer
returns-in_err-known-clause-fewer c =
    answered_none c.from_residual-in_err-known.result _ c.from_residual-in_err-known.ensures.1

pub returns-in_err-known-clause-settles : goal.returns-in_err-known-clause-settles
returns-in_err-known-clause-settles c =
    answered_none c.from_residual-in_err-known.result _ c.from_residual-in_err-known.ensures.1

pub returns-in_err-made-clause-fewer : goal.returns-in_err-made-clause-fewer
returns-in_err-made-clause-fewer c =
    answered_none c.from_residual-in_err-made.result _ c.from_residual-in_err-made.ensures.1

pub returns-in_err-made-clause-settles : goal.returns-in_err-made-clause-settles
returns-in_err-made-clause-settles c =
    answered_none c.from_residual-in_err-made.result _ c.from_residual-in_err-made.ensures.1

pub returns-in_err-row-2-clause-fewer : goal.returns-in_err-row-2-clause-fewer
returns-in_err-row-2-clause-fewer c =
    answered_none c.from_residual-in_err-row-2.result _ c.from_residual-in_err-row-2.ensures.1

pub returns-in_err-row-2-clause-settles : goal.returns-in_err-row-2-clause-settles
returns-in_err-row-2-clause-settles c =
    answered_none c.from_residual-in_err-row-2.result _ c.from_residual-in_err-row-2.ensures.1
