use Rattle.std.proofs.Common.{◌∙◌, sym, ◌∷◌}
use Rattle.hum_score.specs.declared.records.SpinedKind.TheVariants.{Values}
use Rattle.hum_score.specs.Row.{Spined, token_at}
use Rattle.hum_context.proofs.Weighing.{kept_at, open_is, passed_stays, shut_is}
use Rattle.hum_context.proofs.becoming.new_at.Goals as goal

pub returns-in-Some : goal.returns-in-Some
returns-in-Some c o path tokens rows want none knows stand =
    let known = kept_at o path c.args.held.now.items c.args.k (Spined Values tokens) rows
    c.args.kept.now knows c.requires.within c.requires.is in
    let is = open_is o path tokens c.args.kept.now c.args.j c.in-Taken.begins c.in-Taken.ends known
    (sym c.heard.ensures ∙ c.in-Taken.is) c.if-not-begins.false in
    c.enough_at.ensures o path (Spined Values tokens ∷ rows) none stand c.in-Some.known c.in-Some.is
    (token_at (Spined Values tokens) c.args.j) is.0 is.1

pub returns-in-Passed : goal.returns-in-Passed
returns-in-Passed c o path tokens rows want none knows stand =
    let known = kept_at o path c.args.held.now.items c.args.k (Spined Values tokens) rows
    c.args.kept.now knows c.requires.within c.requires.is in
    passed_stays o path tokens c.args.kept.now c.args.j rows known (sym c.heard.ensures ∙ c.in-Passed.is)

pub returns-then-not-begins : goal.returns-then-not-begins
returns-then-not-begins c o path tokens rows want none knows stand =
    let known = kept_at o path c.args.held.now.items c.args.k (Spined Values tokens) rows
    c.args.kept.now knows c.requires.within c.requires.is in
    shut_is o path tokens c.args.kept.now c.args.j c.in-Taken.begins c.in-Taken.ends rows known
    (sym c.heard.ensures ∙ c.in-Taken.is) c.if-not-begins.true

pub returns-in_default : goal.returns-in_default
returns-in_default c o path tokens rows want none knows stand =
    let known = kept_at o path c.args.held.now.items c.args.k (Spined Values tokens) rows
    c.args.kept.now knows c.requires.within c.requires.is in
    let is = open_is o path tokens c.args.kept.now c.args.j c.in-Taken.begins c.in-Taken.ends known
    (sym c.heard.ensures ∙ c.in-Taken.is) c.if-not-begins.false in
    c.becoming_at.ensures o path (Spined Values tokens ∷ rows) want none knows stand
    (token_at (Spined Values tokens) c.args.j) is.0 is.1
