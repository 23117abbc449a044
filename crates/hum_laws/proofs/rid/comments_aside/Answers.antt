use Rattle.std.proofs.Common.{refl}
use Rattle.hum_rid.specs.Rid.{meaning}
use Rattle.hum_commands.specs.Meaning.{meaning as meaning_of}
use Rattle.hum_stage.specs.Meaning.{KeepsScore}
use Rattle.hum_laws.specs.Piped.{IsPiped}
use Rattle.hum_laws.specs.Comments.{all_comments}
use Rattle.hum_laws.proofs.Uncommented.{tells_scores, dropped_either_side}
use Rattle.hum_laws.proofs.rid.comments_aside.Goals as goal

pub piped-requires : goal.piped-requires
piped-requires c = record { scores = rw c.all_comments-letter.ensures refl }

pub piped-requires-2 : goal.piped-requires-2
piped-requires-2 c = record { scores = tells_scores c.args.alike c.requires.tells_too }

pub returns-clause-first : goal.returns-clause-first
returns-clause-first c = rw c.all_comments-letter.ensures at c.in_ok-first.ensures.given

pub returns-clause-last : goal.returns-clause-last
returns-clause-last c = rw (c.all_comments-letter.ensures, c.requires.alike 1) at c.in_ok-last.ensures.given

pub returns-clause-same : goal.returns-clause-same
returns-clause-same c =
    let first : IsPiped (meaning 1 all_comments) (meaning_of 2 c.args.command) c.args.score.records.now c.in_ok-first.first =
    rw c.all_comments-letter.ensures at c.in_ok-first.ensures.given in
    let last : IsPiped (meaning_of 1 c.args.command) (meaning 2 all_comments) c.args.score.records.now c.in_ok-last.last =
    rw (c.all_comments-letter.ensures, c.requires.alike 1) at c.in_ok-last.ensures.given in
    let keeps : KeepsScore (meaning 1 all_comments).outcomes = rw c.all_comments-letter.ensures at c.in_ok-first.ensures.keeps in
    dropped_either_side c.args.command c.requires.tells c.args.score.records.now c.in_ok-first.first c.in_ok-last.last first last
    keeps (rw (c.requires.alike 1) at c.in_ok-last.ensures.keeps) c.args.score.closed.0
