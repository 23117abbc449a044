use Rattle.std.proofs.Common.{◌≡◌, take}
use Rattle.std.specs.List.{list_any}
use Rattle.hum_score.specs.Spelling.{is_empty, kind_of_token, parts}
use Rattle.hum_record.proofs.Cuts.{is_other}
use Rattle.hum_record.proofs.tokens.lawful_kind.Given as goal

abbrev pub invariant-loop-j : goal.invariant-loop-j
invariant-loop-j l =
    (l.has_empty ≡ list_any is_empty (take l.j (parts l.text)))
    × (l.mixes_kinds ≡ list_any (is_other (kind_of_token l.text)) (take l.j (parts l.text)))
