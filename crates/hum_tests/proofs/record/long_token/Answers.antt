use Rattle.std.proofs.Common.{◌≡◌, replicate, rules}
use Rattle.hum_record.proofs.Long.{repeated_token}
use Rattle.hum_tests.proofs.record.long_token.Goals as goal

pub returns : goal.returns
returns c =
    let items : c.in_ok-vec.field-0.items ≡ replicate c.args.len 97 = search rules in
    rw items (repeated_token c.args.len c.requires)
