use Rattle.std.proofs.Common.{◌++◌, refl, inr}
use Rattle.hum_assemble.specs.Meaning.{put_of}
use Rattle.hum_tests.proofs.Puts.{score_so_far, few_so_far}
use Rattle.hum_tests.proofs.serving.give.Goals as goal

pub put-requires : goal.put-requires
put-requires g c =
    let m = c.requires in
    let put = put_of c.args.j m.at.inputs in
    inr (record {
      at = m.at;
      stand = m.stand;
      wants = m.wants;
      score =
          score_so_far put c.pop_front.new.self.items c.args.coming.now.items (put ++ c.args.coming.now.items)
          c.in-Some.row c.in-Some.ensures.items refl m.score;
      few =
          few_so_far put c.pop_front.new.self.items c.args.coming.now.items (put ++ c.args.coming.now.items)
          c.in-Some.row c.in-Some.ensures.items refl m.few;
    })
