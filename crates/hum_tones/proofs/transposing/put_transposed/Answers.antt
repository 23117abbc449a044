use Rattle.std.proofs.Common.{refl, take, drop, ap, ◌∙◌, List, ℕ, ◌++◌, Ok}
use Rattle.hum_pitch.specs.Given.{spelled}
use Rattle.hum_pitch.specs.Spelling.{spelling}
use Rattle.hum_kern.proofs.Found.{within}
use Rattle.hum_tones.proofs.Moving.{too_many_signs, too_far, put_there, in_order}
use Rattle.hum_tones.proofs.transposing.put_transposed.Goals as goal

pub returns-in-Err-TR1 : goal.returns-in-Err-TR1
returns-in-Err-TR1 c =
    let out = rw c.in-Err-TR1.field-0-is at c.in-Err-TR1.ensures in
    rw (too_many_signs c.args.options.steps c.args.options.semitones c.args.part.now c.args.found.now c.in-Some.pitch c.requires c.in-Some.is out) refl

pub returns-in-Err-TR2 : goal.returns-in-Err-TR2
returns-in-Err-TR2 c =
    let out = rw c.in-Err-TR2.field-0-is at c.in-Err-TR2.ensures in
    rw (too_far c.args.options.steps c.args.options.semitones c.args.part.now c.args.found.now c.in-Some.pitch c.requires c.in-Some.is out) refl

pub split_at-requires : goal.split_at-requires
split_at-requires c = (within c.args.part.now (Ok c.args.found.now) c.requires).1

pub returns-in_ok-extend_from_slice-in-Ok-2 : goal.returns-in_ok-extend_from_slice-in-Ok-2
returns-in_ok-extend_from_slice-in-Ok-2 c =
    rw (put_there c.args.options.steps c.args.options.semitones c.args.part.now c.args.found.now c.in-Some.pitch
    c.in-Ok.there c.requires c.in-Some.is c.in-Ok.ensures)
    (in_order c.args.text.now.items (take c.args.found.now.start c.args.part.now) (spelling (spelled c.in-Ok.there))
    (drop c.args.found.now.end c.args.part.now) _ _ _
    c.in_ok-extend_from_slice-in-Ok.ensures.items c.in_ok-push_pitch-in-Ok.ensures.written
    (c.in_ok-extend_from_slice-in-Ok-2.ensures.items ∙ ap (λ (l : List ℕ). c.push_pitch.new.text.items ++ l) c.split_at.ensures.back))
