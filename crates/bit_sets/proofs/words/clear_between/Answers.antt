use Rattle.std.proofs.Common.{◌≡◌, ◌+◌, ◌-◌, ◌/◌, length, replicate, take, drop, ap, ◌∙◌, arith}
use Rattle.std.proofs.lemmas.List.{length-take-le, length-drop}
use Rattle.bit_sets.proofs.lemmas.Bits.{cleared_inside, cleared_outside}
use Rattle.bit_sets.proofs.words.clear_between.Goals as goal

pub returns-clause-between : goal.returns-clause-between
returns-clause-between c = λ k low high.
    let a = c.args.first / 64 in
    let n = c.args.last / 64 + 1 - a in
    let len : length (take n (drop a c.args.words.now)) ≡ n = length-take-le n (drop a c.args.words.now) (omega (arith, length-drop a c.args.words.now)) in
    let zeros : c.fill.new.self ≡ replicate n 0 = c.fill.ensures.after (λ y e. e) ∙ ap (λ m. replicate m 0) len in
    rw zeros (cleared_inside c.args.words.now a n k (omega arith) (omega arith) (omega arith) (omega arith))

pub returns-clause-others : goal.returns-clause-others
returns-clause-others c = λ k bit.
    let a = c.args.first / 64 in
    let n = c.args.last / 64 + 1 - a in
    let len : length (take n (drop a c.args.words.now)) ≡ n = length-take-le n (drop a c.args.words.now) (omega (arith, length-drop a c.args.words.now)) in
    let zeros : c.fill.new.self ≡ replicate n 0 = c.fill.ensures.after (λ y e. e) ∙ ap (λ m. replicate m 0) len in
    cleared_outside c.args.words.now a n k (omega arith) (omega arith) (rw zeros at bit)
