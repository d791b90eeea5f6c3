use Rattle.std.proofs.Common.{◌≡◌, ◌+◌, ◌-◌, ◌<◌, ◌∷◌, length, get_or, drop, arith}
use Rattle.std.proofs.lemmas.List.{drop_more}
use Rattle.byte_nfa.specs.Steps.{bytes_state}
use Rattle.glob_strategy.proofs.lemmas.Building.{text_more}
use Rattle.byte_nfa.proofs.lemmas.Growing.{grows_then, grows_push}
use Rattle.glob_strategy.proofs.states.add_text.Goals as goal

pub loop-i-preserved : goal.loop-i-preserved
loop-i-preserved c =
    let inv = c.loop-i.invariant in
    let bytes = c.args.bytes.now in
    let i = c.loop-i.i in
    let j = length bytes - 1 - i in
    let lt : j < length bytes = omega arith in
    let up : length bytes - i ≡ j + 1 = omega arith in
    let down : length bytes - (i + 1) ≡ j = omega arith in
    let more : drop j bytes ≡ get_or bytes j 0 ∷ drop (j + 1) bytes = drop_more bytes j 0 lt in
    let made = c.in_ok-at.ensures.pushed in
    record {
      within = omega (arith, made.at, made.len);
      count = omega (arith, made.len, inv.count);
      grows = grows_then c.args.builder.now c.loop-i.builder c.push_bytes.new.self inv.grows (grows_push c.loop-i.builder c.push_bytes.new.self c.in_ok-at.at (bytes_state c.letter_bytes.result c.loop-i.at) made);
      builds = rw (down, more) (text_more c.args.options (get_or bytes j 0) (drop (j + 1) bytes) c.args.builder.now c.loop-i.builder c.push_bytes.new.self
          c.letter_bytes.result c.in_ok-at.at c.loop-i.at c.args.exit (rw up at inv.builds) inv.grows.keeps made c.letter_bytes.ensures);
    }

pub returns-clause-builds : goal.returns-clause-builds
returns-clause-builds c =
    let whole : length c.args.bytes.now - c.loop-i.i ≡ 0 = omega arith in
    rw whole at c.loop-i.invariant.builds
