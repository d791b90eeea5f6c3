use Rattle.std.proofs.Common.{◌≡◌, ◌<◌, ◌≤◌, length, get_or, arith}
use Rattle.byte_nfa.specs.Steps.{state}
use Rattle.engine.specs.inner.Chunks.{IsChunk, IsPushedFor}
use Rattle.engine.proofs.lemmas.Chunks.{chunked, whole_one, whole_union, one_item}
use Rattle.engine.proofs.sharing.push_list.Goals as goal

pub loop-at-preserved : goal.loop-at-preserved
loop-at-preserved c =
    let m = c.args.automaton.now in
    let list = c.args.states.now in
    let lists = c.args.known.now in
    let l = c.loop-at in
    let chunk = c.in-Some.chunk in
    let st = state m.states chunk.first in
    let more : (l.at < chunk.end) × (chunk.end ≤ length list) = rw c.in-Some.is at c.in_ok-chunk.ensures.more in
    let alike : IsChunk m.states list l.at chunk.end st chunk.nexts.items = rw c.in-Some.is at c.in_ok-chunk.ensures.alike in
    let pushed : IsPushedFor l.builder c.push_chunk.new.builder lists st chunk.nexts.items c.in-Some-2.part = rw c.in-Some-2.is at c.in_ok-part.ensures in
    record {
      within = more.1;
      chunked = rw c.in_ok-push.ensures.items (chunked m l.builder c.push_chunk.new.builder lists list l.at chunk.end l.parts.items chunk.nexts.items c.in-Some-2.part
          more.0 st alike pushed l.invariant.chunked);
    }

pub returns-in-len1-clause-state : goal.returns-in-len1-clause-state
returns-in-len1-clause-state c =
    let l = c.loop-at in
    let parts = l.parts.items in
    let count : length parts ≡ 1 = omega (arith, c.as_slice.ensures.len, l.parts.ok.0, c.in-len1.len_at_least, c.in-len1.len_below) in
    rw c.as_slice.ensures.value (whole_one c.args.automaton.now l.builder c.args.known.now c.args.states.now parts l.at (get_or parts 0 0)
    (omega (arith, l.invariant.within, c.loop-at-test.false)) (one_item parts count) l.invariant.chunked)

pub returns-clause-state : goal.returns-clause-state
returns-clause-state c =
    let l = c.loop-at in
    whole_union c.args.automaton.now l.builder c.push_union.new.self c.args.known.now c.args.states.now l.parts.items l.at c.in_ok-union.union
    (omega (arith, l.invariant.within, c.loop-at-test.false)) l.invariant.chunked (rw c.deref.ensures.value at c.in_ok-union.ensures.pushed)
