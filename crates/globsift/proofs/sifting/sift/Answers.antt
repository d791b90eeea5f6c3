use Rattle.std.proofs.Common.{[], ◌++◌, ◌≡◌, ◌<◌, ◌∙◌, refl, ap, sym, take, drop, length, List, ℕ, arith, subst}
use Rattle.std.proofs.lemmas.Result.{err_from_is_err_and}
use Rattle.std.proofs.KnownBytes.{Consumes-nil, Consumes-trans, Consumes-kept}
use Rattle.globset.specs.SetValue.{set_globs}
use Rattle.globsift.proofs.lemmas.Sifting.{SiftFails-fails, SiftFails-start, end_result, err_part, ok_part, Consumes-is, read_back}
use Rattle.globsift.proofs.lemmas.Handling.{Handles-pending_fails, Handles-drained, Handles-trans, Handles-fails, Handles-begin, Handles-written}
use Rattle.globsift.proofs.sifting.sift.Goals as goal

pub returns-in_err-chunk-clause-err : goal.returns-in_err-chunk-clause-err
returns-in_err-chunk-clause-err g c =
    let p = err_from_is_err_and c.from_residual.result c.from_residual.ensures.1 in
    rw p.1 (SiftFails-start (set_globs c.args.set.now) c.args.numbered (g.R.Read.remaining c.args.reader.now) (g.W.Write.contents c.args.writer.now) p.0 p.2)

pub returns-in_err-sifter-clause-err : goal.returns-in_err-sifter-clause-err
returns-in_err-sifter-clause-err g c =
    let p = err_from_is_err_and c.from_residual-in_err-sifter.result c.from_residual-in_err-sifter.ensures.1 in
    rw p.1 (SiftFails-start (set_globs c.args.set.now) c.args.numbered (g.R.Read.remaining c.args.reader.now) (g.W.Write.contents c.args.writer.now) p.0 p.2)

pub loop-init : goal.loop-init
loop-init g c = (
  [],
  Consumes-nil _,
  Handles-begin _ _ _ _ _ _ c.in_ok-sifter.ensures.rest c.in_ok-sifter.ensures.empty c.in_ok-sifter.ensures.unwritten,
  omega (arith, c.in_ok-chunk.ensures),
  c.in_ok-sifter.ensures.set,
  c.in_ok-sifter.ensures.numbered,
)

pub returns-in-Err-clause-err : goal.returns-in-Err-clause-err
returns-in-Err-clause-err g c =
    let i = c.loop.invariant in (
      i.0,
      Consumes-kept _ _ _ _ i.1 c.in-Err.ensures.bytes,
      Handles-drained _ _ _ _ _ _ _ _ _ _ _ i.2 c.in_ok-write_pending.ensures.0 c.in_ok-write_pending.ensures.1,
    )

pub finish-requires : goal.finish-requires
finish-requires g c = c.loop.invariant.2.no_lf

pub returns-then-n-eq0-clause-ok : goal.returns-then-n-eq0-clause-ok
returns-then-n-eq0-clause-ok g c =
    let i = c.loop.invariant in
    let filled : 0 < length c.read.new.buf = omega (arith, c.read.auto.buf, c.as_mut_slice.ensures.len, c.loop.chunk.ok.0) in
    ok_part _ _ c.finish.result (end_result _ _ i.0 (take c.in-Ok.n c.read.new.buf) _ c.loop.sifter.rest.items _ _ _ _ _ _ _ _ c.finish.result i.1 c.in-Ok.ensures.bytes.0
    (ap (λ k. take k c.read.new.buf) c.if-n-eq0.true) (c.in-Ok.ensures.bytes.1 c.if-n-eq0.true filled) (Handles-written _ _ _ _ _ _ _ _ _ _ _ _ c.loop.invariant.2 c.in_ok-write_pending.ensures.0) refl (rw (i.4, i.5) at c.finish.ensures))

pub returns-then-n-eq0-clause-err : goal.returns-then-n-eq0-clause-err
returns-then-n-eq0-clause-err g c =
    let i = c.loop.invariant in
    let filled : 0 < length c.read.new.buf = omega (arith, c.read.auto.buf, c.as_mut_slice.ensures.len, c.loop.chunk.ok.0) in
    err_part _ _ c.finish.result (end_result _ _ i.0 (take c.in-Ok.n c.read.new.buf) _ c.loop.sifter.rest.items _ _ _ _ _ _ _ _ c.finish.result i.1 c.in-Ok.ensures.bytes.0
    (ap (λ k. take k c.read.new.buf) c.if-n-eq0.true) (c.in-Ok.ensures.bytes.1 c.if-n-eq0.true filled) (Handles-written _ _ _ _ _ _ _ _ _ _ _ _ c.loop.invariant.2 c.in_ok-write_pending.ensures.0) refl (rw (i.4, i.5) at c.finish.ensures))

pub slice_bounds-handle_chunk-end : goal.slice_bounds-handle_chunk-end
slice_bounds-handle_chunk-end g c =
    let back : c.deref.result.now ≡ c.read.new.buf = read_back c.loop.chunk.len c.read.new.buf (drop (length c.read.new.buf) c.loop.chunk.items) _ (omega (arith, c.read.auto.buf, c.as_mut_slice.ensures.len, c.loop.chunk.ok.0)) c.deref.ensures.value in
    c.in-Ok.ensures.bound.1 ∙ ap (λ (l : List ℕ). length (take c.in-Ok.n l)) (sym back)

pub handle_chunk-requires : goal.handle_chunk-requires
handle_chunk-requires g c = c.loop.invariant.2.no_lf

pub returns-in_err-handle_chunk-clause-err : goal.returns-in_err-handle_chunk-clause-err
returns-in_err-handle_chunk-clause-err g c =
    let i = c.loop.invariant in
    let back : c.deref.result.now ≡ c.read.new.buf = read_back c.loop.chunk.len c.read.new.buf (drop (length c.read.new.buf) c.loop.chunk.items) _ (omega (arith, c.read.auto.buf, c.as_mut_slice.ensures.len, c.loop.chunk.ok.0)) c.deref.ensures.value in
    let p = err_from_is_err_and c.from_residual-in_err-handle_chunk.result c.from_residual-in_err-handle_chunk.ensures.1 in
    rw (p.1, p.2) (SiftFails-fails _ _ (i.0 ++ take c.in-Ok.n c.deref.result.now) _ _ _ _ c.in_err-handle_chunk.field-0.0
    (Consumes-trans _ _ _ _ _ i.1 (Consumes-is _ _ _ _ (ap (λ (l : List ℕ). take c.in-Ok.n l) back) c.in-Ok.ensures.bytes.0))
    (Handles-fails _ _ _ _ _ _ _ _ _ _ _ _ _ (Handles-written _ _ _ _ _ _ _ _ _ _ _ _ c.loop.invariant.2 c.in_ok-write_pending.ensures.0) (rw (i.4, i.5) at c.in_err-handle_chunk.ensures.done)))

pub loop-preserved : goal.loop-preserved
loop-preserved g c =
    let i = c.loop.invariant in
    let equivalent = c.handle_chunk.ensures.equivalent in
    let same : length c.read.new.buf ≡ c.loop.chunk.len = omega (arith, c.read.auto.buf, c.as_mut_slice.ensures.len, c.loop.chunk.ok.0) in
    let back : c.deref.result.now ≡ c.read.new.buf = read_back c.loop.chunk.len c.read.new.buf (drop (length c.read.new.buf) c.loop.chunk.items) _ same c.deref.ensures.value in (
      i.0 ++ take c.in-Ok.n c.deref.result.now,
      Consumes-trans _ _ _ _ _ i.1 (Consumes-is _ _ _ _ (ap (λ (l : List ℕ). take c.in-Ok.n l) back) c.in-Ok.ensures.bytes.0),
      Handles-trans _ _ _ _ _ _ _ _ _ _ _ _ _ _ _ (Handles-written _ _ _ _ _ _ _ _ _ _ _ _ c.loop.invariant.2 c.in_ok-write_pending.ensures.0) (rw (i.4, i.5) at c.in_ok-handle_chunk.ensures.done),
      subst (λ (k : ℕ). 0 < k) (sym (ap (λ (l : List ℕ). length l) (read_back c.loop.chunk.len c.read.new.buf (drop (length c.read.new.buf) c.loop.chunk.items) _ same refl) ∙ same ∙ c.loop.chunk.ok.0)) i.3,
      equivalent.0 ∙ i.4,
      equivalent.1 ∙ i.5,
    )

pub returns-in_err-write_pending-clause-err : goal.returns-in_err-write_pending-clause-err
returns-in_err-write_pending-clause-err g c =
    let i = c.loop.invariant in
    let p = err_from_is_err_and c.from_residual-in_err-write_pending.result c.from_residual-in_err-write_pending.ensures.1 in
    rw (p.1, p.2) (SiftFails-fails _ _ i.0 _ _ _ _ c.in_err-write_pending.field-0.0 i.1
    (Handles-pending_fails _ _ _ _ _ _ _ _ _ _ _ _ i.2 c.in_err-write_pending.ensures))

pub returns-in_err-write_pending-2-clause-err : goal.returns-in_err-write_pending-2-clause-err
returns-in_err-write_pending-2-clause-err g c =
    let i = c.loop.invariant in
    let p = err_from_is_err_and c.from_residual-in_err-write_pending-2.result c.from_residual-in_err-write_pending-2.ensures.1 in
    rw (p.1, p.2) (SiftFails-fails _ _ i.0 _ _ _ _ c.in_err-write_pending-2.field-0.0 i.1
    (Handles-pending_fails _ _ _ _ _ _ _ _ _ _ _ _ i.2 c.in_err-write_pending-2.ensures))

pub returns-clause-err : goal.returns-clause-err
returns-clause-err g c =
    let i = c.loop.invariant in (
      i.0,
      i.1,
      Handles-drained _ _ _ _ _ _ _ _ _ _ _ i.2 c.in_ok-write_pending-2.ensures.0 c.in_ok-write_pending-2.ensures.1,
    )
