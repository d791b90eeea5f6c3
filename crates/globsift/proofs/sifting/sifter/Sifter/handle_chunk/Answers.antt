use Rattle.std.proofs.Common.{◌++◌, ◌∙◌, take}
use Rattle.std.proofs.lemmas.Result.{err_from_is_err_and}
use Rattle.globsift.proofs.lemmas.Chunks.{chunk_kept, chunk_fails, chunk_result}
use Rattle.globsift.proofs.sifting.sifter.Sifter.handle_chunk.Goals as goal

pub returns-in_default-clause-done : goal.returns-in_default-clause-done
returns-in_default-clause-done g c =
    chunk_kept _ _ _ c.args.chunk.now _ _ _ _ _ c.requires c.in_default.is c.memchr.ensures c.in_ok-extend_from_slice.ensures.items

pub returns-in_err-handle_line-clause-done : goal.returns-in_err-handle_line-clause-done
returns-in_err-handle_line-clause-done g c =
    let p = err_from_is_err_and c.from_residual-in_err-handle_line.result c.from_residual-in_err-handle_line.ensures.1 in
    rw (p.1, p.2) (chunk_fails _ _ c.args.self.now.rest.items c.args.chunk.now c.as_slice.result.now c.in-Some.i _ _ _ _ c.requires c.in-Some.ensures
    (◌∙◌ {c = c.args.self.now.rest.items ++ take c.in-Some.i c.args.chunk.now} c.as_slice.ensures.value c.in_ok-extend_from_slice-2.ensures.items) c.in_err-handle_line.ensures.done)

pub returns-clause-done : goal.returns-clause-done
returns-clause-done g c =
    let line = ◌∙◌ {c = c.args.self.now.rest.items ++ take c.in-Some.i c.args.chunk.now} c.as_slice.ensures.value c.in_ok-extend_from_slice-2.ensures.items in
    let put = c.in_ok-handle_line.ensures.done in
    let equivalent = c.handle_line.ensures.equivalent in
    chunk_result _ _ c.args.self.now.rest.items c.args.chunk.now c.as_slice.result.now _ c.in-Some.i _ _ _ _ _ _ _ _ _ c.handle_lines_and_keep_rest-2.result c.requires c.in-Some.ensures line put.0 put.1 (rw (equivalent.0, equivalent.1) at c.handle_lines_and_keep_rest-2.ensures.done)
