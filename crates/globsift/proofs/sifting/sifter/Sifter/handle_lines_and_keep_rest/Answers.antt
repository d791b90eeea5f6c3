use Rattle.std.proofs.lemmas.Result.{err_from_is_err_and}
use Rattle.globsift.proofs.lemmas.Handling.{Handles-memory}
use Rattle.globsift.proofs.sifting.sifter.Sifter.handle_lines_and_keep_rest.Goals as goal

pub returns-in_err-extend_from_slice-clause-done : goal.returns-in_err-extend_from_slice-clause-done
returns-in_err-extend_from_slice-clause-done g c =
    let p = err_from_is_err_and c.from_residual-in_err-extend_from_slice.result c.from_residual-in_err-extend_from_slice.ensures.1 in
    rw p.1 (Handles-memory _ _ _ c.in_ok-tail.tail.now _ _ _ _ _ _ p.0 c.in_ok-tail.ensures.done p.2)
