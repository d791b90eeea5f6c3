use Rattle.std.proofs.lemmas.Result.{err_from_is_err_and}
use Rattle.std.proofs.KnownBytes.{Appends-kept}
use Rattle.globsift.proofs.lemmas.Written.{FailsMidway-pending, Appends-drained, AppendsPrefix-all}
use Rattle.globsift.proofs.sifting.sifter.Sifter.finish.Goals as goal

pub returns-in_err-write_pending : goal.returns-in_err-write_pending
returns-in_err-write_pending g c =
    let p = err_from_is_err_and c.from_residual-in_err-write_pending.result c.from_residual-in_err-write_pending.ensures.1 in
    rw (p.1, p.2) (FailsMidway-pending _ _ _ _ _ _ c.in_ok-handle_rest.ensures.0 c.in_err-write_pending.ensures)

pub returns-in-Err : goal.returns-in-Err
returns-in-Err g c =
    AppendsPrefix-all _ _ _ (Appends-kept _ _ _ _ (Appends-drained _ _ _ _ _ _ c.in_ok-handle_rest.ensures.0 c.in_ok-write_pending.ensures.0 c.in_ok-write_pending.ensures.1) c.flush.ensures.bytes)
