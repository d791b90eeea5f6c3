-- Pools can be sent to other threads, and shared between them.
use denote.RattleType.{RattleType}
use denote.Param.Send.{IsSend, IsSync, sendable}
use Rattle.std.proofs.Crossing.{crosses}
use Rattle.engine.specs.contracts.pool.Pool as Pool
use Rattle.counted_slot.proofs.Counted.TheSendSync.{the_send, the_sync}
use Rattle.counted_slot.specs.declared.Fits.{Ghosts}

pub pool-send : (T G : RattleType) (g : Ghosts T.Denot G.Denot) → IsSend T → IsSend (Pool.the_row T G g)
pool-send T G g s = search (sendable, crosses, the_send) depth 40 fits 20000

pub pool-sync : (T G : RattleType) (g : Ghosts T.Denot G.Denot) → IsSend T → IsSync T → IsSync (Pool.the_row T G g)
pool-sync T G g s y = search (sendable, crosses, the_sync) depth 40 fits 20000
