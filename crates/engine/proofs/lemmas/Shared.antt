-- Automata and caches can be sent to other threads, and shared between them.
use denote.Param.Send.{IsSend, IsSync, sendable}
use Rattle.std.proofs.Crossing.{crosses}
use Rattle.boxcar.proofs.slot.OnceSlot.TheSendSync.{the_send, the_sync}
use Rattle.lazy_dfa.proofs.lemmas.Shared.{cache-send, cache-sync}
use Rattle.engine.proofs.lemmas.Pools.{pool-send, pool-sync}
use Rattle.engine.specs.contracts.compiled.Compiled as Compiled
use Rattle.engine.specs.contracts.kept.KeptCaches as KeptCaches
use Rattle.engine.specs.contracts.kept.Published as Published
use Rattle.engine.specs.contracts.rows.RowSource as RowSource

published-send : IsSend Published.the_field.row
published-send = search (sendable, crosses, the_send, cache-send) depth 40 fits 20000

published-sync : IsSync Published.the_field.row
published-sync = search (sendable, crosses, the_sync, cache-send, cache-sync) depth 40 fits 20000

kept-send : IsSend KeptCaches.the_field.row
kept-send = search (sendable, crosses, pool-send, published-send, cache-send) depth 40 fits 20000

kept-sync : IsSync KeptCaches.the_field.row
kept-sync = search (sendable, crosses, pool-sync, published-sync, cache-send, cache-sync) depth 40 fits 20000

source-send : IsSend RowSource.the_field.row
source-send = search (sendable, crosses, kept-send) depth 40 fits 20000

source-sync : IsSync RowSource.the_field.row
source-sync = search (sendable, crosses, kept-send, kept-sync) depth 40 fits 20000

pub compiled-send : IsSend Compiled.the_field.row
compiled-send = search (sendable, crosses, source-send) depth 40 fits 20000

pub compiled-sync : IsSync Compiled.the_field.row
compiled-sync = search (sendable, crosses, source-sync) depth 40 fits 20000
