-- Caches can be sent to other threads, and shared between them.
use denote.Param.Send.{IsSend, IsSync, sendable}
use Rattle.std.proofs.Crossing.{crosses}
use Rattle.lazy_dfa.specs.contracts.cache.Cache as Cache

pub cache-send : IsSend Cache.the_field.row
cache-send = search (sendable, crosses) depth 40 fits 20000

pub cache-sync : IsSync Cache.the_field.row
cache-sync = search (sendable, crosses) depth 40 fits 20000
