use denote.Param.Send.{sendable}
use Rattle.globset.proofs.lemmas.Shared.{glob_matcher-send, glob_matcher-sync, matcher_searcher-send, matcher_searcher-sync, set-send, set-sync, searcher-send, searcher-sync}
use Rattle.globset.proofs.laws.can_be_shared.Goals as goal

pub is_shared-requires-3-send-T : goal.is_shared-requires-3-send-T
is_shared-requires-3-send-T c κs = search (sendable, glob_matcher-send) depth 20

pub is_shared-requires-3-sync-T : goal.is_shared-requires-3-sync-T
is_shared-requires-3-sync-T c κs = search (sendable, glob_matcher-sync) depth 20

pub is_shared-requires-4-send-T : goal.is_shared-requires-4-send-T
is_shared-requires-4-send-T c κs = search (sendable, matcher_searcher-send) depth 20

pub is_shared-requires-4-sync-T : goal.is_shared-requires-4-sync-T
is_shared-requires-4-sync-T c κs = search (sendable, matcher_searcher-sync) depth 20

pub is_shared-requires-5-send-T : goal.is_shared-requires-5-send-T
is_shared-requires-5-send-T c κs = search (sendable, set-send) depth 20

pub is_shared-requires-5-sync-T : goal.is_shared-requires-5-sync-T
is_shared-requires-5-sync-T c κs = search (sendable, set-sync) depth 20

pub is_shared-requires-7-send-T : goal.is_shared-requires-7-send-T
is_shared-requires-7-send-T c κs = search (sendable, searcher-send) depth 20

pub is_shared-requires-7-sync-T : goal.is_shared-requires-7-sync-T
is_shared-requires-7-sync-T c κs = search (sendable, searcher-sync) depth 20
