-- Sets, matchers and searchers can be sent to other threads, and shared between them.
use denote.Param.Send.{IsSend, IsSync, sendable}
use Rattle.std.proofs.Crossing.{crosses}
use Rattle.globset_glob.specs.contracts.glob.Glob as Glob
use Rattle.globset_glob.specs.contracts.matcher.GlobMatcher as GlobMatcher
use Rattle.engine.proofs.lemmas.Shared.{compiled-send, compiled-sync}
use Rattle.lazy_dfa.proofs.lemmas.Shared.{cache-send, cache-sync}
use Rattle.set_matcher.proofs.lemmas.Shared.{matcher-send, matcher-sync}
use Rattle.globset_glob.specs.contracts.matcher.MatcherSearcher as MatcherSearcher
use Rattle.globset.specs.contracts.set.GlobSet as GlobSet
use Rattle.globset.specs.contracts.searcher.Searcher as Searcher

glob-send : IsSend Glob.the_field.row
glob-send = search (sendable, crosses) depth 40 fits 20000

glob-sync : IsSync Glob.the_field.row
glob-sync = search (sendable, crosses) depth 40 fits 20000

pub glob_matcher-send : IsSend GlobMatcher.the_row
glob_matcher-send = search (sendable, crosses, glob-send, compiled-send, compiled-sync) depth 40 fits 20000

pub glob_matcher-sync : IsSync GlobMatcher.the_row
glob_matcher-sync = search (sendable, crosses, glob-sync, compiled-send, compiled-sync) depth 40 fits 20000

pub set-send : IsSend GlobSet.the_row
set-send = search (sendable, crosses, matcher-send, matcher-sync) depth 20

pub set-sync : IsSync GlobSet.the_row
set-sync = search (sendable, crosses, matcher-send, matcher-sync) depth 20

matcher_inside-send : IsSend GlobMatcher.the_field.row
matcher_inside-send = search (sendable, crosses, glob-send, compiled-send, compiled-sync) depth 40 fits 20000

matcher_inside-sync : IsSync GlobMatcher.the_field.row
matcher_inside-sync = search (sendable, crosses, glob-sync, compiled-send, compiled-sync) depth 40 fits 20000

pub matcher_searcher-send : IsSend MatcherSearcher.the_row
matcher_searcher-send = search (sendable, crosses, matcher_inside-send, compiled-send, compiled-sync, cache-send) depth 40 fits 20000

pub matcher_searcher-sync : IsSync MatcherSearcher.the_row
matcher_searcher-sync = search (sendable, crosses, matcher_inside-sync, compiled-send, compiled-sync, cache-sync) depth 40 fits 20000

set_inside-send : IsSend GlobSet.the_field.row
set_inside-send = search (sendable, crosses, matcher-send, matcher-sync) depth 20

set_inside-sync : IsSync GlobSet.the_field.row
set_inside-sync = search (sendable, crosses, matcher-send, matcher-sync) depth 20

pub searcher-send : IsSend Searcher.the_row
searcher-send = search (sendable, crosses, set_inside-send, matcher-send, matcher-sync, cache-send) depth 40 fits 20000

pub searcher-sync : IsSync Searcher.the_row
searcher-sync = search (sendable, crosses, set_inside-sync, matcher-send, matcher-sync, cache-sync) depth 40 fits 20000
