-- Keys and groups can be sent to other threads, and shared between them.
use denote.Param.Send.{IsSend, IsSync, sendable}
use Rattle.std.proofs.Crossing.{crosses}
use Rattle.engine.proofs.lemmas.Shared.{compiled-send, compiled-sync}
use Rattle.glob_path.specs.contracts.table.Table as Table
use Rattle.glob_path.specs.contracts.trie.Trie as Trie
use Rattle.set_matcher.specs.contracts.folders.Folders as Folders
use Rattle.set_matcher.specs.contracts.literal_index.LiteralIndex as LiteralIndex
use Rattle.set_matcher.specs.contracts.automata.matchers.ExtensionMatchers as ExtensionMatchers
use Rattle.set_matcher.specs.contracts.automata.Automata as Automata
use Rattle.set_matcher.specs.contracts.matcher.SetMatcher as SetMatcher

table-send : IsSend Table.the_field.row
table-send = search (sendable, crosses) depth 40 fits 20000

table-sync : IsSync Table.the_field.row
table-sync = search (sendable, crosses) depth 40 fits 20000

trie-send : IsSend Trie.the_field.row
trie-send = search (sendable, crosses) depth 40 fits 20000

trie-sync : IsSync Trie.the_field.row
trie-sync = search (sendable, crosses) depth 40 fits 20000

folders-send : IsSend Folders.the_field.row
folders-send = search (sendable, crosses) depth 40 fits 20000

folders-sync : IsSync Folders.the_field.row
folders-sync = search (sendable, crosses) depth 40 fits 20000

keys-send : IsSend LiteralIndex.the_field.row
keys-send = search (sendable, table-send, trie-send, folders-send) depth 20

keys-sync : IsSync LiteralIndex.the_field.row
keys-sync = search (sendable, table-sync, trie-sync, folders-sync) depth 20

matchers-send : IsSend ExtensionMatchers.the_field.row
matchers-send = search (sendable, crosses, table-send, compiled-send) depth 20

matchers-sync : IsSync ExtensionMatchers.the_field.row
matchers-sync = search (sendable, crosses, table-sync, compiled-sync) depth 20

automata-send : IsSend Automata.the_field.row
automata-send = search (sendable, matchers-send, compiled-send) depth 20

automata-sync : IsSync Automata.the_field.row
automata-sync = search (sendable, matchers-sync, compiled-sync) depth 20

pub matcher-send : IsSend SetMatcher.the_field.row
matcher-send = search (sendable, crosses, keys-send, automata-send) depth 20

pub matcher-sync : IsSync SetMatcher.the_field.row
matcher-sync = search (sendable, crosses, keys-sync, automata-sync) depth 20
