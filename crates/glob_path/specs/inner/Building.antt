-- The meaning of an unfinished tree.
use Rattle.std.specs.Prelude.{◌≡◌, ℕ, ◌+◌, ◌<◌, ◌≤◌, ◌==◌, ◌⊎◌, cond, List, [], ◌∷◌, ◌++◌, Option, length, map, drop, slice_get, slice_index_or, slice_range}
use Rattle.std.specs.List.{AllWithin, AllByRecursion}
use Rattle.std.specs.List.Sorted.{IsStrictlyIncreasing}
use Rattle.glob_path.specs.Entries.{Entry, entry, indexes_under}
use Rattle.glob_path.specs.declared.trie.Text.{Text}
use Rattle.glob_path.specs.declared.tree.Node.{Node}
use Rattle.glob_path.specs.declared.tree.Tree.{Tree}
use Rattle.glob_path.specs.declared.tree.Span.{Span}
use Rattle.glob_path.specs.Texts.{entry_of}
use Rattle.glob_path.specs.inner.Nodes.{node_of, run_of, held_of, child_of, follow, past, node_count, IsNode}

-- a text without its first bytes
abbrev pub rest_of : ℕ → Text → Entry
rest_of depth t = entry (drop depth t.bytes.items) t.index

-- the byte that a text goes on with
abbrev pub next_of : ℕ → Text → Option ℕ
next_of depth t = slice_get t.bytes.items depth

-- the rests of the texts of a span
abbrev pub rests : List Text → ℕ → ℕ → ℕ → List Entry
rests texts depth from to = map (rest_of depth) (slice_range texts from to)

abbrev pub rests_of : List Text → Span → List Entry
rests_of texts s = rests texts s.depth s.from s.to

-- the first text is not after the second
abbrev pub IsUpTo : List ℕ → List ℕ → Type 0
IsUpTo [] ys = Unit {0}
IsUpTo (x ∷ xs) [] = ⊥
IsUpTo (x ∷ xs) (y ∷ ys) = (x < y) ⊎ ((x ≡ y) × IsUpTo xs ys)

-- the rests of a range of texts after the first bytes are in order
abbrev pub IsOrdered : List Text → ℕ → ℕ → ℕ → Type 0
IsOrdered texts depth from to =
    (i j : ℕ) (d e : Text) → from ≤ i → i ≤ j → j < to → IsUpTo (drop depth (slice_index_or texts i d).bytes.items) (drop depth (slice_index_or texts j e).bytes.items)

-- no text is longer
abbrev pub AreWithin : ℕ → List Text → Type 0
AreWithin longest texts = AllWithin (λ t. length t.bytes.items ≤ longest) texts 0 (length texts)

-- a span of ordered texts, for a node after at least so many bytes, which the longest text has
pub record IsSpan (texts : List Text) (least : ℕ) (s : Span) : Type 0 where
  pub from : s.from ≤ s.to
  pub to : s.to ≤ length texts
  pub late : least ≤ s.depth
  pub deep : (longest : ℕ) → AreWithin longest texts → s.depth ≤ longest
  pub ordered : IsOrdered texts s.depth s.from s.to

abbrev pub AreSpans : List Text → ℕ → List Span → Type 0
AreSpans texts least ss = AllByRecursion (IsSpan texts least) ss

-- the indexes under a text, in the span that its first byte leads to
abbrev pub picked : List Text → List ℕ → List Span → ℕ → List ℕ → List ℕ
picked texts [] ss b w = []
picked texts (x ∷ xs) [] b w = []
picked texts (x ∷ xs) (s ∷ ss) b w = cond (x == b) (indexes_under (rests_of texts s) w) (picked texts xs ss b w)

-- bytes in ascending order, and for each the texts of a span that go on with it
pub record IsSplit (texts : List Text) (least : ℕ) (es : List Entry) (bs : List ℕ) (ss : List Span) : Type 0 where
  pub len : length bs ≡ length ss
  pub rising : IsStrictlyIncreasing bs
  pub picks : (b : ℕ) (w : List ℕ) → picked texts bs ss b w ≡ indexes_under es (b ∷ w)
  pub spans : AreSpans texts least ss

-- the bytes and spans of a span were added to others
abbrev pub AddsSplit : List Text → Span → List ℕ → List ℕ → List Span → List Span → Type 0
AddsSplit texts span bytes bytes' spans spans' = (bs : List ℕ) × (ss : List Span) × (bytes' ≡ bytes ++ bs) × (spans' ≡ spans ++ ss) × IsSplit texts (span.depth + 1) (rests_of texts span) bs ss

-- the texts of a span go on with a run, and then as those of the other span
abbrev pub ShareRun : List Text → Span → List ℕ → Span → Type 0
ShareRun texts s run t = (w : List ℕ) → indexes_under (rests_of texts s) w ≡ past run (indexes_under (rests_of texts t)) w

-- the bytes that all texts of a span go on with were added to others, and leave the other span
abbrev pub AddsRun : List Text → ℕ → Span → List ℕ → List ℕ → Span → Type 0
AddsRun texts least s runs runs' t = (run : List ℕ) × (runs' ≡ runs ++ run) × ShareRun texts s run t × IsSpan texts least t

-- the additions for a span: its run, edges, their targets, and a node
pub record IsAdded (texts : List Text) (least : ℕ) (s : Span) (old new : Tree) (next_old next_new : List Span) : Type 0 where
  pub run : List ℕ
  pub after : Span
  pub bytes : List ℕ
  pub spans : List Span
  pub node : Node
  pub new_runs : new.runs.items ≡ old.runs.items ++ run
  pub new_bytes : new.bytes.items ≡ old.bytes.items ++ bytes
  pub new_nodes : new.nodes.items ≡ old.nodes.items ++ node ∷ []
  pub new_indexes : new.indexes.items ≡ old.indexes.items
  pub new_spans : next_new ≡ next_old ++ spans
  pub run_start : node.run ≡ length old.runs.items
  pub run_end : node.run_end ≡ length old.runs.items + length run
  pub edges : node.edges ≡ length old.bytes.items
  pub edges_end : node.edges_end ≡ length old.bytes.items + length bytes
  pub indexes : node.indexes ≤ node.indexes_end
  pub indexes_end : node.indexes_end ≤ length texts
  pub shared : ShareRun texts s run after
  pub held : slice_range (map (λ t. t.index) texts) node.indexes node.indexes_end ≡ indexes_under (rests_of texts after) []
  pub split : IsSplit texts (least + 1) (rests_of texts after) bytes spans

-- the list of the node s
abbrev pub lists_at : List (List Entry) → ℕ → List Entry
lists_at g s = slice_index_or g s []

-- each node stands for its list: the list goes on with its run and then as the list after it, and the node has the indexes
-- of the empty rests of that, and edges for the others
pub record IsSound (ns : List Node) (runs bytes indexes : List ℕ) (afters g : List (List Entry)) : Type 0 where
  pub nodes : (s : ℕ) → s < length ns → IsNode runs bytes indexes (node_of ns s)
  pub shared : (s : ℕ) (w : List ℕ) → s < length ns → indexes_under (lists_at g s) w ≡ past (run_of ns runs s) (indexes_under (lists_at afters s)) w
  pub held : (s : ℕ) → s < length ns → held_of ns indexes s ≡ indexes_under (lists_at afters s) []
  pub step : (s b : ℕ) (w : List ℕ) → s < length ns → follow (child_of ns bytes s b) (λ c. indexes_under (lists_at g c) w) ≡ indexes_under (lists_at afters s) (b ∷ w)
  pub total : length bytes + 1 ≡ length g

-- the tree's nodes stand for lists, and the lists of later nodes are pending; the root stands for all texts
pub record Stands (texts : List Text) (t : Tree) (pending : List (List Entry)) : Type 0 where
  pub done : List (List Entry)
  pub afters : List (List Entry)
  pub counted : length done ≡ node_count t
  pub paired : length afters ≡ node_count t
  pub indexes : t.indexes.items ≡ map (λ t. t.index) texts
  pub root : lists_at (done ++ pending) 0 ≡ map entry_of texts
  pub sound : IsSound t.nodes.items t.runs.items t.bytes.items t.indexes.items afters (done ++ pending)
