-- The indexes under the nodes of a tree.
use Rattle.std.specs.Prelude.{◌≡◌, ℕ, ◌+◌, ◌<◌, ◌≤◌, ◌==◌, cond, List, [], ◌∷◌, ◌++◌, Option, Some, None, length, drop, slice_index_or, slice_range}
use Rattle.std.specs.List.Sorted.{IsStrictlyIncreasing}
use Rattle.glob_path.specs.declared.tree.Node.{Node}
use Rattle.glob_path.specs.declared.tree.Tree.{Tree}

-- the place of a byte in a list, counted from c on
abbrev pub place_in : List ℕ → ℕ → ℕ → Option ℕ
place_in [] c b = None
place_in (x ∷ xs) c b = cond (x == b) (Some c) (place_in xs (c + 1) b)

-- the node of the number s; past the last there are no bytes, no edges and no indexes
abbrev pub node_of : List Node → ℕ → Node
node_of ns s = slice_index_or ns s (record { run = 0; run_end = 0; edges = 0; edges_end = 0; indexes = 0; indexes_end = 0 })

-- the run of a node: the bytes that a text goes on with before the node's indexes and edges count
abbrev pub run_of : List Node → List ℕ → ℕ → List ℕ
run_of ns runs s = slice_range runs (node_of ns s).run (node_of ns s).run_end

-- the bytes of the edges of a node
abbrev pub edges_of : List Node → List ℕ → ℕ → List ℕ
edges_of ns bytes s = slice_range bytes (node_of ns s).edges (node_of ns s).edges_end

-- the indexes of a node
abbrev pub held_of : List Node → List ℕ → ℕ → List ℕ
held_of ns indexes s = slice_range indexes (node_of ns s).indexes (node_of ns s).indexes_end

-- the child of a node by a byte: the edge k leads to the node k + 1
abbrev pub child_of : List Node → List ℕ → ℕ → ℕ → Option ℕ
child_of ns bytes s b = place_in (edges_of ns bytes s) ((node_of ns s).edges + 1) b

abbrev pub follow : {X : Type 0} → Option X → (X → List ℕ) → List ℕ
follow None f = []
follow (Some c) f = f c

abbrev pub node_count : Tree → ℕ
node_count t = length t.nodes.items

abbrev pub child_at : Tree → ℕ → ℕ → Option ℕ
child_at t s b = child_of t.nodes.items t.bytes.items s b

abbrev pub held_at : Tree → ℕ → List ℕ
held_at t s = held_of t.nodes.items t.indexes.items s

abbrev pub run_at : Tree → ℕ → List ℕ
run_at t s = run_of t.nodes.items t.runs.items s

-- the indexes that a text leads to from the node s, if rs is left of its run
abbrev pub under_rest : Tree → ℕ → List ℕ → List ℕ → List ℕ
under_rest t s [] [] = held_at t s
under_rest t s [] (b ∷ w) = follow (child_at t s b) (λ c. under_rest t c (run_at t c) w)
under_rest t s (r ∷ rs) [] = []
under_rest t s (r ∷ rs) (b ∷ w) = cond (r == b) (under_rest t s rs w) []

-- the indexes that a text leads to from the node s
abbrev pub under : Tree → ℕ → List ℕ → List ℕ
under t s w = under_rest t s (run_at t s) w

-- the rest of a text after a run that it begins with
abbrev pub after_run : List ℕ → List ℕ → Option (List ℕ)
after_run [] w = Some w
after_run (r ∷ rs) [] = None
after_run (r ∷ rs) (b ∷ w) = cond (r == b) (after_run rs w) None

-- what f gives for that rest; nothing for a text that does not begin with the run
abbrev pub past : List ℕ → (List ℕ → List ℕ) → List ℕ → List ℕ
past run f w = follow (after_run run w) f

-- the path goes on with the run at a place, and end is the place after it
abbrev pub HasRun : List ℕ → List ℕ → ℕ → ℕ → Type 0
HasRun run path at end = (after_run run (drop at path) ≡ Some (drop end path)) × (end ≡ at + length run)

-- the path does not go on with the run at a place
abbrev pub HasNoRun : List ℕ → List ℕ → ℕ → Type 0
HasNoRun run path at = after_run run (drop at path) ≡ None

-- what f gives for each beginning of a path, the shortest first
abbrev pub along : (List ℕ → List ℕ) → List ℕ → List ℕ
along f [] = f []
along f (b ∷ p) = f [] ++ along (λ x. f (b ∷ x)) p

-- the ranges of a node lie in the lists, and the bytes of its edges ascend
pub record IsNode (runs bytes held : List ℕ) (n : Node) : Type 0 where
  pub run : n.run ≤ n.run_end
  pub run_end : n.run_end ≤ length runs
  pub edges : n.edges ≤ n.edges_end
  pub edges_end : n.edges_end ≤ length bytes
  pub indexes : n.indexes ≤ n.indexes_end
  pub indexes_end : n.indexes_end ≤ length held
  pub rising : IsStrictlyIncreasing (slice_range bytes n.edges n.edges_end)

-- the invariant of each tree
pub record IsTree (t : Tree) : Type 0 where
  pub nodes : (s : ℕ) → s < node_count t → IsNode t.runs.items t.bytes.items t.indexes.items (node_of t.nodes.items s)
  pub edges : length t.bytes.items + 1 ≡ node_count t
