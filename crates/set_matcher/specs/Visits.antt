-- How many visits a list of globs may make.
use Rattle.std.specs.Prelude.{ℕ, ◌+◌, ◌*◌}

-- The most visits for a path of n bytes: a lookup in each of four tables, n + 1 nodes in each of two tries, and at each of n + 1
-- positions the load. The load bounds the states of the globs that need an automaton, and three reads for each of these globs.
-- Other globs make no more visits, in any number.
abbrev pub visits_for : ℕ → ℕ → ℕ
visits_for n load = 4 + 2 * (n + 1) + (n + 1) * load

-- The most visits for a folder of n bytes: a lookup in a list of keys, n + 1 nodes of a trie, and at each of n + 2 positions the
-- states of the globs that are not direct. The positions are the folder's and its `/`.
abbrev pub visits_below_for : ℕ → ℕ → ℕ
visits_below_for n load = 4 + 2 * (n + 2) + (n + 2) * load
