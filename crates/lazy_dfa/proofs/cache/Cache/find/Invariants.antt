use Rattle.std.proofs.Common.{◌≡◌, ℕ, ◌+◌, ◌*◌, ◌≤◌, ◌⊎◌, IsTrue, length}
use Rattle.std.specs.Prelude.{◌↔◌}
use Rattle.bit_sets.specs.Indexes.{has_index, index_capacity}
use Rattle.byte_nfa.specs.Runs.{size}
use Rattle.byte_nfa.specs.Steps.{IsReached}
use Rattle.byte_nfa.specs.EarlyMatches.{half, FindsBy}
use Rattle.lazy_dfa.specs.inner.Rows.{HasRoomFor, IsSound, IsAt, AcceptsRow}
use Rattle.lazy_dfa.proofs.cache.Cache.find.Given as goal

abbrev pub invariant-loop-left : goal.invariant-loop-left
invariant-loop-left l =
    let d = l.dfa in
    let m = d.run in
    let w = size m + 1 in
    record {
      sound : IsSound d l.rows;
      fits : HasRoomFor m l.pass;
      room : index_capacity l.found ≡ index_capacity l.fn.found;
      runs : (i : ℕ) × IsAt d l.rows i l.place × ((k : ℕ) → (FindsBy (half m) (AcceptsRow m l.rows i) l.rest k ⊎ IsTrue (has_index l.found k)) ↔ (FindsBy (half m) (IsReached m) l.text k ⊎ IsTrue (has_index l.fn.found k)));
      visits : l.visits + length l.rest * w ≤ l.fn.visits + 1 + length l.text * w;
      counted : l.fn.visits ≤ l.visits;
    }

abbrev pub decreases-loop-left : goal.decreases-loop-left
decreases-loop-left l = length l.rest
