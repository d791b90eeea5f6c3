use Rattle.std.proofs.Common.{ℕ, ◌+◌, ◌*◌, ◌≤◌, List, ◌++◌, length}
use Rattle.std.specs.Prelude.{◌↔◌}
use Rattle.byte_nfa.specs.Runs.{size}
use Rattle.byte_nfa.specs.Steps.{IsReached}
use Rattle.byte_nfa.specs.EarlyMatches.{half, FindsBy}
use Rattle.lazy_dfa.specs.inner.Rows.{HasRoomFor, IsSound, IsAt, AcceptsRow}
use Rattle.lazy_dfa.proofs.cache.read.Given as goal

abbrev pub invariant-loop-reached : goal.invariant-loop-reached
invariant-loop-reached l =
    let d = l.dfa in
    let m = d.run in
    let w = size m + 1 in
    record {
      sound : IsSound d l.rows;
      fits : HasRoomFor m l.pass;
      runs : (i : ℕ) × IsAt d l.rows i l.place × ((z : List ℕ) (k : ℕ) → FindsBy (half m) (AcceptsRow m l.rows i) (l.rest ++ z) k ↔ FindsBy (half m) (IsReached m) (l.text ++ z) k);
      visits : l.visits + length l.rest * w ≤ l.fn.visits + 1 + length l.text * w;
      counted : l.fn.visits ≤ l.visits;
    }

abbrev pub decreases-loop-reached : goal.decreases-loop-reached
decreases-loop-reached l = length l.rest
