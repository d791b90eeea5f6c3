use Rattle.std.proofs.Common.{◌≡◌, ℕ, ◌+◌, ◌≤◌, List, ◌++◌, drop}
use Rattle.std.specs.Prelude.{◌↔◌}
use Rattle.byte_nfa.specs.EarlyMatches.{half, FindsBy}
use Rattle.lazy_dfa.specs.inner.Rows.{IsAt, AcceptsRow}
use Rattle.lazy_dfa.proofs.rows.Rows.read_from.Given as goal

abbrev pub invariant-loop-byte : goal.invariant-loop-byte
invariant-loop-byte l =
    let d = l.dfa in
    let m = d.run in
    record {
      at : l.at ≡ l.byte-index;
      runs : (j : ℕ) × IsAt d l.self j l.place × ((i : ℕ) → IsAt d l.self i l.fn.place → (z : List ℕ) (k : ℕ) → FindsBy (half m) (AcceptsRow m l.self j) (drop l.byte-index l.text ++ z) k ↔ FindsBy (half m) (AcceptsRow m l.self i) (l.text ++ z) k);
      visits : l.visits ≤ l.fn.visits + l.byte-index;
      counted : l.fn.visits ≤ l.visits;
    }
