use Rattle.std.proofs.Common.{◌≡◌, ℕ, ◌+◌, ◌≤◌, ◌⊎◌, drop, length, slice_index, IsTrue}
use Rattle.std.specs.Prelude.{◌↔◌}
use Rattle.bit_sets.specs.Indexes.{has_index, index_capacity}
use Rattle.byte_nfa.specs.EarlyMatches.{half, FindsBy}
use Rattle.lazy_dfa.specs.inner.Rows.{IsAt, AcceptsRow, HasTold}
use Rattle.bit_sets.specs.Indexes.{AreFound}
use Rattle.lazy_dfa.proofs.rows.Rows.find_from.Given as goal

abbrev pub invariant-loop-byte : goal.invariant-loop-byte
invariant-loop-byte l =
    let d = l.dfa in
    let m = d.run in
    record {
      at : l.at ≡ l.byte-index;
      room : index_capacity l.found ≡ index_capacity l.fn.found;
      kept : (k : ℕ) → IsTrue (has_index l.fn.found k) → IsTrue (has_index l.found k);
      runs : (j : ℕ) × IsAt d l.self j l.place × ((i : ℕ) → IsAt d l.self i l.fn.place → (k : ℕ) → (FindsBy (half m) (AcceptsRow m l.self j) (drop l.byte-index l.text) k ⊎ IsTrue (has_index l.found k)) ↔ (FindsBy (half m) (AcceptsRow m l.self i) l.text k ⊎ IsTrue (has_index l.fn.found k)));
      slots : length l.told ≡ 16;
      told : (s p : ℕ) → slice_index l.told s ≡ p + 1 → (j : ℕ) → IsAt d l.self j p → HasTold m l.self j l.found;
      count : AreFound l.indexes l.count l.found;
      visits : l.visits ≤ l.fn.visits + l.byte-index;
      counted : l.fn.visits ≤ l.visits;
    }
