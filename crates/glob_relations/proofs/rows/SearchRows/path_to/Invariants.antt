use Rattle.std.proofs.Common.{◌≡◌, ℕ, ◌+◌, ◌<◌, [], length}
use Rattle.std.specs.Prelude.{reverse}
use Rattle.bit_sets.specs.Texts.{AllBytes}
use Rattle.byte_nfa.specs.Steps.{NfaValue}
use Rattle.glob_relations.specs.declared.rows.SearchRow.{SearchRow}
use Rattle.glob_relations.specs.declared.search.Question.{Question}
use Rattle.glob_relations.specs.inner.Rows.{AreRows, HasRow, IsDeep, WantsRow}
use Rattle.glob_relations.proofs.rows.SearchRows.path_to.Given as goal

abbrev pub invariant-loop-at : goal.invariant-loop-at
invariant-loop-at l = record {
  within : l.at < length l.self.seen.keys;
  bytes : AllBytes (reverse l.path.items);
  deep : (depth : ℕ) → IsDeep l.self depth l.number → (d : ℕ) × IsDeep l.self d l.at × (d + length l.path.items ≡ depth);
  leads : (m : NfaValue) (n : Question) (row : SearchRow) → AreRows m n l.self → HasRow l.self l.number row → WantsRow m n row []
      → (p : SearchRow) × HasRow l.self l.at p × WantsRow m n p (reverse l.path.items);
}

abbrev pub decreases-loop-at : goal.decreases-loop-at
decreases-loop-at l = l.at
