use Rattle.std.proofs.Common.{◌+◌, true≢false, arith, sym, ◌∙◌}
use Rattle.bit_sets.specs.Indexes.{has_index}
use Rattle.byte_nfa.specs.EarlyMatches.{half}
use Rattle.lazy_dfa.proofs.lemmas.Rows.{in_range}
use Rattle.lazy_dfa.proofs.rows.Rows.finish.Goals as goal

pub write-requires-clause-entry : goal.write-requires-clause-entry
write-requires-clause-entry c =
    let d = c.args.dfa.now in
    let h = half d.run in
    let none = in_range 0 (h + h) (has_index c.read_row.new.pass.ends) _ c.is_some.result c.is_some.ensures (rw c.half-half.ensures at c.next_below.ensures) in
    record {
      byte = λ b byte class. absurd (let short = (c.requires.sound.dfa.classes b byte).0 in omega (arith, short, class, c.class_count.ensures.count));
      end = λ _. record {
        none = λ _ k lt a. true≢false (sym (none.1 (k, omega arith, lt, (c.read_row.ensures.ends k lt).1 a)) ∙ c.if-is_some.false);
        some = λ known. absurd (omega (arith, known));
        listed = λ known. absurd (omega (arith, known));
      };
    }

pub returns-clause-some : goal.returns-clause-some
returns-clause-some c = λ i (lt, is).
    let h = half c.args.dfa.now.run in
    let none = in_range 0 (h + h) (has_index c.read_row.new.pass.ends) _ c.is_some.result c.is_some.ensures (rw c.half-half.ensures at c.next_below.ensures) in
    rw (sym (c.row_at-row.ensures i is)) (λ t. absurd (true≢false (sym t)), λ (k, lt, a). absurd (true≢false (sym (none.1 (k, omega arith, lt, (c.read_row.ensures.ends k lt).1 a)) ∙ c.if-is_some.false)))
