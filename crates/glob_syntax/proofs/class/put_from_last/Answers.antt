use Rattle.std.proofs.Common.{◌-◌, ◌&&◌, length, take, slice_index}
use Rattle.std.specs.Prelude.{nat_le}
use Rattle.glob_syntax.specs.ClassBytes.{is_one_of, is_from_last}
use Rattle.glob_syntax.proofs.lemmas.Classes.{from_last_is, puts_both}
use Rattle.glob_syntax.proofs.class.put_from_last.Goals as goal

pub returns-in-len1-up : goal.returns-in-len1-up
returns-in-len1-up c =
    let bytes = c.args.bytes.now in
    let last = slice_index bytes (length bytes - 1) in
    let upper = c.args.upper in
    puts_both (λ b. is_one_of b (take (length bytes - 1) bytes)) (λ b. nat_le last b && nat_le b upper) (λ b. is_from_last b bytes upper) c.args.table.now c.put_all.new.table c.put_span.new.table
    c.put_all.ensures c.put_span.ensures (λ b. from_last_is b bytes upper c.in-len1-up.len_at_least)
