use Rattle.std.proofs.Common.{◌≡◌, ◌≤◌, ◌-◌, length, length-drop, take, drop, slice_index, arith}
use Rattle.std.specs.Prelude.{encode_utf8}
use Rattle.std.proofs.lemmas.List.{take_all}
use Rattle.std.proofs.lemmas.Bool.Decides.{nat_tests}
use Rattle.glob_syntax.specs.ClassBytes.{is_one_of, is_from_last, range_has}
use Rattle.glob_syntax.proofs.lemmas.Classes.{range_is, puts_both}
use Rattle.glob_syntax.proofs.class.put_range.Goals as goal

pub returns-in-len1-up : goal.returns-in-len1-up
returns-in-len1-up c =
    let first = encode_utf8 c.args.range.0 in
    let second = encode_utf8 c.args.range.1 in
    let first_is : c.as_bytes-first.result.now ≡ first = cc (c.as_bytes-first.ensures.value, c.encode_utf8.ensures.value) in
    let second_is : c.as_bytes.result.now ≡ second = cc (c.as_bytes.ensures.value, c.encode_utf8-2.ensures.value) in
    let some : 1 ≤ length second = rw second_is at c.in-len1-up.len_at_least in
    let others : take (length second - 1) (drop 1 second) ≡ drop 1 second = take_all (length second - 1) (drop 1 second) (simp length-drop (omega arith)) in
    puts_both (λ b. is_from_last b first (slice_index second 0)) (λ b. is_one_of b (drop 1 second)) (range_has c.args.range) c.args.table.now c.put_from_last.new.table c.put_all-in-len1-up.new.table
    (rw (first_is, second_is) at c.put_from_last.ensures) (rw (second_is, others) at c.put_all-in-len1-up.ensures) (λ b. range_is b c.args.range (λ e. grind (arith, nat_tests)) some)
