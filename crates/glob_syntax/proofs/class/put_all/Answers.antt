use Rattle.std.proofs.Common.{◌+◌, arith, take, slice_index}
use Rattle.std.specs.Prelude.{◌==◌}
use Rattle.std.proofs.lemmas.List.{take_all}
use Rattle.glob_syntax.specs.ClassBytes.{is_one_of}
use Rattle.glob_syntax.proofs.lemmas.Classes.{one_of_more, puts_both}
use Rattle.glob_syntax.proofs.class.put_all.Goals as goal

pub loop-byte-preserved : goal.loop-byte-preserved
loop-byte-preserved c =
    let bytes = c.args.bytes.now in
    let i = c.loop-byte.byte-index in
    record {
      puts = puts_both (λ b. is_one_of b (take i bytes)) (λ b. b == slice_index bytes i) (λ b. is_one_of b (take (i + 1) bytes)) c.args.table.now c.loop-byte.table c.put.new.table
          c.loop-byte.invariant.puts c.put.ensures (λ b. one_of_more b bytes i (omega arith));
      len = c.put.array_long;
    }

pub returns : goal.returns
returns c = rw (take_all c.loop-byte.byte-index c.args.bytes.now (omega arith)) at c.loop-byte.invariant.puts
