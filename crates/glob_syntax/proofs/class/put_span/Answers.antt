use Rattle.std.proofs.Common.{◌≡◌, ◌+◌, ◌<◌, ◌&&◌, arith}
use Rattle.std.specs.Prelude.{◌==◌, nat_le, nat_lt}
use Rattle.glob_syntax.proofs.lemmas.Classes.{span_more, span_end, span_empty, puts_both, puts_same}
use Rattle.glob_syntax.proofs.class.put_span.Goals as goal

pub loop-byte-preserved : goal.loop-byte-preserved
loop-byte-preserved c =
    let low = c.args.low in
    let byte = c.loop-byte.byte in
    record {
      puts = puts_both (λ b. nat_le low b && nat_lt b byte) (λ b. b == byte) (λ b. nat_le low b && nat_lt b (byte + 1)) c.args.table.now c.loop-byte.table c.put.new.table
          c.loop-byte.invariant.puts c.put.ensures (λ b. span_more low byte b c.loop-byte.invariant.above);
      above = omega arith;
      none = λ none. absurd (omega arith);
      len = c.put.array_long;
    }

pub returns : goal.returns
returns c =
    let low = c.args.low in
    let byte = c.loop-byte.byte in
    let none : c.args.high < low = grind arith in
    let stays : byte ≡ low = c.loop-byte.invariant.none none in
    puts_same (λ b. nat_le low b && nat_lt b byte) (λ b. nat_le low b && nat_le b c.args.high) c.args.table.now c.loop-byte.table c.loop-byte.invariant.puts (λ b. span_empty low byte c.args.high b stays none)

pub returns-2 : goal.returns-2
returns-2 c =
    let low = c.args.low in
    let byte = c.loop-byte.byte in
    puts_both (λ b. nat_le low b && nat_lt b byte) (λ b. b == byte) (λ b. nat_le low b && nat_le b c.args.high) c.args.table.now c.loop-byte.table c.put.new.table
    c.loop-byte.invariant.puts c.put.ensures (λ b. span_end low byte c.args.high b c.loop-byte.invariant.above (omega arith))
