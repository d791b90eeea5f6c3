use Rattle.std.proofs.Common.{◌≡◌, ◌<◌, ◌≤◌, ◌&&◌, length}
use Rattle.std.specs.Prelude.{nat_le, nat_lt}
use Rattle.glob_syntax.specs.inner.ClassTable.{Puts}
use Rattle.glob_syntax.proofs.class.put_span.Given as goal

abbrev pub invariant-loop-byte : goal.invariant-loop-byte
invariant-loop-byte l = record {
  puts : Puts (λ b. nat_le l.low b && nat_lt b l.byte) l.initial.table l.table;
  above : l.low ≤ l.byte;
  none : l.high < l.low → l.byte ≡ l.low;
  len : length l.table ≡ 256;
}
