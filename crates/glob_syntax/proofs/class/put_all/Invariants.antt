use Rattle.std.proofs.Common.{◌≡◌, length, take}
use Rattle.glob_syntax.specs.ClassBytes.{is_one_of}
use Rattle.glob_syntax.specs.inner.ClassTable.{Puts}
use Rattle.glob_syntax.proofs.class.put_all.Given as goal

abbrev pub invariant-loop-byte : goal.invariant-loop-byte
invariant-loop-byte l = record {
  puts : Puts (λ b. is_one_of b (take l.byte-index l.bytes)) l.initial.table l.table;
  len : length l.table ≡ 256;
}
