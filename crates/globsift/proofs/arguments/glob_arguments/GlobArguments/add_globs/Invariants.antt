use Rattle.std.proofs.Common.{◌≡◌, drop, map, string_bytes}
use Rattle.globsift.specs.inner.Parsing.{with_globs}
use Rattle.globsift.proofs.arguments.glob_arguments.GlobArguments.add_globs.Given as goal

abbrev pub invariant-loop-argument : goal.invariant-loop-argument
invariant-loop-argument l =
    (with_globs l.self (map string_bytes (drop l.argument-index l.arguments)) ≡ with_globs l.initial.self (map string_bytes l.arguments))
    × (l.self.flags ≡ l.initial.self.flags)
