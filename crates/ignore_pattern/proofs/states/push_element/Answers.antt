use Rattle.std.specs.Prelude.{◌==◌}
use Rattle.ignore_pattern.specs.Classes.{compared, class_matches}
use Rattle.ignore_pattern.specs.Elements.{is_inner}
use Rattle.ignore_pattern.proofs.lemmas.Building.{ok_read, ok_stay, ok_everything}
use Rattle.ignore_pattern.proofs.states.push_element.Goals as goal

pub returns-in-Literal-clause-builds : goal.returns-in-Literal-clause-builds
returns-in-Literal-clause-builds c = rw c.in-Literal.is (ok_read (λ b. compared c.args.ignore_case b == compared c.args.ignore_case c.in-Literal.byte) c.args.builder.now c.push_bytes.new.self c.literal_bytes.result c.args.exit c.push_bytes.result c.literal_bytes.ensures c.push_bytes.ensures.pushed)

pub returns-in-Escaped-clause-builds : goal.returns-in-Escaped-clause-builds
returns-in-Escaped-clause-builds c = rw c.in-Escaped.is (ok_read (λ b. compared c.args.ignore_case b == c.in-Escaped.byte) c.args.builder.now c.push_bytes-in-Escaped.new.self c.escaped_bytes.result c.args.exit c.push_bytes-in-Escaped.result c.escaped_bytes.ensures c.push_bytes-in-Escaped.ensures.pushed)

pub returns-in-Any-clause-builds : goal.returns-in-Any-clause-builds
returns-in-Any-clause-builds c = rw c.in-Any.is (ok_read is_inner c.args.builder.now c.push_bytes-in-Any.new.self c.inner_bytes.result c.args.exit c.push_bytes-in-Any.result c.inner_bytes.ensures c.push_bytes-in-Any.ensures.pushed)

pub returns-in-Star-clause-builds : goal.returns-in-Star-clause-builds
returns-in-Star-clause-builds c = rw c.in-Star.is (ok_stay is_inner c.args.builder.now c.push_loop.new.self c.inner_bytes-in-Star.result c.args.exit c.push_loop.result c.inner_bytes-in-Star.ensures c.push_loop.ensures.pushed)

pub returns-in-Everything-clause-builds : goal.returns-in-Everything-clause-builds
returns-in-Everything-clause-builds c = rw c.in-Everything.is (ok_everything c.args.ignore_case c.args.builder.now c.push_loop-in-Everything.new.self c.everything.result c.args.exit c.push_loop-in-Everything.result c.everything.ensures c.push_loop-in-Everything.ensures.pushed)

pub returns-in-Class-clause-builds : goal.returns-in-Class-clause-builds
returns-in-Class-clause-builds c =
    rw c.in-Class.is
    (ok_read (class_matches c.args.ignore_case c.in-Class.negated c.in-Class.items.items) c.args.builder.now c.push_bytes-in-Class.new.self c.class_bytes.result c.args.exit c.push_bytes-in-Class.result
    (rw c.deref.ensures.value at c.class_bytes.ensures) c.push_bytes-in-Class.ensures.pushed)
