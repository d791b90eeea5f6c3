-- The value of an owner after the reference to its object is no longer used.
use Rattle.std.specs.Prelude.{Some}
use Rattle.std.specs.Borrow.{Lends, MutBor, Fml}
use Rattle.c_objects.specs.declared.object.Object.{Object}
use Rattle.c_objects.specs.declared.owned.Owned.{Owned}
use Rattle.c_objects.specs.contracts.object.Object.{the_row as object_row}
use Rattle.c_objects.specs.contracts.owned.Owned.{the_row}

-- the owner with this object
abbrev pub with_object : Owned → Object → Owned
with_object s w = record s { object = Some w }

-- the owner ends with the last value behind the reference
abbrev pub LendsObject : MutBor Owned → MutBor Object → Fml
LendsObject s r = Lends the_row object_row s r (with_object s.now)
