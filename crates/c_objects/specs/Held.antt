-- What C owns by an address: the same as a box of the object, or nothing.
use base.Fml.{Fml, ftrue}
use base.Stored.{Coded}
use denote.RawPtr.{Ptr}
use Rattle.std.specs.Prelude.{Option, None, Some}
use Rattle.std.specs.Coded.{coded_option}
use Rattle.std.specs.Box.Ownership.{box_owns}
use Rattle.std.specs.Global.{Global}
use Rattle.std.specs.contracts.impls.GlobalAllocator.TheImpl.{ghosts}
use Rattle.c_objects.specs.contracts.object.Object.{the_row}

-- the box of this object at the address; without an object nothing, at any address
abbrev pub held : Global → Ptr → Option the_row.Denot → Fml
held alloc at None = ftrue
held alloc at (Some object) = box_owns (ghosts.dealloc_token alloc) the_row at object

-- the code of such an object, or of none, for a ghost field: no two have the same code
abbrev pub object_coded : Coded (Option the_row.Denot)
object_coded = coded_option the_row.coded
