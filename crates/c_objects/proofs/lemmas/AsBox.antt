-- The handle and its parts own what a box at the same types owns.
use mir.Syntax.{impl, tnil, dnil}
use mathlib.Core.List.{[]}
use denote.Signature.{Slot, plain}
use Rattle.std_alloc.proofs.BoxSteps.Form.{Bx}
use Rattle.std_heap.specs.contracts.Global as Heap
use Rattle.std_heap.specs.contracts.GlobalAllocator.TheImpl.{ghosts, dict}
use Rattle.std_heap.proofs.Global.TheLaws as heap
use Rattle.c_objects.specs.contracts.object.Object as Inner
use Rattle.c_objects.proofs.object.Object.TheLaws as inner
use Rattle.c_objects.specs.contracts.owned.parts.BoxParts as BoxParts
use Rattle.c_objects.specs.contracts.owned.Owned as Owned

abbrev pub E : Bx
E = record { row = Inner.the_row; laws = inner.the_row_laws; al = record { row = Heap.the_row; laws = heap.the_row_laws; g = ghosts; d = dict; drops = impl [] tnil dnil } }

abbrev pub FromParts : Slot 0
FromParts = plain (λ _. BoxParts.the_row Inner.the_row Heap.the_row ghosts)

abbrev pub FromOwned : Slot 0
FromOwned = plain (λ _. Owned.the_row)
