-- A handle owns what a box at the same types owns.
use mir.Syntax.{impl, tnil, dnil}
use mathlib.Core.List.{[]}
use denote.Signature.{Slot, plain}
use Rattle.std.proofs.BoxSteps.Form.{Bx}
use Rattle.std_heap.specs.contracts.Global as Heap
use Rattle.std_heap.specs.contracts.GlobalAllocator.TheImpl.{ghosts, dict}
use Rattle.std_heap.proofs.Global.TheLaws as heap
use Rattle.lk_port.specs.contracts.port.Port as Port
use Rattle.lk_port.proofs.port.Port.TheLaws as port
use Rattle.lk_parcel.specs.contracts.Parcel as Parcel
use Rattle.qlock_c.specs.contracts.handle.Handle as Handle

abbrev pub E : Bx
E = record { row = Port.the_row; laws = port.the_row_laws; al = record { row = Heap.the_row; laws = heap.the_row_laws; g = ghosts; d = dict; drops = impl [] tnil dnil } }

abbrev pub FromParcel : Slot 0
FromParcel = plain (λ _. Parcel.the_row Port.the_row Heap.the_row ghosts)

abbrev pub FromHandle : Slot 0
FromHandle = plain (λ _. Handle.the_row)

abbrev pub FromAlloc : Slot 0
FromAlloc = plain (λ _. Heap.the_row)
