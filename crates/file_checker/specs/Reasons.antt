-- The reason by which damage is told.
use Rattle.pages.specs.declared.damage.Damage.{Damage}
use Rattle.pages.specs.declared.damage.Damage.TheVariants.{Shared as SharedPage, Node as WrongNode}
use Rattle.pages.specs.declared.damage.Damage.TheVariants.{Order as WrongOrder, Heap as BrokenHeap}
use Rattle.pages.specs.declared.damage.Damage.TheVariants.{Index as WrongIndex, Lost as LostPage}
use Rattle.file_checker.specs.declared.verdict.Reason.{Reason}
use Rattle.file_checker.specs.declared.verdict.Reason.TheVariants.{Shared, Node, Order, Heap, Index, Lost}

abbrev pub reason_of : Damage → Reason
reason_of SharedPage = Shared
reason_of WrongNode = Node
reason_of WrongOrder = Order
reason_of BrokenHeap = Heap
reason_of WrongIndex = Index
reason_of LostPage = Lost
