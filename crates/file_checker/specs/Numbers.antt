-- The numbers by which reasons are told. They are ours.
use Rattle.std.specs.Prelude.{ℕ}
use Rattle.file_checker.specs.declared.verdict.Reason.{Reason}
use Rattle.file_checker.specs.declared.verdict.Reason.TheVariants.{Short, Gate, Header, Shared}
use Rattle.file_checker.specs.declared.verdict.Reason.TheVariants.{Node, Order, Heap, Index, Lost}

abbrev pub number_of : Reason → ℕ
number_of Short = 1
number_of Gate = 2
number_of Header = 3
number_of Shared = 4
number_of Node = 5
number_of Order = 6
number_of Heap = 7
number_of Index = 8
number_of Lost = 9
