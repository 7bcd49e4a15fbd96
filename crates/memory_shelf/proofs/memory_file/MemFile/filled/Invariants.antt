use Rattle.std.proofs.Common.{◌≡◌, take}
use Rattle.page_store.specs.Images.{durable}
use Rattle.memory_shelf.specs.Events.{steps}
use Rattle.memory_shelf.specs.CrashImages.{filled_by_ranges}
use Rattle.memory_shelf.proofs.memory_file.MemFile.filled.Given as goal

abbrev pub invariant-loop-i : goal.invariant-loop-i
invariant-loop-i l = l.bytes.items ≡ filled_by_ranges l.byte (durable (steps l.self.log.items)).ranges 0 (take l.i l.old-items)
