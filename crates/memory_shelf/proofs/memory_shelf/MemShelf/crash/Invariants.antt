use Rattle.std.proofs.Common.{ℕ, List, take}
use Rattle.memory_shelf.specs.CrashImages.{Crashed}
use Rattle.memory_shelf.specs.MemFiles.{file_by_name}
use Rattle.memory_shelf.proofs.memory_shelf.MemShelf.crash.Given as goal

abbrev pub invariant-loop-place : goal.invariant-loop-place
invariant-loop-place l = (name : List ℕ) → Crashed l.image (file_by_name (take l.place l.file-items) name) (file_by_name l.files.items name)
