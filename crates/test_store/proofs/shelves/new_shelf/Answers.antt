use Rattle.std.proofs.Common.{◌∙◌, ℕ, List, ap}
use Rattle.page_store.specs.DeviceFile.{DeviceFile}
use Rattle.page_store.specs.ShelfState.{ShelfState, unit_name}
use Rattle.memory_shelf.specs.MemShelves.{mem_state_of}
use Rattle.test_store.proofs.shelves.new_shelf.Goals as goal

pub returns-clause-absent : goal.returns-clause-absent
returns-clause-absent g c =
    let name = unit_name (mem_state_of c.attach.new.shelf) 0 in
    let file = c.attach.ensures.file ∙ ap (λ (s : ShelfState). s.file) c.new-shelf.ensures in
    ap (λ (f : List ℕ → DeviceFile). (f name).seen) file
