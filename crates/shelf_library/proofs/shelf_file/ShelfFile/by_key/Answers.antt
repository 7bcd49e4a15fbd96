use Rattle.indexed_file.specs.Rank.{has_value}
use Rattle.indexed_file.specs.Room.{most_to_read}
use Rattle.shelf_library.specs.declared.shelf_file.ShelfFile.{ShelfFile}
use Rattle.shelf_library.specs.Standing.{room_in}
use Rattle.shelf_library.specs.Calls.{FindsHeld, ReadsHeld}
use Rattle.shelf_library.proofs.StepLemmas.{only_reads, at_end}
use Rattle.shelf_library.proofs.shelf_file.ShelfFile.by_key.Goals as goal
use Rattle.open_file.specs.Fields.{file_schema}

pub returns-clause-finds : goal.returns-clause-finds
returns-clause-finds g c =
    let old = c.args.self.now in
    let test = has_value (file_schema old.file) c.args.k c.args.key.now.items in
    at_end (λ s. FindsHeld g.S.Shelf.state c.args.k test old c.args.shelf.now s c.args.area.now c.by_key.new.area c.by_key.result)
    _ _ c.shelf-1.given.1 c.by_key.ensures.reads.step.1 c.by_key.ensures.finds

pub returns-clause-reads : goal.returns-clause-reads
returns-clause-reads g c =
    let old = c.args.self.now in
    let new : ShelfFile = record { file = old.file; pages = c.by_key.new.pages.file.now } in
    let reads = c.by_key.ensures.reads in
    let most = most_to_read (room_in old) c.args.k in
    at_end (λ s. ReadsHeld g.S.Shelf.state g.S.Shelf.fault_count most old new c.args.shelf.now s c.by_key.result)
    _ _ c.shelf-1.given.1 reads.step.1
    (record { broken = reads.broken; cause = reads.cause; asked = reads.asked; step = only_reads old.file _ _ _ _ _ _ reads.step.2 })
