use Rattle.std.proofs.Common.{IsTrue}
use Rattle.indexed_file.specs.Room.{most_to_seek}
use Rattle.open_file.specs.Reading.{Seeks}
use Rattle.shelf_library.specs.declared.shelf_file.ShelfFile.{ShelfFile}
use Rattle.shelf_library.specs.Standing.{live_of, room_in}
use Rattle.shelf_library.specs.Calls.{ReadsHeld}
use Rattle.shelf_library.proofs.StepLemmas.{only_reads, at_end}
use Rattle.shelf_library.proofs.shelf_file.ShelfFile.seek.Goals as goal

pub returns-clause-found : goal.returns-clause-found
returns-clause-found g c =
    let old = c.args.self.now in
    let live = live_of old (g.S.Shelf.state c.args.shelf.now) in
    at_end (λ s. IsTrue (g.S.Shelf.state s).is_honest → Seeks old.file live c.args.k c.args.relation c.args.operand.now c.seek.result)
    _ _ c.shelf-1.given.1 c.seek.ensures.reads.step.1 c.seek.ensures.found

pub returns-clause-reads : goal.returns-clause-reads
returns-clause-reads g c =
    let old = c.args.self.now in
    let new : ShelfFile = record { file = old.file; pages = c.seek.new.pages.file.now } in
    let reads = c.seek.ensures.reads in
    let most = most_to_seek (room_in old) c.args.k in
    at_end (λ s. ReadsHeld g.S.Shelf.state g.S.Shelf.fault_count most old new c.args.shelf.now s c.seek.result)
    _ _ c.shelf-1.given.1 reads.step.1
    (record { broken = reads.broken; cause = reads.cause; asked = reads.asked; step = only_reads old.file _ _ _ _ _ _ reads.step.2 })
