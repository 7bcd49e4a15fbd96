use Rattle.indexed_file.specs.Room.{most_to_seek}
use Rattle.pages.specs.Answer.{IsAnswer}
use Rattle.shelf_library.specs.declared.shelf_file.ShelfFile.{ShelfFile}
use Rattle.shelf_library.specs.Standing.{room_in}
use Rattle.shelf_library.specs.Calls.{IsHighestPrime, WhereStands, ReadsHeld}
use Rattle.shelf_library.proofs.StepLemmas.{only_reads, at_end}
use Rattle.shelf_library.proofs.shelf_file.ShelfFile.highest.Goals as goal
use Rattle.open_file.specs.Fields.{file_schema}

pub returns-clause-found : goal.returns-clause-found
returns-clause-found g c =
    let old = c.args.self.now in
    at_end (λ s. WhereStands g.S.Shelf.state old c.args.shelf.now s (λ file.
    IsAnswer c.highest.result (IsHighestPrime (file_schema old.file) file.rows)))
    _ _ c.shelf-1.given.1 c.highest.ensures.reads.step.1 c.highest.ensures.found

pub returns-clause-reads : goal.returns-clause-reads
returns-clause-reads g c =
    let old = c.args.self.now in
    let new : ShelfFile = record { file = old.file; pages = c.highest.new.pages.file.now } in
    let reads = c.highest.ensures.reads in
    let most = most_to_seek (room_in old) 0 in
    at_end (λ s. ReadsHeld g.S.Shelf.state g.S.Shelf.fault_count most old new c.args.shelf.now s c.highest.result)
    _ _ c.shelf-1.given.1 reads.step.1
    (record { broken = reads.broken; cause = reads.cause; asked = reads.asked; step = only_reads old.file _ _ _ _ _ _ reads.step.2 })
