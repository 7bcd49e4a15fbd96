use Rattle.indexed_file.specs.Rank.{admits}
use Rattle.indexed_file.specs.Room.{most_to_read}
use Rattle.shelf_library.specs.declared.shelf_file.ShelfFile.{ShelfFile}
use Rattle.shelf_library.specs.Standing.{room_in}
use Rattle.shelf_library.specs.Calls.{FindsHeld, ReadsHeld}
use Rattle.shelf_library.proofs.StepLemmas.{reads_but_path, at_end}
use Rattle.shelf_library.proofs.shelf_file.ShelfFile.next.Goals as goal
use Rattle.open_file.specs.Fields.{file_schema}

pub returns-clause-finds : goal.returns-clause-finds
returns-clause-finds g c =
    let old = c.args.self.now in
    let test = admits (file_schema old.file) c.args.k c.args.position.now in
    at_end (λ s. FindsHeld g.S.Shelf.state c.args.k test old c.args.shelf.now s c.args.area.now c.next.new.area c.next.result)
    _ _ c.shelf-1.given.1 c.next.ensures.reads.step.1 c.next.ensures.finds

pub returns-clause-reads : goal.returns-clause-reads
returns-clause-reads g c =
    let old = c.args.self.now in
    let new : ShelfFile = record { file = c.next.new.self; pages = c.next.new.pages.file.now } in
    let reads = c.next.ensures.reads in
    let most = most_to_read (room_in old) c.args.k in
    at_end (λ s. ReadsHeld g.S.Shelf.state g.S.Shelf.fault_count most old new c.args.shelf.now s c.next.result)
    _ _ c.shelf-1.given.1 reads.step.1
    (record {
      broken = reads.broken;
      cause = reads.cause;
      asked = reads.asked;
      step = reads_but_path old new _ _ _ _ c.next.ensures.rest c.next.ensures.stands reads.step.2;
    })
