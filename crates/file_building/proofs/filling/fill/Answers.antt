use Rattle.std.proofs.Common.{Ok, Err, sym, subst}
use Rattle.shelf_library.proofs.StepLemmas.{at_end, at_ends}
use Rattle.file_building.specs.declared.fault.CopyingFault.{CopyingFault}
use Rattle.file_building.specs.Filling.{FillsPages}
use Rattle.file_building.proofs.FillLemmas.{filled, not_filled, full_file}
use Rattle.file_building.proofs.filling.fill.Goals as goal

pub returns-in-Ok : goal.returns-in-Ok
returns-in-Ok g c =
    let file = c.args.file.now in
    let a = c.args.pages.now in
    let b = c.args.target in
    let from = c.args.from.now in
    let to = c.args.to.now in
    let mid = c.copy_file.new.from.shelf.now in
    let late = c.copy_file.new.to.shelf.now in
    let m = c.copy_file.new.to.file.now in
    let keeps = c.in-Ok.ensures.keeps in
    at_end (λ s. FillsPages g.S.Shelf.state g.S.Shelf.fault_count g.T.Shelf.state g.T.Shelf.fault_count file a b from s to c.to-1.given.0
    (Ok (record { file = c.in-Ok.file; pages = c.target-2-1.given.0 })))
    _ _ c.from-1.given.1 keeps.reads.1
    (at_ends (λ q t. FillsPages g.S.Shelf.state g.S.Shelf.fault_count g.T.Shelf.state g.T.Shelf.fault_count file a b from mid to t (Ok (record { file = c.in-Ok.file; pages = q })))
    _ _ _ _ c.target-2-1.given.1 keeps.writes.0 c.to-1.given.1 keeps.writes.1
    (filled file c.args.key a c.copy_file.new.from.file.now b m (g.S.Shelf.state from) (g.S.Shelf.state mid) (g.T.Shelf.state to) (g.T.Shelf.state late)
    (g.S.Shelf.fault_count from) (g.S.Shelf.fault_count mid) (g.T.Shelf.fault_count to) (g.T.Shelf.fault_count late)
    c.requires keeps.reads.2 keeps.writes.2 c.in-Ok.file c.in-Ok.ensures.copied c.in-Ok.ensures.made))

pub returns-in-Err : goal.returns-in-Err
returns-in-Err g c =
    let file = c.args.file.now in
    let a = c.args.pages.now in
    let b = c.args.target in
    let from = c.args.from.now in
    let to = c.args.to.now in
    let mid = c.copy_file.new.from.shelf.now in
    let late = c.copy_file.new.to.shelf.now in
    let m = c.copy_file.new.to.file.now in
    let fault = c.in-Err.fault in
    let keeps = c.in-Err.ensures.keeps in
    at_ends (λ s t. FillsPages g.S.Shelf.state g.S.Shelf.fault_count g.T.Shelf.state g.T.Shelf.fault_count file a b from s to t (Err c.told_fault.result))
    _ _ _ _ c.from-1.given.1 keeps.reads.1 c.to-1.given.1 keeps.writes.1
    (subst (λ (told : CopyingFault). FillsPages g.S.Shelf.state g.S.Shelf.fault_count g.T.Shelf.state g.T.Shelf.fault_count file a b from mid to late (Err told))
    (sym c.told_fault.ensures)
    (not_filled file c.args.key a c.copy_file.new.from.file.now b m (g.S.Shelf.state from) (g.S.Shelf.state mid) (g.T.Shelf.state to) (g.T.Shelf.state late)
    (g.S.Shelf.fault_count from) (g.S.Shelf.fault_count mid) (g.T.Shelf.fault_count to) (g.T.Shelf.fault_count late)
    c.requires keeps.reads.2 keeps.writes.2 _ fault c.in-Err.ensures.copied
    (λ ran. full_file b ran.at.file.now m (g.T.Shelf.state to) (g.T.Shelf.state ran.at.shelf.now) (g.T.Shelf.state late) _ _ _ c.requires.writable ran.since.2 ran.until.2 ran.none)
    keeps.cause))
