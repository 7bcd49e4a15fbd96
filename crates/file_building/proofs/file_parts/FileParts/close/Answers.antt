use Rattle.std.proofs.Common.{rules, arith}
use Rattle.std.proofs.lemmas.Grind.{common_steps}
use Rattle.page_store.specs.DeviceFile.{content}
use Rattle.page_store.specs.ShelfState.{unit_file}
use Rattle.shelf_library.proofs.ClosedLemmas.{closes, on_ok_at}
use Rattle.file_building.specs.Parts.{joined_file}
use Rattle.page_alloc.specs.PagedFile.{unit_of_pages}
use Rattle.file_building.proofs.PagesLemmas.{have_pages}
use Rattle.file_building.proofs.FaultLemmas.{closing_fault}
use Rattle.file_building.proofs.file_parts.FileParts.close.Goals as goal

pub returns-clause-closes : goal.returns-clause-closes
returns-clause-closes g c = record {
  broken = first_of (search rules, grind (arith, common_steps));
  nothing = first_of (search rules, grind (arith, common_steps));
  unchanged = first_of (search rules, grind (arith, common_steps));
  closes = λ honest unbroken changed file stood.
      let held = joined_file c.args.self.now in
      let shelf = g.S.Shelf.state c.args.shelf.now in
      closes held shelf file c.header.result c.write.new.page c.requires.ready unbroken stood
      c.header.ensures.told c.header.ensures.counts c.header.ensures.room c.write.ensures
      (unit_file shelf (unit_of_pages held.pages))
      (unit_file (g.S.Shelf.state c.close.new.shelf) (unit_of_pages held.pages)) c.close.result
      (c.close.ensures.images honest changed)
      (on_ok_at c.close.result (λ f. f honest changed) c.close.ensures.closed);
  others = first_of (search rules, grind (arith, common_steps));
  count = first_of (search rules, grind (arith, common_steps));
  cause = first_of (search rules, grind (arith, common_steps));
  damage = first_of (search rules, grind (arith, common_steps));
}

pub returns-clause-cause : goal.returns-clause-cause
returns-clause-cause g c = λ unbroken. closing_fault _ _ c.close.result c.close.ensures.cause

pub returns-clause-counted : goal.returns-clause-counted
returns-clause-counted g c = λ honest unbroken changed file stood.
    let held = joined_file c.args.self.now in
    let shelf = g.S.Shelf.state c.args.shelf.now in
    let bytes = content (unit_file (g.S.Shelf.state c.close.new.shelf) (unit_of_pages held.pages)) in
    on_ok_at c.close.result (λ is. have_pages held shelf file c.header.result c.write.new.page c.requires.ready stood
    c.header.ensures.told c.header.ensures.counts c.header.ensures.room c.write.ensures bytes is.bytes)
    (on_ok_at c.close.result (λ f. f honest changed) c.close.ensures.closed)
