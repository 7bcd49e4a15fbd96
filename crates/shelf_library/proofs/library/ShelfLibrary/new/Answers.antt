use Rattle.shelf_library.proofs.AttachLemmas.{no_units}
use Rattle.shelf_library.proofs.LimitLemmas.{no_limits}
use Rattle.shelf_library.proofs.library.ShelfLibrary.new.Goals as goal

pub invariant_of-result : goal.invariant_of-result
invariant_of-result g c =
    let units = no_units (g.S.Shelf.state c.args.shelf) c.new.result.items c.requires.names c.new.ensures.items in
    record { room = c.requires.limit; many = units.many; fit = units; limits = no_limits c.new.result.items c.new.ensures.items }
