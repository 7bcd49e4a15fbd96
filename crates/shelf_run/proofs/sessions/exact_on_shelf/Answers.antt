use Rattle.std.specs.NonZero.{non_zero_usize_get}
use Rattle.shelf_library.specs.declared.library.ShelfLibrary.{ShelfLibrary}
use Rattle.shelf_run.proofs.SessionLemmas.{exact_on}
use Rattle.shelf_run.proofs.sessions.exact_on_shelf.Goals as goal

pub returns : goal.returns
returns g c =
    exact_on (λ (library : ShelfLibrary g.row.S.Denot g.S.Shelf). record {
      shelf = g.S.Shelf.state library.shelf;
      held = library.units.items;
      faults = g.S.Shelf.fault_count library.shelf;
      limit = library.limit;
      frames = non_zero_usize_get library.frames;
    }) (λ library. library.many) (λ library. g.S.GrowingShelf.keeps_open library.shelf) c.exact_session.ensures
