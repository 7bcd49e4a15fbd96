use Rattle.file_building.proofs.UnitLemmas.{copied}
use Rattle.file_building.proofs.copying.copy_closed.Goals as goal

pub returns-in-Ok-find_no_target : goal.returns-in-Ok-find_no_target
returns-in-Ok-find_no_target g c =
    copied c.args.source c.args.unit c.args.key c.args.limit (g.S.Shelf.state c.args.from.now) (g.S.Shelf.state c.source_header.new.shelf)
    (g.S.Shelf.fault_count c.args.from.now) (g.S.Shelf.fault_count c.source_header.new.shelf) c.in-Ok.header
    (g.T.Shelf.state c.args.to.now) (g.T.Shelf.state c.find_no_target.new.shelf)
    (g.T.Shelf.fault_count c.args.to.now) (g.T.Shelf.fault_count c.find_no_target.new.shelf)
    c.in-Ok.ensures c.in-Ok-find_no_target.ensures
    (g.S.Shelf.state c.copy_by_header.new.from) (g.T.Shelf.state c.copy_by_header.new.to)
    (g.S.Shelf.fault_count c.copy_by_header.new.from) (g.T.Shelf.fault_count c.copy_by_header.new.to)
    c.copy_by_header.result c.copy_by_header.ensures
