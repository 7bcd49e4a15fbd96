use Rattle.file_building.proofs.MoveLemmas.{can_fill, moved, not_filled, not_made_by}
use Rattle.file_building.proofs.copying.copy_by_header.Goals as goal

pub returns-in-Err-create : goal.returns-in-Err-create
returns-in-Err-create g c =
    not_made_by g.T.Shelf.state g.T.Shelf.fault_count c.args.source c.args.unit c.args.limit c.args.header.now
    (g.S.Shelf.state c.args.from.now) (g.S.Shelf.fault_count c.args.from.now) c.args.to.now c.create.new.shelf c.in-Err-create.fault
    c.in-Err-create.ensures.opens

pub fill-requires : goal.fill-requires
fill-requires g c =
    let opens = c.create.ensures.opens in
    can_fill c.args.source c.args.unit c.args.key c.args.limit c.args.header.now c.in-Ok.parts c.in-Ok-create.pages
    (g.S.Shelf.state c.args.from.now) (g.T.Shelf.state c.args.to.now) (g.T.Shelf.state c.create.new.shelf)
    (g.S.Shelf.fault_count c.args.from.now) (g.T.Shelf.fault_count c.args.to.now) (g.T.Shelf.fault_count c.create.new.shelf)
    c.requires c.in-Ok.ensures.opened c.in-Ok-create.ensures.made c.in-Ok-create.ensures.ready opens.images opens.others opens.no_fewer

pub returns-in-Ok-fill : goal.returns-in-Ok-fill
returns-in-Ok-fill g c =
    let opens = c.create.ensures.opens in
    moved c.args.source c.args.unit c.args.key c.args.limit c.args.header.now c.in-Ok.parts c.in-Ok-create.pages
    (g.S.Shelf.state c.args.from.now) (g.T.Shelf.state c.args.to.now) (g.T.Shelf.state c.create.new.shelf)
    (g.S.Shelf.fault_count c.args.from.now) (g.T.Shelf.fault_count c.args.to.now) (g.T.Shelf.fault_count c.create.new.shelf)
    c.requires c.in-Ok.ensures.opened c.in-Ok-create.ensures.made c.in-Ok-create.ensures.ready opens.images opens.others opens.no_fewer
    c.in-Ok-fill.copy (g.S.Shelf.state c.fill.new.from) (g.T.Shelf.state c.fill.new.to) (g.T.Shelf.state c.close_copy.new.shelf)
    (g.S.Shelf.fault_count c.fill.new.from) (g.T.Shelf.fault_count c.fill.new.to) (g.T.Shelf.fault_count c.close_copy.new.shelf)
    c.close_copy.result c.in-Ok-fill.ensures c.close_copy.ensures

pub returns : goal.returns
returns g c =
    let opens = c.create.ensures.opens in
    not_filled c.args.source c.args.unit c.args.key c.args.limit c.args.header.now c.in-Ok.parts c.in-Ok-create.pages
    (g.S.Shelf.state c.args.from.now) (g.T.Shelf.state c.args.to.now) (g.T.Shelf.state c.create.new.shelf)
    (g.S.Shelf.fault_count c.args.from.now) (g.T.Shelf.fault_count c.args.to.now) (g.T.Shelf.fault_count c.create.new.shelf)
    c.requires c.in-Ok.ensures.opened c.in-Ok-create.ensures.made c.in-Ok-create.ensures.ready opens.images opens.others opens.no_fewer
    (g.S.Shelf.state c.fill.new.from) (g.T.Shelf.state c.fill.new.to) (g.S.Shelf.fault_count c.fill.new.from) (g.T.Shelf.fault_count c.fill.new.to)
    c.in-Err-fill.fault c.in-Err-fill.ensures
