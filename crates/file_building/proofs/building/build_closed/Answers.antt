use Rattle.std.proofs.Common.{subst}
use Rattle.page_store.specs.ShelfState.{unit_name}
use Rattle.file_building.specs.BuiltParts.{WhereParts}
use Rattle.file_building.specs.declared.built_parts.BuiltParts.{BuiltParts}
use Rattle.file_building.proofs.BuiltUnitLemmas.{built_stopped, built_clashed, built_whole, not_built, not_made, where_taken}
use Rattle.file_building.proofs.building.build_closed.Goals as goal

pub returns-in-Err-clause-builds : goal.returns-in-Err-clause-builds
returns-in-Err-clause-builds g c =
    let after = c.create.new.shelf in
    not_made g.S.Shelf.state g.S.Shelf.fault_count c.args.unit c.args.limit c.args.schema.now (g.R.RecordSource.given c.args.records.now)
    c.args.shelf.now after c.in-Err.fault (g.met.S.Shelf.reads_an_image after (unit_name (g.S.Shelf.state after) c.args.unit)) c.in-Err.ensures.opens

pub returns-in-Ok-File-clause-builds : goal.returns-in-Ok-File-clause-builds
returns-in-Ok-File-clause-builds g c =
    let state = g.S.Shelf.state in
    let faults = g.S.Shelf.fault_count in
    let opens = c.in-Ok.ensures.opens in
    let given = g.R.RecordSource.given c.build_parts.new.records in
    let mid = c.build_parts.new.shelf in
    let late = c.close_counted.new.shelf in
    let law = g.met.S.Shelf.reads_an_image late (unit_name (state late) c.args.unit) in
    built_whole c.args.unit c.args.limit c.args.schema.now given c.in-Ok.pages (state c.args.shelf.now) (state c.create.new.shelf) (faults c.args.shelf.now) (faults c.create.new.shelf)
    c.in-Ok.ensures.made c.in-Ok.ensures.ready opens.images opens.others opens.no_fewer
    (state mid) (state late) (faults mid) (faults late) c.in-Ok-File.field-0 c.in-Ok-File.parts c.in-Ok-File.field-0-is c.in-Ok-File.ensures.builds
    c.close_counted.result c.close_counted.ensures law

pub returns-in-Ok-File-clause-all : goal.returns-in-Ok-File-clause-all
returns-in-Ok-File-clause-all g c =
    let ended = g.R.RecordSource.has_ended c.build_parts.new.records in
    where_taken ended c.close_counted.result (subst (λ (found : BuiltParts). WhereParts ended found) c.in-Ok-File.field-0-is c.in-Ok-File.ensures.all)

pub returns-in-Ok-OutOfOrder-clause-builds : goal.returns-in-Ok-OutOfOrder-clause-builds
returns-in-Ok-OutOfOrder-clause-builds g c =
    let state = g.S.Shelf.state in
    let faults = g.S.Shelf.fault_count in
    let opens = c.in-Ok.ensures.opens in
    let given = g.R.RecordSource.given c.build_parts.new.records in
    let mid = c.build_parts.new.shelf in
    let late = mid in
    let law = g.met.S.Shelf.reads_an_image late (unit_name (state late) c.args.unit) in
    built_stopped c.args.unit c.args.limit c.args.schema.now given c.in-Ok.pages (state c.args.shelf.now) (state c.create.new.shelf) (faults c.args.shelf.now) (faults c.create.new.shelf)
    c.in-Ok.ensures.made c.in-Ok.ensures.ready opens.images opens.others opens.no_fewer
    (state mid) (faults mid) c.in-Ok-OutOfOrder.field-0 c.in-Ok-OutOfOrder.field-0-is c.in-Ok-OutOfOrder.ensures.builds law

pub returns-in-Ok-Clash-clause-builds : goal.returns-in-Ok-Clash-clause-builds
returns-in-Ok-Clash-clause-builds g c =
    let state = g.S.Shelf.state in
    let faults = g.S.Shelf.fault_count in
    let opens = c.in-Ok.ensures.opens in
    let given = g.R.RecordSource.given c.build_parts.new.records in
    let mid = c.build_parts.new.shelf in
    let late = mid in
    let law = g.met.S.Shelf.reads_an_image late (unit_name (state late) c.args.unit) in
    built_clashed c.args.unit c.args.limit c.args.schema.now given c.in-Ok.pages (state c.args.shelf.now) (state c.create.new.shelf) (faults c.args.shelf.now) (faults c.create.new.shelf)
    c.in-Ok.ensures.made c.in-Ok.ensures.ready opens.images opens.others opens.no_fewer
    (state mid) (faults mid) c.in-Ok-Clash.field-0 c.in-Ok-Clash.field-0-is c.in-Ok-Clash.ensures.builds law

pub returns-in-Err-build_parts-clause-builds : goal.returns-in-Err-build_parts-clause-builds
returns-in-Err-build_parts-clause-builds g c =
    let state = g.S.Shelf.state in
    let faults = g.S.Shelf.fault_count in
    let opens = c.in-Ok.ensures.opens in
    let given = g.R.RecordSource.given c.build_parts.new.records in
    let mid = c.build_parts.new.shelf in
    let late = mid in
    let law = g.met.S.Shelf.reads_an_image late (unit_name (state late) c.args.unit) in
    not_built c.args.unit c.args.limit c.args.schema.now given c.in-Ok.pages (state c.args.shelf.now) (state c.create.new.shelf) (faults c.args.shelf.now) (faults c.create.new.shelf)
    c.in-Ok.ensures.made c.in-Ok.ensures.ready opens.images opens.others opens.no_fewer
    (state mid) (faults mid) c.in-Err-build_parts.fault c.in-Err-build_parts.ensures.builds law
