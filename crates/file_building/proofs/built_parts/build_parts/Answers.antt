use Rattle.std.proofs.Common.{Ok, Err}
use Rattle.shelf_library.proofs.StepLemmas.{at_end, at_ends}
use Rattle.file_building.specs.declared.built_parts.BuiltParts.TheVariants.{File as Parts, OutOfOrder as PartsStopped, Clash as PartsClashed}
use Rattle.file_building.specs.BuiltParts.{BuildsParts}
use Rattle.file_building.proofs.FillLemmas.{full_file}
use Rattle.file_building.proofs.BuiltPartsLemmas.{parts_built, parts_stopped, parts_clashed, parts_failed}
use Rattle.file_building.proofs.built_parts.build_parts.Goals as goal

pub returns-in-Ok-File-clause-builds : goal.returns-in-Ok-File-clause-builds
returns-in-Ok-File-clause-builds g c =
    let state = g.S.Shelf.state in
    let faults = g.S.Shelf.fault_count in
    let a = c.args.target in
    let from = c.args.shelf.now in
    let late = c.build_file.new.pages.shelf.now in
    let m = c.build_file.new.pages.file.now in
    let given = g.R.RecordSource.given c.build_file.new.records in
    let schema = c.args.schema.now in
    let builds = c.in-Ok-File.ensures.builds in
    let step = builds.keeps.step in
    at_ends (λ q t. BuildsParts state faults a schema given from t (Ok (Parts (record { file = c.in-Ok-File.file; pages = q }))))
    _ _ _ _ c.target-2-1.given.1 step.0 c.shelf-1.given.1 step.1
    (parts_built a m (state from) (state late) (faults from) (faults late) c.requires.target step.2 schema given c.in-Ok-File.file c.in-Ok-File.field-0 c.in-Ok-File.field-0-is builds.built builds.made)

pub returns-in-Ok-OutOfOrder-clause-builds : goal.returns-in-Ok-OutOfOrder-clause-builds
returns-in-Ok-OutOfOrder-clause-builds g c =
    let state = g.S.Shelf.state in
    let faults = g.S.Shelf.fault_count in
    let a = c.args.target in
    let from = c.args.shelf.now in
    let late = c.build_file.new.pages.shelf.now in
    let m = c.build_file.new.pages.file.now in
    let given = g.R.RecordSource.given c.build_file.new.records in
    let schema = c.args.schema.now in
    let builds = c.in-Ok-OutOfOrder.ensures.builds in
    let step = builds.keeps.step in
    at_end (λ t. BuildsParts state faults a schema given from t (Ok PartsStopped))
    _ _ c.shelf-1.given.1 step.1
    (parts_stopped a m (state from) (state late) (faults from) (faults late) c.requires.target step.2 schema given c.in-Ok-OutOfOrder.field-0 c.in-Ok-OutOfOrder.field-0-is builds.built)

pub returns-in-Ok-Clash-clause-builds : goal.returns-in-Ok-Clash-clause-builds
returns-in-Ok-Clash-clause-builds g c =
    let state = g.S.Shelf.state in
    let faults = g.S.Shelf.fault_count in
    let a = c.args.target in
    let from = c.args.shelf.now in
    let late = c.build_file.new.pages.shelf.now in
    let m = c.build_file.new.pages.file.now in
    let given = g.R.RecordSource.given c.build_file.new.records in
    let schema = c.args.schema.now in
    let builds = c.in-Ok-Clash.ensures.builds in
    let step = builds.keeps.step in
    at_end (λ t. BuildsParts state faults a schema given from t (Ok PartsClashed))
    _ _ c.shelf-1.given.1 step.1
    (parts_clashed a m (state from) (state late) (faults from) (faults late) c.requires.target step.2 schema given c.in-Ok-Clash.field-0 c.in-Ok-Clash.field-0-is builds.built)

pub returns-in-Err-clause-builds : goal.returns-in-Err-clause-builds
returns-in-Err-clause-builds g c =
    let state = g.S.Shelf.state in
    let faults = g.S.Shelf.fault_count in
    let a = c.args.target in
    let from = c.args.shelf.now in
    let late = c.build_file.new.pages.shelf.now in
    let m = c.build_file.new.pages.file.now in
    let given = g.R.RecordSource.given c.build_file.new.records in
    let schema = c.args.schema.now in
    let builds = c.in-Err.ensures.builds in
    let step = builds.keeps.step in
    at_end (λ t. BuildsParts state faults a schema given from t (Err c.in-Err.fault))
    _ _ c.shelf-1.given.1 step.1
    (parts_failed a m (state from) (state late) (faults from) (faults late) c.requires.target step.2 schema given _ c.in-Err.fault builds.built
    (λ ran. full_file a ran.at.file.now m (state from) (state ran.at.shelf.now) (state late) _ _ _ c.requires.target.writable ran.since.2 ran.until.2 ran.none)
    builds.keeps.cause)
