use Rattle.file_reports.proofs.ListedLemmas.{not_read, lines_listed, lines_not_listed}
use Rattle.file_checker.specs.Asked.{first_pages_of}
use Rattle.file_reports.proofs.statistics_listing.write_unit.Goals as goal

pub returns-then-has_failed : goal.returns-then-has_failed
returns-then-has_failed g c =
    let asked = g.A.UnitAsked in
    not_read g.S.Shelf.state g.S.Shelf.fault_count c.args.unit c.args.count c.args.shelf c.into_shelf-shelf.result.0 asked.before asked.faults asked.unit asked.count
    c.requires.before.0 c.requires.before.1 c.requires.asked.0 c.requires.asked.1 c.into_shelf-shelf.result.1 c.into_shelf-shelf.ensures.answered
    (g.W.Write.contents c.args.out.now) c.if-has_failed.true

pub returns-in-Ok : goal.returns-in-Ok
returns-in-Ok g c =
    let asked = g.A.UnitAsked in
    let list = first_pages_of asked.before asked.unit asked.count in
    lines_listed g.S.Shelf.state g.S.Shelf.fault_count c.args.unit c.args.count c.args.shelf c.into_shelf-shelf.result.0 asked.before asked.faults asked.unit asked.count
    c.requires.before.0 c.requires.before.1 c.requires.asked.0 c.requires.asked.1 c.into_shelf-shelf.result.1 c.into_shelf-shelf.ensures.answered
    c.requires.sound c.lines_of-lines.result (g.W.Write.contents c.args.out.now) (g.W.Write.contents c.write_lines.new.out) _
    (λ honest. c.lines_of-lines.ensures.lines list (c.into_shelf-shelf.ensures.has c.if-has_failed.false honest)) c.in-Ok.ensures

pub returns-in-Err : goal.returns-in-Err
returns-in-Err g c =
    let asked = g.A.UnitAsked in
    let list = first_pages_of asked.before asked.unit asked.count in
    lines_not_listed g.S.Shelf.state g.S.Shelf.fault_count c.args.unit c.args.count c.args.shelf c.into_shelf-shelf.result.0 asked.before asked.faults asked.unit asked.count
    c.requires.before.0 c.requires.before.1 c.requires.asked.0 c.requires.asked.1 c.into_shelf-shelf.result.1 c.into_shelf-shelf.ensures.answered
    c.requires.sound c.lines_of-lines.result (g.W.Write.contents c.args.out.now) (g.W.Write.contents c.write_lines.new.out) c.in-Err.fault
    (λ honest. c.lines_of-lines.ensures.refused list (c.into_shelf-shelf.ensures.has c.if-has_failed.false honest)) c.in-Err.ensures
