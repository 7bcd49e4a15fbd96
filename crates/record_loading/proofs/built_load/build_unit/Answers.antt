use Rattle.std.proofs.Common.{rules, ◌≡◌, ◌<◌, ◌^◌, ℕ, List, [], None, Some, length, refl, sym, ap, ◌∙◌, subst}
use Rattle.record_layout.specs.Schema.{Schema}
use Rattle.shelf_library.specs.FileOpening.{counted_shelf}
use Rattle.record_loading.specs.LineForm.{line_form}
use Rattle.record_loading.specs.LineRecords.{LineReading, HasReadLines}
use Rattle.record_loading.specs.Passing.{behind_lines}
use Rattle.record_loading.specs.BuiltLoad.{counted_of}
use Rattle.record_loading.proofs.LineRecordLemmas.{none_read, read_in}
use Rattle.record_loading.proofs.TriedLemmas.{tried_begun, tried_ended}
use Rattle.record_loading.proofs.built_load.build_unit.Goals as goal

pub returns-in_default : goal.returns-in_default
returns-in_default g c =
    let state = g.S.Shelf.state in
    let faults = g.S.Shelf.fault_count in
    let old = c.args.shelf.now in
    let new = c.build_closed-built.new.shelf in
    tried_begun c.args.limit c.args.schema.now c.args.form.now c.args.text.now c.args.options c.build_closed-built.new.records.given.records
    (counted_shelf (state old) (faults old)) (counted_shelf (state new) (faults new)) c.build_closed-built.result c.build_closed-built.ensures.builds (sym c.counted.ensures ∙ c.in_default.is)

pub returns : goal.returns
returns g c =
    let old = c.args.shelf.now in
    let new = c.build_closed-built.new.shelf in
    let source = c.new-source.result in
    let after = c.build_closed-built.new.records in
    let schema = c.args.schema.now in
    let form = line_form c.args.form.now c.args.options in
    let lines = behind_lines c.args.options.skip c.args.lines.now in
    let at_first : LineReading = record { schema = source.schema.now; form = line_form source.form.now source.options; given = source.given.records; rest = source.rest.now; mistake = source.mistake } in
    let at_last : LineReading = record { schema = after.schema.now; form = line_form after.form.now after.options; given = after.given.records; rest = after.rest.now; mistake = after.mistake } in
    let begun = c.new-source.ensures.begun in
    let on = c.build_closed-built.ensures.reads in
    let first : HasReadLines lines at_first = none_read lines at_first (begun.0 ∙ c.behind_lines-rest.ensures) begun.1 begun.2 in
    let same_form : line_form source.form.now source.options ≡ form = search rules in
    let read = read_in lines at_last schema form (on.schema_is ∙ c.new-source.ensures.schema) (on.form_is ∙ same_form) (on.reads lines first) in
    let short : length c.args.text.now < 2 ^ 64 = search rules in
    let state = g.S.Shelf.state in
    let faults = g.S.Shelf.fault_count in
    tried_ended c.args.limit schema c.args.form.now c.args.text.now c.args.options after.given.records (counted_shelf (state old) (faults old)) (counted_shelf (state new) (faults new))
    c.build_closed-built.result c.build_closed-built.ensures.builds c.args.lines.now c.requires.lines after.rest.now after.mistake read c.requires.stops short c.end_of_lines-lines.result c.in-Some.records
    c.end_of_lines-lines.ensures c.in-Some.closed (sym c.counted.ensures ∙ c.in-Some.is) c.build_closed-built.ensures.all
