use Rattle.std.proofs.Common.{ℕ, length, sym, ap, ◌∙◌, subst}
use Rattle.record_layout.specs.Schema.{Schema}
use Rattle.record_loading.specs.LineForm.{line_form, ReadsLineOf, BeginsWithNone, HasMistake}
use Rattle.record_loading.proofs.GoingLemmas.{nothing_passed, nothing_ends, line_written, line_rejected, line_ends, line_replaces, refused_keys}
use Rattle.record_loading.proofs.writing.pass_line.Goals as goal

-- no record was read
pub returns-then-options : goal.returns-then-options
returns-then-options g c =
    let none = subst (λ (least : ℕ). BeginsWithNone c.args.options.pad c.args.form.now c.args.text.now least (length c.args.area.now)) c.requires.takes.least c.in-Err.ensures.none in
    let wrong = subst (λ (least : ℕ). HasMistake c.args.options.pad c.args.form.now c.args.text.now least (length c.args.area.now) c.in-Err.mistake) c.requires.takes.least c.in-Err.ensures.mistake in
    nothing_passed g.L.Library.shown c.args.options c.args.form.now c.args.text.now c.args.connector.now c.args.lib.now c.args.area.now c.read_line.new.area c.read_line.auto.area c.requires.takes.fits none
    c.in-Err.mistake wrong c.requires.takes.room.length_is c.requires.some c.behind_line.result c.behind_line.ensures c.if-options.true

pub returns-in-Err : goal.returns-in-Err
returns-in-Err g c =
    let none = subst (λ (least : ℕ). BeginsWithNone c.args.options.pad c.args.form.now c.args.text.now least (length c.args.area.now)) c.requires.takes.least c.in-Err.ensures.none in
    let wrong = subst (λ (least : ℕ). HasMistake c.args.options.pad c.args.form.now c.args.text.now least (length c.args.area.now) c.in-Err.mistake) c.requires.takes.least c.in-Err.ensures.mistake in
    nothing_ends g.L.Library.shown c.args.options c.args.form.now c.args.text.now c.args.connector.now c.args.lib.now c.args.area.now c.read_line.new.area c.read_line.auto.area c.requires.takes.fits none
    c.in-Err.mistake wrong c.requires.takes.room.length_is c.requires.some c.if-options.false

-- one was read, and its WRITE was answered
pub returns-then-is_success : goal.returns-then-is_success
returns-then-is_success g c =
    let line = c.in-Ok.line in
    let area = c.read_line.new.area in
    let reads = subst (λ (least : ℕ). ReadsLineOf (line_form c.args.form.now c.args.options) c.args.text.now least c.args.area.now area line.length line.behind.now) c.requires.takes.least c.in-Ok.ensures.read in
    line_written g.L.Library.shown c.args.options c.args.form.now c.args.text.now c.args.connector.now c.args.lib.now c.args.area.now area c.write-status.new.self c.write-status.new.lib line.length c.write-status.result
    line.behind c.write-status.ensures reads c.requires.takes.room.length_is c.read_line.auto.area (sym c.is_success.ensures ∙ c.if-is_success.true)

pub returns-then-ends_lines : goal.returns-then-ends_lines
returns-then-ends_lines g c =
    let line = c.in-Ok.line in
    let area = c.read_line.new.area in
    let reads = subst (λ (least : ℕ). ReadsLineOf (line_form c.args.form.now c.args.options) c.args.text.now least c.args.area.now area line.length line.behind.now) c.requires.takes.least c.in-Ok.ensures.read in
    line_ends g.L.Library.shown c.args.options c.args.form.now c.args.text.now c.args.connector.now c.args.lib.now c.args.area.now area c.write-status.new.self c.write-status.new.lib line.length c.write-status.result
    line.behind c.write-status.ensures reads c.requires.takes.room.length_is c.read_line.auto.area (sym c.is_success.ensures ∙ c.if-is_success.false) (sym c.ends_lines.ensures ∙ c.if-ends_lines.true)

pub returns : goal.returns
returns g c =
    let line = c.in-Ok.line in
    let area = c.read_line.new.area in
    let reads = subst (λ (least : ℕ). ReadsLineOf (line_form c.args.form.now c.args.options) c.args.text.now least c.args.area.now area line.length line.behind.now) c.requires.takes.least c.in-Ok.ensures.read in
    line_rejected g.L.Library.shown c.args.options c.args.form.now c.args.text.now c.args.connector.now c.args.lib.now c.args.area.now area c.write-status.new.self c.write-status.new.lib line.length c.write-status.result
    line.behind c.write-status.ensures reads c.requires.takes.room.length_is c.read_line.auto.area (sym c.ends_lines.ensures ∙ c.if-ends_lines.false) c.if-options-2.false

-- its WRITE was refused for its keys, and a REWRITE behind it was answered
pub returns-then-options-2 : goal.returns-then-options-2
returns-then-options-2 g c =
    let line = c.in-Ok.line in
    let area = c.read_line.new.area in
    let reads = subst (λ (least : ℕ). ReadsLineOf (line_form c.args.form.now c.args.options) c.args.text.now least c.args.area.now area line.length line.behind.now) c.requires.takes.least c.in-Ok.ensures.read in
    line_replaces g.L.Library.shown c.args.options c.args.form.now c.args.text.now c.args.connector.now c.args.lib.now c.args.area.now area c.write-status.new.self c.write-status.new.lib line.length c.write-status.result
    line.behind c.write-status.ensures reads c.requires.takes.room.length_is c.read_line.auto.area g.met.L.Library.joins g.met.L.Library.ends c.requires.takes.fits.attached c.if-options-2.true
    (refused_keys c.args.options c.write-status.result (sym c.ends_lines.ensures ∙ c.if-ends_lines.false)) c.replace_record.new.connector c.replace_record.new.lib c.replace_record.ensures.status c.replace_record.ensures.performed
    c.replace_record.result c.replace_record.ensures.passed_by

pub replace_record-requires : goal.replace_record-requires
replace_record-requires g c = record {
  fits = c.write-status.ensures.fits;
  operands = tt;
  area = c.read_line.auto.area ∙ c.requires.takes.room.length_is ∙ sym (ap (λ (s : Schema). s.greatest) c.write-status.ensures.schema);
}
