use Rattle.std.proofs.Common.{◌<◌, ℕ, List, Some, None, length, refl, sym, subst, arith}
use Rattle.record_loading.specs.LineForm.{line_form, BeginsWithNone, ReadsLineOf}
use Rattle.record_loading.proofs.PassingLemmas.{behind_shorter}
use Rattle.record_loading.proofs.SortedTextLemmas.{other_first, record_first}
use Rattle.record_loading.proofs.sorting.first_line.Goals as goal

-- the line of no record
pub front_of-requires : goal.front_of-requires
front_of-requires c =
    let fewer = subst (λ (l : List ℕ). length l < length c.args.text.now) (sym c.behind_line-behind.ensures) (behind_shorter c.args.text.now c.requires.some) in
    omega (arith, fewer)

pub returns-in-Err : goal.returns-in-Err
returns-in-Err c =
    let none = subst (λ (least : ℕ). BeginsWithNone c.args.options.pad c.args.form.now c.args.text.now least (length c.args.area.now)) c.least.ensures.least c.in-Err.ensures.none in
    other_first c.args.schema.now (line_form c.args.form.now c.args.options) c.args.text.now (record { prime = None; line = c.front_of.result }) c.behind_line-behind.result.now refl c.requires.some
    (subst (λ (most : ℕ). BeginsWithNone c.args.options.pad c.args.form.now c.args.text.now c.args.schema.now.least most) c.requires.area none) c.behind_line-behind.ensures c.front_of.ensures

-- the line of a record
pub returns : goal.returns
returns c =
    let read = c.in-Ok.read in
    let reads = subst (λ (least : ℕ). ReadsLineOf (line_form c.args.form.now c.args.options) c.args.text.now least c.args.area.now c.read_line.new.area read.length read.behind.now) c.least.ensures.least c.in-Ok.ensures.read in
    record_first c.args.schema.now (line_form c.args.form.now c.args.options) c.args.text.now (record { prime = Some c.in_ok-value.value; line = c.front_of-2.result }) read.behind.now c.in_ok-value.value.items
    c.args.area.now c.read_line.new.area read.length refl c.requires.area c.read_line.auto.area reads c.in_ok-value.ensures c.front_of-2.ensures
