use Rattle.std.proofs.Common.{ap, ◌∙◌, refl}
use Rattle.pages.specs.Each.{Each}
use Rattle.pages.proofs.RefusedLemmas.{handed_on}
use Rattle.page_walks.specs.Levels.{HasTreeBelow, all_pages}
use Rattle.page_walks.specs.Rows.{IsLeafIn}
use Rattle.file_reports.specs.Statistics.{HasTreeStanding}
use Rattle.file_reports.proofs.CountLemmas.{tree_in, key_counts, few_pages, leaves_are, few_entries, values_together}
use Rattle.file_reports.proofs.counting.count_key.Goals as goal

pub returns-in_err-levels-clause-refused : goal.returns-in_err-levels-clause-refused
returns-in_err-levels-clause-refused g c = λ list has.
    handed_on (HasTreeBelow c.shape-shape.result list c.levels.result c.root.result) (HasTreeStanding c.args.tree.now list) c.from_residual.result _ c.from_residual.ensures.1
    (λ known. rw (c.shape-shape.ensures, c.levels.ensures, c.root.ensures) (
      known.stands.value,
      tree_in c.args.tree.now list known.pages known.entries known.own known.stands known.shown known,
    ))
    (c.in_err-levels.ensures.refused list has)

pub returns-in_err-longest-clause-refused : goal.returns-in_err-longest-clause-refused
returns-in_err-longest-clause-refused g c = λ list has.
    let told = c.in_ok-levels.ensures.counted list (c.longest_run.ensures.before list has) in
    handed_on (Each (IsLeafIn c.shape-shape.result list) c.deref.result.now) (HasTreeStanding c.args.tree.now list) c.from_residual-in_err-longest.result _ c.from_residual-in_err-longest.ensures.1
    (λ known. rw (c.shape-shape.ensures, c.deref.ensures.value)
    (leaves_are c.args.tree.now list known c.in_ok-levels.field-0 (rw (c.shape-shape.ensures, c.levels.ensures, c.root.ensures) at told)))
    (c.in_err-longest.ensures.refused list has)

pub returns-clause-counted : goal.returns-clause-counted
returns-clause-counted g c = λ list has known map entries own stands shown.
    let told = rw (c.shape-shape.ensures, c.levels.ensures, c.root.ensures) at (c.in_ok-levels.ensures.counted list (c.longest_run.ensures.before list has)) in
    let tree = c.args.tree.now in
    let counts = c.in_ok-levels.field-0 in
    let few = few_pages tree list known counts told c.level_laws.ensures in
    key_counts tree list known counts told c.args.width map entries own stands shown c.level_laws.ensures
    (record {
      pages = c.pages_of.result;
      entries = c.count.result;
      longest = c.in_ok-longest.longest;
      levels = counts.levels;
    })
    refl (c.pages_of.ensures (rw c.deref-2.ensures.value few) ∙ ap all_pages c.deref-2.ensures.value) c.count.ensures
    ((rw (c.shape-shape.ensures, c.deref.ensures.value) at (c.in_ok-longest.ensures.counted list has))
    (few_entries tree list known counts told) (values_together tree list known counts told c.args.width c.requires.narrow c.run_laws.ensures))
