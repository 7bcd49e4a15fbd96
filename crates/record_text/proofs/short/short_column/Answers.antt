use Rattle.std.proofs.Common.{List, subst, arith}
use Rattle.record_text.specs.declared.column.Column.{Column}
use Rattle.record_text.proofs.ColumnLemmas.{IsSearched, search_all, search_on}
use Rattle.record_text.proofs.short.short_column.Goals as goal

pub more-init : goal.more-init
more-init c = search_all c.args.columns.now c.args.length c.requires

pub more-preserved : goal.more-preserved
more-preserved c =
    let column = c.in-Some.column.now in
    let searched = subst (λ (l : List Column). IsSearched c.args.columns.now c.args.length l) c.in-Some.ensures.cases.0 c.more.invariant in
    let start = c.from-start.ensures in
    let size = c.from.ensures in
    let over = c.if-length-start.false in
    search_on c.args.columns.now c.args.length column c.in-Some.after.now searched (omega (arith, start, size, over))
