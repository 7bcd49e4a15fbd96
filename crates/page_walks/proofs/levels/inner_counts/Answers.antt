use Rattle.std.proofs.Common.{◌≡◌, ap, length, arith, refl}
use Rattle.page_walks.specs.Rows.{separators_in}
use Rattle.page_walks.proofs.RowLemmas.{children_many}
use Rattle.page_walks.proofs.levels.inner_counts.Goals as goal

pub returns : goal.returns
returns c list is =
    let many = children_many c.args.shape list c.args.row.now in
    let same = ap length is in
    let entries : c.saturating_sub.result ≡ length (separators_in c.args.shape list c.args.row.now) = omega (arith, many, same, c.saturating_sub.ensures) in
    rw (entries, c.inner_room.ensures.value) refl
