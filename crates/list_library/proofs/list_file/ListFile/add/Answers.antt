use Rattle.std.proofs.Common.{sym, subst, arith}
use Rattle.list_library.specs.Stored.{Stored, FitsSchema}
use Rattle.list_library.proofs.StoredLemmas.{added_stored}
use Rattle.list_library.proofs.list_file.ListFile.add.Goals as goal

pub invariant_of-self-2 : goal.invariant_of-self-2
invariant_of-self-2 c =
    let fits = subst (λ (s : Stored). FitsSchema s.schema c.args.bytes.now) (sym c.self.view_is) c.requires in
    let clash = rw c.as_slice.ensures.value at c.if-clashes.ensures in
    rw (c.in_ok-insert_row.ensures.inserted, c.in_ok-row.ensures.row)
    (added_stored c.self.inside.schema c.args.bytes.now (record { rows = c.self.inside.rows.items; next_stamp = c.self.inside.next_stamp }) c.self.invariant fits
    (sym clash) (omega arith))
