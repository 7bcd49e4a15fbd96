use Rattle.list_library.proofs.StoredLemmas.{removed_stored}
use Rattle.list_library.proofs.list_file.ListFile.remove.Goals as goal

pub invariant_of-self : goal.invariant_of-self
invariant_of-self c =
    rw c.remove_rows.ensures
    (removed_stored c.self.inside.schema c.args.prime.now (record { rows = c.self.inside.rows.items; next_stamp = c.self.inside.next_stamp }) c.self.invariant)
