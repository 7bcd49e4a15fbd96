use Rattle.std.proofs.Common.{sym, ◌<◌, length, subst}
use Rattle.list_library.specs.Stored.{Stored, IsFit}
use Rattle.list_library.proofs.StoredLemmas.{row_fits, row_at_place}
use Rattle.list_library.proofs.list_file.ListFile.row.Goals as goal

pub returns-clause-fit : goal.returns-clause-fit
returns-clause-fit c =
    let within = subst (λ (s : Stored). c.args.place < length s.file.rows) (sym c.self.view_is) c.requires in
    let fit = row_fits c.self.inside.schema (record { rows = c.self.inside.rows.items; next_stamp = c.self.inside.next_stamp }) c.args.place c.index.result.now c.self.invariant
    (row_at_place c.self.inside.rows.items c.args.place c.index.result.now within c.index.ensures) in
    subst (λ (s : Stored). IsFit s.schema (length c.index.result.now.bytes)) c.self.view_is fit
