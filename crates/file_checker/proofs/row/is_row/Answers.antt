use Rattle.std.proofs.Common.{ℕ, List, drop, subst, ap, sym, ◌∙◌, arith}
use Rattle.record_layout.specs.declared.schema.KeyPart.{KeyPart}
use Rattle.indexed_file.proofs.RowLemmas.{row_parts}
use Rattle.file_checker.specs.Leading.{stored_row}
use Rattle.file_checker.proofs.StampLemmas.{Fit, rest_from}
use Rattle.file_checker.proofs.RowLemmas.{row_fits}
use Rattle.file_checker.proofs.row.is_row.Goals as goal
use Rattle.open_file.specs.Fields.{next_stamp_of, file_schema}

pub returns : goal.returns
returns c =
    let schema = file_schema c.args.file.now in
    let keys = c.requires.shaped.keys in
    let parts = rest_from 1 c.keys.result.now ∙ ap (drop 1) c.keys.ensures in (
      (λ yes.
          row_fits schema (next_stamp_of c.args.file.now) c.args.stored.now (omega (arith, keys)) c.requires.least c.requires.greatest
          (subst (λ (next : ℕ). Fit next (drop 1 schema.keys) c.args.stored.now) c.next_stamp.ensures
          (subst (λ (ks : List KeyPart). Fit c.next_stamp.result ks c.args.stored.now) parts (c.are_stamps.ensures.0 yes)))),
      (λ row.
          c.are_stamps.ensures.1
          (subst (λ (ks : List KeyPart). Fit c.next_stamp.result ks c.args.stored.now) (sym parts)
          (subst (λ (next : ℕ). Fit next (drop 1 schema.keys) c.args.stored.now) (sym c.next_stamp.ensures)
          (row_parts schema (next_stamp_of c.args.file.now) (stored_row c.args.file.now c.args.stored.now) row).2))),
    )
