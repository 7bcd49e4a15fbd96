use Rattle.std.proofs.Common.{◌<◌, length, ap, sym, ◌∙◌, arith}
use Rattle.record_layout.specs.declared.schema.KeyPart.{KeyPart}
use Rattle.record_layout.specs.Schema.{has_duplicates, no_key}
use Rattle.open_file.specs.Fields.{file_schema}
use Rattle.file_changes.proofs.OldLemmas.{read_start, read_more, read_none, read_room}
use Rattle.file_changes.proofs.old_record.stamps_in.Goals as goal
use Rattle.file_changes.proofs.old_record.stamps_in.Goals.{then-has_duplicates, else-has_duplicates}

pub loop-k-init : goal.loop-k-init
loop-k-init c = rw c.new-stamps.ensures (read_start (file_schema c.args.opened.now).keys c.args.slot.now)

pub slice_bounds-read_u64-count : goal.slice_bounds-read_u64-count
slice_bounds-read_u64-count c =
    let keys = (file_schema c.args.opened.now).keys in
    let d : KeyPart = no_key in
    let lt : c.loop-k.k < length keys = omega (arith, c.loop-k-test.true, c.key_count-k-end.ensures.count) in
    let many = ap has_duplicates (sym c.part.ensures.part) ∙ (sym c.has_duplicates.ensures ∙ c.if-has_duplicates.true) in
    omega (arith, read_room keys d c.args.slot.now c.loop-k.k c.loop-k.at c.loop-k.stamps.items lt many c.loop-k.invariant, c.requires.shaped.stamps, c.requires.room)

pub loop-k-preserved : goal.loop-k-preserved
loop-k-preserved c =
    let keys = (file_schema c.args.opened.now).keys in
    let d : KeyPart = no_key in
    let lt : c.loop-k.k < length keys = omega (arith, c.loop-k-test.true, c.key_count-k-end.ensures.count) in
    elim c.if-has_duplicates.branch [
      | then-has_duplicates w ↦
          let many = ap has_duplicates (sym c.part.ensures.part) ∙ (sym c.has_duplicates.ensures ∙ w.if-has_duplicates.true) in
          rw (w.stamps-is, w.at-is) (read_more keys d c.args.slot.now c.loop-k.k c.loop-k.at c.loop-k.stamps.items w.push.new.self.items w.read_u64.result lt many (w.read_u64.ensures) w.push.ensures.items c.loop-k.invariant)
      | else-has_duplicates w ↦
          let one = ap has_duplicates (sym c.part.ensures.part) ∙ (sym c.has_duplicates.ensures ∙ w.if-has_duplicates.false) in
          rw (w.stamps-is, w.at-is) (read_none keys d c.args.slot.now c.loop-k.k c.loop-k.at c.loop-k.stamps.items w.push-else-has_duplicates.new.self.items lt one w.push-else-has_duplicates.ensures.items c.loop-k.invariant)
    ]
