use Rattle.std.proofs.Common.{◌≡◌, ◌+◌, ◌≤◌, ◌<◌, ◌++◌, length, drop, ap, sym, ◌∙◌, arith, length-drop}
use Rattle.byteorder.specs.Endian.{big_bytes}
use Rattle.record_layout.specs.declared.schema.KeyPart.{KeyPart}
use Rattle.record_layout.specs.Schema.{has_duplicates, no_key}
use Rattle.open_file.specs.Fields.{next_stamp_of, file_schema}
use Rattle.file_changes.proofs.ChangedLemmas.{stamps_after, after_many, write_start, write_more, write_none, write_whole, write_room, stamp_of_duplicates}
use Rattle.file_changes.proofs.changed.changed_stamps.Goals as goal
use Rattle.file_changes.proofs.changed.changed_stamps.Goals.{then-has_duplicates, else-has_duplicates}

pub loop-j-init : goal.loop-j-init
loop-j-init c =
    let u = c.args.opened.now in
    rw c.new-changed.ensures (write_start (file_schema u).keys (stamps_after (next_stamp_of u) c.args.old.now c.args.new.now (drop 1 (file_schema u).keys) c.args.stamps.now))

pub push_stamp-requires : goal.push_stamp-requires
push_stamp-requires c =
    let u = c.args.opened.now in
    let keys = (file_schema u).keys in
    let d : KeyPart = no_key in
    let lt : c.loop-j.j + 1 < length keys = omega (arith, c.loop-j-test.true, c.alternate_count-j-end.ensures.value, c.requires.records.shaped.keys) in
    let many = ap has_duplicates (sym (rw c.number_of.ensures at c.part.ensures.part)) ∙ (sym c.has_duplicates.ensures ∙ c.if-has_duplicates.true) in
    let stamps = stamps_after (next_stamp_of u) c.args.old.now c.args.new.now (drop 1 keys) c.args.stamps.now in
    omega (arith, write_room keys d stamps c.loop-j.j c.loop-j.changed.items c.requires.records.shaped.is_schema.few lt many c.loop-j.invariant)

pub loop-j-preserved : goal.loop-j-preserved
loop-j-preserved c =
    let u = c.args.opened.now in
    let keys = (file_schema u).keys in
    let j = c.loop-j.j in
    let d : KeyPart = no_key in
    let lt : j + 1 < length keys = omega (arith, c.loop-j-test.true, c.alternate_count-j-end.ensures.value, c.requires.records.shaped.keys) in
    let count : length c.args.stamps.now + 1 ≡ length keys = omega (arith, c.requires.stamps, c.requires.records.shaped.keys) in
    let stamps = stamps_after (next_stamp_of u) c.args.old.now c.args.new.now (drop 1 keys) c.args.stamps.now in
    let whole = after_many (next_stamp_of u) c.args.old.now c.args.new.now (drop 1 keys) c.args.stamps.now (omega (arith, count, length-drop 1 keys)) in
    let within : j < length stamps = omega (arith, lt, whole, length-drop 1 keys) in
    elim c.if-has_duplicates.branch [
      | then-has_duplicates w ↦
          let many = ap has_duplicates (sym (rw c.number_of.ensures at c.part.ensures.part)) ∙ (sym c.has_duplicates.ensures ∙ w.if-has_duplicates.true) in
          let number = w.stamp_after.ensures ∙ stamp_of_duplicates (file_schema u) (next_stamp_of u) c.args.old.now c.args.new.now c.args.stamps.now j lt count many in
          rw w.changed-is (write_more keys d stamps j c.loop-j.changed.items w.push_stamp.new.stamps.items lt within many (w.push_stamp.ensures ∙ ap (λ s. c.loop-j.changed.items ++ big_bytes 8 s) number) c.loop-j.invariant)
      | else-has_duplicates w ↦
          let one = ap has_duplicates (sym (rw c.number_of.ensures at c.part.ensures.part)) ∙ (sym c.has_duplicates.ensures ∙ w.if-has_duplicates.false) in
          rw w.changed-is (write_none keys d stamps j c.loop-j.changed.items lt within one c.loop-j.invariant)
    ]

pub returns : goal.returns
returns c =
    let u = c.args.opened.now in
    let keys = (file_schema u).keys in
    let stamps = stamps_after (next_stamp_of u) c.args.old.now c.args.new.now (drop 1 keys) c.args.stamps.now in
    let all : length keys ≤ c.loop-j.j + 1 = omega (arith, c.loop-j-test.false, c.alternate_count-j-end.ensures.value, c.requires.records.shaped.keys) in
    let whole = write_whole keys stamps c.loop-j.j c.loop-j.changed.items all c.loop-j.invariant in
    record { stored = ap (λ bs. bs ++ c.args.new.now) whole.0; length = whole.1 ∙ sym c.requires.records.shaped.stamps }
