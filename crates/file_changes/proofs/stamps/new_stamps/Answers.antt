use Rattle.std.proofs.Common.{◌+◌, ◌≤◌, ◌<◌, ◌++◌, length, drop, ap, sym, ◌∙◌, arith, length-drop}
use Rattle.std.specs.Prelude.{if◌then◌else◌}
use Rattle.std.proofs.lemmas.List.{length-map}
use Rattle.byteorder.specs.Endian.{big_bytes}
use Rattle.record_layout.specs.declared.schema.KeyPart.{KeyPart}
use Rattle.record_layout.specs.Schema.{has_duplicates, no_key}
use Rattle.open_file.specs.Fields.{next_stamp_of, file_schema}
use Rattle.file_changes.proofs.ChangedLemmas.{stamps_of, stamp_of_new, write_start, write_more, write_none, write_whole, write_room}
use Rattle.file_changes.proofs.stamps.new_stamps.Goals as goal
use Rattle.file_changes.proofs.stamps.new_stamps.Goals.{then-has_duplicates, else-has_duplicates}

pub loop-j-init : goal.loop-j-init
loop-j-init c =
    let keys = (file_schema c.args.opened.now).keys in
    rw c.new-stamps.ensures (write_start keys (stamps_of (next_stamp_of c.args.opened.now) (drop 1 keys)))

pub push_stamp-requires : goal.push_stamp-requires
push_stamp-requires c =
    let keys = (file_schema c.args.opened.now).keys in
    let d : KeyPart = no_key in
    let lt : c.loop-j.j + 1 < length keys = omega (arith, c.loop-j-test.true, c.alternate_count-j-end.ensures.value, c.requires.keys) in
    let many = ap has_duplicates (sym (rw c.number_of.ensures at c.part.ensures.part)) ∙ (sym c.has_duplicates.ensures ∙ c.if-has_duplicates.true) in
    let stamps = stamps_of (next_stamp_of c.args.opened.now) (drop 1 keys) in
    omega (arith, write_room keys d stamps c.loop-j.j c.loop-j.stamps.items c.requires.is_schema.few lt many c.loop-j.invariant)

pub loop-j-preserved : goal.loop-j-preserved
loop-j-preserved c =
    let schema = file_schema c.args.opened.now in
    let next = next_stamp_of c.args.opened.now in
    let j = c.loop-j.j in
    let written = c.loop-j.stamps.items in
    let d : KeyPart = no_key in
    let lt : j + 1 < length schema.keys = omega (arith, c.loop-j-test.true, c.alternate_count-j-end.ensures.value, c.requires.keys) in
    let stamps = stamps_of next (drop 1 schema.keys) in
    let within : j < length stamps = simp (length-map, length-drop) (omega (arith, lt)) in
    elim c.if-has_duplicates.branch [
      | then-has_duplicates w ↦
          let many = ap has_duplicates (sym (rw c.number_of.ensures at c.part.ensures.part)) ∙ (sym c.has_duplicates.ensures ∙ w.if-has_duplicates.true) in
          let number = w.next_stamp.ensures ∙ sym (stamp_of_new schema next j lt ∙ ap (λ b. if b then next else 0) many) in
          rw w.stamps-is (write_more schema.keys d stamps j written w.push_stamp.new.stamps.items lt within many
          (w.push_stamp.ensures ∙ ap (λ s. written ++ big_bytes 8 s) number) c.loop-j.invariant)
      | else-has_duplicates w ↦
          let one = ap has_duplicates (sym (rw c.number_of.ensures at c.part.ensures.part)) ∙ (sym c.has_duplicates.ensures ∙ w.if-has_duplicates.false) in
          rw w.stamps-is (write_none schema.keys d stamps j written lt within one c.loop-j.invariant)
    ]

pub returns : goal.returns
returns c =
    let keys = (file_schema c.args.opened.now).keys in
    let all : length keys ≤ c.loop-j.j + 1 = omega (arith, c.loop-j-test.false, c.alternate_count-j-end.ensures.value, c.requires.keys) in
    let stamps = stamps_of (next_stamp_of c.args.opened.now) (drop 1 keys) in
    let whole = write_whole keys stamps c.loop-j.j c.loop-j.stamps.items all c.loop-j.invariant in
    record { stored = λ bytes. ap (λ bs. bs ++ bytes) whole.0; length = whole.1 ∙ sym c.requires.stamps }
