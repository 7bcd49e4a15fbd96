use Rattle.std.proofs.Common.{◌+◌, ◌≤◌, ◌<◌, ◌++◌, length, ap, sym, ◌∙◌, arith, length-drop}
use Rattle.std.specs.Prelude.{if◌then◌else◌}
use Rattle.std.proofs.lemmas.List.{length-map}
use Rattle.byteorder.specs.Endian.{big_bytes}
use Rattle.record_layout.specs.declared.schema.KeyPart.{KeyPart}
use Rattle.record_layout.specs.Schema.{has_duplicates, no_key}
use Rattle.file_building.specs.Stamps.{stamps_from}
use Rattle.file_changes.proofs.ChangedLemmas.{stamp_of_new, write_start, write_more, write_none, write_whole, write_room}
use Rattle.file_building.proofs.stamps.new_stamps.Goals as goal
use Rattle.file_building.proofs.stamps.new_stamps.Goals.{then-has_duplicates, else-has_duplicates}

pub loop-j-init : goal.loop-j-init
loop-j-init c =
    let keys = c.args.schema.now.keys in
    rw c.new-stamps.ensures (write_start keys (stamps_from c.args.schema.now c.args.stamp))

pub push_stamp-requires : goal.push_stamp-requires
push_stamp-requires c =
    let keys = c.args.schema.now.keys in
    let d : KeyPart = no_key in
    let lt : c.loop-j.j + 1 < length keys = omega (arith, c.loop-j-test.true, c.key_count-alternates.ensures.count) in
    let many = ap has_duplicates (sym c.part.ensures.part) ∙ (sym c.has_duplicates.ensures ∙ c.if-has_duplicates.true) in
    let stamps = stamps_from c.args.schema.now c.args.stamp in
    omega (arith, write_room keys d stamps c.loop-j.j c.loop-j.stamps.items c.key_count-alternates.ensures.schema.few lt many c.loop-j.invariant)

pub loop-j-preserved : goal.loop-j-preserved
loop-j-preserved c =
    let schema = c.args.schema.now in
    let next = c.args.stamp in
    let j = c.loop-j.j in
    let written = c.loop-j.stamps.items in
    let d : KeyPart = no_key in
    let lt : j + 1 < length schema.keys = omega (arith, c.loop-j-test.true, c.key_count-alternates.ensures.count) in
    let stamps = stamps_from schema next in
    let within : j < length stamps = simp (length-map, length-drop) (omega (arith, lt)) in
    elim c.if-has_duplicates.branch [
      | then-has_duplicates w ↦
          let many = ap has_duplicates (sym c.part.ensures.part) ∙ (sym c.has_duplicates.ensures ∙ w.if-has_duplicates.true) in
          let number = stamp_of_new schema next j lt ∙ ap (λ b. if b then next else 0) many in
          rw w.stamps-is (write_more schema.keys d stamps j written w.push_stamp.new.stamps.items lt within many
          (w.push_stamp.ensures ∙ ap (λ s. written ++ big_bytes 8 s) (sym number)) c.loop-j.invariant)
      | else-has_duplicates w ↦
          let one = ap has_duplicates (sym c.part.ensures.part) ∙ (sym c.has_duplicates.ensures ∙ w.if-has_duplicates.false) in
          rw w.stamps-is (write_none schema.keys d stamps j written lt within one c.loop-j.invariant)
    ]

pub returns-clause-stamps : goal.returns-clause-stamps
returns-clause-stamps c =
    let keys = c.args.schema.now.keys in
    let all : length keys ≤ c.loop-j.j + 1 = omega (arith, c.loop-j-test.false, c.key_count-alternates.ensures.count) in
    let stamps = stamps_from c.args.schema.now c.args.stamp in
    let whole = write_whole keys stamps c.loop-j.j c.loop-j.stamps.items all c.loop-j.invariant in
    record { are = whole.0; long = whole.1 }
