use Rattle.std.proofs.Common.{rules, ◌≡◌, Bool, true, false, subst, refl}
use Rattle.salvaged_records.specs.Salvaged.{outputs, with_gate_closed, EndsWith}
use Rattle.file_commands.specs.Records.{AgreesWith, WritesOther, TellsOther}
use Rattle.file_commands.proofs.salvaging.salvage_bytes.Goals as goal

pub returns-in-Ok-true : goal.returns-in-Ok-true
returns-in-Ok-true g c =
    λ closed.
    let schema = c.args.asked.now.schema in
    let is_true : c.in-Ok-true.field-0 ≡ true = search rules in
    let other = subst (λ (is : Bool). TellsOther schema c.as_slice.result.now g.W.Write.contents c.args.out.now c.is_other.new.out is) is_true c.in-Ok-true.ensures in
    (subst (λ bytes. WritesOther schema bytes (g.W.Write.contents c.args.out.now) (g.W.Write.contents c.is_other.new.out)) c.as_slice.ensures.value other, refl)

pub returns-in-Ok : goal.returns-in-Ok
returns-in-Ok g c =
    λ closed.
    let asked = c.args.asked.now in
    let schema = asked.schema in
    let bytes = c.args.bytes.items in
    let behind = g.W.Write.contents c.salvage_records.new.out in
    let told = g.E.Write.contents c.args.told.now in
    let told_behind = g.E.Write.contents c.salvage_records.new.told in
    let is_false : c.in-Ok-false.field-0 ≡ false = search rules in
    let same = subst (λ (is : Bool). TellsOther schema c.as_slice.result.now g.W.Write.contents c.args.out.now c.is_other.new.out is) is_false c.in-Ok-false.ensures in (
      subst (λ all. AgreesWith schema all) c.as_slice.ensures.value same.0,
      subst (λ all. EndsWith schema all asked.form c.args.places (outputs (g.W.Write.contents c.args.out.now) behind told told_behind) c.in-Ok.end) closed
          (subst (λ out. EndsWith schema (with_gate_closed bytes) asked.form c.args.places (outputs (g.W.Write.contents out) behind told told_behind) c.in-Ok.end) same.1 c.in-Ok.ensures.ends),
    )
