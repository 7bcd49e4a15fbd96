use Rattle.std.proofs.Common.{rules, ◌≡◌, Bool, true, false, subst}
use Rattle.file_commands.specs.ByIndex.{ListsPages}
use Rattle.file_commands.specs.Records.{AgreesWith, WritesOther, TellsOther}
use Rattle.file_commands.proofs.ByIndexLemmas.{none_aside, then_aside, not_begun, broken_off, other_schema, listed}
use Rattle.file_commands.proofs.by_index.list_records.Goals as goal

pub returns-in-Err : goal.returns-in-Err
returns-in-Err g c =
    none_aside _ _ c.args.aside.now.calls c.requires.none_aside c.in-Err.ensures (λ calls came.
    not_begun g.D.Disk.unseen (g.I.Read.remaining c.args.input.now) c.args.listing.file.now c.args.listing.bounds c.args.listing.form g.W.Write.contents c.args.out.now c.args.out.now calls c.in-Err.fault came.fault)

pub returns-in-Ok-true : goal.returns-in-Ok-true
returns-in-Ok-true g c =
    let start = c.in-Ok.start in
    let before = g.W.Write.contents c.args.out.now in
    let behind = g.W.Write.contents c.is_other.new.out in
    let is_true : c.in-Ok-true.field-0 ≡ true = search rules in
    let other = subst (λ (is : Bool). TellsOther start.told.schema c.as_slice.result.now g.W.Write.contents c.args.out.now c.is_other.new.out is) is_true c.in-Ok-true.ensures in
    none_aside _ _ c.args.aside.now.calls c.requires.none_aside c.in-Ok.ensures (λ calls came.
    other_schema g.D.Disk.unseen (g.I.Read.remaining c.args.input.now) c.args.listing.file.now c.args.listing.bounds c.args.listing.form g.W.Write.contents c.args.out.now c.is_other.new.out
    start calls came.start (subst (λ bytes. WritesOther start.told.schema bytes before behind) c.as_slice.ensures.value other))

pub returns-in-Ok-false : goal.returns-in-Ok-false
returns-in-Ok-false g c =
    let start = c.in-Ok.start in
    let behind = g.W.Write.contents c.list_pages.new.out in
    let is_false : c.in-Ok-false.field-0 ≡ false = search rules in
    let same = subst (λ (is : Bool). TellsOther start.told.schema c.as_slice.result.now g.W.Write.contents c.args.out.now c.is_other.new.out is) is_false c.in-Ok-false.ensures in
    then_aside _ _ _ _ c.in-Ok.ensures c.list_pages.ensures (λ calls later came lists.
    listed g.D.Disk.unseen (g.I.Read.remaining c.args.input.now) c.args.listing.file.now c.args.listing.bounds c.args.listing.form g.W.Write.contents c.args.out.now c.list_pages.new.out
    start calls came.start c.list_pages.result.1 later (subst (λ bytes. AgreesWith start.told.schema bytes) c.as_slice.ensures.value same.0)
    (subst (λ out. ListsPages g.D.Disk.unseen c.args.listing.file.now start.told.form start.asked (g.W.Write.contents out) behind c.list_pages.result.1 later) same.1 lists))

pub returns-in-Err-is_other : goal.returns-in-Err-is_other
returns-in-Err-is_other g c =
    none_aside _ _ c.args.aside.now.calls c.requires.none_aside c.in-Ok.ensures (λ calls came.
    broken_off g.D.Disk.unseen (g.I.Read.remaining c.args.input.now) c.args.listing.file.now c.args.listing.bounds c.args.listing.form g.W.Write.contents c.args.out.now c.is_other.new.out calls
    c.in-Err-is_other.fault c.in-Err-is_other.ensures)
