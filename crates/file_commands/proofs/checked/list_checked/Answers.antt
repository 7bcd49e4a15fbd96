use Rattle.std.proofs.Common.{rules, ◌≡◌, Bool, true, false, subst}
use Rattle.folder_shelf.proofs.ReadingLemmas.{by_same, by_both}
use Rattle.file_commands.specs.Records.{AgreesWith, WritesOther, TellsOther, ListsPath}
use Rattle.file_commands.proofs.RecordsLemmas.{not_begun, broken_off, other_schema, listed}
use Rattle.file_commands.proofs.checked.list_checked.Goals as goal

pub returns-in-Err : goal.returns-in-Err
returns-in-Err g c =
    by_same _ _ c.in-Err.ensures (λ calls came.
    not_begun g.D.Disk.unseen (g.I.Read.remaining c.args.input.now) c.args.path.now c.args.bounds c.args.form g.W.Write.contents c.args.out.now c.args.out.now calls c.in-Err.fault came.fault)

pub returns-in-Ok-true : goal.returns-in-Ok-true
returns-in-Ok-true g c =
    let start = c.in-Ok.start in
    let before = g.W.Write.contents c.args.out.now in
    let behind = g.W.Write.contents c.is_other.new.out in
    let is_true : c.in-Ok-true.field-0 ≡ true = search rules in
    let other = subst (λ (is : Bool). TellsOther start.told.schema c.as_slice.result.now g.W.Write.contents c.args.out.now c.is_other.new.out is) is_true c.in-Ok-true.ensures in
    by_same _ _ c.in-Ok.ensures (λ calls came.
    other_schema g.D.Disk.unseen (g.I.Read.remaining c.args.input.now) c.args.path.now c.args.bounds c.args.form g.W.Write.contents c.args.out.now c.is_other.new.out
    start calls came.start (subst (λ bytes. WritesOther start.told.schema bytes before behind) c.as_slice.ensures.value other))

pub returns-in-Ok-false : goal.returns-in-Ok-false
returns-in-Ok-false g c =
    let start = c.in-Ok.start in
    let behind = g.W.Write.contents c.list_once-system.new.out in
    let is_false : c.in-Ok-false.field-0 ≡ false = search rules in
    let same = subst (λ (is : Bool). TellsOther start.told.schema c.as_slice.result.now g.W.Write.contents c.args.out.now c.is_other.new.out is) is_false c.in-Ok-false.ensures in
    by_both _ _ _ c.in-Ok.ensures c.list_once-system.ensures (λ calls later came lists.
    listed g.D.Disk.unseen (g.I.Read.remaining c.args.input.now) c.args.path.now c.args.bounds c.args.form g.W.Write.contents c.args.out.now c.list_once-system.new.out
    start calls came.start c.list_once-system.result.1 c.ended-done.result later (subst (λ bytes. AgreesWith start.told.schema bytes) c.as_slice.ensures.value same.0)
    (subst (λ out. ListsPath g.D.Disk.unseen c.args.path.now start.page.items start.told.form start.asked (g.W.Write.contents out) behind c.list_once-system.result.1 later) same.1
    (subst (λ bytes. ListsPath g.D.Disk.unseen c.args.path.now bytes start.told.form start.asked (g.W.Write.contents c.is_other.new.out) behind c.list_once-system.result.1 later) c.as_slice-in-Ok-false.ensures.value lists))
    c.ended-done.ensures)

pub returns-in-Err-is_other : goal.returns-in-Err-is_other
returns-in-Err-is_other g c =
    by_same _ _ c.in-Ok.ensures (λ calls came.
    broken_off g.D.Disk.unseen (g.I.Read.remaining c.args.input.now) c.args.path.now c.args.bounds c.args.form g.W.Write.contents c.args.out.now c.is_other.new.out calls
    c.in-Err-is_other.fault c.in-Err-is_other.ensures)
