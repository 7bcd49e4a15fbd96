use Rattle.std.proofs.Common.{◌≡◌, [], ◌∷◌, ◌++◌, Some, None, refl}
use Rattle.std.specs.Prelude.{⊤}
use Rattle.folder_shelf.specs.Calls.{taken_shared}
use Rattle.folder_shelf.proofs.ReadingLemmas.{by_one, by_same, by_both}
use Rattle.command_words.specs.Asks.{form_text}
use Rattle.file_commands.proofs.SalvageLemmas.{not_begun, not_read, bytes_salvaged}
use Rattle.file_commands.proofs.salvaging.salvage_path.Goals as goal

pub returns-in-Err : goal.returns-in-Err
returns-in-Err g c =
    by_same _ _ c.in-Err.ensures (λ calls came.
    not_begun (g.I.Read.remaining c.args.input.now) c.args.asked.file.now (form_text c.args.asked.form) c.args.asked.places g.E.Write.contents c.args.told.now g.W.Write.contents c.args.out.now c.in-Err.fault calls came.fault)

pub returns-in-Ok-take_shared : goal.returns-in-Ok-take_shared
returns-in-Ok-take_shared g c =
    let bytes = c.in-Ok-take_shared.bytes.items in
    let call = taken_shared c.args.asked.file.now 17592186044416 (Some bytes) in
    by_both _ _ _ c.in-Ok.ensures (by_one {IsSo = λ later. later ≡ call ∷ []} _ _ call c.in-Ok-take_shared.ensures.came tt refl) (λ calls later came is.
    rw is (bytes_salvaged (g.I.Read.remaining c.args.input.now) c.args.asked.file.now (form_text c.args.asked.form) c.args.asked.places g.E.Write.contents c.args.told.now g.W.Write.contents c.args.out.now c.salvage_bytes.new.out
    c.salvage_bytes.new.told c.in-Ok.form calls bytes c.closed.result.items c.salvage_bytes.result came.form c.closed.ensures c.salvage_bytes.ensures))

pub returns : goal.returns
returns g c =
    let call = taken_shared c.args.asked.file.now 17592186044416 None in
    by_both _ _ _ c.in-Ok.ensures (by_one {IsSo = λ later. ⊤} _ _ call c.in-Err-take_shared.ensures.failed tt tt) (λ calls later came is.
    not_read (g.I.Read.remaining c.args.input.now) c.args.asked.file.now (form_text c.args.asked.form) c.args.asked.places g.E.Write.contents c.args.told.now g.W.Write.contents c.args.out.now c.in-Ok.form calls came.form _ (later ++ calls) c.fault_of.ensures)
