use Rattle.std.proofs.Common.{[], refl, sym, subst}
use Rattle.file_control.specs.Description.{FileDesc}
use Rattle.command_support.specs.DeckFile.{IsDeckFault}
use Rattle.folder_shelf.proofs.ReadingLemmas.{by_same, by_both}
use Rattle.file_commands.specs.Schema.{ComesOfFile, IsOfComparison, ComparesFile}
use Rattle.file_commands.proofs.SchemaLemmas.{compared_by, not_found}
use Rattle.file_commands.proofs.comparing.compare_path.Goals as goal

pub returns-in-Err : goal.returns-in-Err
returns-in-Err g c = by_same _ _ c.in-Err.ensures (λ calls read. not_found c.in-Err.fault read.fault)

pub returns-in-Err-file_in : goal.returns-in-Err-file_in
returns-in-Err-file_in g c = by_same _ _ c.in-Ok.ensures (λ calls read. not_found c.in-Err-file_in.fault (subst IsDeckFault (sym c.in-Err-file_in.ensures.fault) tt))

pub returns : goal.returns
returns g c =
    let contents = g.W.Write.contents in
    let old = c.args.out.now in
    let new = c.compare_file.new.out in
    let path = c.args.path.now in
    let described = c.in-Ok-file_in.described.now in
    by_both _ _ _ c.in-Ok.ensures c.compare_file.ensures (λ calls later read told.
    compared_by (g.I.Read.remaining c.args.input.now) path contents old new _ described calls later c.args.deck.now c.args.name.now
    (record { bytes = read.right.0; is_read = read.right.1; deck = c.in-Ok.deck; is_deck = read.right.2; named = c.in-Ok-file_in.ensures.file }) refl c.compare_file.result
    (subst (λ (x : FileDesc). ComesOfFile IsOfComparison (ComparesFile path x.schema contents old new [] later) c.compare_file.result) c.described.view_is told))
