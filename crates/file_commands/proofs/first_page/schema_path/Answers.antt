use Rattle.std.proofs.Common.{subst}
use Rattle.folder_shelf.proofs.ReadingLemmas.{by_same}
use Rattle.file_reports.specs.SchemaListing.{read_of_file}
use Rattle.file_commands.specs.Schema.{TellsAs}
use Rattle.file_commands.proofs.SchemaLemmas.{file_told, file_not_read}
use Rattle.file_commands.proofs.first_page.schema_path.Goals as goal

pub returns-in-Err : goal.returns-in-Err
returns-in-Err g c = by_same _ _ c.in-Err.ensures (λ calls read. file_not_read c.in-Err.fault read)

pub returns : goal.returns
returns g c =
    let before = g.W.Write.contents c.args.out.now in
    let behind = g.W.Write.contents c.write_schema.new.out in
    by_same _ _ c.in-Ok.ensures (λ calls call. file_told c.write_schema.result
    (λ outcome told. (c.in-Ok.bytes.items, call, subst (λ bytes. TellsAs before behind (read_of_file bytes) outcome) c.as_slice.ensures.value told))
    c.write_schema.ensures)
