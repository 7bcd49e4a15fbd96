use Rattle.std.proofs.Common.{replicate, set}
use Rattle.open_file.specs.FirstPage.{key_row_bytes}
use Rattle.open_file.proofs.WriteLemmas.{puts}
use Rattle.open_file.proofs.key_rows.row.Goals as goal

pub returns : goal.returns
unfolding key_row_bytes
returns c =
    let offset = puts 0 2 (λ i. replicate 16 0) (λ i. c.args.part.offset) c.write_u16.ensures in
    let length = puts 2 2 offset (λ i. c.args.part.length) c.write_u16-2.ensures in
    puts 8 4 (λ i. set (set (length i) 4 (c.kind_byte.ensures i)) 5 c.args.tree.height) (λ i. c.args.tree.root) c.write_u32.ensures
