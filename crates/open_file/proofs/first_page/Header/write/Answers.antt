use Rattle.std.proofs.Common.{◌≡◌, ◌+◌, ◌++◌, length, ap, ◌∙◌, arith}
use Rattle.open_file.specs.FirstPage.{header_bytes, first_bytes}
use Rattle.open_file.proofs.PageLemmas.{filled_page, page_filled, length-first}
use Rattle.open_file.proofs.KeyRowLemmas.{key_rows_bytes}
use Rattle.open_file.proofs.first_page.Header.write.Goals as goal

pub returns : goal.returns
unfolding header_bytes
returns c =
    let first : c.copy_from_slice.new.self ≡ first_bytes c.args.self.now = c.copy_from_slice.ensures.after ∙ c.first_bytes.ensures in
    let rows : c.copy_from_slice-2.new.self ≡ key_rows_bytes c.args.self.now.schema.keys c.args.self.now.trees.items =
    c.copy_from_slice-2.ensures.after ∙ c.deref-2.ensures.0 ∙ c.key_rows-rows.ensures ∙ (λ i. key_rows_bytes (c.keys.ensures i) (c.deref.ensures.0 i)) in
    let copied : length c.copy_from_slice-2.new.self ≡ length c.key_rows-rows.result.items = ap length (c.copy_from_slice-2.ensures.after ∙ c.deref-2.ensures.0) in
    page_filled c.args.page.now c.copy_from_slice.new.self c.copy_from_slice-2.new.self c.fill.new.self (64 + c.len-end.result) (omega (arith, c.fits-page)) (ap length first ∙ length-first c.args.self.now) (omega (arith, c.len-end.ensures.value, copied)) (omega (arith, c.len-end.ensures.value, ap length c.deref-2.ensures.0, c.deref-2.ensures.1)) (c.fill.ensures.after (λ y e. e))
    ∙ λ i. filled_page (first i ++ rows i)
