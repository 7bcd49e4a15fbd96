use Rattle.std.proofs.Common.{◌∙◌, sym, subst, length, max, ◌+◌, arith, ◌≡◌}
use Rattle.page_store.specs.Pages.{HoldsPages}
use Rattle.page_store.specs.ShelfState.{unit_file}
use Rattle.page_cache.proofs.QuietLemmas.{changes_quietly}
use Rattle.page_cache.proofs.WriteLemmas.{if_ok}
use Rattle.page_cache.proofs.AddLemmas.{zeros_page, page_written, adds, extended}
use Rattle.page_cache.proofs.frame.write_zeros.Goals as goal

pub returns : goal.returns
returns g c =
    let s = g.S.Shelf.state c.args.shelf.now in
    let t = g.S.Shelf.state c.write_page.new.shelf in
    let store = c.args.store.now in
    let w = c.write_page.ensures in
    let whole = c.fill.ensures.len ∙ c.told-page in
    let most : max store.pages (c.args.n + 1) ≡ c.args.n + 1 = let last = c.requires.page.1 in omega arith in
    record {
      added = adds store c.write_page.new.self c.args.n c.fill.new.self t c.write_page.result most w.added w.kept
          (if_ok c.write_page.result (λ is honest. page_written (unit_file s store.unit) (unit_file t store.unit) c.args.n c.fill.new.self c.requires.page.0
          (subst (λ k. HoldsPages k (unit_file s store.unit)) (sym c.requires.page.1) (c.requires.stored.pages (sym w.only.honest ∙ honest))) is whole) w.written);
      zeros = zeros_page c.fill.new.self (length c.args.page.now) (c.fill.ensures.after (λ y is. is)) whole;
      extends = extended store c.write_page.new.self c.args.n s t c.fill.new.self c.requires.stored.unit c.requires.page.1 c.requires.stored.pages
          whole w.only c.write_page.result w.added w.kept w.pages w.written w.failed;
      writes = record { goes = changes_quietly store.unit s t w.only w.quiet; cause = w.cause };
    }
