use Rattle.std.proofs.Common.{◌∙◌, sym, subst, arith}
use Rattle.page_store.specs.Pages.{HoldsPages}
use Rattle.page_store.specs.ShelfState.{unit_file, WhereHonest}
use Rattle.page_cache.proofs.QuietLemmas.{changes_quietly}
use Rattle.page_cache.proofs.WriteLemmas.{written_here, rewritten, either, if_ok, store_same}
use Rattle.page_cache.proofs.frame.write_back.Goals as goal

pub write_page-requires-clause-page : goal.write_page-requires-clause-page
write_page-requires-clause-page g c = let low = c.requires.page.1 in (omega arith, omega arith)

pub returns : goal.returns
returns g c =
    let s = g.S.Shelf.state c.args.shelf.now in
    let t = g.S.Shelf.state c.write_page.new.shelf in
    let store = c.args.store.now in
    let w = c.write_page.ensures in
    let same = store_same store c.write_page.new.self c.args.n c.requires.page.1 c.write_page.result w.added w.kept in
    record {
      store = same;
      written = if_ok c.write_page.result (λ is honest. written_here (unit_file s store.unit) (unit_file t store.unit) c.args.n store.pages c.args.page.now c.requires.page.0 c.requires.page.1
          (c.requires.stored.pages (sym w.only.honest ∙ honest)) c.told-page is) w.written;
      rewrites = rewritten store c.args.n s t c.args.page.now c.requires.stored.unit c.requires.page.0 c.requires.page.1 c.requires.stored.pages c.told-page w.only
          (subst (λ x. WhereHonest t x.unit (HoldsPages x.pages)) same w.pages)
          (either c.write_page.result w.written w.failed);
      writes = record { goes = changes_quietly store.unit s t w.only w.quiet; cause = w.cause };
    }
