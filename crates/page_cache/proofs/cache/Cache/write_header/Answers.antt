use Rattle.std.proofs.Common.{◌∙◌, refl, sym, subst, arith}
use Rattle.page_store.specs.Pages.{HoldsPages}
use Rattle.page_store.proofs.PageLemmas.{written_is_read}
use Rattle.page_store.specs.ShelfState.{unit_file, WhereHonest}
use Rattle.page_cache.proofs.QuietLemmas.{changes_quietly}
use Rattle.page_cache.proofs.WriteLemmas.{if_ok, either, store_same, fewer}
use Rattle.page_cache.proofs.HeaderLemmas.{HeaderKept, over_kept, pages_kept, header_kept}
use Rattle.page_cache.proofs.cache.Cache.write_header.Goals as goal

kept : (g : _) (c : goal.After-write_page g) → HeaderKept c.args.self.now.store (g.S.Shelf.state c.args.shelf.now) (g.S.Shelf.state c.write_page.new.shelf)
kept g c =
    let s = g.S.Shelf.state c.args.shelf.now in
    let t = g.S.Shelf.state c.write_page.new.shelf in
    let store = c.args.self.now.store in
    let same = store_same store c.write_page.new.self 0 c.requires.header c.write_page.result c.write_page.ensures.added c.write_page.ensures.kept in
    header_kept store s t c.args.page.now c.requires.over.attached c.requires.header c.requires.over.pages c.told-page c.write_page.ensures.only
    (subst (λ x. WhereHonest t x.unit (HoldsPages x.pages)) same c.write_page.ensures.pages)
    (either c.write_page.result c.write_page.ensures.written c.write_page.ensures.failed)

pub returns : goal.returns
returns g c =
    let old = c.args.self.now in
    let s = g.S.Shelf.state c.args.shelf.now in
    let t = g.S.Shelf.state c.write_page.new.shelf in
    let unit = old.store.unit in
    let store = store_same old.store c.write_page.new.self 0 c.requires.header c.write_page.result c.write_page.ensures.added c.write_page.ensures.kept in
    rw store (record {
      written = if_ok c.write_page.result (λ w honest. written_is_read (unit_file s unit) (unit_file t unit) 0 c.args.page.now (fewer 0 old.store.pages (unit_file s unit) (omega arith) (c.requires.over.pages (sym c.write_page.ensures.only.honest ∙ honest))) c.told-page w) c.write_page.ensures.written;
      same = refl;
      stay = record {
        kept = record {
          over = over_kept old s t (kept g c) c.requires.over;
          pages = pages_kept old s t (kept g c);
          keeps = record { store = refl; cap = refl };
          goes = changes_quietly unit s t c.write_page.ensures.only c.write_page.ensures.quiet;
        };
        asked = refl;
        cause = c.write_page.ensures.cause;
      };
    })
