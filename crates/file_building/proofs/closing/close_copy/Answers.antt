use Rattle.std.proofs.Common.{ℕ, ap, sym, subst, ◌∙◌}
use Rattle.page_store.specs.DeviceFile.{content}
use Rattle.page_store.specs.ShelfState.{unit_file}
use Rattle.page_alloc.specs.Joining.{pages_counted}
use Rattle.page_alloc.specs.PagedFile.{unit_of_pages}
use Rattle.shelf_library.specs.Standing.{live_of}
use Rattle.file_building.specs.Parts.{joined_file, HavePages}
use Rattle.file_building.proofs.CopyLemmas.{many}
use Rattle.file_building.proofs.closing.close_copy.Goals as goal

pub returns-in-Ok : goal.returns-in-Ok
returns-in-Ok g c =
    let parts = c.args.parts in
    let close = c.in-Ok.ensures.closes in
    let before = g.T.Shelf.state c.args.shelf.now in
    record {
      closes = λ honest file stands.
          let is = close.closes honest c.requires.unbroken c.requires.changed file stands in
          record {
            images = is.images;
            done = record {
              settled = is.settled;
              closed = is.closed;
              records = many parts.file (live_of (joined_file parts) before) file c.prime.result.now c.count.result c.prime.ensures c.count.ensures stands.stands;
              pages = subst (λ (n : ℕ). HavePages n (content (unit_file (g.T.Shelf.state c.close.new.shelf) (unit_of_pages parts.pages))))
                  (sym (c.count-2.ensures ∙ ap pages_counted c.pager.ensures)) (c.in-Ok.ensures.counted honest c.requires.unbroken c.requires.changed file stands);
            };
          };
      others = close.others;
      count = close.count;
      cause = tt;
    }
