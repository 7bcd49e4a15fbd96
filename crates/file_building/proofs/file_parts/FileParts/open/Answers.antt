use Rattle.std.proofs.Common.{◌∙◌, IsSome, ap, subst, sym}
use Rattle.page_store.specs.DeviceFile.{content}
use Rattle.page_store.specs.ShelfState.{unit_file}
use Rattle.page_alloc.specs.Joining.{pages_counted, pages_free, page_limit}
use Rattle.open_file.specs.Stands.{Stands}
use Rattle.open_file.specs.ReadOff.{file_off}
use Rattle.open_file.proofs.HeaderLemmas.{read_back}
use Rattle.open_file.proofs.ClosedLemmas.{opened_by, is_opened, opened_stands}
use Rattle.shelf_library.specs.ClosedFile.{live_in}
use Rattle.shelf_library.specs.LookLemmas.{accepted_pages}
use Rattle.shelf_library.proofs.FileOpeningLemmas.{opened_free, opened_live}
use Rattle.shelf_library.specs.ReadOffLemmas.{reads_by_header}
use Rattle.file_building.proofs.file_parts.FileParts.open.Goals as goal

pub returns : goal.returns
returns c =
    let held = c.in_ok-pages.ensures in
    let header = c.args.header.now in
    let opened = c.from_header.result in
    let pages = c.in_ok-pages.pages in
    let unit = c.args.unit in
    let pager = held.pager ∙ c.numbered-pager.ensures in
    record {
      opened = record {
        unit_is = ap (λ store. store.unit) held.store;
        schema_is = c.from_header.ensures.header_is.schema_is;
        unbroken = c.from_header.ensures.unbroken;
        unchanged = held.changed;
        asked = held.asked;
        ready = λ shelf attached accepted. record {
          over = held.ready shelf attached (λ honest. accepted_pages (unit_file shelf unit) header c.requires.header (accepted honest));
          shaped = c.from_header.ensures.shaped;
        };
        reads = λ shelf accepted.
            ap (file_off opened) (opened_live pages shelf unit c.args.limit header pager held.store (held.pages shelf))
            ∙ reads_by_header opened header (live_in header (content (unit_file shelf unit))) c.requires.header c.from_header.ensures;
        stands = λ shelf file accepted is.
            let live = live_in header (content (unit_file shelf unit)) in
            let before = opened_by header live file c.requires.header is.pages in
            let by = is_opened header live file c.requires.header is.pages in
            record {
              stands = subst (λ live. Stands opened live file)
                  (sym (opened_live pages shelf unit c.args.limit header pager held.store (held.pages shelf)))
                  (read_back before opened header live file (opened_stands header live file c.requires.header is.pages)
                  by.shaped by.header_is c.from_header.ensures);
              sound = subst (λ free. IsSome free)
                  (sym (opened_free pages shelf unit c.args.limit header pager held.store (held.pages shelf))) is.free;
            };
      };
      counts = (ap pages_counted pager, ap pages_free pager);
      limits = record { limit = ap page_limit pager; cap = held.frames };
      memory = tt;
    }
