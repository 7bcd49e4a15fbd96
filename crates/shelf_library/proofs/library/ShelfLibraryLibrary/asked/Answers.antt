use Rattle.std.proofs.Common.{ap, sym, ◌∙◌}
use Rattle.shelf_library.proofs.Terms.{pages_asked_of}
use Rattle.shelf_library.proofs.StateLemmas.{is_item}
use Rattle.shelf_library.proofs.OpenedLemmas.{opened_at}
use Rattle.shelf_library.proofs.library.ShelfLibraryLibrary.asked.Goals as goal

pub index-requires : goal.index-requires
index-requires g c = is_item g.S.Shelf c.args.self.now c.args.u c.requires.attached

pub returns-in-Opened : goal.returns-in-Opened
returns-in-Opened g c =
    c.asked.ensures ∙ sym (ap pages_asked_of
    (opened_at g.S.Shelf c.args.self.now c.args.u c.requires.attached c.index.result.now c.index.ensures c.in-Opened.file c.in-Opened.is))
