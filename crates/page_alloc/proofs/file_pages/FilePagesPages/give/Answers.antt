use Rattle.std.proofs.Common.{refl}
use Rattle.page_alloc.proofs.JoinLemmas.{gives_back, goes_after}
use Rattle.page_alloc.proofs.file_pages.FilePagesPages.give.Goals as goal

pub returns : goal.returns
returns g c =
    let goes = c.give.ensures.goes in
    gives_back _ _ _ _ c.give.result c.give.ensures.gives.given c.give.ensures.gives.kept c.give.ensures.fails goes.goes.quietly.others.honest goes.asked
    (refl, refl, goes_after c.args.self.now.file.now _ _ _ _ _ c.requires.open refl goes.limit goes.goes goes.ready)
