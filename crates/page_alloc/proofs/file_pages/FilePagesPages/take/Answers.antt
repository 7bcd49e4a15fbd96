use Rattle.std.proofs.Common.{refl}
use Rattle.page_alloc.proofs.JoinLemmas.{takes_unused, goes_after}
use Rattle.page_alloc.proofs.file_pages.FilePagesPages.take.Goals as goal

pub returns : goal.returns
returns g c =
    let goes = c.take.ensures.goes in
    takes_unused _ _ _ c.take.result c.take.ensures.takes.taken c.take.ensures.takes.kept c.take.ensures.fails goes.goes.quietly.others.honest goes.asked
    (refl, refl, goes_after c.args.self.now.file.now _ _ _ _ _ c.requires.open refl goes.limit goes.goes goes.ready)
