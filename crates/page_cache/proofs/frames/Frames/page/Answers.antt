use Rattle.std.proofs.Common.{sym, ap, option_map}
use Rattle.page_cache.specs.Places.{marked}
use Rattle.page_cache.proofs.PlacesLemmas.{paired_none, page_found}
use Rattle.page_cache.proofs.frames.Frames.page.Goals as goal

pub returns-in-Some : goal.returns-in-Some
returns-in-Some c =
    let found = rw c.deref.ensures.value at c.in-Some.ensures in
    rw (← c.self.view_is) (sym (page_found c.args.n c.self.inside.numbers.items c.self.inside.changed.items c.self.inside.pages.items c.in-Some.place c.index.result.now _ _ c.self.invariant.0 found.0 found.1 c.index.ensures))

pub returns-in-None : goal.returns-in-None
returns-in-None c =
    rw (← c.self.view_is) (sym (ap (option_map (λ frame. frame.page)) (paired_none c.args.n c.self.inside.numbers.items (marked c.self.inside.changed.items c.self.inside.pages.items) (rw c.deref.ensures.value at c.in-None.ensures))))
