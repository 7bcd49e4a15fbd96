use Rattle.std.proofs.Common.{sym, ap, is_some}
use Rattle.page_cache.specs.Places.{marked}
use Rattle.page_cache.proofs.PlacesLemmas.{frames_long, paired_held, paired_none}
use Rattle.page_cache.proofs.frames.Frames.touch.Goals as goal

pub returns-in-Some-clause-held : goal.returns-in-Some-clause-held
returns-in-Some-clause-held c =
    let found = rw c.deref.ensures.value at c.in-Some.ensures in
    rw (← c.self.view_is) (paired_held c.args.n c.self.inside.numbers.items (marked c.self.inside.changed.items c.self.inside.pages.items) c.in-Some.place (frames_long _ _ _ _ _ c.self.invariant.0).1 found.0 found.1)

pub returns-in-None-clause-held : goal.returns-in-None-clause-held
returns-in-None-clause-held c =
    rw (← c.self.view_is) (sym (ap is_some (paired_none c.args.n c.self.inside.numbers.items (marked c.self.inside.changed.items c.self.inside.pages.items) (rw c.deref.ensures.value at c.in-None.ensures))))
