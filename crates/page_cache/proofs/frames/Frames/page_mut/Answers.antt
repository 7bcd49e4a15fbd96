use Rattle.std.proofs.Common.{inl, refl, sym, ap, option_map}
use Rattle.std.specs.NonZero.{non_zero_usize_get}
use Rattle.page_cache.specs.HeldFrames.{held_frames}
use Rattle.page_cache.specs.Places.{marked}
use Rattle.page_cache.proofs.PlacesLemmas.{paired_none, page_found, page_lent}
use Rattle.page_cache.proofs.frames.Frames.page_mut.Goals as goal

pub returns-in-Some : goal.returns-in-Some
returns-in-Some c =
    let ns = c.self.inside.numbers.items in
    let cs = c.self.inside.changed.items in
    let ps = c.self.inside.pages.items in
    let found = rw c.deref.ensures.value at c.in-Some.ensures in
    rw (← c.self.view_is) (
      (λ i. inl (c.index_mut-in-Some.result.ghost_name, λ w. (ap (λ l. held_frames l (non_zero_usize_get c.self.inside.cap)) (page_lent c.args.n ns cs ps c.in-Some.place w _ _ c.self.invariant.0 found.0 found.1)) i)),
      record { lends = tt; value = sym (page_found c.args.n ns cs ps c.in-Some.place c.index_mut-in-Some.result.now _ _ c.self.invariant.0 found.0 found.1 c.index_mut-in-Some.ensures.value) },
    )

pub returns-in-None : goal.returns-in-None
returns-in-None c =
    rw (← c.self.view_is) (refl, record { lends = tt; value = sym (ap (option_map (λ frame. frame.page)) (paired_none c.args.n c.self.inside.numbers.items (marked c.self.inside.changed.items c.self.inside.pages.items) (rw c.deref.ensures.value at c.in-None.ensures))) })
