use Rattle.std.proofs.Common.{◌<◌, length, arith, ap, ◌∙◌}
use Rattle.std.specs.NonZero.{non_zero_usize_get}
use Rattle.page_cache.specs.HeldFrames.{held_frames, put_at}
use Rattle.page_cache.proofs.PlacesLemmas.{frames_long, put_rows, replaced}
use Rattle.page_cache.proofs.TableLemmas.{put_set}
use Rattle.page_cache.proofs.frames.Frames.replace.Goals as goal

pub index_mut-requires-4 : goal.index_mut-requires-4
index_mut-requires-4 c =
    let within = rw (← c.self.view_is) at c.requires.held in
    let long = (frames_long _ _ _ _ _ c.self.invariant.0).2 in
    let few = c.self.invariant.0.few in
    let uses = c.self.invariant.0.uses in
    let len = c.self.inside.used.ok.0 in
    omega arith

pub index_mut-requires : goal.index_mut-requires
index_mut-requires c =
    let within = rw (← c.self.view_is) at c.requires.held in
    let long = (frames_long _ _ _ _ _ c.self.invariant.0).2 in
    let len = c.self.inside.numbers.ok.0 in
    omega arith

pub index_mut-requires-2 : goal.index_mut-requires-2
index_mut-requires-2 c =
    let within = rw (← c.self.view_is) at c.requires.held in
    let long = (frames_long _ _ _ _ _ c.self.invariant.0).2 in
    let few = c.self.invariant.0.few in
    let changes = c.self.invariant.0.changes in
    let len = c.self.inside.changed.ok.0 in
    omega arith

pub index_mut-requires-3 : goal.index_mut-requires-3
index_mut-requires-3 c =
    let within = rw (← c.self.view_is) at c.requires.held in
    let long = (frames_long _ _ _ _ _ c.self.invariant.0).2 in
    let same = c.self.invariant.0.long in
    let len = c.self.inside.pages.ok.0 in
    omega arith

pub invariant_of-self : goal.invariant_of-self
invariant_of-self c =
    let none = rw (← c.self.view_is) at c.requires.absent in
    let within = rw (← c.self.view_is) at c.requires.held in
    let long = (frames_long _ _ _ _ _ c.self.invariant.0).2 in
    let low : c.args.place < length c.self.inside.numbers.items = omega arith in
    let tells = rw c.deref.ensures.value at c.put.ensures in (
      replaced c.args.n c.self.inside.numbers.items c.self.inside.changed.items c.self.inside.pages.items c.args.place c.args.changed c.args.page.now c.self.inside.used.items (non_zero_usize_get c.self.inside.cap) c.self.invariant.0 none,
      c.self.invariant.1,
      c.self.invariant.2,
      tells _ (put_set c.args.place c.args.n c.self.inside.numbers.items low),
    )

pub returns : goal.returns
returns c =
    let ns = c.self.inside.numbers.items in
    let long = (frames_long _ _ _ _ _ c.self.invariant.0).2 in
    let within = rw (← c.self.view_is) at c.requires.held in
    let low : c.args.place < length ns = omega arith in
    ap (λ l. held_frames l (non_zero_usize_get c.self.inside.cap)) (put_rows c.args.n ns c.self.inside.changed.items c.self.inside.pages.items c.args.place c.args.changed c.args.page.now _ _ c.self.invariant.0 low)
    ∙ ap (λ f. held_frames (put_at c.args.place (c.args.n, record { changed = c.args.changed; page = c.args.page.now }) f.entries) f.cap) c.self.view_is
