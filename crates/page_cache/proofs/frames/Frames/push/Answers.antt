use Rattle.std.proofs.Common.{◌≡◌, ◌<◌, [], ◌∷◌, ◌++◌, length, arith, ap, ◌∙◌, sym}
use Rattle.std.specs.Prelude.{slice_set}
use Rattle.std.specs.NonZero.{non_zero_usize_get}
use Rattle.page_cache.specs.HeldFrames.{Frame, held_frames, put_at}
use Rattle.page_cache.specs.Places.{marked, paired}
use Rattle.page_cache.proofs.PlacesLemmas.{frames_long, push_rows, pushed}
use Rattle.page_cache.proofs.TableLemmas.{put_last}
use Rattle.page_cache.proofs.frames.Frames.push.Goals as goal

pub index_mut-requires-2 : goal.index_mut-requires-2
index_mut-requires-2 c =
    let within = rw (← c.self.view_is) at c.requires.room in
    let long = (frames_long _ _ _ _ _ c.self.invariant.0).2 in
    let uses = c.self.invariant.0.uses in
    let len = c.self.inside.used.ok.0 in
    let last = c.len-place.ensures in
    let numbers = c.self.inside.numbers.ok.0 in
    omega arith

pub index_mut-requires : goal.index_mut-requires
index_mut-requires c =
    let within = rw (← c.self.view_is) at c.requires.room in
    let long = (frames_long _ _ _ _ _ c.self.invariant.0).2 in
    let changes = c.self.invariant.0.changes in
    let len = c.self.inside.changed.ok.0 in
    let last = c.len-place.ensures in
    let numbers = c.self.inside.numbers.ok.0 in
    omega arith

pub add-requires : goal.add-requires
add-requires c =
    let within = rw (← c.self.view_is) at c.requires.room in
    let long = (frames_long _ _ _ _ _ c.self.invariant.0).2 in
    let len = c.self.inside.numbers.ok.0 in
    let room = c.self.invariant.1 in
    omega arith

pub add-requires-2 : goal.add-requires-2
add-requires-2 c =
    let within = rw (← c.self.view_is) at c.requires.room in
    let long = (frames_long _ _ _ _ _ c.self.invariant.0).2 in
    let same = c.self.invariant.0.long in
    let len = c.self.inside.pages.ok.0 in
    let room = c.self.invariant.2 in
    omega arith

pub invariant_of-self : goal.invariant_of-self
invariant_of-self c =
    let ns = c.self.inside.numbers.items in
    let none = rw (← c.self.view_is) at c.requires.absent in
    let within = rw (← c.self.view_is) at c.requires.room in
    let long = (frames_long _ _ _ _ _ c.self.invariant.0).2 in
    let low : length ns < non_zero_usize_get c.self.inside.cap = omega arith in
    let numbers_room = c.self.invariant.1 in
    let pages_room = c.self.invariant.2 in
    let numbers_grow = c.add.ensures.room in
    let tells = rw c.deref.ensures.value at c.put.ensures in
    let pages_grow = c.add-2.ensures.room in (
      rw (c.add.ensures.items, c.add-2.ensures.items) (pushed c.args.n ns c.self.inside.changed.items c.self.inside.pages.items c.len-place.result c.args.changed c.args.page.now c.self.inside.used.items (non_zero_usize_get c.self.inside.cap) c.self.invariant.0 none low),
      omega arith,
      omega arith,
      rw c.add.ensures.items (tells _ (put_last c.len-place.result c.args.n ns (c.len-place.ensures ∙ c.self.inside.numbers.ok.0))),
    )

pub returns : goal.returns
returns c =
    let ns = c.self.inside.numbers.items in
    let cs = slice_set c.self.inside.changed.items c.len-place.result c.args.changed in
    let cap = non_zero_usize_get c.self.inside.cap in
    let frame : Frame = record { changed = c.args.changed; page = c.args.page.now } in
    let within = rw (← c.self.view_is) at c.requires.room in
    let long = (frames_long _ _ _ _ _ c.self.invariant.0).2 in
    let low : length ns < cap = omega arith in
    let last : c.len-place.result ≡ length ns = c.len-place.ensures ∙ c.self.inside.numbers.ok.0 in
    ap (λ l. held_frames (paired l (marked cs c.add-2.new.items.items)) cap) c.add.ensures.items
    ∙ ap (λ l. held_frames (paired (ns ++ c.args.n ∷ []) (marked cs l)) cap) c.add-2.ensures.items
    ∙ ap (λ l. held_frames l cap) (push_rows c.args.n ns c.self.inside.changed.items c.self.inside.pages.items c.len-place.result c.args.changed c.args.page.now _ _ c.self.invariant.0 last low)
    ∙ ap (λ k. held_frames (put_at k (c.args.n, frame) (paired ns (marked c.self.inside.changed.items c.self.inside.pages.items))) cap) (last ∙ sym long)
    ∙ ap (λ f. held_frames (put_at (length f.entries) (c.args.n, frame) f.entries) f.cap) c.self.view_is
