use Rattle.std.proofs.Common.{◌<◌, length, arith, ap, ◌∙◌}
use Rattle.std.specs.NonZero.{non_zero_usize_get}
use Rattle.page_cache.specs.HeldFrames.{held_frames, settled}
use Rattle.page_cache.proofs.PlacesLemmas.{frames_long, settled_rows}
use Rattle.page_cache.proofs.frames.Frames.settle.Goals as goal

pub index_mut-requires : goal.index_mut-requires
index_mut-requires c =
    let low = rw (← c.self.view_is) at c.requires in
    let long = (frames_long _ _ _ _ _ c.self.invariant.0).2 in
    let few = c.self.invariant.0.few in
    let changes = c.self.invariant.0.changes in
    let len = c.self.inside.changed.ok.0 in
    omega arith

pub returns : goal.returns
returns c =
    let ns = c.self.inside.numbers.items in
    let long = frames_long _ _ _ _ _ c.self.invariant.0 in
    let count = long.2 in
    let within = rw (← c.self.view_is) at c.requires in
    let low : c.args.place < length ns = omega arith in
    ap (λ l. held_frames l (non_zero_usize_get c.self.inside.cap)) (settled_rows ns c.self.inside.changed.items c.self.inside.pages.items c.args.place _ _ c.self.invariant.0 low)
    ∙ ap (λ f. held_frames (settled c.args.place f.entries) f.cap) c.self.view_is
