use Rattle.std.proofs.Common.{◌<◌, length, Some, arith, sym, ap, ◌∙◌}
use Rattle.std.proofs.lemmas.List.{get_or_default}
use Rattle.page_cache.specs.HeldFrames.{Frame}
use Rattle.page_cache.specs.Places.{marked}
use Rattle.page_cache.proofs.PlacesLemmas.{frames_long, marked_at, paired_at}
use Rattle.page_cache.proofs.frames.Frames.at.Goals as goal

pub index-requires : goal.index-requires
index-requires c =
    let low = rw (← c.self.view_is) at c.requires in
    let long = (frames_long _ _ _ _ _ c.self.invariant.0).2 in
    let len = c.self.inside.numbers.ok.0 in
    omega arith

pub index-requires-2 : goal.index-requires-2
index-requires-2 c =
    let low = rw (← c.self.view_is) at c.requires in
    let long = (frames_long _ _ _ _ _ c.self.invariant.0).2 in
    let few = c.self.invariant.0.few in
    let changes = c.self.invariant.0.changes in
    let len = c.self.inside.changed.ok.0 in
    omega arith

pub index-requires-3 : goal.index-requires-3
index-requires-3 c =
    let low = rw (← c.self.view_is) at c.requires in
    let long = (frames_long _ _ _ _ _ c.self.invariant.0).2 in
    let same = c.self.invariant.0.long in
    let len = c.self.inside.pages.ok.0 in
    omega arith

pub returns : goal.returns
returns c =
    let ns = c.self.inside.numbers.items in
    let cs = c.self.inside.changed.items in
    let ps = c.self.inside.pages.items in
    let frame : Frame = record { changed = c.index-2.result.now; page = c.index-3.result.now } in
    let long = frames_long _ _ _ _ _ c.self.invariant.0 in
    let same = c.self.invariant.0.long in
    let within = rw (← c.self.view_is) at c.requires in
    let count = long.2 in
    let low : c.args.place < length ns = omega arith in
    let there : c.args.place < length ps = omega arith in
    rw (← c.self.view_is) (paired_at ns (marked cs ps) c.args.place frame long.1 low (marked_at cs ps c.args.place frame c.index-2.result.now c.index-3.result.now long.0 there c.index-2.ensures c.index-3.ensures)
    ∙ ap (λ m. Some (m, frame)) (get_or_default ns c.args.place 0 c.index.result.now low ∙ sym c.index.ensures))
