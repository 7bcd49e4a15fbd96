use Rattle.std.proofs.Common.{arith}
use Rattle.page_cache.proofs.PlacesLemmas.{frames_long}
use Rattle.page_cache.proofs.frames.Frames.choose.Goals as goal

pub returns-in-Some-clause-next : goal.returns-in-Some-clause-next
returns-in-Some-clause-next c =
    let low = c.in-Some.ensures in
    let held = c.len-held.ensures in
    let numbers = c.self.inside.numbers.ok.0 in
    let long = (frames_long _ _ _ _ _ c.self.invariant.0).2 in
    rw (← c.self.view_is) (omega arith)

pub returns-then-held-get-clause-next : goal.returns-then-held-get-clause-next
returns-then-held-get-clause-next c =
    let held = c.len-held.ensures in
    let numbers = c.self.inside.numbers.ok.0 in
    let long = (frames_long _ _ _ _ _ c.self.invariant.0).2 in
    rw (← c.self.view_is) (omega arith)

pub turn-requires : goal.turn-requires
turn-requires c =
    let held = c.len-held.ensures in
    let numbers = c.self.inside.numbers.ok.0 in
    let most = c.get.ensures.value in
    let few = c.self.invariant.0.few in
    let no = c.if-held-get.false in
    let long = (frames_long _ _ _ _ _ c.self.invariant.0).2 in
    rw (← c.self.view_is) (omega arith)

pub returns-clause-room : goal.returns-clause-room
returns-clause-room c =
    let low = rw (← c.self.view_is) at c.turn.ensures.place in
    let few = c.self.invariant.0.few in
    let long = (frames_long _ _ _ _ _ c.self.invariant.0).2 in
    rw (← c.self.view_is) (omega arith)
