use Rattle.std.proofs.Common.{rules, refl, ◌∙◌}
use Rattle.page_cache.proofs.WriteLemmas.{room_next}
use Rattle.page_cache.proofs.cache.Cache.make_room.Goals as goal

pub returns-then-place-held : goal.returns-then-place-held
returns-then-place-held g c =
    let len = c.len-held.ensures.len in
    let here = c.if-place-held.true in
    rw c.choose-place.ensures.same (record {
      room = room_next c.args.self.now (g.S.Shelf.state c.args.shelf.now) c.choose-place.result c.len-held.ensures.seated (here ∙ len) c.choose-place.ensures.room;
      same = refl;
      looks = search rules;
    })
