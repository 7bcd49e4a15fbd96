use Rattle.std.proofs.Common.{◌≡◌, ◌+◌, ◌-◌, ◌≤◌, ℕ, length, take, refl, ap, sym, subst, arith}
use Rattle.tree_node.specs.Inner.{inner_room}
use Rattle.tree_building.specs.Level.{HaveWidth}
use Rattle.tree_building.specs.Share.{IsShare}
use Rattle.tree_building.proofs.CountLemmas.{AreShared, one_shared, none_shared}
use Rattle.tree_building.proofs.PageLemmas.{keeps_on}
use Rattle.tree_building.proofs.RisingLemmas.{level_more, none_risen}
use Rattle.tree_building.proofs.rising.add_level.Goals as goal

pub loop-at-smaller : goal.loop-at-smaller
loop-at-smaller g c =
    let half = c.share.ensures.half in
    let several = c.inner_room-room.ensures.several in
    let more = c.loop-at-test.true in
    omega arith

pub loop-at-preserved : goal.loop-at-preserved
loop-at-preserved g c =
    let start = c.args.pages.now in
    let now = c.loop-at.pages in
    let later = c.add_node.new.pages in
    let inv = c.loop-at.invariant in
    let takes = c.add_node.ensures.takes in
    let several = c.inner_room-room.ensures.several in
    let value = c.inner_room-room.ensures.value in
    let share : IsShare (inner_room c.args.shape + 1) (length c.args.nodes.now - c.loop-at.at) c.share.result =
    subst (λ (r : ℕ). IsShare (r + 1) (length c.args.nodes.now - c.loop-at.at) c.share.result) value c.share.ensures in
    let within = share.within in
    let half = share.half in
    record {
      goes = g.met.P.Pages.writes_on start now later inv.goes takes.step;
      few = omega (arith, inv.few, takes.few);
      shared = subst (AreShared (length c.args.nodes.now) (inner_room c.args.shape + 1) (c.loop-at.at + c.share.result)) (sym c.in_ok-add_node.ensures.one)
          (one_shared (length c.args.nodes.now) (inner_room c.args.shape + 1) c.loop-at.at (length c.loop-at.above.items) c.share.result (omega arith) c.loop-at-test.true share inv.shared);
      width = c.in_ok-add_node.ensures.width inv.width;
      taken = let one = c.in_ok-add_node.ensures.taken in let more = c.in_ok-add_node.ensures.one in let had = inv.taken in omega arith;
      made = λ honest sound.
          let before = g.met.P.Pages.writes_honestly now later takes.step honest in
          let had = inv.made before sound in
          let adds = c.in_ok-add_node.ensures.adds honest had.1 in (
            keeps_on had.0 adds.kept,
            adds.sound,
            λ h trees level apart. level_more c.args.shape (g.P.Pages.shown.state start).live (g.P.Pages.shown.state now).live (g.P.Pages.shown.state later).live h trees c.args.nodes.now
                c.loop-at.above.items c.add_node.new.beside.items c.loop-at.at c.share.result level apart (omega arith) (omega arith) c.loop-at-test.true (omega arith) share
                (had.2 h trees level apart) adds.added.answer,
          );
    }

pub loop-at-init : goal.loop-at-init
loop-at-init g c =
    let none = c.new-above.ensures.items in
    let long : length c.new-above.result.items ≡ 0 = ap length none in
    let several = c.inner_room-room.ensures.several in
    let room : 16 ≤ inner_room c.args.shape + 1 = omega arith in
    record {
      goes = g.met.P.Pages.writes_nothing c.args.pages.now;
      few = omega arith;
      shared = subst (AreShared (length c.args.nodes.now) (inner_room c.args.shape + 1) 0) (sym long) (none_shared (length c.args.nodes.now) (inner_room c.args.shape + 1) c.requires.many room);
      width = subst (HaveWidth c.args.shape) (sym none) tt;
      taken = omega arith;
      made = λ honest sound. (
        λ n some. refl,
        sound,
        λ h trees level apart.
            none_risen c.args.shape (g.P.Pages.shown.state c.args.pages.now).live h (length c.args.nodes.now) (take 0 trees) c.new-above.result.items refl none,
      );
    }
