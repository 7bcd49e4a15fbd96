use Rattle.std.proofs.Common.{◌+◌, ◌*◌, ◌<◌, ◌≤◌, List, length, subst, sym, rules, arith}
use Rattle.tree_node.specs.declared.separator.Separator.{Separator}
use Rattle.std.specs.Prelude.{IsTrue}
use Rattle.tree_building.specs.Level.{HaveWidth}
use Rattle.tree_building.specs.Rising.{Roots}
use Rattle.tree_building.proofs.RootLemmas.{few_above, roots_on, root_is_over}
use Rattle.tree_building.proofs.rising.+add_root.Goals as goal

pub add_root-requires : goal.add_root-requires
add_root-requires g t c κs within =
    let several = c.inner_room.ensures.several in
    let many = c.if-nodes-inner_room.true in
    let is = c.deref.ensures.value in
    let fewer : 16 * length c.deref.result.now ≤ length c.args.nodes.now + 16 =
    subst (λ (l : List Separator). 16 * length l ≤ length c.args.nodes.now + 16) (sym is) c.in_ok-above.ensures.fewer in
    let more : 2 ≤ length c.deref.result.now = subst (λ (l : List Separator). 2 ≤ length l) (sym is) c.in_ok-above.ensures.several in
    let wide : HaveWidth c.args.shape c.deref.result.now = subst (HaveWidth c.args.shape) (sym is) c.in_ok-above.ensures.width in
    let shorter : length c.deref.result.now < length c.args.nodes.now = omega arith in
    let few = few_above c.args.levels (length c.args.nodes.now) (length c.deref.result.now) c.requires.few (omega arith) fewer in
    (omega (arith, shorter), (search rules, (search rules, (more, (few.1, (few.0, wide))))))

pub returns-then-nodes-inner_room-clause-roots : goal.returns-then-nodes-inner_room-clause-roots
returns-then-nodes-inner_room-clause-roots g t c honest sound =
    let start = c.args.pages.now in
    let mid = c.add_level.new.pages in
    let later = c.add_root.new.pages in
    let before = g.met.P.Pages.writes_honestly mid later c.add_root.ensures.takes.step honest in
    let rises = c.in_ok-above.ensures.rises before sound in
    roots_on c.args.shape (g.P.Pages.shown.state start).live (g.P.Pages.shown.state mid).live (g.P.Pages.shown.state later).live c.args.nodes.now c.args.levels c.in_ok-above.above
    c.add_root.result (g.P.Pages.shown.state start).available (g.P.Pages.shown.state mid).available (g.P.Pages.shown.state later).available c.in_ok-above.ensures.taken
    rises (subst (λ (l : List Separator). Roots c.args.shape l (c.args.levels + 1) c.add_root.result (g.P.Pages.shown.state mid).available (g.P.Pages.shown.state later).available (g.P.Pages.shown.state mid).live (g.P.Pages.shown.state later).live
    (IsTrue (g.P.Pages.shown.state later).is_sound)) c.deref.ensures.value (c.add_root.ensures.roots honest rises.sound))

pub returns-clause-roots : goal.returns-clause-roots
returns-clause-roots g t c honest sound =
    let start = c.args.pages.now in
    let later = c.add_node.new.pages in
    let adds = c.in_ok-add_node.ensures.adds honest sound in
    root_is_over c.args.shape (g.P.Pages.shown.state start).live (g.P.Pages.shown.state later).live (IsTrue (g.P.Pages.shown.state later).is_sound) c.args.nodes.now c.new-top.result.items
    c.add_node.new.beside.items c.args.levels c.index.result.now c.requires.several c.new-top.ensures.items c.index.ensures
    (g.P.Pages.shown.state start).available (g.P.Pages.shown.state later).available c.in_ok-add_node.ensures.taken adds
