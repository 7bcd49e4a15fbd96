use Rattle.std.proofs.Common.{◌≡◌, ◌∙◌, ◌<◌, ◌+◌, false, not, length, drop, map, get_or, None, ap, arith}
use Rattle.std.specs.Prelude.{is_some}
use Rattle.std.proofs.lemmas.List.{take_rest}
use Rattle.record_layout.specs.declared.item.Placed.{Placed}
use Rattle.record_layout.specs.Layout.{entry_of_item, item_of}
use Rattle.record_layout.specs.Placing.{members_length}
use Rattle.record_layout.proofs.PlacingLemmas.{next_length, split_changed, stays, is_group, is_elementary, group_changed, unchanged}
use Rattle.record_layout.proofs.placing.set_group_lengths.Goals as goal
use Rattle.record_layout.proofs.placing.set_group_lengths.Goals.{then-is_none, else-is_none}

pub loop-i-preserved : goal.loop-i-preserved
loop-i-preserved c =
    let items = c.args.items.now in
    let own = c.loop-i.places in
    let i = c.loop-i.i in
    let item = c.index-items-i.result in
    let new = c.if-is_none.places in
    let there : i < length items = c.loop-i-test.true in
    let there_too : i < length own = omega (arith, there, c.loop-i.invariant.same) in
    let kind : is_some item.picture ≡ not c.is_none.result = c.is_none.ensures in
    elim c.if-is_none.branch [
      | then-is_none w ↦
          let place = w.index-here-i.result in
          let here = w.split_at_mut-here.result.0.now in
          let behind = w.split_at_mut-here.result.1.now in
          let long = w.members.result in
          let changed : Placed = record { name = (get_or here i place).name; field = record { offset = (get_or here i place).field.offset; length = long; numeric = (get_or here i place).field.numeric } } in
          let is = split_changed own here behind new i place changed there_too w.split_at_mut-here.ensures.front w.split_at_mut-here.ensures.back w.index-here-i.is w.places-is in
          let long_is : long ≡ members_length item.level (map entry_of_item (drop (i + 1) items)) (map item_of (drop (i + 1) own)) =
          w.members.ensures ∙ (λ j. members_length item.level (map entry_of_item (take_rest items (i + 1) j)) (map item_of (w.split_at_mut-here.ensures.back j))) in
          let group = is_group item.picture (kind ∙ ap not w.if-is_none.true) in
          next_length items c.args.places.now own new i item place changed c.loop-i.invariant there c.index-items-i.is is.place_is is.front is.back c.if-is_none.auto.places (group_changed items own here i item place long group w.index-here-i.is long_is)
      | else-is_none w ↦
          let nowhere : Placed = record { name = None; field = record { offset = 0; length = 0; numeric = false } } in
          let place = get_or own i nowhere in
          let is = stays own new i nowhere there_too w.places-is in
          let elementary = is_elementary item.picture (kind ∙ ap not w.if-is_none.false) in
          next_length items c.args.places.now own new i item place place c.loop-i.invariant there c.index-items-i.is is.place_is is.front is.back c.if-is_none.auto.places (unchanged items own i item place elementary)
    ]
