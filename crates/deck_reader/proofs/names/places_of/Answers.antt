use Rattle.std.proofs.Common.{◌∙◌, ap}
use Rattle.file_control.specs.Description.{LengthItem}
use Rattle.deck_reader.proofs.PlaceLemmas.{next_place}
use Rattle.deck_reader.proofs.names.places_of.Goals as goal

pub loop-place-preserved : goal.loop-place-preserved
loop-place-preserved c =
    let named = c.as_str.ensures.value ∙ ap (λ (i : LengthItem). i.name) c.item.view_is in
    next_place c.args.items.now c.loop-place.place c.index-items-place.result c.index-items-place.is c.loop-place-test.true c.as_str.result.now named c.loop-place.places c.add_place.new.places c.loop-place.invariant c.in_ok-add_place.ensures
