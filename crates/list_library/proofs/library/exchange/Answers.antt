use Rattle.std.proofs.Common.{◌≡◌, ◌<◌, length, get_or, sym, ap, ◌∙◌, subst, arith}
use Rattle.std.proofs.lemmas.List.{get_or-map}
use Rattle.indexed_file.specs.World.{FileUnit}
use Rattle.list_library.specs.Units.{absent_unit}
use Rattle.list_library.proofs.NameLemmas.{same_unit, exchange_more}
use Rattle.list_library.proofs.library.exchange.Goals as goal

pub take_place-requires : goal.take_place-requires
take_place-requires c =
    let unit : FileUnit = c.unit-item.result in
    let within : c.loop-unit.unit-index < length c.args.units.now = omega arith in
    let here : c.loop-unit.unit-index < length c.loop-unit.units = omega arith in
    let same = (same_unit c.args.units.now c.args.others.now c.loop-unit.units c.loop-unit.others c.loop-unit.unit-index unit c.loop-unit.invariant within here).0 in
    let absent : get_or c.args.units.now c.loop-unit.unit-index unit ≡ absent_unit (get_or c.args.units.now c.loop-unit.unit-index unit).name =
    ap (λ us. get_or us c.loop-unit.unit-index unit) c.requires.absent ∙ get_or-map (λ (u : FileUnit). absent_unit u.name) c.args.units.now c.loop-unit.unit-index unit unit within in
    subst (λ (u : FileUnit). u ≡ absent_unit u.name) (sym same) absent

pub loop-unit-preserved : goal.loop-unit-preserved
loop-unit-preserved c =
    let within : c.loop-unit.unit-index < length c.args.units.now = omega arith in
    let here : c.loop-unit.unit-index < length c.loop-unit.units = omega arith in
    exchange_more c.args.units.now c.args.others.now c.loop-unit.units c.loop-unit.others c.take_place.new.others c.loop-unit.unit-index c.unit-item.result c.take_place.new.unit
    c.loop-unit.invariant c.requires.distinct within here c.take_place.ensures.unit c.take_place.ensures.others c.take_place.ensures.sound
