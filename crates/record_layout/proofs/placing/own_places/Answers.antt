use Rattle.std.proofs.Common.{◌≡◌, ◌<◌, ◌≤◌, ◌++◌, [], ◌∷◌, ◌+◌, length, map, reverse, subst, sym, take, arith, rules}
use Rattle.std.proofs.lemmas.Grind.{common_steps}
use Rattle.std.proofs.lemmas.Result.{err_from_is_err_and}
use Rattle.record_layout.specs.Layout.{entry_of_item, item_of}
use Rattle.record_layout.proofs.PlacingLemmas.{next, names_next, refused_at, fault_of_picture, at_end, finish, unfinished, PlacedUpTo}
use Rattle.record_layout.proofs.placing.own_places.Goals as goal

pub returns-in_err-check_place : goal.returns-in_err-check_place
returns-in_err-check_place c =
    let items = c.args.items.now in
    let p = err_from_is_err_and c.from_residual.result c.from_residual.ensures.1 in
    let there : c.loop-i.i < length items = first_of (omega arith, grind (arith, common_steps)) in
    rw (p.1, p.2)
    (λ _. refused_at items c.loop-i.i c.index-items-i.result c.loop-i.total c.loop-i.places.items c.in_err-check_place.field-0.0 c.loop-i.invariant.0 there c.index-items-i.is
    (c.in_err-check_place.ensures.fault c.loop-i.total))

pub returns-in_err-field : goal.returns-in_err-field
returns-in_err-field c =
    let items = c.args.items.now in
    let item = c.index-items-i.result in
    let p = err_from_is_err_and c.from_residual-in_err-field.result c.from_residual-in_err-field.ensures.1 in
    let there : c.loop-i.i < length items = first_of (omega arith, grind (arith, common_steps)) in
    let fault = c.in_err-field.field-0.0 in
    rw (p.1, p.2)
    (λ _. refused_at items c.loop-i.i item c.loop-i.total c.loop-i.places.items fault c.loop-i.invariant.0 there c.index-items-i.is
    (fault_of_picture (reverse (map entry_of_item (take c.loop-i.i items))) c.loop-i.total (entry_of_item item) fault c.in_ok-check_place.ensures.in_place c.in_err-field.ensures.fault))

pub returns-then-ends_in_group : goal.returns-then-ends_in_group
returns-then-ends_in_group c =
    let items = c.args.items.now in
    let end : length items ≤ c.loop-i.i = first_of (omega arith, grind (arith, common_steps)) in
    let done = at_end items c.loop-i.i c.loop-i.total c.loop-i.places.items c.loop-i.invariant.0 end in
    λ _. unfinished (map entry_of_item items) (reverse (map entry_of_item items)) c.loop-i.total (map item_of c.loop-i.places.items) done (first_of (cc, grind (arith, common_steps)))

pub loop-i-preserved : goal.loop-i-preserved
loop-i-preserved c =
    let items = c.args.items.now in
    let item = c.index-items-i.result in
    let there : c.loop-i.i < length items = first_of (omega arith, grind (arith, common_steps)) in
    let pushed : c.push.new.self.items ≡ c.loop-i.places.items ++ record { name = item.name; field = c.in_ok-field.field } ∷ [] = first_of (search rules, grind (arith, common_steps)) in (
      subst (PlacedUpTo items (c.loop-i.i + 1) (c.loop-i.total + c.in_ok-field.field.length)) (sym pushed)
          (next items c.loop-i.i item c.loop-i.total c.loop-i.places.items c.in_ok-field.field c.loop-i.invariant.0 there c.index-items-i.is c.in_ok-check_place.ensures.in_place c.in_ok-field.ensures.place c.in_ok-field.ensures.limit),
      names_next c.add_name.new.names items c.loop-i.i item there c.index-items-i.is (c.in_ok-add_name.ensures.added (reverse (map entry_of_item (take c.loop-i.i items))) c.loop-i.invariant.1),
    )

pub returns : goal.returns
returns c =
    let items = c.args.items.now in
    let end : length items ≤ c.loop-i.i = first_of (omega arith, grind (arith, common_steps)) in
    let done = at_end items c.loop-i.i c.loop-i.total c.loop-i.places.items c.loop-i.invariant.0 end in
    finish (map entry_of_item items) (reverse (map entry_of_item items)) c.loop-i.total (map item_of c.loop-i.places.items) done (first_of (search rules, grind (arith, common_steps)))
