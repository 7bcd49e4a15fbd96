use Rattle.std.proofs.Common.{rules, ◌≡◌, ◌∙◌, ℕ, List, [], ◌∷◌, false, ap}
use Rattle.std.specs.Result.{is_err}
use Rattle.page_store.specs.ShelfState.{attached_as}
use Rattle.record_listing.proofs.CheckedLemmas.{on_ok, sound_unit, refused_unit}
use Rattle.record_listing.proofs.checked_list.list_checked_shelf.Goals as goal

pub list_sound_unit-requires-clause-sound : goal.list_sound_unit-requires-clause-sound
list_sound_unit-requires-clause-sound g c =
    let state = g.S.Shelf.state in
    let attached : is_err c.attach.result ≡ false = search rules in
    let none : c.new.result.bytes ≡ [] = search rules in
    let named : state c.attach.new.self ≡ attached_as ([] ∷ []) (state c.args.shelf) =
    on_ok c.attach.result attached c.attach.ensures.attached ∙ ap (λ (name : List ℕ). attached_as (name ∷ []) (state c.args.shelf)) none in
    sound_unit state g.S.Shelf.fault_count c.args.shelf c.attach.new.self c.check_unit-shelf.result.0 named c.check_unit-shelf.result.1 c.in-Ok-Sound.field-0-0 c.in-Ok-Sound.field-0-1 c.check_unit-shelf.ensures (search rules)

pub returns-in-Ok-Unsound-clause-ends : goal.returns-in-Ok-Unsound-clause-ends
returns-in-Ok-Unsound-clause-ends g c =
    let state = g.S.Shelf.state in
    let attached : is_err c.attach.result ≡ false = search rules in
    let none : c.new.result.bytes ≡ [] = search rules in
    let named : state c.attach.new.self ≡ attached_as ([] ∷ []) (state c.args.shelf) =
    on_ok c.attach.result attached c.attach.ensures.attached ∙ ap (λ (name : List ℕ). attached_as (name ∷ []) (state c.args.shelf)) none in
    refused_unit state g.S.Shelf.fault_count c.args.shelf c.attach.new.self c.check_unit-shelf.result.0 named c.args.first.now c.args.form.now c.args.asked (g.W.Write.contents c.args.out.now)
    c.check_unit-shelf.result.1 c.in-Ok-Unsound.reason c.in-Ok-Unsound.field-0-1 c.check_unit-shelf.ensures (search rules)
