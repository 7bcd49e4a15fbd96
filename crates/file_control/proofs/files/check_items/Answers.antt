use Rattle.std.proofs.Common.{◌≡◌, refl, ◌∙◌, sym, subst, ap, List, [], ◌∷◌, ◌++◌, ℕ, false}
use Rattle.deck_entries.specs.FileDescription.{StorageEntry}
use Rattle.file_control.specs.Description.{LengthItem, has_name}
use Rattle.file_control.proofs.FilesLemmas.{ItemsSoFar, step_item, refused_item, all_items}
use Rattle.file_control.proofs.files.check_items.Goals as goal

pub returns-in_default-digits_of_item-clause-none : goal.returns-in_default-digits_of_item-clause-none
returns-in_default-digits_of_item-clause-none c = λ f items h.
    refused_item c.args.names c.args.storage.now c.more.names c.in-Some.item.now c.more.rest.now c.in-Some.after.now c.more.invariant.0 c.more.invariant.1 c.in-Some.ensures.cases.0
    (λ new. c.in_default-digits_of_item.ensures.none) items h

pub more-preserved : goal.more-preserved
more-preserved c =
    let name_is = ap (λ (e : StorageEntry). e.name) c.item.view_is in
    let new : has_name c.more.names c.in-Some.item.now.name ≡ false = sym (ap (has_name c.more.names) (c.as_str.ensures.value ∙ name_is)) ∙ (sym c.has.ensures ∙ c.if-has.false) in
    let item : LengthItem = record { name = c.in-Some.item.now.name; digits = c.in-Some-digits_of_item.field-0 } in
    let next = step_item c.args.names c.args.storage.now c.more.names c.in-Some.item.now c.more.rest.now c.in-Some.after.now c.more.invariant.0 item c.more.invariant.1 c.in-Some.ensures.cases.0 new refl c.in-Some-digits_of_item.ensures.some in
    let names_are = c.in_ok-push.ensures ∙ ap (λ (n : List ℕ). c.more.names ++ n ∷ []) name_is in
    (c.more.invariant.0 ++ item ∷ [], subst (λ ns. ItemsSoFar c.args.names ns c.args.storage.now c.in-Some.after.now (c.more.invariant.0 ++ item ∷ [])) (sym names_are) next)

pub returns-clause-items : goal.returns-clause-items
returns-clause-items c = (c.more.invariant.0, all_items c.args.names c.more.names c.args.storage.now c.more.rest.now c.more.invariant.0 c.more.invariant.1 c.in_default.ensures.cases)
