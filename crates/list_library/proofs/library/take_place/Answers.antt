use Rattle.std.proofs.Common.{◌≡◌, ℕ, List, Some, true, false, refl, sym, ap, ◌∙◌, subst, bytes_eq, position, get_or}
use Rattle.std.proofs.lemmas.List.Quantifiers.{position-Some}
use Rattle.std.proofs.lemmas.Slice.Eq.{bytes_eq-Decides}
use Rattle.indexed_file.specs.World.{FileUnit, Named, Shut}
use Rattle.list_library.specs.Units.{named_among}
use Rattle.indexed_file.specs.SoundWorld.{is_sound_unit}
use Rattle.list_library.proofs.ShownLemmas.{sound_set}
use Rattle.list_library.proofs.NameLemmas.{none_named, first_named, others_named}
use Rattle.list_library.proofs.library.take_place.Goals as goal

pub returns-in-Some : goal.returns-in-Some
returns-in-Some c =
    let others = c.args.others.now in
    let place = c.in-Some.place in
    let other : FileUnit = c.index-others-place.result in
    let own = c.args.unit.now.name in
    let at : position (λ (u : FileUnit). bytes_eq u.name own) others ≡ Some place = sym c.place_of.ensures ∙ c.in-Some.is in
    let found = position-Some (λ (u : FileUnit). bytes_eq u.name own) others place other at in
    let taken : FileUnit = get_or others place other in
    let same_name : taken.name ≡ own = (bytes_eq-Decides taken.name own).0 found.1 in
    let stands : named_among others own ≡ taken.named = first_named others own place other at in
    let shut = λ (u : FileUnit). let v : FileUnit = record { name = u.name; named = u.named; holding = Shut } in v in
    record {
      unit = c.forget.ensures ∙ (ap shut c.swap.ensures.x_after
          ∙ (ap (λ (n : List ℕ). let v : FileUnit = record { name = n; named = taken.named; holding = Shut } in v) same_name
          ∙ ap (λ (n : Named). let v : FileUnit = record { name = own; named = n; holding = Shut } in v) (sym stands)));
      others = λ name differs. others_named others place other c.swap.new.y name
          (subst (λ n. bytes_eq n name ≡ false) (sym same_name) differs)
          (subst (λ (u : FileUnit). bytes_eq u.name name ≡ false) (sym c.swap.ensures.y_after) differs);
      sound = λ all. sound_set others place c.swap.new.y all
          (subst (λ (u : FileUnit). is_sound_unit u ≡ true) (sym (c.swap.ensures.y_after ∙ c.requires)) refl);
    }

pub returns-in_default : goal.returns-in_default
returns-in_default c =
    let own = c.args.unit.now.name in
    let stands = none_named c.args.others.now own (sym c.place_of.ensures ∙ c.in_default.is) in
    record {
      unit = c.requires ∙ ap (λ (n : Named). let v : FileUnit = record { name = own; named = n; holding = Shut } in v) (sym stands);
      others = λ name differs. refl;
      sound = λ all. all;
    }
